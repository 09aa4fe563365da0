-- What a call returns, as the definitions speak of it.
use Rattle.std.specs.Prelude.{ℕ, ℤ, Option, Some, None, Result, Ok, Err}
use Rattle.sheet_format.specs.Answers.{Refusal, Ending, Field, FieldTerm, Seen, LineStep}
use Rattle.sheet_format.specs.Answers.Ending.{Done, Refused}
use Rattle.sheet_format.specs.Answers.Field.{Number, Malformed as NoField}
use Rattle.sheet_format.specs.Answers.FieldTerm.{Constant as ConstantTerm, Variable as VariableTerm, OutOfRange as NoTerm}
use Rattle.sheet_format.specs.Answers.LineStep.{Goes, Stops}
use Rattle.sheet_format.specs.declared.Cause.{Cause}
use Rattle.sheet_format.specs.declared.Cause.TheVariants.{TooLong, Malformed, Misplaced, WrongColumns, OutOfRange, TooMany, WrongLength, UnsafeHead, NotAbove, NoBlock, BadFact, FactOrder, NoRoom, WrongEnds, WrongTable}
use Rattle.sheet_format.specs.declared.Kind.{Kind}
use Rattle.sheet_format.specs.declared.Kind.TheVariants.{Question, Saved, View, Atom, Row}
use Rattle.sheet_format.specs.declared.Refusal.{Refusal as CauseAtLine}
use Rattle.sheet_format.specs.declared.Seen.{Seen as SeenKinds}
use Rattle.sheet_format.specs.declared.Term.{Term}
use Rattle.sheet_format.specs.declared.Term.TheVariants.{Constant, Variable}

-- ---- the numbers of the causes, and of kinds

abbrev pub cause_number : Cause → ℕ
cause_number TooLong = 1
cause_number Malformed = 2
cause_number Misplaced = 3
cause_number WrongColumns = 4
cause_number OutOfRange = 5
cause_number TooMany = 6
cause_number WrongLength = 7
cause_number UnsafeHead = 8
cause_number NotAbove = 9
cause_number NoBlock = 10
cause_number BadFact = 11
cause_number FactOrder = 12
cause_number NoRoom = 13
cause_number WrongEnds = 14
cause_number WrongTable = 15

-- 0 for none
abbrev pub kind_number : Option Kind → ℕ
kind_number None = 0
kind_number (Some Question) = 1
kind_number (Some Saved) = 2
kind_number (Some View) = 3
kind_number (Some Atom) = 4
kind_number (Some Row) = 5

-- ---- what is returned, by number

-- 0 where nothing is refused
abbrev pub cause_in : {A : Type 0} → Result A Cause → ℕ
cause_in (Ok x) = 0
cause_in (Err c) = cause_number c

abbrev pub refusal_in : {A : Type 0} → Result A CauseAtLine → Refusal
refusal_in (Ok x) = record { number = 0; line = 0 }
refusal_in (Err r) = record { number = cause_number r.cause; line = r.line }

abbrev pub ending_of : Result ℕ CauseAtLine → Ending
ending_of (Ok n) = Done n
ending_of (Err r) = Refused (cause_number r.cause) r.line

abbrev pub field_in : Option ℤ → Field
field_in (Some z) = Number z
field_in None = NoField

abbrev pub term_in : Option Term → FieldTerm
term_in (Some (Constant n)) = ConstantTerm n
term_in (Some (Variable n)) = VariableTerm n
term_in None = NoTerm

abbrev pub seen_of : SeenKinds → Seen
seen_of g = record { block = kind_number g.block; last = kind_number g.last; atoms = g.atoms; lists = g.lists; views = g.views; rows = g.rows; asked = g.asked; columns = g.columns }

abbrev pub step_in : Result SeenKinds Cause → LineStep
step_in (Ok g) = Goes (seen_of g)
step_in (Err c) = Stops (cause_number c)
