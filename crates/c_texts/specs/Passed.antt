-- What became of a text, as it is handed to C.
use Rattle.text_to_sheet.specs.Outcome.{Made}
use Rattle.text_to_sheet.specs.Outcome.Made.{Sheet, Expected, Refused}
use Rattle.c_texts.specs.declared.TextOutcome.{TextOutcome}

-- the bytes of its sheet; or what was expected, in which relation and line; or the sheet's refusal
abbrev pub text_outcome_of : Made → TextOutcome
text_outcome_of (Sheet n) = record { expected = 0; relation = 0; number = 0; line = 0; begun = 0; bytes = n }
text_outcome_of (Expected at what relation) = record { expected = what; relation = relation; number = 0; line = 0; begun = at; bytes = 0 }
text_outcome_of (Refused number line at) = record { expected = 0; relation = 0; number = number; line = line; begun = at; bytes = 0 }
