-- The causes 2 to 9 for sending a sheet back, line by line and in the order of the table of causes. Relations go by a table, t.
use Rattle.std.specs.Prelude.{Bool, true, false, cond, not, ◌&&◌, ◌||◌, List, [], ◌∷◌, ℕ, zero, suc, ◌+◌, eqb, ltb, leb, ℤ, pos, negsuc, length}
use Rattle.std.specs.Int.Signed.{lt_z}
use Rattle.sheet_format.specs.Limits.{constant_end, most_variables, most_atoms, most_view_atoms, most_lists, most_views, most_rows}
use Rattle.sheet_format.specs.Table.{Table, columns_of}
use Rattle.sheet_format.specs.Line.{Line, all, null}
use Rattle.sheet_format.specs.Answers.{Refusal}
use Rattle.sheet_format.specs.Answers.{Seen}
use Rattle.sheet_format.specs.Answers.{LineStep}
use Rattle.sheet_format.specs.Answers.LineStep.{Goes, Stops}
use Rattle.sheet_format.specs.Answers.{FieldTerm}
use Rattle.sheet_format.specs.Answers.FieldTerm.{Constant, Variable, OutOfRange}

-- ---- a line's kind is its first field

pub data Kind : Type 0 where
  question saved view atom row other : Kind

abbrev pub kind_at : ℕ → Kind
kind_at n = cond (eqb n 1) question (cond (eqb n 2) saved (cond (eqb n 3) view (cond (eqb n 4) atom (cond (eqb n 5) row other))))

unfoldable pub kind_of : ℤ → Kind
kind_of (pos n) = kind_at n
kind_of (negsuc n) = other

abbrev pub kind : Line → Kind
kind [] = other
kind (k ∷ l) = kind_of k

-- what follows the first field, and the first two
abbrev pub rest : Line → List ℤ
rest [] = []
rest (k ∷ l) = l

abbrev pub second : Line → ℤ
second [] = pos 0
second (k ∷ []) = pos 0
second (k ∷ r ∷ l) = r

abbrev pub terms : Line → List ℤ
terms l = rest (rest l)

-- ---- terms: constants from 0, variables from -1 down

abbrev pub or_out : Bool → FieldTerm → FieldTerm
or_out true t = t
or_out false t = OutOfRange

unfoldable pub term_of : ℤ → FieldTerm
term_of (pos n) = or_out (ltb n constant_end) (Constant n)
term_of (negsuc n) = or_out (ltb n most_variables) (Variable (suc n))

abbrev pub is_term : FieldTerm → Bool
is_term (Constant n) = true
is_term (Variable n) = true
is_term OutOfRange = false

abbrev pub is_constant : FieldTerm → Bool
is_constant (Constant n) = true
is_constant (Variable n) = false
is_constant OutOfRange = false

abbrev pub term : ℤ → Bool
term z = is_term (term_of z)

abbrev pub constant : ℤ → Bool
constant z = is_constant (term_of z)

-- ---- the causes of a line: g is what the lines before it leave, `before` the line before it

-- 3: a kind that is none, or not in its place, or a field count that its kind cannot have.
-- The question's head comes first; a list's head in the question's block or a list's; a view's head in a list's block or a view's; an atom after
-- a head or an atom; a row after a view's atom or a row.
abbrev pub in_place : Seen → Kind → Bool
in_place g question = eqb g.block 0
in_place g saved = leb 1 g.block && leb g.block 2
in_place g view = leb 2 g.block
in_place g atom = leb 1 g.last && leb g.last 4
in_place g row = eqb g.block 3 && leb 4 g.last
in_place g other = false

abbrev pub possible : Kind → ℕ → Bool
possible question n = leb n 5
possible saved n = leb n 5
possible view n = leb n 5
possible atom n = leb 3 n && leb n 6
possible row n = leb n 5
possible other n = false

abbrev pub misplaced : Seen → Line → Bool
misplaced g l = not (in_place g (kind l) && possible (kind l) (length l))

-- 4: no such relation in the table, or its columns are not met
abbrev pub wrong_columns : Table → Kind → Line → Bool
wrong_columns t question l = false
wrong_columns t saved l = false
wrong_columns t view l = false
wrong_columns t atom l = eqb (columns_of t (second l)) 0 || not (eqb (columns_of t (second l)) (length (terms l)))
wrong_columns t row l = false
wrong_columns t other l = false

-- 5: a term out of range, or a variable in a row
abbrev pub out_of_range : Kind → Line → Bool
out_of_range question l = not (all term (rest l))
out_of_range saved l = not (all term (rest l))
out_of_range view l = not (all term (rest l))
out_of_range atom l = not (all term (terms l))
out_of_range row l = not (all constant (rest l))
out_of_range other l = false

-- 6: more atoms, lists, views or rows than there may be
abbrev pub atoms_of : ℕ → ℕ
atoms_of b = cond (eqb b 3) most_view_atoms most_atoms

abbrev pub too_many_blocks : Seen → Kind → Bool
too_many_blocks g question = false
too_many_blocks g saved = leb most_lists g.lists
too_many_blocks g view = leb most_views g.views
too_many_blocks g atom = leb (atoms_of g.block) g.atoms
too_many_blocks g row = leb most_rows g.rows
too_many_blocks g other = false

-- 7: a list's head and the question's differ in length, or a row and its head
abbrev pub wrong_length : Seen → Kind → Line → Bool
wrong_length g question l = false
wrong_length g saved l = not (eqb (length (rest l)) g.asked)
wrong_length g view l = false
wrong_length g atom l = false
wrong_length g row l = not (eqb (length (rest l)) g.columns)
wrong_length g other l = false

-- 9: a row that does not come after its view's last: the first column in which they differ decides
abbrev pub above : List ℤ → List ℤ → Bool
above [] ns = false
above (m ∷ ms) [] = false
above (m ∷ ms) (n ∷ ns) = lt_z m n || (not (lt_z n m) && above ms ns)

abbrev pub not_above : Seen → Line → Kind → Line → Bool
not_above g before question l = false
not_above g before saved l = false
not_above g before view l = false
not_above g before atom l = false
not_above g before row l = eqb g.last 5 && not (above (rest before) (rest l))
not_above g before other l = false

-- the first cause of the line that holds; 0 where none does
unfoldable pub cause : Table → Seen → Line → Line → ℕ
cause t g before l =
    cond (null l) 2
    (cond (misplaced g l) 3
    (cond (wrong_columns t (kind l) l) 4
    (cond (out_of_range (kind l) l) 5
    (cond (too_many_blocks g (kind l)) 6
    (cond (wrong_length g (kind l) l) 7
    (cond (not_above g before (kind l) l) 9
    0))))))

-- ---- what a line leaves for the next

abbrev pub start : Seen
start = record { block = 0; last = 0; atoms = 0; lists = 0; views = 0; rows = 0; asked = 0; columns = 0 }

abbrev pub next_by : Seen → Kind → ℕ → Seen
next_by g question n = record { block = 1; last = 1; atoms = 0; lists = g.lists; views = g.views; rows = g.rows; asked = n; columns = n }
next_by g saved n = record { block = 2; last = 2; atoms = 0; lists = g.lists + 1; views = g.views; rows = g.rows; asked = g.asked; columns = n }
next_by g view n = record { block = 3; last = 3; atoms = 0; lists = g.lists; views = g.views + 1; rows = g.rows; asked = g.asked; columns = n }
next_by g atom n = record { block = g.block; last = 4; atoms = g.atoms + 1; lists = g.lists; views = g.views; rows = g.rows; asked = g.asked; columns = g.columns }
next_by g row n = record { block = g.block; last = 5; atoms = g.atoms; lists = g.lists; views = g.views; rows = g.rows + 1; asked = g.asked; columns = g.columns }
next_by g other n = g

unfoldable pub next : Seen → Line → Seen
next g l = next_by g (kind l) (length (rest l))

-- a line goes on to the next, or stops the sheet by its cause
unfoldable pub step_of : Table → Seen → Line → Line → LineStep
step_of t g before l = cond (eqb (cause t g before l) 0) (Goes (next g l)) (Stops (cause t g before l))

-- ---- the sheet's refusal

abbrev pub refusal : ℕ → ℕ → Refusal
refusal c n = record { number = c; line = n }

abbrev pub none : Refusal
none = refusal 0 0

-- the cause c at line n, or r where there is none
abbrev pub or_at : ℕ → ℕ → Refusal → Refusal
or_at c n r = cond (eqb c 0) r (refusal c n)

-- 3 at the end: the question or every list is missing
abbrev pub missing : Seen → Refusal
missing g = cond (ltb g.block 2) (refusal 3 0) none

-- line by line from line n on, and at the end
unfoldable pub scan : Table → Seen → Line → ℕ → List Line → Refusal
scan t g before n [] = missing g
scan t g before n (l ∷ ls) = or_at (cause t g before l) n (scan t (next g l) l (n + 1) ls)

-- 8: a block without atoms, or with a variable that only its head has
abbrev pub is_head : Kind → Bool
is_head question = true
is_head saved = true
is_head view = true
is_head atom = false
is_head row = false
is_head other = false

abbrev pub is_atom : Kind → Bool
is_atom question = false
is_atom saved = false
is_atom view = false
is_atom atom = true
is_atom row = false
is_atom other = false

-- the atoms at the front
unfoldable pub atoms : List Line → List Line
atoms [] = []
atoms (l ∷ ls) = cond (is_atom (kind l)) (l ∷ atoms ls) []

abbrev pub same : ℤ → ℤ → Bool
same m n = not (lt_z m n) && not (lt_z n m)

abbrev pub occurs : ℤ → List ℤ → Bool
occurs z ts = not (all (λ t. not (same z t)) ts)

-- a term is bound unless it is a variable that no atom has
abbrev pub bound : List Line → ℤ → Bool
bound ls z = not (lt_z z (pos 0)) || not (all (λ a. not (occurs z (terms a))) ls)

abbrev pub unsafe : Line → List Line → Bool
unsafe l ls = is_head (kind l) && (null ls || not (all (bound ls) (rest l)))

unfoldable pub heads : ℕ → List Line → Refusal
heads n [] = none
heads n (l ∷ ls) = cond (unsafe l (atoms ls)) (refusal 8 n) (heads (n + 1) ls)

-- the first cause among the lines and at the end, and then 8 by heads
unfoldable pub refusal_of : Table → List Line → Refusal
refusal_of t ls = cond (eqb (scan t start [] 1 ls).number 0) (heads 1 ls) (scan t start [] 1 ls)
