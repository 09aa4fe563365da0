-- The sheet that accepted lines mean.
use Rattle.std.specs.Prelude.{Bool, true, false, List, map, ℕ}
use Rattle.sheet_format.specs.Limits.{constant_end}
pub use Rattle.sheet_format.specs.Table.{Table, ten}
use Rattle.sheet_format.specs.Line.{Line}
use Rattle.sheet_format.specs.Cause.{Kind, question, saved, view, atom, row, other}
use Rattle.query_meaning.specs.Meaning.{Block}
use Rattle.query_meaning.specs.Blocks.{View, blocks, nth}
use Rattle.case_verdicts.specs.Verdict.{Sheet}

-- constants lie below it, and made-up values from it on (Meaning, of the case handed over)
abbrev pub top : ℕ
top = constant_end

-- heads of kind 1, 2 and 3
abbrev pub is_question : Kind → Bool
is_question question = true
is_question saved = false
is_question view = false
is_question atom = false
is_question row = false
is_question other = false

abbrev pub is_saved : Kind → Bool
is_saved question = false
is_saved saved = true
is_saved view = false
is_saved atom = false
is_saved row = false
is_saved other = false

abbrev pub is_view_kind : Kind → Bool
is_view_kind question = false
is_view_kind saved = false
is_view_kind view = true
is_view_kind atom = false
is_view_kind row = false
is_view_kind other = false

-- the question is the block of the first head of kind 1; the lists and the views are all blocks of kind 2 and 3 (The sheet)
abbrev pub question_in : List Line → Block
question_in ls = (nth (blocks is_question ls) 0).block

abbrev pub lists_in : List Line → List Block
lists_in ls = map (λ (w : View). w.block) (blocks is_saved ls)

abbrev pub views_in : List Line → List View
views_in ls = blocks is_view_kind ls

-- what is judged, by a table of relations
abbrev pub sheet_of : Table → List Line → Sheet
sheet_of t ls = record { table = t; question = question_in ls; lists = lists_in ls; views = views_in ls }
