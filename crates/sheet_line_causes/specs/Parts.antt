-- The parts that a line's step is made of.
use Rattle.std.specs.Prelude.{◌≡◌, Bool, cond, not, ◌&&◌, List, ℕ, ◌+◌, ◌≤◌, leb, ℤ, length}
use Rattle.std.proofs.Math.Seq.{slice}
use Rattle.sheet_format.specs.Limits.{line_word_count, most_fields}
use Rattle.sheet_format.specs.Field.{fits}
use Rattle.sheet_format.specs.Line.{Line, is_zero, natural}
use Rattle.sheet_format.specs.Table.{Table}
use Rattle.sheet_format.specs.Cause.{Kind, in_place, possible, wrong_columns, out_of_range, too_many_blocks, wrong_length, not_above, term, constant}
use Rattle.sheet_format.specs.Answers.{Seen}

-- a first word as a field count; 0 where it is none
abbrev pub count_of_fields : ℤ → ℕ
count_of_fields z = cond (leb (natural z) most_fields) (natural z) 0

-- the words of a line, with its field count
pub record CountedFields (ws : List ℤ) (n : ℕ) : Type 0 where
  pub seven : length ws ≡ line_word_count
  pub least : 1 ≤ n
  pub most : n ≤ most_fields

-- the n fields after the field count
abbrev pub fields : ℕ → List ℤ → Line
fields n ws = slice 1 (n + 1) ws

-- the cause of a line that is well formed, by its kind; the table matters to atoms only
abbrev pub cause_by : Table → Seen → Line → Kind → Line → ℕ
cause_by t g before k l =
    cond (not (in_place g k && possible k (length l))) 3
    (cond (wrong_columns t k l) 4
    (cond (out_of_range k l) 5
    (cond (too_many_blocks g k) 6
    (cond (wrong_length g k l) 7
    (cond (not_above g before k l) 9
    0)))))
