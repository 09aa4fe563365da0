-- What an answer returns as numbers: the definitions of the answer and of its numbers say the same.
use mathlib.Core.Path.{◌≡◌, refl, ap, ◌∙◌}
use mathlib.Core.Bool.{Bool, true, false, cond}
use mathlib.Core.List.{List}
use Prim.Native.Nat.{ℕ}
use lib.Dec.{eqb, ltb}
use lib.IntN.{ℤ}
use lib.ListN.{length}
use Rattle.sheet_format.specs.Limits.{most_words, most_bytes}
use Rattle.sheet_format.specs.Table.{Table}
use Rattle.sheet_format.specs.Line.{byte_lines, bytes_of, word_lines}
use Rattle.sheet_format.specs.Sheet.{returned, refused_by, done_with, answered, ending, sheet_refusal, words_refusal, read_ending, read_returned, write_ending, write_returned}
use Rattle.sheet_format.specs.Answers.{Refusal}
use Rattle.sheet_format.specs.Answers.{Ending}
use Rattle.sheet_format.specs.Answers.Ending.{Done, Refused}

returned-ending : (r : Refusal) (room wanted n : ℕ) → returned (ending r room wanted n) ≡ answered r room wanted n
returned-ending r room wanted n = go (eqb r.number 0) (ltb room wanted)
  where
    go : (b c : Bool) → returned (cond b (cond c (Refused 13 0) (Done n)) (Refused r.number r.line)) ≡ cond b (cond c (refused_by 13 0) (done_with n)) (refused_by r.number r.line)
    go true true = refl
    go true false = refl
    go false c = refl

module _ (table : Table) where
  -- reading: the answer, and with it its numbers
  pub read-numbers : {r : Ending} {A : Type 0} (s : List ℕ) (room : ℕ) → (r ≡ read_ending table s room) × A → (r ≡ read_ending table s room) × A × (returned r ≡ read_returned table s room)
  unfolding read_ending
  read-numbers s room (e, a) = (e, a, ap returned e ∙ returned-ending (sheet_refusal table s) room most_words (length (byte_lines s)))

  -- writing: the same
  pub write_numbers : {r : Ending} {A : Type 0} (ws : List ℤ) (room : ℕ) → (r ≡ write_ending table ws room) × A → (r ≡ write_ending table ws room) × A × (returned r ≡ write_returned table ws room)
  unfolding write_ending
  write_numbers ws room (e, a) = (e, a, ap returned e ∙ returned-ending (words_refusal table ws) room most_bytes (length (bytes_of (word_lines ws))))
