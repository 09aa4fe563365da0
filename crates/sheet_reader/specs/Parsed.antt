-- What the contract of a private function cites. No promise to a caller rests on it.
use Rattle.std.specs.Prelude.{◌≡◌, List, ℕ, ◌+◌, ◌*◌, ◌≤◌, ℤ, length, take}
use Rattle.sheet_format.specs.Limits.{most_lines}
use Rattle.sheet_format.specs.Line.{Line, byte_lines, words_of}
use Rattle.sheet_format.specs.Table.{Table}
use Rattle.sheet_format.specs.Cause.{refusal_of}
use Rattle.sheet_format.proofs.Good.{Goods}

-- the first n lines of the words stand for the sheet's lines: by each table they are refused alike, and are all of them where they are not refused
pub record Parsed (s : List ℕ) (ws : List ℤ) (n : ℕ) : Type 0 where
  pub lines : List Line
  pub count : length lines ≡ n
  pub few : n ≤ most_lines + 1
  pub words : take (n * 7) ws ≡ words_of lines
  pub good : Goods lines
  pub alike : (t : Table) → refusal_of t lines ≡ refusal_of t (byte_lines s)
  pub whole : (t : Table) → (refusal_of t lines).number ≡ 0 → lines ≡ byte_lines s
