-- The one fact of a line.
use mathlib.Core.Path.{◌≡◌, ◌∙◌}
use mathlib.Core.List.{List}
use native.Mathlib.Omega.{arith}
use lib.IntN.{ℤ}
use lib.ListN.{length, take, drop, length-drop}
use lib.Seq.{take_all}
use Rattle.sheet_format.specs.Table.{Table}
use Rattle.sheet_format.proofs.Lists.{append-nil}
use Rattle.text_writer.specs.Texts.{fact_bytes, facts_bytes, separated, following, groups}
use Rattle.text_writer.proofs.Parts.{whole-fact}

one-fact : (table : Table) (ws : List ℤ) → length ws ≡ 5 → facts_bytes table 1 ws ≡ fact_bytes table ws
unfolding facts_bytes separated following groups
one-fact table ws e = rw (e, take_all 5 ws (omega arith)) (append-nil (fact_bytes table ws))

pub line-fact : (table : Table) (l : List ℤ) → length l ≡ 7 → facts_bytes table 1 (take 5 (drop 2 l)) ≡ fact_bytes table (drop 2 l)
line-fact table l e = rw (whole-fact l e) (one-fact table (drop 2 l) (length-drop 2 l ∙ rw e))
