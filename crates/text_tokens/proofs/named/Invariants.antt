use mathlib.Core.Path.{◌≡◌}
use Prim.Native.Nat.{◌-◌}
use lib.ListN.{drop}
use Rattle.text_writer.specs.Texts.{relation_names}
use Rattle.text_meaning.specs.Names.{among}
use Rattle.text_tokens.proofs.named.Given as goal

abbrev pub invariant-loop-r : goal.invariant-loop-r
invariant-loop-r l = among l.word 1 relation_names ≡ among l.word l.r (drop (l.r - 1) relation_names)
