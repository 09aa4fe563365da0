use mathlib.Core.Path.{◌≡◌}
use Prim.Native.Nat.{◌≤◌}
use lib.ListN.{drop}
use Rattle.sheet_format.specs.Limits.{field_end}
use Rattle.text_meaning.specs.Names.{number_from}
use Rattle.text_tokens.proofs.number_from.Given as goal

abbrev pub invariant-loop-b : goal.invariant-loop-b
invariant-loop-b l = (number_from 0 l.digits ≡ number_from l.n (drop l.b-index l.digits)) × (l.n ≤ field_end)
