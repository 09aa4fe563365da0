use mathlib.Core.Path.{◌≡◌, sym, ◌∙◌}
use Prim.Native.Nat.{◌+◌, ◌-◌, ◌≤◌}
use native.Mathlib.Omega.{arith}
use borrow.Author.Rules.{rules}
use lib.ListN.{drop}
use Rattle.text_meaning.specs.Names.{place_in}
use Rattle.text_reader.specs.Held.{names_at}
use Rattle.text_reader.proofs.Names.{another, found, not_found}
use Rattle.text_reader.proofs.place.Given as goal

abbrev pub invariant-loop-i : goal.invariant-loop-i
invariant-loop-i l = place_in l.word (names_at l.text l.names l.count) ≡ l.i + place_in l.word (drop l.i (names_at l.text l.names l.count))
