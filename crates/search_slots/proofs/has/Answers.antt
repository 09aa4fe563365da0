use mathlib.Core.Path.{◌∙◌, sym, ap}
use Prim.Native.Nat.{ℕ, ◌/◌, ◌%◌, ◌^◌}
use lib.Bits.{and_mask}
use lib.Dec.{eqb}
use Rattle.search_slots.specs.Slots.{has_digit}
use Rattle.search_slots.proofs.Laws.{at-word}
use Rattle.search_slots.proofs.has.Goals as goal

pub returns : goal.returns
unfolding has_digit
returns c = let a = c.args in
    let r = c.word.result in
    ap (λ (d : ℕ). eqb d 1) (and_mask (r / 2 ^ (a.n % 64)) 1) ∙ sym (at-word a.set.now a.n r (sym c.word.ensures))
