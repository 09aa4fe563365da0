-- A set with every slot.
use mathlib.Core.Path.{◌≡◌, ◌∙◌}
use mathlib.Core.Bool.{true}
use mathlib.Core.List.{List, []}
use mathlib.Core.Logic.{⊎_elim}
use Prim.Native.Nat.{ℕ, ◌*◌}
use native.Mathlib.Omega.{arith}
use lib.ListN.{length}
use Rattle.list_laws.proofs.Order.{less?}
use Rattle.search_slots.specs.Slots.{in_set, SetPut}
use Rattle.search_slots.proofs.Laws.{past}

-- what is put from no words has every slot
pub put_full : (old : List ℕ) {set : List ℕ} → SetPut old [] set → (n : ℕ) → in_set set n ≡ true
put_full old {set} s n = let e = s.same in ⊎_elim (λ h. s.each n h ∙ past [] n (omega arith)) (λ h. past set n (omega arith)) (less? n (64 * length old))
