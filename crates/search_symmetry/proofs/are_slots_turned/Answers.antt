use Rattle.std.proofs.Common.{rules, arith, ◌≡◌, true, ℕ, ◌<◌, ◌/◌, refl}
use Rattle.std.proofs.lemmas.Iterator.{cases_from_all, YieldsList-from_range}
use Rattle.tableau_layout.specs.Layout.{slot_end}
use Rattle.search_slots.specs.Slots.{set_words, in_set}
use Rattle.search_symmetry.specs.Steps.{SlotTurned}
use Rattle.tableau_parts.proofs.Places.{all-yes}
use Rattle.search_symmetry.proofs.are_slots_turned.Goals as goal

pub returns : goal.returns
returns c = let a = c.args in
    let Word : ℕ → Type 0 = λ w. (k : ℕ) → k < slot_end → k / 64 ≡ w → in_set a.set.now k ≡ true → SlotTurned a.ws.now a.set.now a.a.now a.b.now a.to.now k in
    let each = cases_from_all _ _ _ Word (λ _. Unit {0}) c.all.ensures.ran (YieldsList-from_range 0 set_words _ refl refl) (λ w q r. search rules) (λ w q r. tt) in
    λ yes. record { each = λ k lt there. all-yes c.all.result set_words Word (λ _. Unit {0}) each yes (k / 64) (omega arith) k lt refl there }
