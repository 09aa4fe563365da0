-- Words of a set that have no slot.
use mathlib.Core.Path.{◌≡◌, sym, ap, ◌∙◌}
use mathlib.Core.Bool.{true, true≢false}
use mathlib.Core.List.{List}
use Prim.Native.Nat.{ℕ, ◌/◌, ◌%◌}
use Rattle.search_slots.specs.Slots.{set_word, in_set}
use Rattle.search_slots.proofs.Digits.{has-zero}
use Rattle.search_slots.proofs.Laws.{at-word}

-- a word without digits has no slot
pub no_slot : (set : List ℕ) (w k : ℕ) → set_word set w ≡ 0 → k / 64 ≡ w → in_set set k ≡ true → ⊥
no_slot set w k zero same there = true≢false (sym there ∙ at-word set k 0 (ap (set_word set) same ∙ zero) ∙ has-zero (k % 64))
