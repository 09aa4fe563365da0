-- The turns of a node's alternatives: each has one.
use mathlib.Core.Path.{◌≡◌, refl, sym, ap, ◌∙◌, subst}
use mathlib.Core.Bool.{Bool, true, false, cond, not}
use mathlib.Core.List.{List, [], ◌∷◌}
use Prim.Native.Nat.{ℕ, ◌+◌, ◌-◌, ◌*◌, ◌<◌, ◌≤◌}
use native.Mathlib.Omega.{arith}
use borrow.Author.Tests.{lt-ltb, le-ltb}
use Rattle.search_slots.specs.Slots.{in_set}
use Rattle.search_node.specs.Choices.{node_hint, how_many}
use Rattle.search_step.specs.Run.{turn_of, is_its_turn, node_turn_at, is_turn_at}

pub turn-first : (count i : ℕ) → i < count → turn_of count i ≡ i
unfolding turn_of
turn-first count i lt = rw (lt-ltb i count lt)

pub turn-second : (count i : ℕ) → count ≤ i → turn_of count i ≡ i - count
unfolding turn_of
turn-second count i le = rw (le-ltb i count le)

pub is-first : (hint count i k : ℕ) → i < count → k ≡ turn_of count i → in_set (hint ∷ []) k ≡ is_its_turn hint count i
unfolding is_its_turn
is-first hint count i k lt e =
    ap (in_set (hint ∷ [])) e ∙ sym (ap (λ (b : Bool). cond b (in_set (hint ∷ []) (turn_of count i)) (not (in_set (hint ∷ []) (turn_of count i)))) (lt-ltb i count lt))

pub is-second : (hint count i k : ℕ) → count ≤ i → k ≡ turn_of count i → not (in_set (hint ∷ []) k) ≡ is_its_turn hint count i
unfolding is_its_turn
is-second hint count i k le e =
    ap (λ (z : ℕ). not (in_set (hint ∷ []) z)) e ∙ sym (ap (λ (b : Bool). cond b (in_set (hint ∷ []) (turn_of count i)) (not (in_set (hint ∷ []) (turn_of count i)))) (le-ltb i count le))

-- alternative k has its turn, in the first round or in the second
pub choice_turn : (hint count k : ℕ) → k < count → (i : ℕ) × (i < 2 * count) × (is_its_turn hint count i ≡ true) × (turn_of count i ≡ k)
choice_turn hint count k lt = go (in_set (hint ∷ []) k) refl
  where
    go : (b : Bool) → in_set (hint ∷ []) k ≡ b → (i : ℕ) × (i < 2 * count) × (is_its_turn hint count i ≡ true) × (turn_of count i ≡ k)
    go true e = let t = turn-first count k lt in (k, omega arith, sym (is-first hint count k k lt (sym t)) ∙ e, t)
    go false e = let t : turn_of count (k + count) ≡ k = turn-second count (k + count) (omega arith) ∙ (let z : k + count - count ≡ k = omega arith in z) in
        (k + count, omega arith, sym (is-second hint count (k + count) k (omega arith) (sym t)) ∙ ap not e, t)

-- ---- of a node

module _ (p node : List ℕ) {count : ℕ} (many : count ≡ how_many p node) where
  pub turn_at : (i k : ℕ) → k ≡ turn_of count i → k ≡ node_turn_at p node i
  turn_at i k e = subst (λ (n : ℕ). k ≡ turn_of n i) many e

  pub is-turn-at : (i : ℕ) {hint : ℕ} → hint ≡ node_hint node → (b : Bool) → b ≡ is_its_turn hint count i → b ≡ is_turn_at p node i
  is-turn-at i h b e = subst (λ (n : ℕ). b ≡ is_its_turn (node_hint node) n i) many (subst (λ (d : ℕ). b ≡ is_its_turn d count i) h e)
