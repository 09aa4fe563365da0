-- One link, some links, and the root at their end.
use mathlib.Core.Path.{◌≡◌, refl, sym, ap, ◌∙◌, subst, fun_ext}
use mathlib.Core.Bool.{cond}
use mathlib.Core.Logic.{◌⊎◌, inl, inr}
use Prim.Native.Nat.{ℕ, zero, suc, ◌+◌, ◌-◌, ◌<◌, ◌≤◌}
use native.Mathlib.Omega.{arith}
use lib.Dec.{ltb}
use borrow.Author.Tests.{lt-ltb, le-ltb}
use Rattle.list_laws.proofs.Order.{less?}
use Rattle.case_verdicts.specs.Tableau.{State}
use Rattle.case_verdicts.specs.Search.{replace, after}
use Rattle.case_verdicts.proofs.Decide.{same?}
use Rattle.case_verdicts.proofs.Unify.{replace-same, replace-other}
use Rattle.search_links.specs.Links.{link_step, walk, root, follow}

module _ (top : ℕ) (s : State) where
  pub step-constant : (v : ℕ) → v < top → link_step top s v ≡ v
  unfolding link_step
  step-constant v h = rw (lt-ltb v top h)

  pub step_link : (v : ℕ) → top ≤ v → s (v - top) < v → link_step top s v ≡ s (v - top)
  unfolding link_step
  step_link v h g = rw (le-ltb v top h, lt-ltb (s (v - top)) v g)

  pub step-own : (v : ℕ) → top ≤ v → v ≤ s (v - top) → link_step top s v ≡ v
  unfolding link_step
  step-own v h g = rw (le-ltb v top h, le-ltb (s (v - top)) v g)

  -- no link starts at v, or one leads from it to its slot's word, which is lower
  pub data Stepped (v : ℕ) : Type 0 where
    stops : link_step top s v ≡ v → (top ≤ v → v ≤ s (v - top)) → Stepped v
    leads : top ≤ v → link_step top s v ≡ s (v - top) → link_step top s v < v → Stepped v

  pub stepped : (v : ℕ) → Stepped v
  stepped v = go (less? v top) (less? (s (v - top)) v)
    where
      go : (v < top) ⊎ (top ≤ v) → (s (v - top) < v) ⊎ (v ≤ s (v - top)) → Stepped v
      go (inl h) g = stops (step-constant v h) (λ k. absurd (omega arith))
      go (inr h) (inl g) = let e = step_link v h g in leads h e (omega arith)
      go (inr h) (inr g) = stops (step-own v h g) (λ k. g)

  -- a made-up value at which no link starts: nothing lower is in its slot
  pub own-word : (v : ℕ) → link_step top s v ≡ v → top ≤ v → v ≤ s (v - top)
  own-word v e h = go (stepped v)
    where
      go : Stepped v → v ≤ s (v - top)
      go (stops q g) = g h
      go (leads k q l) = absurd (omega arith)

  pub walk-fixed : (k v : ℕ) → link_step top s v ≡ v → walk top s k v ≡ v
  unfolding walk
  walk-fixed zero v e = refl
  walk-fixed (suc k) v e = ap (walk top s k) e ∙ walk-fixed k v e

  -- two walks of v that are both long enough end alike
  walk-enough : (k j v : ℕ) → v < top + k → v < top + j → walk top s k v ≡ walk top s j v
  unfolding walk
  walk-enough zero j v h g = sym (walk-fixed j v (step-constant v (omega arith)))
  walk-enough (suc k) zero v h g = walk-fixed (suc k) v (step-constant v (omega arith))
  walk-enough (suc k) (suc j) v h g = go (λ a b. walk-enough k j (link_step top s v) a b) (stepped v)
    where
      go : (link_step top s v < top + k → link_step top s v < top + j → walk top s k (link_step top s v) ≡ walk top s j (link_step top s v)) → Stepped v
          → walk top s k (link_step top s v) ≡ walk top s j (link_step top s v)
      go again (stops e o) = ap (walk top s k) e ∙ walk-fixed k v e ∙ sym (ap (walk top s j) e ∙ walk-fixed j v e)
      go again (leads m e l) = again (omega arith) (omega arith)

  -- a walk that is long enough ends where no link starts, and not above v
  walk-stays : (k v : ℕ) → v < top + k → (link_step top s (walk top s k v) ≡ walk top s k v) × (walk top s k v ≤ v)
  unfolding walk
  walk-stays zero v h = (step-constant v (omega arith), omega arith)
  walk-stays (suc k) v h = go (λ a. walk-stays k (link_step top s v) a) (stepped v)
    where
      go : (link_step top s v < top + k → (link_step top s (walk top s k (link_step top s v)) ≡ walk top s k (link_step top s v)) × (walk top s k (link_step top s v) ≤ link_step top s v)) → Stepped v
          → (link_step top s (walk top s k (link_step top s v)) ≡ walk top s k (link_step top s v)) × (walk top s k (link_step top s v) ≤ v)
      go again (stops e o) = let f = ap (walk top s k) e ∙ walk-fixed k v e in (ap (link_step top s) f ∙ e ∙ sym f, omega arith)
      go again (leads m e l) = let r = again (omega arith) in (r.0, omega arith)

  pub root-fixed : (v : ℕ) → link_step top s v ≡ v → root top s v ≡ v
  unfolding root
  root-fixed v e = walk-fixed (suc (v - top)) v e

  pub root-constant : (v : ℕ) → v < top → root top s v ≡ v
  root-constant v h = root-fixed v (step-constant v h)

  pub root-stays : (v : ℕ) → link_step top s (root top s v) ≡ root top s v
  unfolding root
  root-stays v = (walk-stays (suc (v - top)) v (omega arith)).0

  pub root-low : (v : ℕ) → root top s v ≤ v
  unfolding root
  root-low v = (walk-stays (suc (v - top)) v (omega arith)).1

  -- both ends of a link have one root
  pub root-step : (v : ℕ) → root top s (link_step top s v) ≡ root top s v
  unfolding root walk
  root-step v = go (stepped v)
    where
      go : Stepped v → root top s (link_step top s v) ≡ root top s v
      go (stops e o) = ap (root top s) e
      go (leads m e l) = walk-enough (suc (link_step top s v - top)) (v - top) (link_step top s v) (omega arith) (omega arith)

  -- so have a slot's word and its own value
  pub root-word : (n : ℕ) → s n ≤ top + n → root top s (s n) ≡ follow top s n
  root-word n low = go (same? (s n) (top + n))
    where
      go : Dec (s n ≡ top + n) → root top s (s n) ≡ root top s (top + n)
      go (yes e) = ap (root top s) e
      go (no ne) =
          let z : top + n - top ≡ n = omega arith in
          let y = ap s z in
          ap (root top s) (sym (step_link (top + n) (omega arith) (omega arith) ∙ y)) ∙ root-step (top + n)

-- ---- a link more

-- t is s with a link from the made-up root v to the lower root w
module _ (top : ℕ) (s t : State) (v w : ℕ) (made : top ≤ v) (less : w < v) (own : link_step top s v ≡ v) (end : link_step top s w ≡ w)
    (here : t (v - top) ≡ w) (others : (n : ℕ) → (n ≡ v - top → ⊥) → t n ≡ s n) where
  step_other : (x : ℕ) → (x ≡ v → ⊥) → link_step top t x ≡ link_step top s x
  unfolding link_step
  step_other x ne = go (less? x top)
    where
      go : (x < top) ⊎ (top ≤ x) → link_step top t x ≡ link_step top s x
      go (inl h) = step-constant top t x h ∙ sym (step-constant top s x h)
      go (inr h) = ap (λ z. cond (ltb x top) x (cond (ltb z x) z x)) (others (x - top) (λ e. ne (omega arith)))

  walk-linked : (k x : ℕ) → x < top + k → walk top t k x ≡ replace v w (walk top s k x)
  unfolding walk
  walk-linked zero x h = sym (replace-other v w x (λ e. omega arith))
  walk-linked (suc k) x h = go (λ a. walk-linked k (link_step top s x) a) (same? x v) (stepped top s x)
    where
      go : (link_step top s x < top + k → walk top t k (link_step top s x) ≡ replace v w (walk top s k (link_step top s x))) → Dec (x ≡ v) → Stepped top s x
          → walk top t k (link_step top t x) ≡ replace v w (walk top s k (link_step top s x))
      go again (yes e) b =
          ap (λ y. walk top t k (link_step top t y)) e
          ∙ ap (walk top t k) (step_link top t v made (subst (λ y. y < v) (sym here) less) ∙ here)
          ∙ walk-fixed top t k w (step_other w (λ q. omega arith) ∙ end)
          ∙ sym (ap (λ y. replace v w (walk top s k (link_step top s y))) e ∙ ap (λ y. replace v w (walk top s k y)) own ∙ ap (replace v w) (walk-fixed top s k v own) ∙ replace-same v w)
      go again (no n) (stops e o) =
          ap (walk top t k) (step_other x n ∙ e) ∙ walk-fixed top t k x (step_other x n ∙ e)
          ∙ sym (ap (λ y. replace v w (walk top s k y)) e ∙ ap (replace v w) (walk-fixed top s k x e) ∙ replace-other v w x n)
      go again (no n) (leads m e l) = ap (walk top t k) (step_other x n) ∙ again (omega arith)

  pub root-linked : (x : ℕ) → root top t x ≡ replace v w (root top s x)
  unfolding root
  root-linked x = walk-linked (suc (x - top)) x (omega arith)

-- a map that takes each old root to the new one takes each old slot to the new one
pub follow-after : (top : ℕ) (s t : State) (by : ℕ → ℕ) → ((x : ℕ) → root top t x ≡ by (root top s x)) → follow top t ≡ after by (follow top s)
follow-after top s t by each = fun_ext (λ n. each (top + n))
