-- Links in a list of words.
use mathlib.Core.Path.{◌≡◌, refl, sym, ap, ◌∙◌, subst, fun_ext}
use mathlib.Core.Bool.{Bool, true, false, cond}
use mathlib.Core.List.{List, [], ◌∷◌}
use mathlib.Core.Logic.{◌⊎◌, inl, inr, ⊎_elim}
use Prim.Native.Nat.{ℕ, zero, suc, ◌+◌, ◌-◌, ◌<◌, ◌≤◌}
use native.Mathlib.Omega.{arith}
use lib.Dec.{ltb}
use lib.ListN.{length, get_or, set, get_or-eq_default}
use borrow.Author.Tests.{lt-ltb, le-ltb}
use Rattle.tableau_layout.specs.Layout.{slot_end}
use Rattle.list_laws.proofs.Lists.{inside}
use Rattle.list_laws.proofs.Order.{less?}
use Rattle.case_verdicts.specs.Tableau.{State}
use Rattle.case_verdicts.specs.Search.{free}
use Rattle.case_verdicts.specs.Words.{state_of}
use Rattle.tableau_plan.specs.Plan.{slot_value}
use Rattle.search_links.specs.Links.{link_step, linked_state, place_root, Linked, roots}
use Rattle.search_links.specs.Steps.{RootValue}
use Rattle.search_links.proofs.Links.{step-constant, step_link, step-own, own-word, root-fixed, root-stays, root-low, root-constant, root-word}

-- ---- one link

-- from the made-up value x: none where its slot lies past the words or has nothing lower, else to the slot's word
module _ (top : ℕ) (ws : List ℕ) (x : ℕ) (made : top ≤ x) where
  pub step-outside : length ws ≤ x - top → link_step top (state_of top ws) x ≡ x
  step-outside far = step-own top (state_of top ws) x made (let e = get_or-eq_default ws (top + (x - top)) far in omega arith)

  pub step-root : x - top < length ws → x ≤ get_or ws (x - top) 0 → link_step top (state_of top ws) x ≡ x
  step-root lt le = step-own top (state_of top ws) x made (let e = inside ws (x - top) (top + (x - top)) 0 lt in omega arith)

  pub step-word : x - top < length ws → get_or ws (x - top) 0 < x → link_step top (state_of top ws) x ≡ get_or ws (x - top) 0
  step-word lt less = let e = inside ws (x - top) (top + (x - top)) 0 lt in step_link top (state_of top ws) x made (omega arith) ∙ e

-- ---- roots

-- no link starts at a root
pub value_stays : (top : ℕ) (ws : List ℕ) (v : ℕ) → RootValue top ws v → link_step top (state_of top ws) v ≡ v
value_stays top ws v (inl h) = step-constant top (state_of top ws) v h
value_stays top ws v (inr f) = let le = f.0 in let lt = f.1 in let own = f.2 in step-root top ws v le (omega arith) (omega arith)

-- a slot whose own value is a root has this value
pub root-own : (top : ℕ) (ws : List ℕ) (n : ℕ) → RootValue top ws (top + n) → (n < length ws) × (get_or ws n 0 ≡ top + n)
root-own top ws n (inl h) = absurd (omega arith)
root-own top ws n (inr f) = (let l = f.1 in omega arith, ap (λ (k : ℕ). get_or ws k 0) (let e : n ≡ top + n - top = omega arith in e) ∙ f.2)

-- also the slots past the words have nothing above their own values
pub word_low : (top : ℕ) (ws : List ℕ) → Linked top ws → (n : ℕ) → state_of top ws n ≤ top + n
word_low top ws linked n = ⊎_elim (λ h. let l = linked n h in let e = inside ws n (top + n) 0 h in omega arith) (λ h. let e = get_or-eq_default ws (top + n) h in omega arith) (less? n (length ws))

-- and this value is a root
pub slot-root : (top : ℕ) (ws : List ℕ) → Linked top ws → (n : ℕ) → n < length ws → RootValue top ws (linked_state top ws n)
slot-root top ws linked n lt =
    let low = root-low top (state_of top ws) (top + n) in
    ⊎_elim (λ h. inl h)
    (λ h.
    let own = own-word top (state_of top ws) (linked_state top ws n) (root-stays top (state_of top ws) (top + n)) h in
    let here : linked_state top ws n - top < length ws = omega arith in
    let e = inside ws (linked_state top ws n - top) (top + (linked_state top ws n - top)) 0 here in
    let l = linked (linked_state top ws n - top) here in
    inr (h, omega arith, omega arith))
    (less? (linked_state top ws n) top)

-- ---- places of the tableau

pub place-slot : (top : ℕ) (ws : List ℕ) (w : ℕ) → w < slot_end → place_root top ws w ≡ linked_state top ws w
unfolding place_root
place-slot top ws w h = rw (lt-ltb w slot_end h)

pub place-constant : (top : ℕ) (ws : List ℕ) (w : ℕ) → slot_end ≤ w → place_root top ws w ≡ w - slot_end
unfolding place_root
place-constant top ws w h = rw (le-ltb w slot_end h)

-- what stands at a place is the term's value under the state that the words hold
pub place-state : (top : ℕ) (ws : List ℕ) (w : ℕ) → place_root top ws w ≡ slot_value (linked_state top ws) w
unfolding place_root slot_value
place-state top ws w = refl

-- it is a root, where constants lie below `top`
pub place-root : (top : ℕ) (ws : List ℕ) → Linked top ws → length ws ≡ slot_end → (w : ℕ) → (slot_end ≤ w → w - slot_end < top) → RootValue top ws (place_root top ws w)
place-root top ws linked whole w low = go (less? w slot_end)
  where
    go : (w < slot_end) ⊎ (slot_end ≤ w) → RootValue top ws (place_root top ws w)
    go (inl h) = subst (RootValue top ws) (sym (place-slot top ws w h)) (slot-root top ws linked w (omega arith))
    go (inr h) = inl (rw (place-constant top ws w h) (low h))

-- ---- words without links

-- words hold themselves where each is a constant or its slot's own value
pub state-plain : (top : ℕ) (ws : List ℕ) → ((n : ℕ) → (state_of top ws n < top) ⊎ (state_of top ws n ≡ top + n)) → linked_state top ws ≡ state_of top ws
state-plain top ws each = fun_ext (λ n. ⊎_elim
    (λ h. sym (root-word top (state_of top ws) n (omega arith)) ∙ root-constant top (state_of top ws) (state_of top ws n) h)
    (λ e. root-fixed top (state_of top ws) (top + n) (step-own top (state_of top ws) (top + n) (omega arith) (let q : state_of top ws (top + n - top) ≡ state_of top ws n = ap (state_of top ws) (let z : top + n - top ≡ n = omega arith in z) in omega arith)) ∙ sym e)
    (each n))

-- the words of the first state have no links
pub linked-free : (top : ℕ) (ws : List ℕ) → state_of top ws ≡ free top → Linked top ws × (linked_state top ws ≡ free top)
linked-free top ws e = (
  λ n h. let q = inside ws n 0 (top + n) h ∙ ap (λ (s : State). s n) e in omega arith,
  state-plain top ws (λ n. inr (ap (λ (s : State). s n) e)) ∙ e,
)

-- ---- how many roots

-- one fewer where a slot without a lower word gets one
pub roots-set : (t : ℕ) (ws : List ℕ) (n w : ℕ) → n < length ws → t + n ≤ get_or ws n 0 → w < t + n → roots t (set ws n w) < roots t ws
unfolding roots
roots-set t [] n w h g k = absurd (omega arith)
roots-set t (x ∷ ws) zero w h g k = rw (lt-ltb w t (omega arith), le-ltb x t (omega arith)) (omega arith)
roots-set t (x ∷ ws) (suc n) w h g k = go (ltb x t) (roots-set (suc t) ws n w (omega arith) (omega arith) (omega arith))
  where
    go : (b : Bool) → roots (suc t) (set ws n w) < roots (suc t) ws → cond b (roots (suc t) (set ws n w)) (suc (roots (suc t) (set ws n w))) < cond b (roots (suc t) ws) (suc (roots (suc t) ws))
    go true l = l
    go false l = omega arith

-- at most one for each word
pub roots_few : (t : ℕ) (ws : List ℕ) → roots t ws ≤ length ws
unfolding roots
roots_few t [] = omega arith
roots_few t (w ∷ ws) = go (ltb w t) (roots_few (suc t) ws)
  where
    go : (b : Bool) → roots (suc t) ws ≤ length ws → cond b (roots (suc t) ws) (suc (roots (suc t) ws)) ≤ suc (length ws)
    go true l = omega arith
    go false l = omega arith
