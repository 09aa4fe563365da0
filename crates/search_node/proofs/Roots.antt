-- Where links end: what this value is, and what a state that obeys the words makes of it.
use mathlib.Core.Path.{◌≡◌, refl, sym, ap, ◌∙◌, subst, fun_ext}
use mathlib.Core.List.{List}
use mathlib.Core.Logic.{inl, inr, ⊎_elim}
use Prim.Native.Nat.{ℕ, zero, suc, ◌+◌, ◌-◌, ◌<◌}
use native.Mathlib.Omega.{arith}
use lib.ListN.{length, get_or, get_or-eq_default}
use Rattle.list_laws.proofs.Lists.{inside}
use Rattle.list_laws.proofs.Order.{less?}
use Rattle.tableau_layout.specs.Layout.{slot_end}
use Rattle.case_verdicts.specs.Verdict.{Sheet}
use Rattle.case_verdicts.specs.Sheets.{top}
use Rattle.case_verdicts.specs.Tableau.{State}
use Rattle.case_verdicts.specs.Search.{Below}
use Rattle.case_verdicts.specs.Words.{state_of}
use Rattle.search_links.specs.Links.{link_step, walk, root, linked_state, Linked, value_under}
use Rattle.search_links.specs.Steps.{RootValue}
use Rattle.search_links.proofs.Links.{Stepped, stops, leads, stepped, root-fixed}
use Rattle.search_links.proofs.Words.{word_low, step-outside}
use Rattle.search_links.proofs.Under.{under-constant, under-made, under-own, below_word}
use Rattle.search_node.specs.Node.{Standing}

-- ---- along links

-- what a link keeps, their end keeps
walk-keeps : (s : State) (P : ℕ → Type 0) → ((v : ℕ) → P v → P (link_step top s v)) → (k v : ℕ) → P v → P (walk top s k v)
unfolding walk
walk-keeps s P one zero v m = m
walk-keeps s P one (suc k) v m = walk-keeps s P one k (link_step top s v) (one v m)

root-keeps : (s : State) (P : ℕ → Type 0) → ((v : ℕ) → P v → P (link_step top s v)) → (v : ℕ) → P v → P (root top s v)
unfolding root
root-keeps s P one v m = walk-keeps s P one (suc (v - top)) v m

-- ---- values that stand

module _ (x : Sheet) (ws : List ℕ) (stood : (n : ℕ) → n < length ws → Standing x (get_or ws n 0)) where
  step-stands : (v : ℕ) → Standing x v → Standing x (link_step top (state_of top ws) v)
  step-stands v m = go (stepped top (state_of top ws) v)
    where
      go : Stepped top (state_of top ws) v → Standing x (link_step top (state_of top ws) v)
      go (stops e o) = subst (Standing x) (sym e) m
      go (leads made e l) = ⊎_elim
          (λ h. subst (Standing x) (sym (e ∙ inside ws (v - top) (top + (v - top)) 0 h)) (stood (v - top) h))
          (λ h. let f = get_or-eq_default ws (top + (v - top)) h in absurd (omega arith))
          (less? (v - top) (length ws))

  -- the value of a slot stands
  pub slot-stands : (n : ℕ) → n < slot_end → Standing x (linked_state top ws n)
  slot-stands n h = root-keeps (state_of top ws) (Standing x) step-stands (top + n) (inr (omega arith, omega arith))

-- ---- states that obey all words

-- t obeys every word
abbrev pub ObeysAll : State → List ℕ → Type 0
ObeysAll t ws = (n : ℕ) → value_under top t (state_of top ws n) ≡ t n

-- then it gives a value what it gives the end of its links
under-root : (s t : State) → ((n : ℕ) → value_under top t (s n) ≡ t n) → (v : ℕ) → value_under top t (root top s v) ≡ value_under top t v
under-root s t o v = root-keeps s (λ z. value_under top t z ≡ value_under top t v) (λ z m. one z ∙ m) v refl
  where
    one : (z : ℕ) → value_under top t (link_step top s z) ≡ value_under top t z
    one z = go (stepped top s z)
      where
        go : Stepped top s z → value_under top t (link_step top s z) ≡ value_under top t z
        go (stops e q) = ap (value_under top t) e
        go (leads made e l) = ap (value_under top t) e ∙ o (z - top) ∙ sym (under-made top t z made)

-- and is below the state that the words hold
pub obeyed_below : (ws : List ℕ) (t : State) → ObeysAll t ws → Below top (linked_state top ws) t
obeyed_below ws t o = record {
  to = value_under top t;
  keeps = under-constant top t;
  at = λ n. under-root (state_of top ws) t o (top + n) ∙ under-own top t n;
}

-- what is below that state obeys all words
pub below-obeys : (ws : List ℕ) (t : State) → Linked top ws → Below top (linked_state top ws) t → ObeysAll t ws
below-obeys ws t linked b n = below_word top (state_of top ws) t n (word_low top ws linked n) b

-- and takes roots to what t gives them
pub below_root : (ws : List ℕ) (t : State) (b : Below top (linked_state top ws) t) (v : ℕ) → RootValue top ws v → b.to v ≡ value_under top t v
below_root ws t b v (inl h) = b.keeps v h ∙ sym (under-constant top t v h)
below_root ws t b v (inr f) = ap b.to (sym held) ∙ b.at (v - top) ∙ sym (under-made top t v f.0)
  where
    here : v - top < length ws
    here = let a = f.0 in let l = f.1 in omega arith

    own : state_of top ws (v - top) ≡ v
    own = inside ws (v - top) (top + (v - top)) 0 here ∙ f.2

    held : linked_state top ws (v - top) ≡ v
    held = let made = f.0 in ap (root top (state_of top ws)) (let e : top + (v - top) ≡ v = omega arith in e) ∙ root-fixed top (state_of top ws) v (go (stepped top (state_of top ws) v))
      where
        go : Stepped top (state_of top ws) v → link_step top (state_of top ws) v ≡ v
        go (stops e q) = e
        go (leads made e l) = let w = own in absurd (omega arith)

-- ---- values read into plain words

pub read-state : (ws out : List ℕ) → length ws ≡ slot_end → length out ≡ slot_end → ((n : ℕ) → n < slot_end → get_or out n 0 ≡ linked_state top ws n) → state_of top out ≡ linked_state top ws
read-state ws out whole size each = fun_ext (λ n. ⊎_elim
    (λ h. inside out n (top + n) 0 (omega arith) ∙ each n h)
    (λ h. get_or-eq_default out (top + n) (omega arith)
    ∙ sym (root-fixed top (state_of top ws) (top + n) (step-outside top ws (top + n) (omega arith) (omega arith))))
    (less? n slot_end))
