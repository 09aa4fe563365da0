-- Values under a state, and the words of a state as equations.
use mathlib.Core.Path.{◌≡◌, sym, ap, ◌∙◌}
use mathlib.Core.Bool.{cond}
use mathlib.Core.Logic.{◌⊎◌, inl, inr}
use Prim.Native.Nat.{ℕ, ◌+◌, ◌-◌, ◌<◌, ◌≤◌}
use native.Mathlib.Omega.{arith}
use borrow.Author.Tests.{lt-ltb, le-ltb}
use Rattle.list_laws.proofs.Order.{less?}
use Rattle.case_verdicts.specs.Tableau.{State}
use Rattle.case_verdicts.specs.Search.{Below}
use Rattle.search_links.specs.Links.{root, follow, value_under}
use Rattle.search_links.proofs.Links.{root-constant, root-word}

pub under-constant : (top : ℕ) (t : State) (c : ℕ) → c < top → value_under top t c ≡ c
under-constant top t c h = ap (λ b. cond b c (t (c - top))) (lt-ltb c top h)

pub under-made : (top : ℕ) (t : State) (v : ℕ) → top ≤ v → value_under top t v ≡ t (v - top)
under-made top t v h = ap (λ b. cond b v (t (v - top))) (le-ltb v top h)

pub under-own : (top : ℕ) (t : State) (n : ℕ) → value_under top t (top + n) ≡ t n
under-own top t n = under-made top t (top + n) (omega arith) ∙ ap t (let e : top + n - top ≡ n = omega arith in e)

-- t is below the state that the words s hold: then it gives slot n what it gives the slot's word
pub below_word : (top : ℕ) (s t : State) (n : ℕ) → s n ≤ top + n → Below top (follow top s) t → value_under top t (s n) ≡ t n
below_word top s t n low b = go (less? (s n) top) ∙ b.at n
  where
    word : root top s (s n) ≡ follow top s n
    word = root-word top s n low

    go : (s n < top) ⊎ (top ≤ s n) → value_under top t (s n) ≡ b.to (follow top s n)
    go (inl h) = under-constant top t (s n) h ∙ sym (b.keeps (s n) h) ∙ ap b.to (sym (root-constant top s (s n) h) ∙ word)
    go (inr h) = under-made top t (s n) h ∙ sym (b.at (s n - top)) ∙ ap b.to (ap (root top s) (let e : top + (s n - top) ≡ s n = omega arith in e) ∙ word)
