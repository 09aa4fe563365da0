-- Changing words is changing the state that they hold.
use mathlib.Core.Path.{◌≡◌, refl, sym, ap, ◌∙◌, fun_ext}
use mathlib.Core.List.{List, [], ◌∷◌}
use mathlib.Core.Logic.{◌⊎◌, inl, inr}
use Prim.Native.Nat.{ℕ, zero, suc, ◌+◌, ◌<◌, ◌≤◌}
use native.Mathlib.Omega.{arith}
use lib.ListN.{length, get_or, get_or-eq_default}
use Rattle.case_verdicts.specs.Search.{free, replace, after}
use Rattle.case_verdicts.specs.Words.{state_of}
use Rattle.case_verdicts.proofs.Decide.{less?}
use Rattle.case_verdicts.proofs.Unify.{replace-other}

-- the default plays no part where there is a word
inside_any : (ws : List ℕ) (i d e : ℕ) → i < length ws → get_or ws i d ≡ get_or ws i e
inside_any [] i d e h = absurd (omega arith)
inside_any (w ∷ ws) zero d e h = refl
inside_any (w ∷ ws) (suc i) d e h = inside_any ws i d e (omega arith)

-- m becomes n in every word, and so in every slot, where m is not the value of a slot past the words
pub words-replaced : (top m n : ℕ) (ws out : List ℕ) → length out ≡ length ws → m < top + length ws
    → ((i : ℕ) → i < length ws → get_or out i 0 ≡ replace m n (get_or ws i 0)) → state_of top out ≡ after (replace m n) (state_of top ws)
words-replaced top m n ws out same small each = fun_ext (λ i. go i (less? i (length ws)))
  where
    go : (i : ℕ) → (i < length ws) ⊎ (length ws ≤ i) → get_or out i (top + i) ≡ replace m n (get_or ws i (top + i))
    go i (inl h) = inside_any out i (top + i) 0 (omega arith) ∙ each i h ∙ ap (replace m n) (inside_any ws i 0 (top + i) h)
    go i (inr h) =
        get_or-eq_default out (top + i) (omega arith) ∙ sym (replace-other m n (top + i) (λ e. omega arith))
        ∙ ap (replace m n) (sym (get_or-eq_default ws (top + i) h))

-- words that hold the first state
pub words-free : (top : ℕ) (ws : List ℕ) → ((i : ℕ) → i < length ws → get_or ws i 0 ≡ top + i) → state_of top ws ≡ free top
words-free top ws each = fun_ext (λ i. go i (less? i (length ws)))
  where
    go : (i : ℕ) → (i < length ws) ⊎ (length ws ≤ i) → get_or ws i (top + i) ≡ top + i
    go i (inl h) = inside_any ws i (top + i) 0 h ∙ each i h
    go i (inr h) = get_or-eq_default ws (top + i) h
