-- Equations between rows, and between the same rows with their unused columns.
use mathlib.Core.Path.{◌≡◌, refl, sym, ap, ◌∙◌, subst}
use mathlib.Core.List.{List, [], ◌∷◌, ◌++◌, map}
use mathlib.Core.Logic.{inl, inr, ⊎_elim}
use Prim.Native.Nat.{ℕ, ◌-◌}
use native.Mathlib.Omega.{arith}
use lib.ListN.{length, replicate}
use Rattle.query_encoding.specs.Encoding.{padded}
use Rattle.case_verdicts.specs.Verdict.{Sheet}
use Rattle.case_verdicts.specs.Tableau.{State}
use Rattle.case_verdicts.specs.Search.{Equation, ◌≈◌, equations, Met, RefutedBy}

-- the same rows have nothing to equate
met-same : (h : ℕ → ℕ) (l : List ℕ) → Met h (equations l l)
met-same h [] e m = absurd m
met-same h (n ∷ l) e (inl i) = ap (λ (q : Equation). h q.left) i ∙ sym (ap (λ (q : Equation). h q.right) i)
met-same h (n ∷ l) e (inr m) = met-same h l e m

met-longer : (h : ℕ → ℕ) (ms ns l : List ℕ) → length ms ≡ length ns → Met h (equations ms ns) → Met h (equations (ms ++ l) (ns ++ l))
met-longer h [] [] l e w = met-same h l
met-longer h [] (n ∷ ns) l e w = absurd (omega arith)
met-longer h (m ∷ ms) [] l e w = absurd (omega arith)
met-longer h (m ∷ ms) (n ∷ ns) l e w = λ q i. ⊎_elim (λ f. w q (inl f)) (λ j. met-longer h ms ns l (omega arith) (λ r k. w r (inr k)) q j) i

pub met-padded : (h : ℕ → ℕ) (ms ns : List ℕ) → length ms ≡ length ns → Met h (equations ms ns) → Met h (equations (padded ms) (padded ns))
met-padded h ms ns e w = subst (λ k. Met h (equations (padded ms) (ns ++ replicate (4 - k) 0))) e (met-longer h ms ns (replicate (4 - length ms) 0) e w)

-- refuted with the unused columns, refuted without
pub refuted-padded : (top : ℕ) (y : Sheet) (s : State) (ms ns : List ℕ) → length ms ≡ length ns → RefutedBy top y s (equations (padded ms) (padded ns)) → RefutedBy top y s (equations ms ns)
refuted-padded top y s ms ns e r = record { none = λ t b met good. r.none t b (met-padded b.to ms ns e met) good }

-- equations met, with the unused columns: the rows are made the same
pub same_met : (h : ℕ → ℕ) (ms ns k l : List ℕ) → length ms ≡ length ns → Met h (equations (ms ++ k) (ns ++ l)) → map h ms ≡ map h ns
same_met h [] [] k l e w = refl
same_met h [] (n ∷ ns) k l e w = absurd (omega arith)
same_met h (m ∷ ms) [] k l e w = absurd (omega arith)
same_met h (m ∷ ms) (n ∷ ns) k l e w = ap (λ q. q ∷ map h ms) (w (m ≈ n) (inl refl)) ∙ ap (λ q. h n ∷ q) (same_met h ms ns k l (omega arith) (λ f i. w f (inr i)))
