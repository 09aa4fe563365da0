-- A block has one list of answers: ascending lists with the same elements are equal.
use mathlib.Core.Path.{◌≡◌, refl, sym, subst, ap₂, ◌∙◌}
use mathlib.Core.List.{List, [], ◌∷◌}
use mathlib.Core.Logic.{inl, inr}
use Prim.Native.Nat.{ℕ, suc, ◌≤◌}
use native.Mathlib.Omega.{arith}
use lib.ListN.{length}
use Rattle.query_meaning.specs.Meaning.{Log, Block, In}
use Rattle.query_meaning.specs.Evaluate.{◌≺◌, Ascending, Answers}
use Rattle.query_encoding.proofs.Order.{below_irrefl, below_trans}

abbrev RowsAmong : List (List ℕ) → List (List ℕ) → Type 0
RowsAmong ts us = (r : List ℕ) → In r ts → In r us

same_first : (t u : List ℕ) (ts us : List (List ℕ)) → Ascending (t ∷ ts) → Ascending (u ∷ us) → In t (u ∷ us) → In u (t ∷ ts) → t ≡ u
same_first t u ts us p q (inl e) k = e
same_first t u ts us p q (inr h) (inl e) = sym e
same_first t u ts us p q (inr h) (inr k) = absurd (below_irrefl t (below_trans t u t (p.0 u k) (q.0 t h)))

-- what follows the first row is not the first row
within_tail : (t : List ℕ) (ts us : List (List ℕ)) → Ascending (t ∷ ts) → RowsAmong (t ∷ ts) (t ∷ us) → RowsAmong ts us
within_tail t ts us p w r h = go (w r (inr h))
  where
    go : In r (t ∷ us) → In r us
    go (inl e) = absurd (below_irrefl t (subst (λ x. t ≺ x) e (p.0 r h)))
    go (inr k) = k

pub ascending_unique : (ts us : List (List ℕ)) → Ascending ts → Ascending us → RowsAmong ts us → RowsAmong us ts → ts ≡ us
ascending_unique [] [] p q w x = refl
ascending_unique [] (u ∷ us) p q w x = absurd (x u (inl refl))
ascending_unique (t ∷ ts) [] p q w x = absurd (w t (inl refl))
ascending_unique (t ∷ ts) (u ∷ us) p q w x =
    let e = same_first t u ts us p q (w t (inl refl)) (x u (inl refl)) in
    let q' = subst (λ r. Ascending (r ∷ us)) (sym e) q in
    let w' = subst (λ r. RowsAmong (t ∷ ts) (r ∷ us)) (sym e) w in
    let x' = subst (λ r. RowsAmong (r ∷ us) (t ∷ ts)) (sym e) x in
    ap₂ (λ r l. r ∷ l) e (ascending_unique ts us p.1 q.1 (within_tail t ts us p w') (within_tail t us ts q' x'))

pub answers_unique : {log : Log} {b : Block} {ts us : List (List ℕ)} → Answers log b ts → Answers log b us → ts ≡ us
answers_unique {log} {b} {ts} {us} a c =
    ascending_unique ts us a.ascending c.ascending (λ r h. c.every r (a.only r h)) (λ r h. a.every r (c.only r h))

-- an ascending list whose elements are all among those of another is not longer
longer-by : (t u : List ℕ) (ts us : List (List ℕ)) → Ascending (t ∷ ts) → Ascending (u ∷ us) → RowsAmong (t ∷ ts) (u ∷ us)
    → ((vs : List (List ℕ)) → Ascending vs → RowsAmong vs us → length vs ≤ length us) → In t (u ∷ us) → length (t ∷ ts) ≤ length (u ∷ us)
longer-by t u ts us a b w ih (inl e) = let n = ih ts a.1 (within_tail t ts us a (subst (λ r. RowsAmong (t ∷ ts) (r ∷ us)) (sym e) w)) in omega arith
longer-by t u ts us a b w ih (inr m) = let n = ih (t ∷ ts) a (λ r i. later r i (w r i)) in omega arith
  where
    after : (r : List ℕ) → In r (t ∷ ts) → r ≡ u → ⊥
    after r (inl e) q = below_irrefl u (subst (λ x. u ≺ x) (sym e ∙ q) (b.0 t m))
    after r (inr i) q = below_irrefl u (below_trans u t u (b.0 t m) (subst (λ x. t ≺ x) q (a.0 r i)))

    later : (r : List ℕ) → In r (t ∷ ts) → In r (u ∷ us) → In r us
    later r i (inl e) = absurd (after r i e)
    later r i (inr j) = j

within_none : (ts : List (List ℕ)) → RowsAmong ts [] → length ts ≤ 0
within_none [] w = omega arith
within_none (t ∷ ts) w = absurd (w t (inl refl))

longer-from : (u : List ℕ) (us ts : List (List ℕ)) → Ascending ts → Ascending (u ∷ us) → RowsAmong ts (u ∷ us)
    → ((vs : List (List ℕ)) → Ascending vs → RowsAmong vs us → length vs ≤ length us) → length ts ≤ length (u ∷ us)
longer-from u us [] a b w ih = omega arith
longer-from u us (t ∷ ts) a b w ih = longer-by t u ts us a b w ih (w t (inl refl))

pub not-longer : (us ts : List (List ℕ)) → Ascending ts → Ascending us → RowsAmong ts us → length ts ≤ length us
not-longer [] ts a b w = within_none ts w
not-longer (u ∷ us) ts a b w = longer-from u us ts a b w (λ vs c v. not-longer us vs c b.1 v)
