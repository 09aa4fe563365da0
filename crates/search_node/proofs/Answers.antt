-- The values of rows that a state's facts give: a property of the constants and of the slots' values is one of theirs.
use mathlib.Core.Path.{◌≡◌, sym, subst}
use mathlib.Core.List.{List, [], ◌∷◌, ◌++◌}
use mathlib.Core.Logic.{inl, inr}
use Prim.Native.Nat.{ℕ, ◌+◌, ◌-◌, ◌*◌, ◌<◌, ◌≤◌}
use native.Mathlib.Omega.{arith}
use lib.ListN.{length, replicate}
use Rattle.query_layout.specs.Layout.{names}
use Rattle.tableau_layout.specs.Layout.{most_copies, slot_end}
use Rattle.query_meaning.specs.Meaning.{Term, con, var, Fact, Block, In, value, fact_of, Answer}
use Rattle.query_encoding.specs.Encoding.{Shaped, padded}
use Rattle.query_encoding.proofs.Lists.{in_map, map_in}
use Rattle.case_verdicts.specs.Verdict.{Sheet}
use Rattle.case_verdicts.specs.Sheets.{top}
use Rattle.case_verdicts.specs.Accepted.{width, FineTerm, FineBlock, FineSheet}
use Rattle.case_verdicts.specs.Tableau.{State, jobs, copy, tableau_log}
use Rattle.case_verdicts.proofs.Tableau.{source, copy-block}
use Rattle.search_task.proofs.ReadyLaws.{zero-small}
use Rattle.search_task.proofs.Copies.{copy-small}

module _ (y : Sheet) (ok : FineSheet top y) (few : length (jobs y) ≤ most_copies) (s : State) (P : ℕ → Type 0)
    (constants : (n : ℕ) → n < top → P n) (slots : (n : ℕ) → n < slot_end → P (s n)) where
  -- a value of a fact of the state's log
  fact-value : (f : Fact) → In f (tableau_log y s) → (n : ℕ) → In n f.row → P n
  unfolding width
  fact-value f m n i =
      let o = source y s f m n i in
      let k = copy-small (jobs y) o.copy_of o.copied in
      go o.term (((copy-block y ok o.copy_of o.copied).atoms o.atom o.standing).terms o.term o.written) o.copy_of.number (omega arith) o.same
    where
      go : (t : Term) → FineTerm top t → (k : ℕ) → k < most_copies → n ≡ value (copy s k) t → P n
      go (con c) fine k lt e = subst P (sym e) (constants c fine)
      go (var z) fine k lt e = subst P (sym e) (slots (k * names + z) (omega arith))

  answer-value : (b : Block) → FineBlock top y.table b → Shaped y.table b → (t : List ℕ) → Answer (tableau_log y s) b t → (n : ℕ) → In n t → P n
  answer-value b fine sh t a n m =
      let (u, i, e) = map_in (value a.val) n b.head (subst (λ l. In n l) (sym a.gives) m) in
      go u i (fine.head u i) e
    where
      go : (u : Term) → In u b.head → FineTerm top u → n ≡ value a.val u → P n
      go (con c) i f e = subst P (sym e) (constants c f)
      go (var z) i f e =
          let (q, j, k) = sh.safe z i in
          subst P (sym e) (fact-value (fact_of a.val q) (a.holds q j) (a.val z) (in_map (value a.val) (var z) q.terms k))

  pub padded-values : (b : Block) → FineBlock top y.table b → Shaped y.table b → (t : List ℕ) → Answer (tableau_log y s) b t → (n : ℕ) → In n (padded t) → P n
  padded-values b fine sh t a n m = go t (λ k i. answer-value b fine sh t a k i) m
    where
      go : (l : List ℕ) → ((k : ℕ) → In k l → P k) → In n (l ++ replicate (4 - length t) 0) → P n
      go [] h i = constants n (zero-small (4 - length t) n i)
      go (x ∷ l) h (inl e) = h n (inl e)
      go (x ∷ l) h (inr i) = go l (λ k j. h k (inr j)) i
