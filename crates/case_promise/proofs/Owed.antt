-- A log has each row that it owes exactly when its numbers do. Assumes nothing.
use mathlib.Core.Path.{◌≡◌, refl, sym, ap, ◌∙◌, subst}
use mathlib.Core.List.{List, []}
use mathlib.Core.Logic.{inl}
use Prim.Native.Nat.{ℕ, zero, suc, ◌+◌, ◌*◌, ◌<◌}
use native.Mathlib.Omega.{arith}
use lib.IntN.{pos}
use lib.ListN.{length, get_or}
use lib.Seq.{ext_get_or}
use Rattle.sheet_format.specs.Table.{columns_of}
use Rattle.query_meaning.specs.Meaning.{Fact, Log, In, fact}
use Rattle.query_encoding.specs.Encoding.{FactNumbers, ShapedLog, fact_at}
use Rattle.query_encoding.proofs.Lists.{at_in, in-at}
use Rattle.case_verdicts.specs.Table.{Table, relation, owed, parents, Sound}
use Rattle.tableau_plan.specs.Plan.{plan_table, parent_in}
use Rattle.case_verdicts.proofs.Tableau.{of_parents}
use Rattle.tableau_parts.specs.Walks.{four_of}
use Rattle.case_minimization.specs.Minimization.{Parented}
use Rattle.case_minimization.proofs.Laws.{four_same, four-at}

in-owed : (n : ℕ) (r : List ℕ) → 0 < n → In (fact n r) (owed n r)
in-owed zero r lt = absurd (omega arith)
in-owed (suc n) r lt = inl refl

fact-same : (f : Fact) (n : ℕ) (r : List ℕ) → f.rel ≡ n → f.row ≡ r → f ≡ fact n r
fact-same f n r e g = λ i. fact (e i) (g i)

module _ (p : List ℕ) {table : Table} (plain : table ≡ plan_table p) {ns : List ℕ} {log : Log} (fn : FactNumbers ns log) where
  -- a relation's parent, and what a fact owes, by the plan's table
  parent_is : (n : ℕ) → (relation table n).parent ≡ parent_in p n
  parent_is n = ap (λ t. (relation t n).parent) plain

  owed-is : (f : Fact) → parents table f ≡ owed (parent_in p f.rel) f.row
  owed-is f = ap (λ k. owed k f.row) (parent_is f.rel)

  -- the row of fact i in its numbers
  row-values : (i k : ℕ) → i < length log → k < length log → (fact_at log k).row ≡ (fact_at log i).row → four_of ns (k * 5 + 1) ≡ four_of ns (i * 5 + 1)
  row-values i k li lk e = four_same ns ns (k * 5 + 1) (i * 5 + 1) (λ c h. fn.values k lk c h ∙ ap (λ r. get_or r c 0) e ∙ sym (fn.values i li c h))

  pub parented-numbers : ((f : Fact) → In f log → (g : Fact) → In g (parents table f) → In g log) → Parented p ns
  parented-numbers has i lt some =
      let count = fn.count in
      let li : i < length log = omega arith in
      let f = fact_at log i in
      let rel = fn.relation i li in
      let (k, lk, e) = in-at (fact 0 []) (fact (parent_in p f.rel) f.row) log
      (has f (at_in (fact 0 []) log i li) (fact (parent_in p f.rel) f.row) (subst (λ l. In (fact (parent_in p f.rel) f.row) l) (sym (owed-is f)) (in-owed (parent_in p f.rel) f.row (subst (λ n. 0 < parent_in p n) rel some)))) in
      (k, omega arith, (fn.relation k lk ∙ ap (λ (g : Fact). g.rel) e ∙ ap (parent_in p) (sym rel), row-values i k li lk (ap (λ (g : Fact). g.row) e)))

  module _ (sound : Sound table) (sh : ShapedLog table log) where
    -- a parent's rows are as long
    same-columns : (n : ℕ) → 0 < parent_in p n → columns_of table (pos (parent_in p n)) ≡ columns_of table (pos n)
    unfolding columns_of
    same-columns n some =
        let e = parent_is n in
        ap (λ k. (relation table k).columns) (sym e) ∙ sound.columns n (subst (λ k. 0 < k) (sym e) some)

    owed-fact : (i k : ℕ) → i < length log → k < length log → 0 < parent_in p (fact_at log i).rel → (fact_at log k).rel ≡ parent_in p (fact_at log i).rel → four_of ns (k * 5 + 1) ≡ four_of ns (i * 5 + 1) → fact_at log k ≡ fact (parent_in p (fact_at log i).rel) (fact_at log i).row
    owed-fact i k li lk some rel values =
        let f = fact_at log i in
        let g = fact_at log k in
        let a = sh f (at_in (fact 0 []) log i li) in
        let b = sh g (at_in (fact 0 []) log k lk) in
        let long : length g.row ≡ length f.row = b.0 ∙ ap (λ n. columns_of table (pos n)) rel ∙ same-columns f.rel some ∙ sym a.0 in
        fact-same g (parent_in p f.rel) f.row rel
        (ext_get_or 0 g.row f.row long (λ c h.
        let few : c < 4 = let m = b.1 in omega arith in
        sym (fn.values k lk c few) ∙ sym (four-at ns (k * 5 + 1) c few) ∙ ap (λ l. get_or l c 0) values ∙ four-at ns (i * 5 + 1) c few ∙ fn.values i li c few))

    pub numbers-parented : Parented p ns → (f : Fact) → In f log → (g : Fact) → In g (parents table f) → In g log
    numbers-parented parented f m g n =
        let count = fn.count in
        let (i, li, e) = in-at (fact 0 []) f log m in
        let h = fact_at log i in
        let (some, is) = of_parents table f g n in
        let same : (relation table f.rel).parent ≡ parent_in p h.rel = parent_is f.rel ∙ ap (λ (q : Fact). parent_in p q.rel) (sym e) in
        let more : 0 < parent_in p h.rel = subst (λ k. 0 < k) same some in
        let rel = fn.relation i li in
        let (k, lk, q) = parented i (omega arith) (subst (λ z. 0 < parent_in p z) (sym rel) more) in
        let there : k < length log = omega arith in
        let w = owed-fact i k li there more (sym (fn.relation k there) ∙ q.0 ∙ ap (parent_in p) rel) q.1 in
        subst (λ z. In z log) (w ∙ ap (λ z. fact z h.row) (sym same) ∙ ap (λ (z : Fact). fact (relation table f.rel).parent z.row) e ∙ sym is) (at_in (fact 0 []) log k there)
