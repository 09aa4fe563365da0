-- Where the facts of a state's log come from, and where the values in them do.
use mathlib.Core.Path.{◌≡◌, refl, sym, ◌∙◌, subst}
use mathlib.Core.List.{List, ◌∷◌, map}
use mathlib.Core.Logic.{inl, inr}
use Prim.Native.Nat.{ℕ, suc, ◌<◌}
use native.Mathlib.Omega.{arith}
use lib.ListN.{length-map}
use Rattle.sheet_format.specs.Line.{gather}
use Rattle.query_meaning.specs.Meaning.{Term, con, Fact, Atom, In, value, row, fact, fact_of, Holds}
use Rattle.query_meaning.specs.Blocks.{View}
use Rattle.query_blocks.proofs.Shape.{in_map, from-map}
use Rattle.case_verdicts.specs.Table.{Table, relation, owed, parents, Formed, Sound}
use Rattle.case_verdicts.specs.Verdict.{Sheet}
use Rattle.case_verdicts.specs.Accepted.{FineTerm, Fine, FineBlock, FineSheet}
use Rattle.case_verdicts.specs.Tableau.{Job, listed, jobs, Copy, later, numbered, State, copy, copy_facts, with_parents, facts, tableau_log}
use Rattle.case_verdicts.proofs.Lists.{in-gather, of_gather}

-- ---- rows owed to parents

of_owed : (p : ℕ) (r : List ℕ) (f : Fact) → In f (owed p r) → (0 < p) × (f ≡ fact p r)
of_owed Prim.Native.Nat.zero r f x' = elim x' [ ]
of_owed (suc p) r f (inr x3) = elim x3 [ ]
of_owed (suc p) r f (inl e) = (omega arith, e)

module _ (table : Table) where
  pub of_parents : (f g : Fact) → In g (parents table f) → (0 < (relation table f.rel).parent) × (g ≡ fact (relation table f.rel).parent f.row)
  of_parents f g m = of_owed (relation table f.rel).parent f.row g m

  -- parents owe no further row
  pub no_grandparent : Sound table → (f g k : Fact) → In g (parents table f) → In k (parents table g) → ⊥
  no_grandparent sound f g k m n =
      let (p, e) = of_parents f g m in
      let z : (relation table g.rel).parent ≡ 0 = subst (λ (h : Fact). (relation table h.rel).parent ≡ 0) (sym e) (sound.parentless f.rel p) in
      let l = (of_parents g k n).0 in
      omega arith

  pub parent-formed : Sound table → (f g : Fact) → Formed table f → In g (parents table f) → Formed table g
  parent-formed sound f g o m =
      let (p, e) = of_parents f g m in
      let c = sound.columns f.rel p in
      subst (Formed table) (sym e) (record { known = subst (λ n. 0 < n) (sym c) o.known; full = o.full ∙ sym c })

-- ---- copies and jobs

pub numbered-job : (js : List Job) (c : Copy) → In c (numbered js) → In c.job js
numbered-job mathlib.Core.List.[] c x' = elim x' [ ]
numbered-job (j ∷ js) c (inl e) = inl (λ i. (e i).job)
numbered-job (j ∷ js) c (inr m) = let (d, n, e) = from-map later (numbered js) c m in inr (subst (λ k. In k.job js) (sym e) (numbered-job js d n))

pub job-numbered : (js : List Job) (j : Job) → In j js → (k : ℕ) × In (record { number = k; job = j }) (numbered js)
job-numbered mathlib.Core.List.[] j x' = elim x' [ ]
job-numbered (i ∷ js) j (inl e) = (0, inl (λ d. record { number = 0; job = e d }))
job-numbered (i ∷ js) j (inr m) = let (k, n) = job-numbered js j m in (suc k, inr (in_map later (numbered js) _ n))

pub of_listed : (x : Sheet) (j : Job) → In j (gather listed x.views)
    → (w : View) × (r : List ℕ) × In w x.views × In r w.rows × (j ≡ record { block = w.block; is = map con r })
of_listed x j m =
    let (w, n, i) = of_gather listed j x.views m in
    let (r, k, e) = from-map (λ r. record { block = w.block; is = map con r }) w.rows j i in
    (w, r, n, k, e)

pub listed_in : (x : Sheet) (w : View) (r : List ℕ) → In w x.views → In r w.rows → In (record { block = w.block; is = map con r }) (jobs x)
listed_in x w r m n = inr (in-gather listed w _ x.views m (in_map (λ r. record { block = w.block; is = map con r }) w.rows r n))

-- ---- the facts of a log

module _ (x : Sheet) (t : State) where
  -- the atom and the copy that f comes from, itself or by its parent
  pub record Origin (f : Fact) : Type 0 where
    pub copy_of : Copy
    pub copied : In copy_of (numbered (jobs x))
    pub atom : Atom
    pub standing : In atom copy_of.job.block.atoms
    pub from : In f (with_parents x.table (fact_of (copy t copy_of.number) atom))

  pub origin : (f : Fact) → In f (tableau_log x t) → Origin f
  unfolding tableau_log
  origin f m =
      let (g, n, i) = of_gather (with_parents x.table) f (facts x t) m in
      let (c, k, h) = of_gather (copy_facts t) g (numbered (jobs x)) n in
      let (a, l, e) = from-map (fact_of (copy t c.number)) c.job.block.atoms g h in
      record { copy_of = c; copied = k; atom = a; standing = l; from = subst (λ z. In f (with_parents x.table z)) e i }

  pub in-log : (f : Fact) → Origin f → In f (tableau_log x t)
  unfolding tableau_log
  in-log f o =
      in-gather (with_parents x.table) (fact_of (copy t o.copy_of.number) o.atom) f (facts x t)
      (in-gather (copy_facts t) o.copy_of _ (numbered (jobs x)) o.copied (in_map (fact_of (copy t o.copy_of.number)) o.copy_of.job.block.atoms o.atom o.standing))
      o.from

  pub copy_holds : (c : Copy) → In c (numbered (jobs x)) → Holds (tableau_log x t) (copy t c.number) c.job.block
  copy_holds c m a n = in-log _ (record { copy_of = c; copied = m; atom = a; standing = n; from = inl refl })

  pub log-parented : Sound x.table → (f : Fact) → In f (tableau_log x t) → (g : Fact) → In g (parents x.table f) → In g (tableau_log x t)
  log-parented sound f m g n = let o = origin f m in go o o.from
    where
      go : (o : Origin f) → In f (with_parents x.table (fact_of (copy t o.copy_of.number) o.atom)) → In g (tableau_log x t)
      go o (inl e) = in-log g (record { copy_of = o.copy_of; copied = o.copied; atom = o.atom; standing = o.standing; from = inr (subst (λ z. In g (parents x.table z)) e n) })
      go o (inr i) = absurd (no_grandparent x.table sound _ f g i n)

-- ---- the values of a log

-- the term that n comes from
pub record Source (x : Sheet) (s : State) (n : ℕ) : Type 0 where
  pub copy_of : Copy
  pub copied : In copy_of (numbered (jobs x))
  pub atom : Atom
  pub standing : In atom copy_of.job.block.atoms
  pub term : Term
  pub written : In term atom.terms
  pub same : n ≡ value (copy s copy_of.number) term

pub source : (x : Sheet) (s : State) (f : Fact) → In f (tableau_log x s) → (n : ℕ) → In n f.row → Source x s n
source x s f m n i =
    let o = origin x s f m in
    let v = copy s o.copy_of.number in
    let (u, j, e) = from-map (value v) o.atom.terms n (subst (λ r. In n r) (same_row o o.from) i) in
    record { copy_of = o.copy_of; copied = o.copied; atom = o.atom; standing = o.standing; term = u; written = j; same = e }
  where
    same_row : (o : Origin x s f) → In f (with_parents x.table (fact_of (copy s o.copy_of.number) o.atom))
        → f.row ≡ row (copy s o.copy_of.number) o.atom.terms
    same_row o (inl e) = λ i. (e i).row
    same_row o (inr p) = let e = (of_parents x.table _ f p).1 in λ i. (e i).row

-- ---- what acceptance says of jobs and copies

pub fine-con : (top : ℕ) (r : List ℕ) → ((n : ℕ) → In n r → n < top) → Fine top (map con r)
fine-con top r small t m = let (n, i, e) = from-map con r t m in subst (FineTerm top) (sym e) (small n i)

module _ (x : Sheet) {top : ℕ} (ok : FineSheet top x) where
  pub job-block : (j : Job) → In j (jobs x) → FineBlock top x.table j.block
  job-block j (inl e) = subst (λ (k : Job). FineBlock top x.table k.block) (sym e) ok.question
  job-block j (inr m) = let (w, r, n, k, e) = of_listed x j m in subst (λ (i : Job). FineBlock top x.table i.block) (sym e) (ok.views w n)

  pub copy-block : (c : Copy) → In c (numbered (jobs x)) → FineBlock top x.table c.job.block
  copy-block c m = job-block c.job (numbered-job (jobs x) c m)

  pub job_is : (j : Job) → In j (jobs x) → Fine top j.is
  job_is j (inl e) = subst (λ (k : Job). Fine top k.is) (sym e) ok.question.head
  job_is j (inr m) = let (w, r, n, k, e) = of_listed x j m in subst (λ (i : Job). Fine top i.is) (sym e) (fine-con top r (ok.rows w n r k))

  pub log-formed : (t : State) (f : Fact) → In f (tableau_log x t) → Formed x.table f
  log-formed t f m = let o = origin x t f m in go o o.from
    where
      formed : (o : Origin x t f) → Formed x.table (fact_of (copy t o.copy_of.number) o.atom)
      formed o =
          let a = (copy-block o.copy_of o.copied).atoms o.atom o.standing in
          record { known = a.known; full = length-map o.atom.terms (value (copy t o.copy_of.number)) ∙ a.full }

      go : (o : Origin x t f) → In f (with_parents x.table (fact_of (copy t o.copy_of.number) o.atom)) → Formed x.table f
      go o (inl e) = subst (Formed x.table) (sym e) (formed o)
      go o (inr i) = parent-formed x.table ok.table _ f (formed o) i
