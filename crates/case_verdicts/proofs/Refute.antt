-- The rules of a search. What is wrong with a state leaves alternatives for all that is good below it; refute them, and the state is refuted.
use mathlib.Core.Path.{◌≡◌, refl, sym, ap, ◌∙◌, subst}
use mathlib.Core.List.{List, [], ◌∷◌, map, ◌++◌}
use mathlib.Core.Logic.{◌⊎◌, inl, inr, ⊎_elim}
use Prim.Native.Nat.{ℕ, zero, suc, ◌<◌}
use native.Mathlib.Omega.{arith}
use lib.ListN.{take}
use Rattle.query_meaning.specs.Meaning.{Term, con, var, Fact, Log, Apart, Block, In, value, row, fact, Holds, Differ, Answer}
use Rattle.query_meaning.specs.Blocks.{View}
use Rattle.query_blocks.proofs.Shape.{in_map}
use Rattle.case_verdicts.specs.Table.{Table, relation, owed, parents, SameKey}
use Rattle.case_verdicts.specs.Verdict.{Sheet, Case}
use Rattle.case_verdicts.specs.Accepted.{FineTerm, FineBlock, Fine, FineSheet}
use Rattle.case_verdicts.specs.Tableau.{jobs, Copy, numbered, State, copy, with_parents, tableau_log, head_of}
use Rattle.case_verdicts.specs.Search.{Keeps, Below, free, Refuted, Equation, ◌≈◌, equations, Met, RefutedBy, Alternatives, lines, Unifier, Clash, after}
use Rattle.case_verdicts.proofs.Lists.{in_left, in_right, in-cases}
use Rattle.case_verdicts.proofs.Laws.{renamed, row-renamed}
use Rattle.case_verdicts.proofs.Decide.{same?, all_or}
use Rattle.case_verdicts.proofs.Tableau.{origin, in-log, of_parents, numbered-job, copy-block, job_is}
use Rattle.case_verdicts.proofs.Reduce.{case-good}
use Rattle.case_verdicts.proofs.Unify.{below-unified, all-below}

-- ---- facts and answers of a state, further down

in-owed : (p : ℕ) (r : List ℕ) → 0 < p → In (fact p r) (owed p r)
in-owed zero r h = absurd (omega arith)
in-owed (suc p) r h = inl refl

renamed-parents : (table : Table) (h : ℕ → ℕ) (f g : Fact) → In f (with_parents table g) → In (renamed h f) (with_parents table (renamed h g))
renamed-parents table h f g (inl e) = inl (ap (renamed h) e)
renamed-parents table h f g (inr m) =
    let (p, e) = of_parents table g f m in
    inr (subst (λ k. In k (parents table (renamed h g))) (sym (ap (renamed h) e)) (in-owed (relation table g.rel).parent (map h g.row) p))

keep_value : (top : ℕ) (h v : ℕ → ℕ) → Keeps top h → (u : Term) → FineTerm top u → value (λ n. h (v n)) u ≡ h (value v u)
keep_value top h v k (con c) f = sym (k c f)
keep_value top h v k (var y) f = refl

module _ (x : Sheet) {top : ℕ} (ok : FineSheet top x) {s t : State} (b : Below top s t) where
  copy-value : (k : ℕ) (u : Term) → FineTerm top u → value (copy t k) u ≡ b.to (value (copy s k) u)
  copy-value k (con c) f = sym (b.keeps c f)
  copy-value k (var y) f = sym (b.at _)

  copy-row : (k : ℕ) (ts : List Term) → Fine top ts → row (copy t k) ts ≡ map b.to (row (copy s k) ts)
  copy-row k ts fine = row-renamed b.to (copy s k) (copy t k) ts (λ u m. copy-value k u (fine u m))

  fact-below : (f : Fact) → In f (tableau_log x s) → In (renamed b.to f) (tableau_log x t)
  fact-below f m =
      let o = origin x s f m in
      let e = copy-row o.copy_of.number o.atom.terms ((copy-block x ok o.copy_of o.copied).atoms o.atom o.standing).terms in
      in-log x t _ (record {
        copy_of = o.copy_of;
        copied = o.copied;
        atom = o.atom;
        standing = o.standing;
        from = subst (λ r. In (renamed b.to f) (with_parents x.table (fact o.atom.rel r))) (sym e) (renamed-parents x.table b.to f _ o.from);
      })

  answer-below : (c : Block) → FineBlock top x.table c → (v : ℕ → ℕ) → Holds (tableau_log x s) v c → Differ (λ n. b.to (v n)) c
      → Answer (tableau_log x t) c (map b.to (row v c.head))
  answer-below c fine v holds differ = record {
    val = λ n. b.to (v n);
    holds = λ a m. subst (λ r. In (fact a.rel r) (tableau_log x t))
        (sym (row-renamed b.to v _ a.terms (λ u i. keep_value top b.to v b.keeps u ((fine.atoms a m).terms u i)))) (fact-below _ (holds a m));
    differ = differ;
    gives = row-renamed b.to v _ c.head (λ u i. keep_value top b.to v b.keeps u (fine.head u i));
  }

-- under h each line still has two values, or some line has one
differ_or : (top : ℕ) (h v : ℕ → ℕ) → Keeps top h → (b : Block) → ((d : Apart) → In d b.apart → FineTerm top d.left × FineTerm top d.right)
    → Differ (λ n. h (v n)) b ⊎ ((d : Apart) × In d b.apart × (h (value v d.left) ≡ h (value v d.right)))
differ_or top h v k b fine = all_or (λ d. value (λ n. h (v n)) d.left ≡ value (λ n. h (v n)) d.right → ⊥) b.apart (λ d m. go d m (same? _ _))
  where
    go : (d : Apart) → In d b.apart → Dec (h (value v d.left) ≡ h (value v d.right))
        → (value (λ n. h (v n)) d.left ≡ value (λ n. h (v n)) d.right → ⊥) ⊎ ((d : Apart) × In d b.apart × (h (value v d.left) ≡ h (value v d.right)))
    go d m (yes e) = inr (d, m, e)
    go d m (no n) = inl (λ q. n (sym (keep_value top h v k d.left (fine d m).0) ∙ q ∙ keep_value top h v k d.right (fine d m).1))

-- ---- what is wrong with a state, and what it leaves

met-equations : (h : ℕ → ℕ) (ms ns : List ℕ) → map h ms ≡ map h ns → Met h (equations ms ns)
met-equations h [] ns e f m = absurd m
met-equations h (m ∷ ms) [] e f i = absurd i
met-equations h (m ∷ ms) (n ∷ ns) e f (inl p) =
    let q : h m ≡ h n = cc in
    ap (λ (z : Equation). h z.left) p ∙ q ∙ sym (ap (λ (z : Equation). h z.right) p)
met-equations h (m ∷ ms) (n ∷ ns) e f (inr i) = met-equations h ms ns (cc) f i

kept_row : (top : ℕ) (h : ℕ → ℕ) → Keeps top h → (r : List ℕ) → ((n : ℕ) → In n r → n < top) → map h r ≡ r
kept_row top h k [] small = refl
kept_row top h k (n ∷ r) small = λ i. k n (small n (inl refl)) i ∷ kept_row top h k r (λ m j. small m (inr j)) i

take-map : (h : ℕ → ℕ) (k : ℕ) (r : List ℕ) → take k (map h r) ≡ map h (take k r)
take-map h zero r = refl
take-map h (suc k) [] = refl
take-map h (suc k) (n ∷ r) = ap (λ l. h n ∷ l) (take-map h k r)

module _ (x : Sheet) {top : ℕ} (ok : FineSheet top x) (s : State) where
  -- the block keeps its answer further down, unless one of its lines breaks there
  gives_or_breaks : (c : Block) → FineBlock top x.table c → (v : ℕ → ℕ) → Holds (tableau_log x s) v c → {t : State} (b : Below top s t)
      → Answer (tableau_log x t) c (map b.to (row v c.head)) ⊎ ((alt : List Equation) × In alt (lines v c) × Met b.to alt)
  gives_or_breaks c fine v holds b =
      ⊎_elim (λ differ. inl (answer-below x ok b c fine v holds differ)) (λ z. inr (broken z.0 z.1 z.2)) (differ_or top b.to v b.keeps c fine.apart)
    where
      broken : (d : Apart) → In d c.apart → b.to (value v d.left) ≡ b.to (value v d.right) → (alt : List Equation) × In alt (lines v c) × Met b.to alt
      broken d m e = (
        _,
        in_map (λ d. (value v d.left ≈ value v d.right) ∷ []) c.apart d m,
        λ f i. ⊎_elim (λ p. ap (λ (z : Equation). b.to z.left) p ∙ e ∙ sym (ap (λ (z : Equation). b.to z.right) p)) absurd i,
      )

  -- a list gives the missing answer: some line of the list breaks (the base has no lines, so nothing is left)
  pub list-gives : (l : Block) → In l x.lists → (v : ℕ → ℕ) → Holds (tableau_log x s) v l → row v l.head ≡ head_of x s → Alternatives top x s (lines v l)
  list-gives l m v holds e = record {
    one = λ t b good.
        ⊎_elim (λ a. absurd (good.missing l m (subst (Answer (tableau_log x t) l) (ap (map b.to) e ∙ sym (copy-row x ok b 0 x.question.head ok.question.head)) a))) (λ z. z)
        (gives_or_breaks l (ok.lists l m) v holds b);
  }

  -- a view gives the row: it becomes one of the listed rows, or some line of the view breaks
  pub view-gives : (w : View) → In w x.views → (v : ℕ → ℕ) → Holds (tableau_log x s) v w.block
      → Alternatives top x s (map (equations (row v w.block.head)) w.rows ++ lines v w.block)
  view-gives w m v holds = record {
    one = λ t b good.
        ⊎_elim (λ a. fits b (good.none_more w m _ a)) (λ z. (z.0, in_right z.0 (map (equations (row v w.block.head)) w.rows) (lines v w.block) z.1, z.2))
        (gives_or_breaks w.block (ok.views w m) v holds b);
  }
    where
      fits : {t : State} (b : Below top s t) → In (map b.to (row v w.block.head)) w.rows
          → (alt : List Equation) × In alt (map (equations (row v w.block.head)) w.rows ++ lines v w.block) × Met b.to alt
      fits b i =
          let r = map b.to (row v w.block.head) in (
            _,
            in_left _ (map (equations (row v w.block.head)) w.rows) (lines v w.block) (in_map (equations (row v w.block.head)) w.rows r i),
            met-equations b.to (row v w.block.head) r (sym (kept_row top b.to b.keeps r (ok.rows w m r i))),
          )

  -- two facts with one key: their rows become one
  pub same_key : (f g : Fact) → In f (tableau_log x s) → In g (tableau_log x s) → SameKey x.table f g → Alternatives top x s (equations f.row g.row ∷ [])
  same_key f g m n k = record {
    one = λ t b good.
        let n-key = (relation x.table f.rel).key in (
          _,
          inl refl,
          met-equations b.to f.row g.row (good.keyed _ _ (fact-below x ok b f m) (fact-below x ok b g n)
              (record { rel = k.rel; some = k.some; first = take-map b.to n-key f.row ∙ ap (map b.to) k.first ∙ sym (take-map b.to n-key g.row) })),
        );
  }

  -- the head of a copy: it becomes what it must be
  pub copy_gives : (c : Copy) → In c (numbered (jobs x))
      → Alternatives top x s (equations (row (copy s c.number) c.job.block.head) (row (copy s c.number) c.job.is) ∷ [])
  copy_gives c m = record {
    one = λ t b good.
        let h = c.job.block.head in
        let i = c.job.is in (
          _,
          inl refl,
          met-equations b.to (row (copy s c.number) h) (row (copy s c.number) i)
              (sym (copy-row x ok b c.number h (copy-block x ok c m).head) ∙ (good.meets c m).gives ∙ copy-row x ok b c.number i (job_is x ok c.job (numbered-job (jobs x) c m))),
        );
  }

  -- a line of a copy has one value twice: nothing is left
  pub line-broken : (c : Copy) → In c (numbered (jobs x)) → (d : Apart) → In d c.job.block.apart
      → value (copy s c.number) d.left ≡ value (copy s c.number) d.right → Alternatives top x s []
  line-broken c m d i e = record {
    one = λ t b good.
        let (l, r) = (copy-block x ok c m).apart d i in
        absurd ((good.meets c m).differ d i (copy-value x ok b c.number d.left l ∙ ap b.to e ∙ sym (copy-value x ok b c.number d.right r)));
  }

-- ---- the rules

module _ {top : ℕ} {x : Sheet} {s : State} where
  pub step : {alts : List (List Equation)} → Alternatives top x s alts → ((alt : List Equation) → In alt alts → RefutedBy top x s alt) → Refuted top x s
  step must each = record { none = λ t b good. let (alt, m, met) = must.one t b good in (each alt m).none t b met good }

  pub none_left : Alternatives top x s [] → Refuted top x s
  none_left must = step must (λ alt m. absurd m)

  pub unified : {r : ℕ → ℕ} {es : List Equation} → Unifier top r es → Refuted top x (after r s) → RefutedBy top x s es
  unified u out = record { none = λ t b met good. out.none t (below-unified u b met) good }

  pub clashed : {es : List Equation} → Clash top es → RefutedBy top x s es
  clashed c = record { none = λ t b met good. c.none b.to b.keeps met }

  -- equations may be added to a refutation: what was not used need not be looked at again
  pub fewer : {fs es : List Equation} → ((e : Equation) → In e fs → In e es) → RefutedBy top x s fs → RefutedBy top x s es
  fewer sub out = record { none = λ t b met good. out.none t b (λ e m. met e (sub e m)) good }

  -- the state is wrong by fs alone, and its alternatives are refuted with gs: so fs and gs are refuted, without the others
  pub learn : {r : ℕ → ℕ} {fs gs : List Equation} {alts : List (List Equation)} → Unifier top r fs → Alternatives top x (after r s) alts
      → ((alt : List Equation) → In alt alts → RefutedBy top x s (alt ++ gs)) → RefutedBy top x s (fs ++ gs)
  learn {r} {fs} {gs} u must each = record {
    none = λ t b met good.
        let (alt, m, have) = must.one t (below-unified u b (λ e i. met e (in_left e fs gs i))) good in
        (each alt m).none t b (λ e i. ⊎_elim (have e) (λ j. met e (in_right e fs gs j)) (in-cases e alt gs i)) good;
  }

-- ---- the end of a search

-- no case, whatever its values, where the first state is refuted
pub no-case : (x : Sheet) {top : ℕ} → FineSheet top x → Refuted top x (free top) → (log : Log) (a : List ℕ) → Case x log a → ⊥
no-case x {top} ok out log a k = let i = case-good x ok log a k in out.none i.state (all-below top i.state) i.good
