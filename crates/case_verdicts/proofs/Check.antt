-- It can be decided whether a log is a case. So every accepted sheet has its verdict, with a case to hand over where that is 1.
use mathlib.Core.Path.{◌≡◌, sym, ap, ◌∙◌}
use mathlib.Core.List.{List}
use mathlib.Core.Logic.{◌⊎◌, inl, inr, ⊎_elim}
use Prim.Native.Nat.{ℕ, ◌+◌, ◌*◌, ◌<◌, ◌≤◌}
use native.Mathlib.Omega.{arith}
use lib.ListN.{length, length-map}
use Rattle.query_meaning.specs.Meaning.{Fact, Log, Block, In, value, Answer}
use Rattle.query_meaning.specs.Blocks.{View}
use Rattle.query_meaning.specs.Evaluate.{◌≺◌}
use Rattle.case_verdicts.specs.Table.{Table, relation, parents, Formed, SameKey, Lawful}
use Rattle.case_verdicts.specs.Verdict.{Sheet, Agrees, Agreeing, Case, Covered, NoLog}
use Rattle.case_verdicts.specs.Handed.{SpareFree, Distinct, Stands, Handed}
use Rattle.case_verdicts.specs.Accepted.{width, FineSheet, Safe, Evaluable}
use Rattle.case_verdicts.specs.Tableau.{jobs, tableau_log, head_of, bare}
use Rattle.case_verdicts.specs.Search.{free}
use Rattle.case_verdicts.proofs.Distinct.{once, of_once, in-once, once-distinct}
use Rattle.case_verdicts.proofs.Decide.{same?, less?, fact?, in?, each_or, both_or, or_not, settled_or, ◌≼◌, same_or_below, least-answer, answer?, inside_or}
use Rattle.case_verdicts.proofs.Reduce.{good-case}
use Rattle.case_verdicts.proofs.Shrink.{shrink, same-facts, at_most_size, at-most-twice}
use Rattle.case_verdicts.proofs.Judge.{bare-accepted, bare-safe, says_covered, says_no_log}
use Rattle.case_verdicts.proofs.Run.{GoodState, decided, found-values}

abbrev formed? : (table : Table) (f : Fact) → Formed table f ⊎ (Formed table f → ⊥)
formed? table f = go (less? 0 (relation table f.rel).columns) (same? (length f.row) (relation table f.rel).columns)
  where
    go : (0 < (relation table f.rel).columns) ⊎ ((relation table f.rel).columns ≤ 0) → Dec (length f.row ≡ (relation table f.rel).columns) → Formed table f ⊎ (Formed table f → ⊥)
    go (inl k) (yes e) = inl (record { known = k; full = e })
    go (inl k) (no n) = inr (λ z. n z.full)
    go (inr k) d = inr (λ z. let l = z.known in omega arith)

abbrev settled? : (table : Table) (f g : Fact) → (SameKey table f g → f.row ≡ g.row) ⊎ ((SameKey table f g → f.row ≡ g.row) → ⊥)
settled? table f g = ⊎_elim (λ e. inl e) (λ k. inr (λ z. k.1 (z k.0))) (settled_or table f g)

-- decided by something that says the same
abbrev by_parts : {P Q : Type 0} → (P → Q) → (Q → P) → P ⊎ (P → ⊥) → Q ⊎ (Q → ⊥)
by_parts to from d = ⊎_elim (λ p. inl (to p)) (λ n. inr (λ q. n (from q))) d

abbrev lawful? : (table : Table) (log : Log) → Lawful table log ⊎ (Lawful table log → ⊥)
lawful? table log = by_parts
    (λ p. record { formed = p.0.0; parented = p.0.1; keyed = λ f g m n. p.1 f m g n })
    (λ l. ((l.formed, l.parented), λ f m g n. l.keyed f g m n))
    (both_or (both_or (each_or (Formed table) log (λ f m. formed? table f))
    (each_or (λ f. (g : Fact) → In g (parents table f) → In g log) log (λ f m. each_or (λ g. In g log) (parents table f) (λ g n. or_not (in? fact? g log)))))
    (each_or (λ f. (g : Fact) → In g log → SameKey table f g → f.row ≡ g.row) log (λ f m. each_or (λ g. SameKey table f g → f.row ≡ g.row) log (λ g n. settled? table f g))))

module _ (x : Sheet) (question : Safe x.question) (safe : Evaluable x) (log : Log) where
  abbrev agrees? : (w : View) → In w x.views → Agrees log w ⊎ (Agrees log w → ⊥)
  agrees? w m = by_parts
      (λ p. record { none_more = p.0; none_missing = p.1 })
      (λ a. (a.none_more, a.none_missing))
      (both_or more (each_or (λ r. Answer log w.block r) w.rows (λ r i. answer? log w.block (safe.views w m) r)))
    where
      more : ((r : List ℕ) → Answer log w.block r → In r w.rows) ⊎ (((r : List ℕ) → Answer log w.block r → In r w.rows) → ⊥)
      more = ⊎_elim (λ all. inl all) (λ z. inr (λ all. z.2 (all z.0 z.1))) (inside_or log w.block (safe.views w m) w.rows)

  abbrev agreeing? : Agreeing x log ⊎ (Agreeing x log → ⊥)
  agreeing? = by_parts (λ p. record { lawful = p.0; agrees = p.1 }) (λ a. (a.lawful, a.agrees))
      (both_or (lawful? x.table log) (each_or (Agrees log) x.views agrees?))

  -- the row is an answer of no list
  abbrev Missing : List ℕ → Type 0
  Missing r = (l : Block) → In l x.lists → Answer log l r → ⊥

  abbrev missing? : (r : List ℕ) → Missing r ⊎ (Missing r → ⊥)
  missing? r = each_or (λ l. Answer log l r → ⊥) x.lists (λ l m. ⊎_elim (λ a. inr (λ n. n a)) (λ n. inl n) (answer? log l (safe.lists l m) r))

  abbrev pub case? : ((r : List ℕ) × Case x log r × ((u : List ℕ) → Case x log u → r ≼ u)) ⊎ ((r : List ℕ) → Case x log r → ⊥)
  case? = ⊎_elim (λ a. ⊎_elim (λ z. inl (z.0, record { agreeing = a; asked = z.1; missing = z.2 }, λ u c. z.3 u c.asked c.missing)) (λ none. inr (λ r c. none r c.asked c.missing))
      (least-answer log x.question question Missing missing?))
      (λ n. inr (λ r c. n c.agreeing)) agreeing?

-- ---- the verdict

-- missing answers are as long as the question's head, so the two orders say the same of them
module _ (x : Sheet) (log : Log) where
  case-length : (r : List ℕ) → Case x log r → length r ≡ length x.question.head
  case-length r c = sym (ap length c.asked.gives) ∙ length-map x.question.head (value c.asked.val)

  pub case-below : (r u : List ℕ) → Case x log r → Case x log u → r ≼ u → (r ≡ u) ⊎ (r ≺ u)
  case-below r u c d h = same_or_below r u (case-length r c ∙ sym (case-length u d)) h

-- the log's values stand in the sheet or are made up, from top to below end
abbrev pub MadeUp : ℕ → ℕ → Sheet → Log → Type 0
MadeUp top end x log = (f : Fact) → In f log → (n : ℕ) → In n f.row → Stands x n ⊎ ((top ≤ n) × (n < end))

-- the number of facts need not be shown of a case, the rest is enough to hand it over
abbrev pub handed : (x : Sheet) {top end : ℕ} → FineSheet top x → (log : Log) (a : List ℕ) → Case x log a → ((r : List ℕ) → Case x log r → (a ≡ r) ⊎ (a ≺ r))
    → SpareFree x log → Distinct log → MadeUp top end x log → Handed top end x
handed x ok log a k least spare_free distinct values = record {
  log = log;
  answer = a;
  is = k;
  least = least;
  spare_free = spare_free;
  distinct = distinct;
  most = at_most_size x ok log a k spare_free distinct;
  most_with_parents = at-most-twice x ok log a k spare_free distinct;
  values = values;
}

-- `room`: there is a made-up value for each slot
module _ (x : Sheet) {top end : ℕ} (room : top + length (jobs x) * width ≤ end) (ok : FineSheet top x) (question : Safe x.question) (safe : Evaluable x) where
  -- from any case whose values are in range
  abbrev pub hand_over : (log : Log) (a : List ℕ) → Case x log a → MadeUp top end x log → Handed top end x
  hand_over log a k values =
      let s = shrink x (λ l. ⊎_elim (λ z. inl (z.0, z.1)) (λ n. inr n) (case? x question safe l)) (once fact? log) a (once-distinct fact? log)
      (same-facts x log (once fact? log) a (record { at = λ f m. in-once fact? f log m }) (record { at = λ f m. of_once fact? f log m }) k) in
      ⊎_elim (λ z. handed x ok s.rest z.0 z.1 (λ r c. case-below x s.rest z.0 r z.1 c (z.2 r c)) s.spare_free s.distinct
      (λ f m. values f (of_once fact? f log (s.within.at f m))))
      (λ none. absurd (none s.answer s.still)) (case? x question safe s.rest)

  pub found-made-up : (g : GoodState x (free top)) → MadeUp top end x (tableau_log x g.state)
  found-made-up g f m n i = ⊎_elim (λ c. inl c) (λ r. inr (r.0, let lt = r.1 in omega arith)) (found-values x ok g f m n i)

  -- one of the three
  abbrev pub judged : Covered x ⊎ (Handed top end x ⊎ NoLog x)
  judged = ⊎_elim
      (λ g. inr (inl (hand_over (tableau_log x g.state) (head_of x g.state) (good-case x ok g.state g.good) (found-made-up g))))
      (λ z. ⊎_elim (λ g. inl (says_covered ok z g.good)) (λ y. inr (inr (says_no_log ok y))) (decided (bare x) (bare-accepted ok) (bare-safe safe)))
      (decided x ok safe)
