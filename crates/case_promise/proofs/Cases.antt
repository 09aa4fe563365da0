-- A log in plain numbers is a case exactly when its numbers are one, and the least missing row is the least missing answer.
use mathlib.Core.Path.{◌≡◌, sym, ap, ◌∙◌, subst}
use mathlib.Core.Bool.{true}
use mathlib.Core.List.{List}
use mathlib.Core.Logic.{◌⊎◌, inl, inr, ⊎_elim}
use Prim.Native.Nat.{ℕ, ◌+◌, ◌<◌, min}
use native.Mathlib.Omega.{arith}
use lib.IntN.{pos}
use lib.ListN.{length}
use Rattle.tableau_layout.specs.Layout.{question_block, list_block, view_block}
use Rattle.sheet_format.specs.Limits.{most_atoms}
use Rattle.list_laws.specs.Order.{◌⊏◌}
use Rattle.sheet_format.specs.Table.{columns_of}
use Rattle.query_meaning.specs.Meaning.{Fact, Log, Block, In, Answer}
use Rattle.query_meaning.specs.Blocks.{View, nth}
use Rattle.query_meaning.specs.Evaluate.{◌≺◌}
use Rattle.query_join.specs.Joins.{Given}
use Rattle.query_encoding.specs.Encoding.{BlockNumbers, FactNumbers, Shaped, ShapedLog, padded}
use Rattle.query_encoding.proofs.Bridge.{answer-given, given-answer, head-length}
use Rattle.query_encoding.proofs.Order.{pad_more, pad_same}
use Rattle.case_verdicts.specs.Table.{Table, SameKey, Lawful}
use Rattle.case_verdicts.specs.Verdict.{Sheet, Agreeing, Case}
use Rattle.tableau_plan.specs.Plan.{row_at, row_values, saved_list_at, view_count, block_numbers, block_size}
use Rattle.tableau_parts.specs.Views.{GivenAt, NoStray, AllGiven, Agree, Missing, LeastMissing}
use Rattle.case_minimization.specs.Minimization.{Parented, IsCase}
use Rattle.search_task.specs.Task.{ReadyPlan}
use Rattle.search_task.proofs.Node.{in-nth, none-stray}
use Rattle.tableau_plan.proofs.Whole.{nth_in}
use Rattle.search_task.proofs.ReadyLaws.{ready_task}
use Rattle.search_task.proofs.NodeLaws.{list_in, list_index, list-shaped}
use Rattle.search_task.specs.declared.Goal.TheVariants.{Counterexample}
use Rattle.case_promise.proofs.Owed.{parented-numbers, numbers-parented}

-- each relation is one of the table's
abbrev pub KnownLog : Table → Log → Type 0
KnownLog table log = (f : Fact) → In f log → 0 < columns_of table (pos f.rel)

-- rows alike in a key are alike: dropping facts cannot change it
abbrev pub KeyedLog : Table → Log → Type 0
KeyedLog table log = (f g : Fact) → In f log → In g log → SameKey table f g → f.row ≡ g.row

-- ---- a block's answers and the rows that it is given

module _ (p : List ℕ) (b : ℕ) {table : Table} {blk : Block} (bn : BlockNumbers (block_numbers p b) (block_size p b) blk) (sb : Shaped table blk) {ns : List ℕ} {log : Log} (fn : FactNumbers ns log) where
  six : min (block_size p b) most_atoms ≡ block_size p b
  six = let f = bn.few in omega arith

  given-at : (t : List ℕ) → Answer log blk t → GivenAt p b ns (padded t)
  given-at t a = subst (λ n. Given (block_numbers p b) n ns (padded t)) (sym six) (answer-given bn sb fn a)

  answer_at : ShapedLog table log → (u : List ℕ) → GivenAt p b ns u → (t : List ℕ) × (u ≡ padded t) × Answer log blk t
  answer_at sl u g = given-answer bn sb fn sl (subst (λ n. Given (block_numbers p b) n ns u) six g)

  answer_of : ShapedLog table log → (t : List ℕ) → length t ≡ length blk.head → GivenAt p b ns (padded t) → Answer log blk t
  answer_of sl t len g =
      let (s, e, a) = answer_at sl (padded t) g in
      subst (Answer log blk) (sym (pad_same t s (len ∙ sym (head-length a)) e)) a

module _ (p : List ℕ) (x : Sheet) (r : ReadyPlan p x) {ns : List ℕ} {log : Log} (fn : FactNumbers ns log) (sh : ShapedLog x.table log) where
  -- ---- agreeing

  agree : Agreeing x log → Agree p ns
  agree a = (all-given, no_stray)
    where
      view_in : (v : ℕ) → v < view_count p → In (nth x.views v) x.views
      view_in v lt = let c = r.plan.views in nth_in x.views v (omega arith)

      all-given : AllGiven p ns
      all-given i lt =
          let o = r.plan.rows i lt in
          let v = row_at p i 0 in
          subst (GivenAt p (view_block v) ns) (sym o.values)
          (given-at p (view_block v) (r.plan.view v o.view) (r.views v o.view) fn o.row
          ((a.agrees (nth x.views v) (view_in v o.view)).none_missing o.row o.listed))

      no_stray : NoStray p ns
      no_stray v lt u g =
          let (t, e, b) = answer_at p (view_block v) (r.plan.view v lt) (r.views v lt) fn sh u g in
          let (i, li, f, q) = r.plan.every_row v lt t ((a.agrees (nth x.views v) (view_in v lt)).none_more t b) in
          (i, li, f, q ∙ sym e)

  lawful : KnownLog x.table log → KeyedLog x.table log → Parented p ns → Lawful x.table log
  unfolding columns_of
  lawful known keyed owed = record {
    formed = λ f m. record { known = known f m; full = (sh f m).0 };
    parented = numbers-parented p r.plan.table fn r.accepted.table sh owed;
    keyed = keyed;
  }

  agreeing : KnownLog x.table log → KeyedLog x.table log → Parented p ns → Agree p ns → Agreeing x log
  agreeing known keyed owed (all, none) = record {
    lawful = lawful known keyed owed;
    agrees = λ w m. record { none_more = none-stray p x x r.plan (ready_task p x r Counterexample) log ns fn none w m; none_missing = given w m };
  }
    where
      given : (w : View) → In w x.views → (t : List ℕ) → In t w.rows → Answer log w.block t
      given w m t i =
          let (v, lt, e) = in-nth x.views w m in
          let c = r.plan.views in
          let k : v < view_count p = omega arith in
          let (j, lj, f, q) = r.plan.every_row v k t (subst (λ (u : View). In t u.rows) e i) in
          let g = subst (λ n. GivenAt p (view_block n) ns (row_values p j)) f (all j lj) in
          subst (λ (u : View). Answer log u.block t) (sym e)
          (answer_of p (view_block v) (r.plan.view v k) (r.views v k) fn sh t (r.accepted.lengths w m t i ∙ ap (λ (u : View). length u.block.head) e) (subst (GivenAt p (view_block v) ns) q g))

  -- ---- missing

  case-length : (a : List ℕ) → Case x log a → length a ≡ length x.question.head
  case-length a c = head-length c.asked

  missing : (a : List ℕ) → Case x log a → Missing p ns (padded a)
  missing a c = record {
    asked = given-at p question_block r.plan.question r.question fn a c.asked;
    lacked = λ o.
        let (i, lt, g) = o in
        let m = list_in p x r i lt in
        c.missing (saved_list_at x i) m (answer_of p (list_block i) (r.plan.list i lt) (list-shaped p x r i lt) fn sh a (case-length a c ∙ sym (r.lists (saved_list_at x i) m).1) g);
  }

  -- the numbers of a case
  pub case-numbers : (a : List ℕ) → Case x log a → IsCase p ns
  case-numbers a c = (agree c.agreeing, (padded a, missing a c), parented-numbers p r.plan.table fn c.agreeing.lawful.parented)

  module _ (known : KnownLog x.table log) (keyed : KeyedLog x.table log) where
    case_of : Agree p ns → Parented p ns → (u : List ℕ) → Missing p ns u → (a : List ℕ) × (u ≡ padded a) × Case x log a
    case_of ag owed u m =
        let (a, e, b) = answer_at p 0 r.plan.question r.question fn sh u m.asked in (
          a,
          e,
          record {
            agreeing = agreeing known keyed owed ag;
            asked = b;
            missing = λ l i c.
                let (j, lt, f) = list_index p x r l i in
                m.lacked (j, lt, subst (GivenAt p (list_block j) ns) (sym e) (given-at p (list_block j) (r.plan.list j lt) (list-shaped p x r j lt) fn a (subst (λ k. Answer log k a) (sym f) c)));
          },
        )

    -- and back
    pub numbers-case : IsCase p ns → (a : List ℕ) × Case x log a
    numbers-case (ag, (u, m), owed) = let (a, e, c) = case_of ag owed u m in (a, c)

    -- the least missing row is the least answer that the log is a case for
    pub least-case : Agree p ns → Parented p ns → (u : List ℕ) → LeastMissing p ns u → (a : List ℕ) × (u ≡ padded a) × Case x log a × ((b : List ℕ) → Case x log b → (a ≡ b) ⊎ (a ≺ b))
    least-case ag owed u m =
        let (a, e, c) = case_of ag owed u m.missing in (
          a,
          e,
          c,
          λ b d.
              let len = case-length a c ∙ sym (case-length b d) in
              ⊎_elim
              (λ q. inl (pad_same a b len (sym e ∙ sym q)))
              (λ q. inr (pad_more a b len (subst (λ w. w ⊏ padded b) e q)))
              (m.least (padded b) (missing b d)),
        )
