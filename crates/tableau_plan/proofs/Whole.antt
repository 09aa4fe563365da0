-- Blocks, rows, tableau and counts together are the plan of an accepted sheet. Assumes nothing.
use mathlib.Core.Path.{◌≡◌, refl, sym, ap, ◌∙◌, subst}
use mathlib.Core.List.{List, [], ◌∷◌, map}
use mathlib.Core.Logic.{inl, inr}
use Prim.Native.Nat.{ℕ, zero, suc, ◌+◌, ◌-◌, ◌*◌, ◌<◌, ◌≤◌}
use native.Mathlib.Omega.{arith}
use lib.ListN.{length, get_or, length-map, length-append}
use lib.Seq.{get_or-append-add}
use Rattle.tableau_layout.specs.Layout.{blocks_at, most_blocks, plan_numbers, rows_at, sizes_at, tableau_atoms, tableau_size_at, question_block, list_block, view_block}
use Rattle.sheet_format.specs.Limits.{most_rows}
use Rattle.query_encoding.proofs.Lists.{at_in}
use Rattle.sheet_format.specs.Line.{Line, gather}
use Rattle.sheet_format.specs.Table.{Table, relation}
use Rattle.sheet_format.specs.Cause.{refusal_of}
use Rattle.query_meaning.specs.Meaning.{Term, con, Atom, Block, In}
use Rattle.query_meaning.specs.Blocks.{View, blocks, nth}
use Rattle.query_encoding.specs.Encoding.{BlockNumbers, FactNumbers, padded}
use Rattle.case_verdicts.specs.Verdict.{Sheet}
use Rattle.case_verdicts.specs.Handed.{row_atoms}
use Rattle.case_verdicts.specs.Accepted.{Fine}
use Rattle.case_verdicts.specs.Sheets.{top, is_view_kind, sheet_of}
use Rattle.case_verdicts.specs.Tableau.{Job, State, listed, jobs, tableau_log, bare}
use Rattle.case_verdicts.proofs.Lists.{total, total-each, total_append, total-map}
use Rattle.case_verdicts.proofs.Order.{lists_few, block-count}
use Rattle.case_verdicts.proofs.Sizes.{accepted-size}
use Rattle.case_verdicts.proofs.Accepted.{asked-fine, listed-fine}
use Rattle.tableau_plan.specs.Plan.{row_at, row_values, block_numbers, block_size, tableau_size, asked_size, row_count, view_count, list_count, plan_table, saved_list_at, tableau_facts, RowOf, Plan}
use Rattle.tableau_plan.specs.Parts.{KeptOutside, Blocks, ViewRow, unlisted, rows_from, RowNumbers, RowsDone, source_of, empty_block, PlacedAtom, unplaced, owed_atoms, with_owed, own_atoms, atoms_from, Sources, PlacedNumbers, TableauDone, Closed}
use Rattle.query_blocks.specs.Parts.{AcceptedLines}
use Rattle.tableau_plan.proofs.Blocks.{accepted-views, numbers-same}
use Rattle.tableau_plan.proofs.Rows.{flat_from, rows_walked, job_of, views-all, view-jobs, OfView, flat_of, flat_place}
use Rattle.tableau_plan.proofs.Taken.{row_same, all-taken}
use Rattle.tableau_plan.proofs.Tableau.{placed-facts, log-placed, bare-placed}
use Rattle.tableau_plan.proofs.Copies.{sources-kept, placed_same, copies-start, copies_length, copies-all}

-- ---- lists

map_get : {A B : Type 0} (f : A → B) (d : A) (e : B) (l : List A) (i : ℕ) → i < length l → get_or (map f l) i e ≡ f (get_or l i d)
map_get f d e [] i h = absurd (omega arith)
map_get f d e (x ∷ l) zero h = refl
map_get f d e (x ∷ l) (suc i) h = map_get f d e l i (omega arith)

pub nth_in : (ws : List View) (j : ℕ) → j < length ws → In (nth ws j) ws
nth_in [] j h = absurd (omega arith)
nth_in (w ∷ ws) zero h = inl refl
nth_in (w ∷ ws) (suc j) h = inr (nth_in ws j (omega arith))

-- ---- how many atoms there are

abbrev job_size : Job → ℕ
job_size j = length j.block.atoms

owed-few : (n : ℕ) (ts : List Term) → length (owed_atoms n ts) ≤ 1
owed-few zero ts = omega arith
owed-few (suc n) ts = omega arith

-- each owes at most one
own-few : (table : Table) (l : List Atom) → length (gather (with_owed table) l) ≤ length l * 2
own-few table [] = omega arith
own-few table (a ∷ l) =
    let e = length-append (with_owed table a) (gather (with_owed table) l) in
    let o = owed-few (relation table a.rel).parent a.terms in
    let r = own-few table l in
    omega arith

atoms-few : (table : Table) (k : ℕ) (js : List Job) → length (atoms_from table k (map (λ (j : Job). j.block) js)) ≤ total job_size js * 2
atoms-few table k [] = omega arith
atoms-few table k (j ∷ js) =
    let a = length-append (own_atoms table k j.block.atoms) (atoms_from table (suc k) (map (λ (j : Job). j.block) js)) in
    let b : length (own_atoms table k j.block.atoms) ≡ length (gather (with_owed table) j.block.atoms) = length-map (gather (with_owed table) j.block.atoms) _ in
    let c = own-few table j.block.atoms in
    let d = atoms-few table (suc k) js in
    omega arith

view-size : (w : View) → total job_size (listed w) ≡ length w.rows * length w.block.atoms
view-size w = total-map job_size (λ r. record { block = w.block; is = map con r }) w.rows ∙ total-each (length w.block.atoms) w.rows

rows-size : (ws : List View) → total job_size (gather listed ws) ≡ row_atoms ws
rows-size [] = refl
rows-size (w ∷ ws) =
    let a = total_append job_size (listed w) (gather listed ws) in
    let b = view-size w in
    let c = rows-size ws in
    omega arith

-- ---- the parts

-- numbers that are the same from the rows on to the counts
record SameFrom (q p : List ℕ) (from : ℕ) : Type 0 where
  long : length q ≡ plan_numbers
  long_too : length p ≡ plan_numbers
  same : (y : ℕ) → from ≤ y → y < tableau_size_at → get_or p y 0 ≡ get_or q y 0

block-moved : (q p : List ℕ) (b : ℕ) (k : Block) → b < most_blocks → SameFrom q p blocks_at → BlockNumbers (block_numbers q b) (block_size q b) k → BlockNumbers (block_numbers p b) (block_size p b) k
block-moved q p b k lt a h =
    subst (λ z. BlockNumbers (block_numbers p b) z k) (sym (a.same (sizes_at + b) (omega arith) (omega arith)))
    (numbers-same q p b (λ z. BlockNumbers z (block_size q b) k) a.long a.long_too lt (λ y g w. a.same y (omega arith) (omega arith)) h)

module _ (table : Table) (ls : List Line) (clean : (refusal_of table ls).number ≡ 0) where
  ok : AcceptedLines ls
  ok = (table, clean)

  abbrev sheet : Sheet
  sheet = sheet_of table ls

  abbrev views : List View
  views = blocks is_view_kind ls

  abbrev rest : List Job
  rest = gather listed views

  abbrev block_list : List Block
  block_list = map (λ (j : Job). j.block) (jobs sheet)

  -- the rows by the lines are the jobs after the question's
  rest-is : rest ≡ map (job_of (nth views)) (rows_from 0 ls)
  rest-is = view-jobs (nth views) 0 views (views-all views) ∙ ap (map (job_of (nth views))) (sym (rows_walked ls ok))

  rest-length : length rest ≡ length (rows_from 0 ls)
  rest-length = ap length rest-is ∙ length-map (rows_from 0 ls) (job_of (nth views))

  rest_at : (i : ℕ) → i < length (rows_from 0 ls) → (d : Job) → get_or rest i d ≡ job_of (nth views) (get_or (rows_from 0 ls) i unlisted)
  rest_at i h d = ap (λ l. get_or l i d) rest-is ∙ map_get (job_of (nth views)) unlisted d (rows_from 0 ls) i h

  row_of : (i : ℕ) → i < length (rows_from 0 ls) → OfView (nth views) (length views) (get_or (rows_from 0 ls) i unlisted)
  row_of i h =
      let z : 0 + length views ≡ length views = omega arith in
      let m : In (get_or (rows_from 0 ls) i unlisted) (flat_from 0 views) = subst (λ l. In (get_or (rows_from 0 ls) i unlisted) l) (rows_walked ls ok) (at_in unlisted (rows_from 0 ls) i h) in
      subst (λ e. OfView (nth views) e (get_or (rows_from 0 ls) i unlisted)) z (flat_of (nth views) 0 views (views-all views) (get_or (rows_from 0 ls) i unlisted) m)

  list_length : length block_list ≡ suc (length (rows_from 0 ls))
  list_length = length-map (jobs sheet) (λ (j : Job). j.block) ∙ ap suc rest-length

  list_at : (i : ℕ) → i < length (rows_from 0 ls) → get_or block_list (suc i) empty_block ≡ (nth views (get_or (rows_from 0 ls) i unlisted).view).block
  list_at i h =
      let e = rest-length in
      let d : Job = record { block = empty_block; is = [] } in
      map_get (λ (j : Job). j.block) d empty_block rest i (omega arith) ∙ ap (λ (j : Job). j.block) (rest_at i h d)

  few-atoms : length (atoms_from table 0 block_list) ≤ tableau_atoms
  few-atoms =
      let a = atoms-few table 0 (jobs sheet) in
      let b = rows-size views in
      let c = accepted-size table ls clean in
      omega arith

  question-fine : (a : Atom) → In a sheet.question.atoms → Fine top a.terms
  question-fine a m = ((asked-fine table ls clean).atoms a m).terms

  view-fine : (j : ℕ) → j < length views → (a : Atom) → In a (nth views j).block.atoms → Fine top a.terms
  view-fine j h a m = ((listed-fine table ls clean (nth views j) (nth_in views j h)).atoms a m).terms

  -- ---- the blocks of the copies stand in q
  module _ (q : List ℕ) (r : ℕ) (stored : (v : ℕ) → v < length views → BlockNumbers (block_numbers q (view_block v)) (block_size q (view_block v)) (nth views v).block)
      (question : BlockNumbers (block_numbers q question_block) (block_size q question_block) sheet.question) (count : r ≡ length (rows_from 0 ls)) (rows : (k : ℕ) → k < r → RowNumbers q k (get_or (rows_from 0 ls) k unlisted)) where
    source-low : (k : ℕ) → k < length block_list → source_of q k < view_block (length views)
    source-low zero h = omega arith
    source-low (suc i) h =
        let n = list_length in
        let o = (row_of i (omega arith)).low in
        let e = (rows i (omega arith)).view in
        omega arith

    source-numbers : (k : ℕ) → k < length block_list → BlockNumbers (block_numbers q (source_of q k)) (block_size q (source_of q k)) (get_or block_list k empty_block)
    source-numbers zero h = question
    source-numbers (suc i) h =
        let n = list_length in
        let e = (rows i (omega arith)).view in
        let o = (row_of i (omega arith)).low in
        subst (BlockNumbers (block_numbers q (view_block (row_at q i 0))) (block_size q (view_block (row_at q i 0))))
        (ap (λ v. (nth views v).block) e ∙ sym (list_at i (omega arith)))
        (stored (row_at q i 0) (omega arith))

    source-fine : (k : ℕ) → k < length block_list → (a : Atom) → In a (get_or block_list k empty_block).atoms → Fine top a.terms
    source-fine zero h a m = question-fine a m
    source-fine (suc i) h a m =
        let n = list_length in
        view-fine (get_or (rows_from 0 ls) i unlisted).view (row_of i (omega arith)).low a (subst (λ b. In a b.atoms) (list_at i (omega arith)) m)

    sources : Sources table q r block_list
    sources =
        let v = accepted-views ls ok in
        record {
          count = list_length ∙ ap suc (sym count);
          low = λ k h. let l = source-low k h in omega arith;
          numbers = source-numbers;
          fine = source-fine;
          few = few-atoms;
        }

  -- ---- all parts together
  module _ (q1 q2 q3 q4 p : List ℕ) (nb nl i v r a m : ℕ) (s : length q1 ≡ plan_numbers) (so : nl ≡ length sheet.lists) (bl : Blocks q1 ls nb) (k2 : KeptOutside q1 q2 rows_at blocks_at) (few : r ≤ most_rows) (end : length ls ≤ i) (rd : RowsDone q2 ls i v r)
      (k3 : KeptOutside q2 q3 0 rows_at) (first : (n : ℕ) (bs : List Block) → 0 < length bs → Sources table q2 n bs → TableauDone table q2 0 0 bs → TableauDone table q3 1 a bs)
      (k4 : KeptOutside q3 q4 0 rows_at) (most : m ≤ tableau_atoms) (td : (bs : List Block) → Sources table q3 r bs → TableauDone table q3 1 a bs → TableauDone table q4 (r + 1) m bs) (cl : Closed q4 p m a r nl (nb - (1 + nl))) (tables : table ≡ plan_table p) where
    count : r ≡ length (rows_from 0 ls)
    count = all-taken q2 ls i v r end rd

    blocks-count : nb ≡ 1 + nl + length views
    blocks-count = let c = so in bl.count ∙ block-count table ls clean ∙ omega arith

    agree2 : SameFrom q1 q2 blocks_at
    agree2 = record { long = s; long_too = k2.same ∙ s; same = λ y g h. k2.above y g }

    agree : SameFrom q2 p rows_at
    agree = record {
      long = k2.same ∙ s;
      long_too = cl.same ∙ k4.same ∙ k3.same ∙ k2.same ∙ s;
      same = λ y g h. cl.kept y h ∙ k4.above y g ∙ k3.above y g;
    }

    agree-blocks : SameFrom q2 p blocks_at
    agree-blocks = record { long = agree.long; long_too = agree.long_too; same = λ y g h. agree.same y (omega arith) h }

    -- blocks that stand in q1 stand in q2 and in the plan
    stood2 : (b : ℕ) (x : Block) → b < most_blocks → BlockNumbers (block_numbers q1 b) (block_size q1 b) x → BlockNumbers (block_numbers q2 b) (block_size q2 b) x
    stood2 b x h = block-moved q1 q2 b x h agree2

    stood : (b : ℕ) (x : Block) → b < most_blocks → BlockNumbers (block_numbers q1 b) (block_size q1 b) x → BlockNumbers (block_numbers p b) (block_size p b) x
    stood b x h n = block-moved q2 p b x h agree-blocks (stood2 b x h n)

    view-low : (v : ℕ) → v < length views → view_block v < most_blocks
    view-low v h = let w = accepted-views ls ok in omega arith

    row-numbers : (k : ℕ) → k < r → RowNumbers p k (get_or (rows_from 0 ls) k unlisted)
    row-numbers k h = row_same q2 p k (get_or (rows_from 0 ls) k unlisted) (λ c f. agree.same (rows_at + k * 5 + c) (omega arith) (omega arith)) (rd.each k h)

    standing : Sources table q2 r block_list
    standing = sources q2 r (λ v h. stood2 (view_block v) (nth views v).block (view-low v h) (bl.view v h)) (stood2 question_block sheet.question (omega arith) bl.question) count rd.each

    -- the question's copy
    asked : TableauDone table q3 1 a block_list
    asked = first r block_list (let l = list_length in omega arith) standing (copies-start table q2 block_list)

    done : TableauDone table q4 (r + 1) m block_list
    done = td block_list (sources-kept table q2 q3 r block_list (k2.same ∙ s) k3 standing) asked

    abbrev placed : List PlacedAtom
    placed = atoms_from table 0 block_list

    size_is : m ≡ length placed
    size_is = let l = list_length in let c = count in copies-all table q4 (r + 1) m block_list (omega arith) done

    placed-numbers : (k : ℕ) → k < length placed → PlacedNumbers p k (get_or placed k unplaced)
    placed-numbers k h =
        let e = size_is in
        placed_same q4 p k (get_or placed k unplaced) (λ c f. cl.kept (k * 5 + c) (omega arith)) (done.each k (omega arith))

    whole-facts : (t : State) → FactNumbers (tableau_facts p t 0 (tableau_size p)) (tableau_log sheet t)
    whole-facts t =
        let e : tableau_size p ≡ length placed = cl.atoms_is ∙ size_is in
        let f = placed-facts p t placed 0 (λ k h. let z : 0 + k ≡ k = omega arith in subst (λ y. PlacedNumbers p y (get_or placed k unplaced)) (sym z) (placed-numbers k h)) in
        subst (λ n. FactNumbers (tableau_facts p t 0 n) (tableau_log sheet t)) (sym e) (subst (FactNumbers (tableau_facts p t 0 (length placed))) (sym (log-placed sheet t)) f)

    -- the question's atoms come first
    abbrev own : List PlacedAtom
    own = own_atoms table 0 sheet.question.atoms

    abbrev others : List PlacedAtom
    others = atoms_from table 1 (map (λ (j : Job). j.block) rest)

    own-length : length own ≡ asked_size p
    own-length =
        let c = copies_length table q3 1 a block_list asked in
        let b = length-append own others in
        let e = cl.asked_is in
        omega arith

    both-length : length placed ≡ asked_size p + length others
    both-length = length-append own others ∙ ap (λ n. n + length others) own-length

    agreeing-facts : (t : State) → FactNumbers (tableau_facts p t (asked_size p) (tableau_size p - asked_size p)) (tableau_log (bare sheet) t)
    agreeing-facts t =
        let e : tableau_size p ≡ length placed = cl.atoms_is ∙ size_is in
        let b = both-length in
        let n : tableau_size p - asked_size p ≡ length others = omega arith in
        let f = placed-facts p t others (asked_size p)
        (λ k h. subst (PlacedNumbers p (asked_size p + k)) (ap (λ l. get_or placed (l + k) unplaced) (sym own-length) ∙ get_or-append-add own others k unplaced) (placed-numbers (asked_size p + k) (omega arith))) in
        subst (λ n. FactNumbers (tableau_facts p t (asked_size p) n) (tableau_log (bare sheet) t)) (sym n) (subst (FactNumbers (tableau_facts p t (asked_size p) (length others))) (sym (bare-placed sheet t)) f)

    views-count : view_count p ≡ length views
    views-count = let n = blocks-count in let c = cl.views_is in omega arith

    lists-count : list_count p ≡ length sheet.lists
    lists-count = cl.lists_is ∙ so

    list-numbers : (i : ℕ) → i < list_count p → BlockNumbers (block_numbers p (list_block i)) (block_size p (list_block i)) (saved_list_at sheet i)
    list-numbers i h =
        let c = lists-count in
        let n = lists_few table ls clean in
        stood (list_block i) (saved_list_at sheet i) (omega arith) (bl.list i (omega arith))

    row_in : (k : ℕ) → k < row_count p → RowOf p sheet k
    row_in k h =
        let n = cl.listed_is in
        let c = count in
        let o = row_of k (omega arith) in
        let l = get_or (rows_from 0 ls) k unlisted in
        let w = row-numbers k (omega arith) in
        let e = w.view in
        let u = views-count in
        record {
          view = let g = o.low in omega arith;
          row = l.row;
          listed = subst (λ v. In l.row (nth views v).rows) (sym e) o.listed_in;
          values = w.values;
          copy = rest_at k (omega arith) (record { block = sheet.question; is = [] }) ∙ ap (λ v. record { block = (nth views v).block; is = map con l.row }) (sym e);
        }

    row-place : (j : ℕ) → j < view_count p → (t : List ℕ) → In t (nth views j).rows → (k : ℕ) × (k < row_count p) × (row_at p k 0 ≡ j) × (row_values p k ≡ padded t)
    row-place j h t g =
        let u = views-count in
        let (k, lt, e) = flat_place views j (omega arith) t g in
        let f : get_or (rows_from 0 ls) k unlisted ≡ record { view = j; row = t } = ap (λ l. get_or l k unlisted) (rows_walked ls ok) ∙ e in
        let n = cl.listed_is in
        let c = count in
        let z = ap length (rows_walked ls ok) in
        let w = row-numbers k (omega arith) in
        (k, omega arith, w.view ∙ ap (λ (l : ViewRow). l.view) f, w.values ∙ ap (λ (l : ViewRow). padded l.row) f)

    pub plan_of : Plan p sheet
    plan_of =
        let e : tableau_size p ≡ length placed = cl.atoms_is ∙ size_is in
        let b = both-length in
        let n = cl.listed_is in
        let a = cl.atoms_is in
        let u = views-count in
        let w = accepted-views ls ok in
        record {
          size = agree.long_too;
          table = tables;
          few = omega arith;
          asked = omega arith;
          rows_few = omega arith;
          lists_few = let c = lists-count in let l = lists_few table ls clean in omega arith;
          views_few = omega arith;
          whole = whole-facts;
          agreeing = agreeing-facts;
          question = stood question_block sheet.question (omega arith) bl.question;
          lists = lists-count;
          list = list-numbers;
          views = views-count;
          view = λ j h. let u = views-count in stood (view_block j) (nth views j).block (view-low j (omega arith)) (bl.view j (omega arith));
          rows = row_in;
          every_row = row-place;
          copies = let l = rest-length in let c = count in omega arith;
        }
