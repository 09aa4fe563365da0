-- The heads of the copies are made what they must be, one row after the other, from the first words on.
use mathlib.Core.Path.{◌≡◌, refl, sym, ap, ◌∙◌, subst}
use mathlib.Core.Bool.{Bool, true, false, true≢false}
use mathlib.Core.List.{List, [], ◌∷◌, ◌++◌}
use mathlib.Core.Logic.{◌⊎◌, inl, inr}
use Prim.Native.Nat.{ℕ, suc, ◌+◌, ◌-◌, ◌*◌, ◌<◌, ◌≤◌}
use native.Mathlib.Omega.{arith}
use lib.ListN.{length, replicate}
use Rattle.query_layout.specs.Layout.{names}
use Rattle.tableau_layout.specs.Layout.{slot_end}
use Rattle.list_laws.proofs.Lists.{inside}
use Rattle.list_laws.proofs.Order.{less?}
use Rattle.query_meaning.specs.Meaning.{Term, con, var, In, value, row}
use Rattle.query_meaning.specs.Blocks.{View, nth}
use Rattle.query_encoding.specs.Encoding.{padded}
use Rattle.query_encoding.proofs.Lists.{map_in}
use Rattle.case_verdicts.specs.Verdict.{Sheet}
use Rattle.case_verdicts.specs.Handed.{in_row}
use Rattle.case_verdicts.specs.Sheets.{top}
use Rattle.case_verdicts.specs.Accepted.{width, FineTerm}
use Rattle.case_verdicts.specs.Tableau.{Copy, State, jobs, numbered, copy, Meets, Good}
use Rattle.case_verdicts.specs.Search.{free, equations, Met, Refuted, RefutedBy}
use Rattle.case_verdicts.specs.Words.{state_of}
use Rattle.case_verdicts.proofs.Refute.{unified, clashed}
use Rattle.tableau_plan.specs.Plan.{row_at, row_values, row_count}
use Rattle.search_slots.proofs.Laws.{past}
use Rattle.search_links.specs.Links.{linked_state}
use Rattle.search_links.specs.Steps.{RootValue, RootValues, Equated, EquatedBy}
use Rattle.search_links.proofs.Words.{linked-free, slot-root, word_low, roots_few}
use Rattle.search_links.proofs.Under.{below_word}
use Rattle.search_reasons.specs.Reasons.{RestsOn}
use Rattle.search_reasons.proofs.Laws.{rests-more}
use Rattle.search_task.specs.Task.{ReadyPlan, sheet_by}
use Rattle.search_task.specs.declared.Goal.{Goal}
use Rattle.search_task.proofs.Copies.{copy-small, copy-kept, first-met, view_in, head-long, row-met}
use Rattle.search_task.proofs.Node.{head-refuted, kept_row, fine-row}
use Rattle.search_task.proofs.ReadyLaws.{ready_task, ready-facts, zero-small, row-constants, jobs-count}
use Rattle.search_task.proofs.Padded.{same_met}
use Rattle.search_node.specs.Node.{FitsRow, Wordly, StateFound, NodeBy}
use Rattle.search_node.proofs.Open.{fits-padded}
use Rattle.search_step.specs.Run.{Remembers, SearchBegun, FoundOrLost, Heads, HeadsBy, LookedBy, FoundBy}
use Rattle.search_step.proofs.Steps.{constant-roots, constant-fits, stood-step}

module _ (p : List ℕ) (x : Sheet) (r : ReadyPlan p x) where
  -- ---- before the first row

  pub heads-free : (goal : Goal) (ws : List ℕ) → length ws ≡ slot_end → state_of top ws ≡ free top → Heads x (sheet_by goal x) ws 0
  heads-free goal ws size e = record {
    size = size;
    linked = (linked-free top ws e).0;
    stood = λ n lt. let w = inside ws n 0 (top + n) (omega arith) ∙ (λ i. e i n) in inr (omega arith, omega arith);
    heads = λ c m le. first-met p x r goal (linked_state top ws) c m (omega arith);
    back = λ none. subst (Refuted top (sheet_by goal x)) (linked-free top ws e).1 none;
  }

  -- ---- one row

  module _ (goal : Goal) (ws : List ℕ) (i : ℕ) (lt : i < row_count p) (h : Heads x (sheet_by goal x) ws i) where
    abbrev view : View
    view = nth x.views (row_at p i 0)

    abbrev head : List ℕ
    head = row (copy (linked_state top ws) (suc i)) view.block.head

    lengths : length head ≡ length (r.plan.rows i lt).row
    lengths = head-long p x r i lt (linked_state top ws)

    fits : FitsRow x (padded head) (row_values p i)
    fits =
        fits-padded x (padded head) (row_values p i) head (r.plan.rows i lt).row refl (r.plan.rows i lt).values lengths
        (λ n m. in_row view (view_in p x r i lt) (r.plan.rows i lt).row (r.plan.rows i lt).listed m)

    -- its values are where links end
    head-value : (t : Term) → FineTerm top t → (n : ℕ) → n ≡ value (copy (linked_state top ws) (suc i)) t → RootValue top ws n
    unfolding width
    head-value (con c) fine n e = inl (omega arith)
    head-value (var z) fine n e =
        let f = r.plan.rows_few in
        let s = h.size in
        subst (RootValue top ws) (sym e) (slot-root top ws h.linked (suc i * names + z) (omega arith))

    head-roots : RootValues top ws (padded head)
    head-roots n m = go head (λ v j. let (t, k, e) = map_in (value (copy (linked_state top ws) (suc i))) v view.block.head j in head-value t ((r.accepted.views view (view_in p x r i lt)).head t k) v e) m
      where
        go : (l : List ℕ) → ((v : ℕ) → In v l → RootValue top ws v) → In n (l ++ replicate (4 - length head) 0) → RootValue top ws n
        go [] each j = inl (zero-small (4 - length head) n j)
        go (v ∷ l) each (inl e) = each n (inl e)
        go (v ∷ l) each (inr j) = go l (λ w k. each w (inr k)) j

    row-roots : RootValues top ws (row_values p i)
    row-roots = constant-roots ws (row_values p i) (row-constants p x r i lt)

    -- what refutes the step refutes all
    refuted-back : RefutedBy top (sheet_by goal x) (linked_state top ws) (equations (padded head) (row_values p i)) → Refuted top (sheet_by goal x) (free top)
    refuted-back none =
        h.back (head-refuted p x (sheet_by goal x) r.plan (ready_task p x r goal) (linked_state top ws) _ (ready-facts p x r goal (linked_state top ws)) i lt (padded head) refl none)

    -- after the step the head is the row
    head-met : (out : List ℕ) → Equated top ws out (padded head) (row_values p i) → (c : Copy) → In c (numbered (jobs (sheet_by goal x))) → c.number ≡ suc i
        → Meets (copy (linked_state top out) c.number) c.job
    head-met out q =
        let t = (r.plan.rows i lt).row in
        let small = r.accepted.rows view (view_in p x r i lt) t (r.plan.rows i lt).listed in
        let rows-met = subst (λ l. Met q.by (equations (padded head) l)) (r.plan.rows i lt).values q.unifier.met in
        row-met p x r i lt goal (linked_state top out)
        (ap (λ (s : State). row (copy s (suc i)) view.block.head) q.state
        ∙ fine-row q.by (copy (linked_state top ws) (suc i)) view.block.head q.unifier.keeps (r.accepted.views view (view_in p x r i lt)).head
        ∙ same_met q.by head t (replicate (4 - length head) 0) (replicate (4 - length t) 0) lengths rows-met
        ∙ kept_row q.by t q.unifier.keeps small)

    settled-row : length (padded head) ≡ 4 → (out : List ℕ) → Equated top ws out (padded head) (row_values p i) → Heads x (sheet_by goal x) out (i + 1)
    settled-row four out q = record {
      size = q.same ∙ h.size;
      linked = q.linked h.linked;
      stood = stood-step x ws out (padded head) (row_values p i) h.size h.linked head-roots row-roots four refl q fits (constant-fits x (row_values p i) (padded head) refl (row-constants p x r i lt)) h.stood;
      heads = λ c m le. go c m le (less? i c.number);
      back = λ none. refuted-back (unified q.unifier (subst (Refuted top (sheet_by goal x)) q.state none));
    }
      where
        go : (c : Copy) → In c (numbered (jobs (sheet_by goal x))) → c.number ≤ i + 1 → (i < c.number) ⊎ (c.number ≤ i) → Meets (copy (linked_state top out) c.number) c.job
        go c m le (inl more) = head-met out q c m (omega arith)
        go c m le (inr less) = subst (λ (s : State). Meets (copy s c.number) c.job) (sym q.state) (copy-kept p x r goal q.by (linked_state top ws) c m q.unifier.keeps (h.heads c m less))

    -- the same in the words of the code
    pub settled-by : (b : Bool) (u out : List ℕ) → u ≡ padded head → length u ≡ 4
        → (RootValues top ws u → RootValues top ws (row_values p i) → EquatedBy b top ws out u (row_values p i)) → HeadsBy b x (sheet_by goal x) out (i + 1)
    settled-by b u out e four equate =
        by b (subst (λ l. RootValues top ws l → RootValues top ws (row_values p i) → EquatedBy b top ws out l (row_values p i)) e equate head-roots row-roots)
      where
        by : (b : Bool) → EquatedBy b top ws out (padded head) (row_values p i) → HeadsBy b x (sheet_by goal x) out (i + 1)
        by true q = settled-row (ap length (sym e) ∙ four) out q
        by false (clash, kept) = refuted-back (clashed clash)

  -- ---- all rows

  pub heads-wordly : (goal : Goal) (ws : List ℕ) (i : ℕ) → row_count p ≤ i → Heads x (sheet_by goal x) ws i → Wordly x (sheet_by goal x) ws
  heads-wordly goal ws i le h = record {
    size = h.size;
    linked = h.linked;
    stood = h.stood;
    settled = λ c m. h.heads c m (let a = copy-small (jobs (sheet_by goal x)) c m in let b = jobs-count p x r goal in omega arith);
  }

-- ---- what a search from settled words says

module _ (p : List ℕ) (x y : Sheet) (ws : List ℕ) where
  -- a failure rests on all words at the most
  rests-all : (set : List ℕ) → RestsOn (Good y) ws set → RestsOn (Good y) ws []
  rests-all set f = rests-more (λ k e. past [] k (omega arith)) f

  pub looked-found : (good : Bool) (set node out : List ℕ) → good ≡ true → NodeBy good p x y ws set node out → LookedBy true x y ws out
  looked-found true set node out e said = said
  looked-found false set node out e said = absurd (true≢false (sym e))

  pub looked-begun : (good : Bool) (set node out sl sm : List ℕ) → good ≡ false → Wordly x y ws → Remembers (Good y) ws sl sm → NodeBy good p x y ws set node out
      → SearchBegun p x y ws (slot_end + 1) set node sl sm
  looked-begun true set node out sl sm e w m said = absurd (true≢false e)
  looked-begun false set node out sl sm e w m said =
      record { wordly = w; room = (let a = roots_few top ws in let b = w.size in omega arith); opened = said; memory = m }

  pub looked-by : (b : Bool) (end set sl sm out : List ℕ) → FoundOrLost b x y ws end set sl sm out → LookedBy b x y ws out
  looked-by true end set sl sm out s = s
  looked-by false end set sl sm out s = rests-all set s.rests

  -- what is below the words obeys them
  refuted-all : (i : ℕ) → Heads x y ws i → RestsOn (Good y) ws [] → Refuted top y (free top)
  refuted-all i h f = h.back (record { none = λ t b good. f.none t good (λ n e. below_word top (state_of top ws) t n (word_low top ws h.linked n) b) })

  -- the state that was found is copied, or there is none
  pub looked-yes : (b : Bool) (out copied : List ℕ) → b ≡ true → copied ≡ out → LookedBy b x y ws out → FoundBy true x y copied
  looked-yes true out copied e same s = subst (StateFound x y) (sym same) s
  looked-yes false out copied e same s = absurd (true≢false (sym e))

  pub looked-no : (i : ℕ) → Heads x y ws i → (b : Bool) (out copied : List ℕ) → b ≡ false → LookedBy b x y ws out → FoundBy false x y copied
  looked-no i h true out copied e s = absurd (true≢false e)
  looked-no i h false out copied e s = refuted-all i h s

-- a row's head was made the row, or not
pub heads-yes : (x y : Sheet) (b : Bool) (ws : List ℕ) (i : ℕ) → b ≡ true → HeadsBy b x y ws i → Heads x y ws i
heads-yes x y true ws i e h = h
heads-yes x y false ws i e h = absurd (true≢false (sym e))

pub heads-no : (x y : Sheet) (b : Bool) (ws out : List ℕ) (i j : ℕ) → b ≡ false → HeadsBy b x y ws i → HeadsBy false x y out j
heads-no x y true ws out i j e h = absurd (true≢false e)
heads-no x y false ws out i j e h = h

pub heads-rows : (x y : Sheet) (ws : List ℕ) (i j : ℕ) → i ≡ j → Heads x y ws i → Heads x y ws j
heads-rows x y ws i j e h = subst (Heads x y ws) e h
