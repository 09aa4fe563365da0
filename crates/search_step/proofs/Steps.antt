-- A step of the search: what it keeps of the words and of the table, and what a failure after it says before it.
use mathlib.Core.Path.{◌≡◌, refl, sym, ap, ◌∙◌, subst}
use mathlib.Core.Bool.{Bool, true, false, cond, true≢false}
use mathlib.Core.List.{List}
use mathlib.Core.Logic.{◌⊎◌, inl, inr, ⊎_elim}
use Prim.Native.Nat.{ℕ, zero, suc, ◌+◌, ◌-◌, ◌*◌, ◌<◌, ◌≤◌}
use native.Mathlib.Omega.{arith}
use borrow.Author.Tests.{lt-ltb, le-ltb, eq-eqb, ne_eqb}
use lib.Dec.{ltb, eqb}
use lib.ListN.{length, get_or}
use Rattle.list_laws.proofs.Lists.{inside}
use Rattle.list_laws.proofs.Order.{less?}
use Rattle.tableau_layout.specs.Layout.{slot_end}
use Rattle.query_meaning.specs.Meaning.{In}
use Rattle.case_verdicts.specs.Verdict.{Sheet}
use Rattle.case_verdicts.specs.Sheets.{top}
use Rattle.case_verdicts.specs.Tableau.{State}
use Rattle.case_verdicts.specs.Search.{equations, Met}
use Rattle.case_verdicts.specs.Words.{state_of}
use Rattle.case_verdicts.proofs.Decide.{same?, in?}
use Rattle.search_slots.specs.Slots.{set_words, in_set, SetPut, SetJoined, SetLess, SetsMeet}
use Rattle.search_slots.proofs.Laws.{past, put_has, joined-left, joined-right, less-keeps}
use Rattle.search_links.specs.Links.{Linked, linked_state, roots}
use Rattle.search_links.specs.Steps.{RootValue, RootValues, Equated}
use Rattle.search_links.proofs.Words.{root-own}
use Rattle.search_reasons.specs.Reasons.{RestsOn, AlternativeFails, ValueFails, SlotOf, SlotsOf}
use Rattle.search_reasons.proofs.Laws.{Step, step_of, Untouched, rests-more, rests-back, value-down, value-back, value_learnt, fails_step}
use Rattle.search_nogoods.specs.Memory.{MemoryMore, MemoryLess, LearnedValue}
use Rattle.search_nogoods.proofs.Laws.{more-holds, less-holds}
use Rattle.search_task.specs.Task.{ReadyPlan, sheet_by, HeadsSettled}
use Rattle.search_task.specs.declared.Goal.{Goal}
use Rattle.search_task.proofs.Columns.{met_at, at-met, at_in}
use Rattle.search_task.proofs.Copies.{settled-after}
use Rattle.search_node.specs.Node.{Standing, FitsRow, Wordly, Joinable}
use Rattle.search_step.specs.Run.{Remembers, Lost, RowLeft}

-- ---- values that stand

-- constants are roots
pub constant-roots : (ws r : List ℕ) → ((v : ℕ) → In v r → v < top) → RootValues top ws r
constant-roots ws r small v m = inl (small v m)

-- where a row has constants only, nothing is asked of the other
pub constant-fits : (x : Sheet) (r u : List ℕ) → length r ≡ 4 → ((v : ℕ) → In v r → v < top) → FitsRow x r u
constant-fits x r u four small c few made = let z = small (get_or r c 0) (at_in r c (omega arith)) in absurd (omega arith)

-- a map with another value where it made w of a made-up one
another : (ℕ → ℕ) → ℕ → ℕ → ℕ
another by w v = cond (ltb v top) v (cond (eqb (by v) w) top (by v))

another-low : (by : ℕ → ℕ) (w v : ℕ) → v < top → another by w v ≡ v
unfolding another
another-low by w v lt = rw (lt-ltb v top lt)

another-is : (by : ℕ → ℕ) (w v : ℕ) → top ≤ v → by v ≡ w → another by w v ≡ top
unfolding another
another-is by w v le e = rw (le-ltb v top le, eq-eqb (by v) w e)

another-off : (by : ℕ → ℕ) (w v : ℕ) → top ≤ v → (by v ≡ w → ⊥) → another by w v ≡ by v
unfolding another
another-off by w v le off = rw (le-ltb v top le, ne_eqb (by v) w off)

-- column c has w beside a made-up value
abbrev Beside : List ℕ → List ℕ → ℕ → ℕ → Type 0
Beside u r w c = ((top ≤ get_or u c 0) × (get_or r c 0 ≡ w)) ⊎ ((top ≤ get_or r c 0) × (get_or u c 0 ≡ w))

beside? : (u r : List ℕ) (w c : ℕ) → Beside u r w c ⊎ (Beside u r w c → ⊥)
beside? u r w c = go (less? (get_or u c 0) top) (less? (get_or r c 0) top) (same? (get_or u c 0) w) (same? (get_or r c 0) w)
  where
    go : (get_or u c 0 < top) ⊎ (top ≤ get_or u c 0) → (get_or r c 0 < top) ⊎ (top ≤ get_or r c 0) → Dec (get_or u c 0 ≡ w) → Dec (get_or r c 0 ≡ w) → Beside u r w c ⊎ (Beside u r w c → ⊥)
    go (inl lt) (inl l) d e = inr (⊎_elim (λ z. let q = z.0 in omega arith) (λ z. let q = z.0 in omega arith))
    go (inl lt) (inr le) (yes e) d = inl (inr (le, e))
    go (inl lt) (inr le) (no f) d = inr (⊎_elim (λ z. let q = z.0 in omega arith) (λ z. f z.1))
    go (inr le) (inl lt) d (yes e) = inl (inl (le, e))
    go (inr le) (inl lt) d (no g) = inr (⊎_elim (λ z. g z.1) (λ z. let q = z.0 in omega arith))
    go (inr le) (inr l) (yes e) d = inl (inr (l, e))
    go (inr le) (inr l) (no f) (yes e) = inl (inl (le, e))
    go (inr le) (inr l) (no f) (no g) = inr (⊎_elim (λ z. g z.1) (λ z. f z.1))

-- one of the first n columns has, or none
some-beside : (u r : List ℕ) (w n : ℕ) → ((c : ℕ) × (c < n) × Beside u r w c) ⊎ ((c : ℕ) → c < n → Beside u r w c → ⊥)
some-beside u r w zero = inr (λ c lt. absurd (omega arith))
some-beside u r w (suc n) = go (some-beside u r w n) (beside? u r w n)
  where
    go : ((c : ℕ) × (c < n) × Beside u r w c) ⊎ ((c : ℕ) → c < n → Beside u r w c → ⊥) → Beside u r w n ⊎ (Beside u r w n → ⊥)
        → ((c : ℕ) × (c < suc n) × Beside u r w c) ⊎ ((c : ℕ) → c < suc n → Beside u r w c → ⊥)
    go (inl (c, lt, m)) b = inl (c, omega arith, m)
    go (inr none) (inl m) = inl (n, omega arith, m)
    go (inr none) (inr off) = inr (λ c lt m. ⊎_elim
        (λ less. none c less m)
        (λ le. let e : c ≡ n = omega arith in off (subst (λ (k : ℕ). Beside u r w k) e m))
        (less? c n))

module _ (x : Sheet) (ws out u r : List ℕ) (size : length ws ≡ slot_end) (linked : Linked top ws) (f : RootValues top ws u) (g : RootValues top ws r)
    (four : length u ≡ 4) (four-r : length r ≡ 4) (q : Equated top ws out u r) where
  -- where no column has w beside a made-up value, the rows are one also for the other map
  another-met : (w : ℕ) → ((c : ℕ) → c < 4 → Beside u r w c → ⊥) → Met (another q.by w) (equations u r)
  another-met w none = at-met (another q.by w) u r (λ c lu lr.
      let lt : c < 4 = omega arith in
      go (get_or u c 0) (get_or r c 0) (met_at q.by u r q.unifier.met c lu lr) (λ le e. none c lt (inl (le, e))) (λ le e. none c lt (inr (le, e))) (less? (get_or u c 0) top) (less? (get_or r c 0) top))
    where
      made : (m n : ℕ) → q.by m ≡ q.by n → top ≤ m → top ≤ n → Dec (q.by n ≡ w) → another q.by w m ≡ another q.by w n
      made m n e lm ln (yes is) = another-is q.by w m lm (e ∙ is) ∙ sym (another-is q.by w n ln is)
      made m n e lm ln (no off) = another-off q.by w m lm (λ z. off (sym e ∙ z)) ∙ e ∙ sym (another-off q.by w n ln off)

      go : (m n : ℕ) → q.by m ≡ q.by n → (top ≤ m → n ≡ w → ⊥) → (top ≤ n → m ≡ w → ⊥) → (m < top) ⊎ (top ≤ m) → (n < top) ⊎ (top ≤ n) → another q.by w m ≡ another q.by w n
      go m n e left right (inl lm) (inl ln) =
          another-low q.by w m lm ∙ sym (q.unifier.keeps m lm) ∙ e ∙ q.unifier.keeps n ln ∙ sym (another-low q.by w n ln)
      go m n e left right (inl lm) (inr ln) =
          let is : q.by n ≡ m = sym e ∙ q.unifier.keeps m lm in
          another-low q.by w m lm ∙ sym is ∙ sym (another-off q.by w n ln (λ z. right ln (sym is ∙ z)))
      go m n e left right (inr lm) (inl ln) =
          let is : q.by m ≡ n = e ∙ q.unifier.keeps n ln in
          another-off q.by w m lm (λ z. left lm (sym is ∙ z)) ∙ is ∙ sym (another-low q.by w n ln)
      go m n e left right (inr lm) (inr ln) = made m n e lm ln (same? (q.by n) w)

  -- a constant that was written stands beside a made-up value
  written-value : (n : ℕ) → get_or out n 0 < top → RootValue top ws (top + n) → (c : ℕ) × (c < 4) × Beside u r (get_or out n 0) c
  written-value n low root = ⊎_elim (λ m. m) (λ none. absurd (against none)) (some-beside u r (get_or out n 0) 4)
    where
      against : ((c : ℕ) → c < 4 → Beside u r (get_or out n 0) c → ⊥) → ⊥
      against none =
          let w = get_or out n 0 in
          let own = root-own top ws n root in
          let before : state_of top ws n ≡ top + n = inside ws n (top + n) 0 own.0 ∙ own.1 in
          let after : w ≡ state_of top out n = inside out n 0 (top + n) (let l = q.same in let k = own.0 in omega arith) in
          let is : q.by (top + n) ≡ w = ap q.by (sym before) ∙ sym (q.words linked q.by q.unifier.keeps q.unifier.met n) ∙ ap q.by (sym after) ∙ q.unifier.keeps w low in
          let z : w ≡ top =
          sym (another-low q.by w w low) ∙ ap (another q.by w) after ∙ q.words linked (another q.by w) (another-low q.by w) (another-met w none) n
          ∙ ap (another q.by w) before ∙ another-is q.by w (top + n) (omega arith) is in
          omega arith

  pub stood-step : FitsRow x u r → FitsRow x r u → ((n : ℕ) → n < slot_end → Standing x (get_or ws n 0)) → (n : ℕ) → n < slot_end → Standing x (get_or out n 0)
  stood-step fits back stood n lt = go (less? (get_or out n 0) top) (in? same? (top + n) u) (in? same? (top + n) r)
    where
      beside : (c : ℕ) × (c < 4) × Beside u r (get_or out n 0) c → Standing x (get_or out n 0)
      beside (c, few, inl (made, e)) = subst (Standing x) e (fits c few made)
      beside (c, few, inr (made, e)) = subst (Standing x) e (back c few made)

      go : (get_or out n 0 < top) ⊎ (top ≤ get_or out n 0) → Dec (In (top + n) u) → Dec (In (top + n) r) → Standing x (get_or out n 0)
      go (inr le) d e = inr (le, (let l = q.linked linked n (let s = q.same in omega arith) in omega arith))
      go (inl low) (yes m) e = beside (written-value n low (f (top + n) m))
      go (inl low) (no off) (yes m) = beside (written-value n low (g (top + n) m))
      go (inl low) (no off) (no out_of_lem) = subst (Standing x) (sym (q.others n off out_of_lem)) (stood n lt)

-- ---- two rows that a step made one

module _ (p : List ℕ) (x : Sheet) (r : ReadyPlan p x) (goal : Goal) (ws : List ℕ) (w : Wordly x (sheet_by goal x) ws) {u v : List ℕ} (four : length u ≡ 4) (four-v : length v ≡ 4)
    (j : Joinable x ws u v) (out : List ℕ) (q : Equated top ws out u v) where
  pub taken-wordly : Wordly x (sheet_by goal x) out
  taken-wordly = record {
    size = q.same ∙ w.size;
    linked = q.linked w.linked;
    stood = stood-step x ws out u v w.size w.linked j.left j.right four four-v q j.fits j.back w.stood;
    settled = subst (HeadsSettled (sheet_by goal x)) (sym q.state) (settled-after p x r goal q.by (linked_state top ws) q.unifier.keeps w.settled);
  }

  pub taken-room : (left : ℕ) → roots top ws < left → roots top out < left - 1
  taken-room left room = ⊎_elim (λ e. absurd (j.other e)) (λ f. omega arith) q.fewer

-- ---- what the table says

module _ {ws out u r : List ℕ} (s : Step ws out u r) where
  -- the slots of two rows of roots are in the words of a set
  slot-few : length ws ≡ slot_end → (n : ℕ) → SlotOf u r n → n < slot_end
  slot-few size n (inl m) = let a = (root-own top ws n (s.left (top + n) m)).0 in omega arith
  slot-few size n (inr m) = let a = (root-own top ws n (s.right (top + n) m)).0 in omega arith

  -- a set that has none of their slots
  untouched : length ws ≡ slot_end → (changed set : List ℕ) → SlotsOf u r changed → ((k : ℕ) → k < 64 * set_words → in_set set k ≡ true → in_set changed k ≡ false) → Untouched u r set
  untouched size changed set c apart n m = go (in_set set n) refl
    where
      go : (b : Bool) → in_set set n ≡ b → in_set set n ≡ false
      go false e = e
      go true e = let lt = slot-few size n m in absurd (true≢false (sym (c.has n m) ∙ apart n (omega arith) e))

  module _ {G : State → Type 0} where
    pub memory-down : (sl sm : List ℕ) → Remembers G ws sl sm → Remembers G out sl sm
    memory-down sl sm m = record { each = λ e lt. ((m.each e lt).0, value-down s (m.each e lt).1) }

    pub memory-back : length ws ≡ slot_end → (changed : List ℕ) → SlotsOf u r changed → (sl sm tl tm : List ℕ) → MemoryLess changed sl sm tl tm → Remembers G out sl sm → Remembers G ws tl tm
    memory-back size changed c sl sm tl tm less m =
        less-holds {P = λ n v t. (v < top) × ValueFails G out t n v} {Q = λ n v t. (v < top) × ValueFails G ws t n v} sl sm tl tm changed less
        (λ n v t apart k. (k.0, value-back s (untouched size changed t c apart.each) k.1)) m

pub memory_learnt : {G : State → Type 0} (ws below changed sl sm tl tm : List ℕ) → RestsOn G ws below → MemoryMore (LearnedValue ws below changed) sl sm tl tm → Remembers G ws sl sm
    → Remembers G ws tl tm
memory_learnt {G} ws below changed sl sm tl tm rests more m =
    more-holds {P = λ n v t. (v < top) × ValueFails G ws t n v} {Q = LearnedValue ws below changed} sl sm tl tm more
    (λ n v t l. (l.constant, value_learnt l.inside (sym l.value) l.constant (λ k e ne. l.without.rest k ne ∙ e) rests)) m

-- ---- what a failure after the step says before it

module _ {G : State → Type 0} {ws out u r : List ℕ} (size : length ws ≡ slot_end) (linked : Linked top ws) (f : RootValues top ws u) (g : RootValues top ws r) (q : Equated top ws out u r)
    (changed : List ℕ) (c : SlotsOf u r changed) (below : List ℕ) (long : length below ≡ set_words) (rests : RestsOn G out below) where
  step : Step ws out u r
  step = step_of f g q

  -- it does not rest on what the step wrote
  pub rests-before : ((k : ℕ) → k < 64 * length below → in_set below k ≡ true → in_set changed k ≡ false) → RestsOn G ws below
  rests-before apart = rests-back step (untouched step size changed below c (λ k lt. apart k (omega arith))) rests

  -- it may: then the alternative fails by the other slots
  pub fails-before : (less : List ℕ) → SetLess below changed less → AlternativeFails G ws less u r
  fails-before less a = fails_step linked f g q among rests
    where
      among : (n : ℕ) → in_set below n ≡ true → (SlotOf u r n → ⊥) → in_set less n ≡ true
      among n e off = ⊎_elim
          (λ lt. less-keeps a n e (c.none n lt off))
          (λ le. let s = a.same in past less n (omega arith))
          (less? n (64 * set_words))

  -- ---- with what the table has learnt and forgotten, and the words as before

  module _ (sl sm tl tm nl nm : List ℕ) (memory : Remembers G out sl sm) (learned : MemoryMore (LearnedValue out below changed) sl sm tl tm) (forgot : MemoryLess changed tl tm nl nm)
      (back : List ℕ) (kept : back ≡ ws) where
    remembered : Remembers G ws nl nm
    remembered = memory-back step size changed c tl tm nl nm forgot (memory_learnt out below changed sl sm tl tm rests learned memory)

    pub left_jump : (met : Bool) → met ≡ false → SetsMeet met below changed → (old set : List ℕ) → SetPut old below set → Lost G ws back set nl nm
    left_jump met e apart old set put = record { rests = rests-more (put_has put) (rests-before (apart.apart e)); kept = kept; memory = remembered }

    pub left-row : (less : List ℕ) → SetLess below changed less → (old set : List ℕ) → SetJoined old less set → RowLeft G ws back u r less old set nl nm
    left-row less a old set joined = record {
      kept = kept;
      fails = fails-before less a;
      within = joined-right joined;
      more = joined-left joined;
      memory = remembered;
    }
