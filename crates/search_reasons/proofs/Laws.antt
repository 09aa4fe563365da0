-- What a failure rests on: with more slots, across a step of the search, and of one alternative. G tells the good states.
use mathlib.Core.Path.{◌≡◌, refl, sym, ap, ◌∙◌}
use mathlib.Core.Bool.{true, false, true≢false}
use mathlib.Core.List.{List, [], ◌∷◌}
use mathlib.Core.Logic.{◌⊎◌, inl, inr, ⊎_elim}
use Prim.Native.Nat.{ℕ, zero, suc, ◌+◌, ◌<◌}
use native.Mathlib.Omega.{arith}
use lib.ListN.{length, get_or, get_or-eq_default}
use Rattle.list_laws.proofs.Lists.{inside}
use Rattle.list_laws.proofs.Order.{less?}
use Rattle.query_meaning.specs.Meaning.{In}
use Rattle.case_verdicts.specs.Sheets.{top}
use Rattle.case_verdicts.specs.Tableau.{State}
use Rattle.case_verdicts.specs.Search.{◌≈◌, equations, Clash}
use Rattle.case_verdicts.specs.Words.{state_of}
use Rattle.case_verdicts.proofs.Decide.{same?, in?}
use Rattle.search_slots.specs.Slots.{in_set, SetWithin}
use Rattle.search_links.specs.Links.{Linked, value_under}
use Rattle.search_links.specs.Steps.{RootValue, RootValues, Others, Equated}
use Rattle.search_links.proofs.Words.{root-own}
use Rattle.search_links.proofs.Under.{under-constant, under-own}
use Rattle.search_reasons.specs.Reasons.{Obeys, RestsOn, AlternativeFails, ValueFails, WayMarked, SlotOf}

-- ---- more slots

pub obeys-less : (t : State) (ws a b : List ℕ) → SetWithin a b → Obeys t ws b → Obeys t ws a
obeys-less t ws a b w o n e = o n (w n e)

module _ {G : State → Type 0} {ws a b : List ℕ} (w : SetWithin a b) where
  pub rests-more : RestsOn G ws a → RestsOn G ws b
  rests-more f = record { none = λ t g o. f.none t g (obeys-less t ws a b w o) }

  pub fails_more : {u r : List ℕ} → AlternativeFails G ws a u r → AlternativeFails G ws b u r
  fails_more f = record { none = λ t g o. f.none t g (obeys-less t ws a b w o) }

  pub value-fails-more : {n v : ℕ} → ValueFails G ws a n v → ValueFails G ws b n v
  value-fails-more f = record { none = λ t g o. f.none t g (obeys-less t ws a b w o) }

module _ {ws old set more : List ℕ} {w : ℕ} where
  pub way-still : WayMarked ws w old set → SetWithin set more → WayMarked ws w old more
  way-still m s = record { more = λ k e. s k (m.more k e); way = λ t o. m.way t (obeys-less t ws set more s o) }

-- ---- a step

-- from ws to out no slot is written but those of the roots u and r
pub record Step (ws out u r : List ℕ) : Type 0 where
  pub left : RootValues top ws u
  pub right : RootValues top ws r
  pub same : length out ≡ length ws
  pub others : Others top ws out u r

pub step_of : {ws out u r : List ℕ} → RootValues top ws u → RootValues top ws r → Equated top ws out u r → Step ws out u r
step_of f g q = record { left = f; right = g; same = q.same; others = q.others }

-- the set has none of their slots
abbrev pub Untouched : List ℕ → List ℕ → List ℕ → Type 0
Untouched u r set = (n : ℕ) → SlotOf u r n → in_set set n ≡ false

slot? : (u r : List ℕ) (n : ℕ) → SlotOf u r n ⊎ (SlotOf u r n → ⊥)
slot? u r n = go (in? same? (top + n) u) (in? same? (top + n) r)
  where
    go : Dec (In (top + n) u) → Dec (In (top + n) r) → SlotOf u r n ⊎ (SlotOf u r n → ⊥)
    go (yes m) d = inl (inl m)
    go (no k) (yes m) = inl (inr m)
    go (no k) (no l) = inr (⊎_elim k l)

-- a slot whose own value is a root obeys its word in every state
own_obeyed : (ws : List ℕ) (n : ℕ) → RootValue top ws (top + n) → (t : State) → value_under top t (state_of top ws n) ≡ t n
own_obeyed ws n f t = let o = root-own top ws n f in ap (value_under top t) (inside ws n (top + n) 0 o.0 ∙ o.1) ∙ under-own top t n

module _ {ws out u r : List ℕ} (s : Step ws out u r) where
  written : (n : ℕ) → SlotOf u r n → (t : State) → value_under top t (state_of top ws n) ≡ t n
  written n (inl m) = own_obeyed ws n (s.left (top + n) m)
  written n (inr m) = own_obeyed ws n (s.right (top + n) m)

  unwritten : (n : ℕ) → (SlotOf u r n → ⊥) → state_of top out n ≡ state_of top ws n
  unwritten n off = let l = s.same in ⊎_elim
      (λ h. inside out n (top + n) 0 (omega arith) ∙ s.others n (λ m. off (inl m)) (λ m. off (inr m)) ∙ inside ws n 0 (top + n) h)
      (λ h. get_or-eq_default out (top + n) (omega arith) ∙ sym (get_or-eq_default ws (top + n) h))
      (less? n (length ws))

  -- what a step wrote asks nothing of a state before it
  pub obeys-up : (t : State) (set : List ℕ) → Obeys t out set → Obeys t ws set
  obeys-up t set o n e = ⊎_elim (λ m. written n m t) (λ off. ap (value_under top t) (sym (unwritten n off)) ∙ o n e) (slot? u r n)

  pub obeys-down : (t : State) (set : List ℕ) → Untouched u r set → Obeys t ws set → Obeys t out set
  obeys-down t set free o n e = ⊎_elim (λ m. absurd (true≢false (sym e ∙ free n m))) (λ off. ap (value_under top t) (unwritten n off) ∙ o n e) (slot? u r n)

  module _ {G : State → Type 0} {set : List ℕ} where
    pub rests-back : Untouched u r set → RestsOn G out set → RestsOn G ws set
    rests-back free f = record { none = λ t g o. f.none t g (obeys-down t set free o) }

    pub value-down : {n w : ℕ} → ValueFails G ws set n w → ValueFails G out set n w
    value-down f = record { none = λ t g o. f.none t g (obeys-up t set o) }

    pub value-back : {n w : ℕ} → Untouched u r set → ValueFails G out set n w → ValueFails G ws set n w
    value-back free f = record { none = λ t g o. f.none t g (obeys-down t set free o) }

-- ---- one alternative, one value

column : (u r : List ℕ) (c : ℕ) → c < length u → c < length r → In (get_or u c 0 ≈ get_or r c 0) (equations u r)
column [] r c h g = absurd (omega arith)
column (x ∷ u) [] c h g = absurd (omega arith)
column (x ∷ u) (y ∷ r) zero h g = inl refl
column (x ∷ u) (y ∷ r) (suc c) h g = inr (column u r c (omega arith) (omega arith))

module _ {G : State → Type 0} where
  -- what fails after the step of an alternative fails by the words that the step found, and the alternative
  pub fails_step : {ws out below set u r : List ℕ} → Linked top ws → RootValues top ws u → RootValues top ws r → Equated top ws out u r
      → ((n : ℕ) → in_set below n ≡ true → (SlotOf u r n → ⊥) → in_set set n ≡ true) → RestsOn G out below → AlternativeFails G ws set u r
  fails_step {ws} {out} {below} {set} {u} {r} linked f g q among rests = record {
    none = λ t good o met. rests.none t good (λ n e. q.words linked (value_under top t) (under-constant top t) met n
        ∙ ⊎_elim (λ m. written (step_of f g q) n m t) (λ off. o n (among n e off)) (slot? u r n));
  }

  pub fails-clash : {ws set u r : List ℕ} → Clash top (equations u r) → AlternativeFails G ws set u r
  fails-clash k = record { none = λ t g o met. k.none (value_under top t) (under-constant top t) met }

  -- a slot whose word is a constant: where all fails, this value fails without its word
  pub value_learnt : {out below set : List ℕ} {n w : ℕ} → n < length out → get_or out n 0 ≡ w → w < top
      → ((m : ℕ) → in_set below m ≡ true → (m ≡ n → ⊥) → in_set set m ≡ true) → RestsOn G out below → ValueFails G out set n w
  value_learnt {out} {below} {set} {n} {w} h e low among rests = record { none = λ t good o q. rests.none t good (λ m i. go t o q m i (same? m n)) }
    where
      go : (t : State) → Obeys t out set → t n ≡ w → (m : ℕ) → in_set below m ≡ true → Dec (m ≡ n) → value_under top t (state_of top out m) ≡ t m
      go t o q m i (yes k) =
          ap (λ (x : ℕ). value_under top t (state_of top out x)) k ∙ ap (value_under top t) (inside out n (top + n) 0 h ∙ e) ∙ under-constant top t w low ∙ sym q
          ∙ ap t (sym k)
      go t o q m i (no ne) = o m (among m i ne)

  -- and an alternative that gives the slot this value fails with it
  pub fails-value : {ws set u r : List ℕ} {n w : ℕ} → ValueFails G ws set n w → w < top
      → (c : ℕ) → c < length u → c < length r → get_or u c 0 ≡ top + n → get_or r c 0 ≡ w → AlternativeFails G ws set u r
  fails-value {u = u} {r = r} {n = n} {w = w} f low c h g eu er = record {
    none = λ t good o met. f.none t good o
        (sym (under-own top t n) ∙ ap (value_under top t) (sym eu) ∙ met (get_or u c 0 ≈ get_or r c 0) (column u r c h g) ∙ ap (value_under top t) er ∙ under-constant top t w low);
  }
