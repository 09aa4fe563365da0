-- The examples with verdict 1: every case that may be handed over is as shown.
use mathlib.Core.Path.{◌≡◌, refl, sym, subst}
use mathlib.Core.Bool.{cond}
use mathlib.Core.List.{List, [], ◌∷◌}
use mathlib.Core.Logic.{inl, inr, ⊎_elim}
use Prim.Native.Nat.{ℕ, ◌≤◌}
use native.Mathlib.Omega.{arith}
use lib.Dec.{eqb}
use Rattle.sheet_format.specs.Cause.{kind_of, atoms}
use Rattle.query_meaning.specs.Meaning.{Fact, Log, In, fact, Answer}
use Rattle.query_meaning.specs.Blocks.{rows, blocks}
use Rattle.query_meaning.specs.Facts.{value_end}
use Rattle.query_meaning.specs.Evaluate.{◌≺◌}
use Rattle.case_verdicts.specs.Table.{relation, parents}
use Rattle.case_verdicts.specs.Verdict.{Sheet, Agrees, Case}
use Rattle.case_verdicts.specs.Handed.{Distinct, Handed}
use Rattle.case_verdicts.specs.Sheets.{ten, top, sheet_of}
use Rattle.case_verdicts.specs.Examples.{Shows, sheet, whole, view, all_sig, all_beat, sig_straps, seven, beat_and_noise, one_pause, same_tick}
use Rattle.case_verdicts.proofs.Laws.{monotone}
use Rattle.case_verdicts.proofs.Tables.{ten-sound}
use Rattle.case_verdicts.proofs.Distinct.{once-distinct}
use Rattle.case_verdicts.proofs.Decide.{fact?, first-all, head_eq, tail_eq}
use Rattle.case_verdicts.proofs.Needed.{Exactly, needed, answer_of, sole, both, two-distinct, one-view}
use Rattle.case_verdicts.proofs.Tests.{answers?, of_passed}

-- the fact Sig(s,t)
abbrev signal : ℕ → ℕ → Fact
signal s t = fact 4 (s ∷ t ∷ [])

-- it owes nothing
signal-free : (s t : ℕ) (P : Fact → Type 0) (f : Fact) → In f (parents ten (signal s t)) → P f
unfolding relation
signal-free s t P f m = absurd m

-- m for the variable 1, and n for the others
abbrev put_two : ℕ → ℕ → ℕ → ℕ
put_two m n k = cond (eqb k 1) m n

-- rows that begin alike are compared by the next column
not-below : (k m n : ℕ) → m ≤ n → (k ∷ n ∷ []) ≺ (k ∷ m ∷ []) → ⊥
not-below k m n h (inl l) = omega arith
not-below k m n h (inr (e, inl l)) = omega arith
not-below k m n h (inr (e, inr (p, l))) = l

-- ---- all signals, of which two are listed; the list has all beats

abbrev two_signals : List (List ℕ)
two_signals = (7 ∷ 1 ∷ []) ∷ (7 ∷ 2 ∷ []) ∷ []

abbrev signals_sheet : Sheet
signals_sheet = sheet all_sig (all_beat ∷ []) (view all_sig two_signals ∷ [])

abbrev both_signals : Log
both_signals = signal 7 1 ∷ signal 7 2 ∷ []

module _ (h : Handed top value_end signals_sheet) where
  signals_agree : Agrees h.log (view all_sig two_signals)
  signals_agree = h.is.agreeing.agrees _ (inl refl)

  -- what is listed is a fact
  signal_in : (r : List ℕ) → In r two_signals → In (fact 4 r) h.log
  signal_in r m = let a = signals_agree.none_missing r m in subst (λ q. In (fact 4 q) h.log) a.gives (a.holds _ (inl refl))

  -- what is asked for is listed
  signal-asked : In h.answer two_signals
  signal-asked = signals_agree.none_more _ h.is.asked

  signals_given : (r : List ℕ) → In r two_signals → Answer both_signals all_sig r
  signals_given = (of_passed (answers? all_sig both_signals two_signals) refl).only

  signals_only : Exactly h.log both_signals
  signals_only = needed ten-sound h both_signals both_signals
      (two-distinct _ _ (λ e. let z : ◌≡◌ {A = ℕ} 1 2 = head_eq (tail_eq (λ i. (e i).row)) in absurd (omega arith)))
      (record { at = λ f m. m })
      (record { at = both (λ f. In f h.log) _ _ (signal_in _ (inl refl)) (signal_in _ (inr (inl refl))) })
      (both (λ g. (f : Fact) → In f (parents ten g) → In f both_signals) _ _ (signal-free 7 1 _) (signal-free 7 2 _))
      (record { given = one-view both_signals _ signals_given; asked = signals_given _ signal-asked })

  -- there is no beat, so the list lacks the first as well
  first-missing : Case signals_sheet h.log (7 ∷ 1 ∷ [])
  first-missing = record {
    agreeing = h.is.agreeing;
    asked = signals_agree.none_missing _ (inl refl);
    missing = sole (λ l. Answer h.log l (7 ∷ 1 ∷ []) → ⊥) _ (λ a. (of_passed (answers? all_beat both_signals []) refl).every _ (monotone signals_only.no_more a));
  }

  first-least : h.answer ≡ 7 ∷ 1 ∷ []
  first-least = ⊎_elim (λ e. e)
      (λ l. absurd (both (λ r. r ≺ (7 ∷ 1 ∷ []) → ⊥) _ _ (not-below 7 1 1 (omega arith)) (not-below 7 1 2 (omega arith)) _ signal-asked l)) (h.least _ first-missing)

  signals_show : Shows signals_sheet (7 ∷ 1 ∷ []) 2 both_signals h
  signals_show = record { answer = first-least; count = signals_only.count; facts = signals_only.has.at }

-- it is the sheet of the lines
pub whole_shows : (h : Handed top value_end (sheet_of ten whole)) → Shows (sheet_of ten whole) (7 ∷ 1 ∷ []) 2 both_signals h
unfolding kind_of atoms rows blocks
whole_shows h = signals_show h

-- ---- straps with a signal, of which 7 and 8 are listed; the list has 7 alone

abbrev two_straps : List (List ℕ)
two_straps = (7 ∷ []) ∷ (8 ∷ []) ∷ []

abbrev straps_sheet : Sheet
straps_sheet = sheet sig_straps (seven ∷ []) (view sig_straps two_straps ∷ [])

module _ (h : Handed top value_end straps_sheet) where
  straps_agree : Agrees h.log (view sig_straps two_straps)
  straps_agree = h.is.agreeing.agrees _ (inl refl)

  -- what is listed has a signal, at some tick
  strap_in : (s : ℕ) → In (s ∷ []) two_straps → (t : ℕ) × In (signal s t) h.log
  strap_in s m = let a = straps_agree.none_missing (s ∷ []) m in (a.val 2, subst (λ n. In (signal n (a.val 2)) h.log) (head_eq a.gives) (a.holds _ (inl refl)))

  -- what is asked for is listed, and 7 is not missing
  eight-missing : h.answer ≡ 8 ∷ []
  eight-missing = both (λ r. h.answer ≡ r → h.answer ≡ 8 ∷ []) _ _
      (λ e. let (t, m) = strap_in 7 (inl refl) in absurd (h.is.missing seven (inl refl) (subst (Answer h.log seven) (sym e) (answer_of h.log _ _ (put_two 7 t) m))))
      (λ e. e) _ (straps_agree.none_more _ h.is.asked) refl

  -- a second signal of a strap would be to spare
  straps_only : (t u : ℕ) → In (signal 7 t) h.log → In (signal 8 u) h.log → Exactly h.log (signal 7 t ∷ signal 8 u ∷ [])
  straps_only t u m n =
      let facts = signal 7 t ∷ signal 8 u ∷ [] in
      let first = answer_of facts _ _ (put_two 7 t) (inl refl) in
      let second = answer_of facts _ _ (put_two 8 u) (inr (inl refl)) in
      needed ten-sound h facts facts
      (two-distinct _ _ (λ e. let z : ◌≡◌ {A = ℕ} 7 8 = head_eq (λ i. (e i).row) in absurd (omega arith)))
      (record { at = λ f i. i })
      (record { at = both (λ f. In f h.log) _ _ m n })
      (both (λ g. (f : Fact) → In f (parents ten g) → In f facts) _ _ (signal-free 7 t _) (signal-free 8 u _))
      (record { given = one-view facts _ (both (Answer facts sig_straps) _ _ first second); asked = subst (Answer facts sig_straps) (sym eight-missing) second })

  -- the facts, but for their ticks
  pub straps_named : (t u : ℕ) × Exactly h.log (signal 7 t ∷ signal 8 u ∷ [])
  straps_named = let (t, m) = strap_in 7 (inl refl) in let (u, n) = strap_in 8 (inr (inl refl)) in (t, u, straps_only t u m n)

  pub straps_show : Shows straps_sheet (8 ∷ []) 2 [] h
  straps_show = record { answer = eight-missing; count = straps_named.2.count; facts = λ f m. absurd m }

-- ---- a beat and noise at two ticks, where no tick may have both

abbrev ticks_sheet : Sheet
ticks_sheet = sheet (beat_and_noise 2) (one_pause ∷ []) (view same_tick [] ∷ [])

abbrev beat-noise : Log
beat-noise = fact 5 (7 ∷ 1 ∷ []) ∷ fact 6 (7 ∷ 2 ∷ []) ∷ []

-- and the signals that they owe
abbrev with_signals : Log
with_signals = signal 7 1 ∷ signal 7 2 ∷ beat-noise

four-distinct : Distinct with_signals
four-distinct = once-distinct fact? with_signals

module _ (h : Handed top value_end ticks_sheet) where
  -- what is asked for are facts
  beat_noise_in : (f : Fact) → In f beat-noise → In f h.log
  beat_noise_in = both (λ f. In f h.log) _ _ (h.is.asked.holds _ (inl refl)) (h.is.asked.holds _ (inr (inl refl)))

  -- so are the signals
  signals_in : (f : Fact) → In f with_signals → In f h.log
  unfolding relation
  signals_in =
      let beat = beat_noise_in _ (inl refl) in
      let noise = beat_noise_in _ (inr (inl refl)) in
      first-all (λ f. In f h.log) _ (signal 7 2 ∷ beat-noise) (h.is.agreeing.lawful.parented _ beat _ (inl refl))
      (first-all (λ f. In f h.log) _ beat-noise (h.is.agreeing.lawful.parented _ noise _ (inl refl)) beat_noise_in)

  signals_owed : (g : Fact) → In g beat-noise → (f : Fact) → In f (parents ten g) → In f with_signals
  unfolding relation
  signals_owed = both (λ g. (f : Fact) → In f (parents ten g) → In f with_signals) _ _
      (sole (λ f. In f with_signals) _ (inl refl)) (sole (λ f. In f with_signals) _ (inr (inl refl)))

  -- no row is listed
  ticks_only : Exactly h.log with_signals
  ticks_only = needed ten-sound h beat-noise with_signals four-distinct
      (record { at = λ f m. inr (inr m) })
      (record { at = signals_in })
      signals_owed
      (record {
        given = one-view beat-noise _ (λ r m. absurd m);
        asked = subst (Answer beat-noise (beat_and_noise 2)) h.is.asked.gives ((of_passed (answers? (beat_and_noise 2) beat-noise ([] ∷ [])) refl).only _ (inl refl));
      })

  pub ticks_show : Shows ticks_sheet [] 4 with_signals h
  ticks_show = record { answer = sym h.is.asked.gives; count = ticks_only.count; facts = ticks_only.has.at }
