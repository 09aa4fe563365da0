-- One place more is judged.
use mathlib.Core.Path.{◌≡◌, refl, sym, ap, ◌∙◌, subst}
use mathlib.Core.List.{List, [], ◌∷◌, ◌++◌}
use mathlib.Core.Logic.{inl, inr}
use Prim.Native.Nat.{ℕ, zero, suc, ◌+◌, ◌*◌, ◌-◌, ◌<◌, ◌≤◌}
use native.Mathlib.Omega.{arith}
use borrow.Author.Count.{below_more}
use borrow.Rule.Slice.PartMut.{mid_of, post_of, put_mid, mid_len, take_put, drop_put}
use lib.IntN.{ℤ}
use lib.ListN.{length, get_or, take, drop, set, replicate, length-set, length-replicate}
use lib.Seq.{length-take-le, take_at, drop_at, drop-drop, take-take, get_or-set_same, get_or-set_other}
use Rattle.list_laws.proofs.Lists.{zeros_get}
use Rattle.judge_result.specs.Judged.{least_room}
use Rattle.judge_result.specs.Answers.{Judgement}
use Rattle.judge_ends.specs.Answers.{SetJudgement}
use Rattle.judge_ends.specs.Sets.{Promise, most_sheets, start_of, sheet_at, stretch_at, refusal_of_set, unjudged, set_judgement, JudgedTo, SetJudged}
use Rattle.judge_ends.specs.Places.{JudgedAt}
use Rattle.std.specs.Prelude.{Option, Some, Result}
use Rattle.std.proofs.lemmas.List.{map-set}
use Rattle.sheet_format.specs.declared.Refusal.{Refusal}
use Rattle.judge_result.specs.declared.Verdict.{Verdict}
use Rattle.judge_result.specs.Returns.{judgement_from_result}
use Rattle.judge_ends.specs.Returns.{judgement_at, judgements_at}

-- ---- one place

judged_as : (J : Promise) {s t : List ℕ} {a b c d : List ℤ} {i j : Judgement} → s ≡ t → a ≡ b → c ≡ d → i ≡ j → J s a c i → J t b d j
judged_as J {s} {t} {a} {b} {c} {d} {i} {j} p q r e h =
    subst (λ x. J x b d j) p (subst (λ x. J s x d j) q (subst (λ x. J s a x j) r (subst (λ x. J s a c x) e h)))

-- a part that was lent comes back to its own place
module _ (J : Promise) (k : ℕ) (bytes ends : List ℕ) (out part : List ℤ) (start : ℕ) (j : Judgement) where
  abbrev Comes : ℕ → Type 0
  Comes first = length part ≡ length (mid_of first (first + least_room - first) out) → J (take (get_or ends k 0 - start) (drop start bytes)) (mid_of first (first + least_room - first) out) part j → JudgedAt J k bytes ends out (put_mid first (first + least_room - first) out part) j

  module _ (room : k * least_room + least_room ≤ length out) (at : start ≡ start_of ends k) where
    abbrev width : ℕ
    width = k * least_room + least_room - k * least_room

    is-width : width ≡ least_room
    is-width = omega arith

    own : Comes (k * least_room)
    own same judged =
        let full = same ∙ mid_len (k * least_room) (k * least_room + least_room) out room in
        let behind = post_of (k * least_room) width out in
        let front = length-take-le (k * least_room) out (omega arith) in
        let back = ap (λ (l : List ℤ). take least_room l) (drop_at (take (k * least_room) out) (part ++ behind) (k * least_room) front) ∙ take_at part behind least_room (full ∙ is-width) in
        record {
          judged = judged_as J (ap (λ n. take (get_or ends k 0 - n) (drop n bytes)) at) (ap (λ n. take n (drop (k * least_room) out)) is-width) (sym back) refl judged;
          before = take_put (k * least_room) width out part (omega arith);
          behind = drop_put (k * least_room) (k * least_room + least_room) out part (omega arith) room full;
        }

    pub placed : (first : ℕ) → first ≡ k * least_room → Comes first
    placed first e = subst Comes (sym e) own

-- ---- one place more

-- a part of a list is a part of its front
front-part : {A : Type 0} (a b m : ℕ) (xs : List A) → a + b ≤ m → take b (drop a (take m xs)) ≡ take b (drop a xs)
front-part zero b m xs le = take-take b m xs (omega arith)
front-part (suc a) b zero xs le = absurd (omega arith)
front-part (suc a) b (suc m) [] le = refl
front-part (suc a) b (suc m) (x ∷ xs) le = front-part a b m xs (omega arith)

-- the stretches before a place are in front of its own
stretch_before : (k n : ℕ) (xs ys : List ℤ) → k < n → take (n * least_room) xs ≡ take (n * least_room) ys → stretch_at xs k ≡ stretch_at ys k
stretch_before k n xs ys lt e =
    sym (front-part (k * least_room) least_room (n * least_room) xs (omega arith))
    ∙ ap (λ (l : List ℤ). take least_room (drop (k * least_room) l)) e
    ∙ front-part (k * least_room) least_room (n * least_room) ys (omega arith)

pub judged-none : (J : Promise) (bytes ends : List ℕ) (out : List ℤ) → JudgedTo J 0 bytes ends out out (replicate most_sheets (unjudged 0))
judged-none J bytes ends out = record {
  each = λ k lt. absurd (omega arith);
  others = λ k le. zeros_get (unjudged 0) most_sheets k;
  places = length-replicate most_sheets (unjudged 0);
  rest = refl;
  same = refl;
}

module _ (J : Promise) (n : ℕ) (bytes ends : List ℕ) (out mid after : List ℤ) (js : List Judgement) (j : Judgement) (small : n < most_sheets) (t : JudgedTo J n bytes ends out mid js) (p : JudgedAt J n bytes ends mid after j) where
  earlier : (k : ℕ) → k < n → J (sheet_at bytes ends k) (stretch_at out k) (stretch_at after k) (get_or (set js n j) k (unjudged 0))
  earlier k lt =
      judged_as J refl refl (sym (stretch_before k n after mid lt p.before)) (sym (get_or-set_other js n k j (unjudged 0) (λ e. omega arith)))
      (t.each k lt)

  here : J (sheet_at bytes ends n) (stretch_at out n) (stretch_at after n) (get_or (set js n j) n (unjudged 0))
  here =
      let l = t.places in
      judged_as J refl (ap (λ (ws : List ℤ). take least_room ws) t.rest) refl (sym (get_or-set_same js n j (unjudged 0) (omega arith)))
      p.judged

  behind : drop ((n + 1) * least_room) after ≡ drop ((n + 1) * least_room) out
  behind =
      let e : (n + 1) * least_room ≡ n * least_room + least_room = omega arith in
      rw (e, p.behind, ← drop-drop least_room (n * least_room) mid, t.rest, drop-drop least_room (n * least_room) out) refl

  pub judged-more : length after ≡ length mid → JudgedTo J (n + 1) bytes ends out after (set js n j)
  judged-more same = record {
    each = below_more _ n earlier here;
    others = λ k le. get_or-set_other js n k j (unjudged 0) (λ e. omega arith) ∙ t.others k (omega arith);
    places = length-set js n j ∙ t.places;
    rest = behind;
    same = same ∙ t.same;
  }

-- the same of what stands at the places
pub judged-one-more : (J : Promise) (n : ℕ) (bytes ends : List ℕ) (out mid after : List ℤ) (ps : List (Option (Result Verdict Refusal))) (j : Result Verdict Refusal) → n < most_sheets → JudgedTo J n bytes ends out mid (judgements_at ps)
    → JudgedAt J n bytes ends mid after (judgement_from_result j) → length after ≡ length mid → JudgedTo J (n + 1) bytes ends out after (judgements_at (set ps n (Some j)))
judged-one-more J n bytes ends out mid after ps j small t p same = subst (JudgedTo J (n + 1) bytes ends out after) (sym (map-set judgement_at ps n (Some j))) (judged-more J n bytes ends out mid after (judgements_at ps) (judgement_from_result j) small t p same)

-- ---- the set

module _ (J : Promise) (bytes ends : List ℕ) (out : List ℤ) (r : SetJudgement) where
  pub set-sent : (n : ℕ) → n ≡ refusal_of_set bytes ends out → (n ≡ 0 → ⊥) → r ≡ set_judgement n 0 (replicate most_sheets (unjudged n)) → SetJudged J bytes ends out out r
  set-sent n is some same = inl (record {
    cause = λ e. some (is ∙ e);
    result = same ∙ ap (λ m. set_judgement m 0 (replicate most_sheets (unjudged m))) is;
    lent = refl;
  })

  pub set-taken : (after : List ℤ) (js : List Judgement) → refusal_of_set bytes ends out ≡ 0 → JudgedTo J (length ends) bytes ends out after js → r ≡ set_judgement 0 (length ends) js → SetJudged J bytes ends out after r
  set-taken after js is judged same =
      let e = ap (λ (x : SetJudgement). x.sheets) same in
      inr (record {
        taken = is;
        result = same ∙ ap (set_judgement 0 (length ends)) (sym e);
        judged = subst (JudgedTo J (length ends) bytes ends out after) (sym e) judged;
      })

-- what is promised of each sheet may be said otherwise
pub set_as : (J K : Promise) → ((s : List ℕ) (o a : List ℤ) (j : Judgement) → J s o a j → K s o a j) → (bytes ends : List ℕ) (out after : List ℤ) (r : SetJudgement) → SetJudged J bytes ends out after r → SetJudged K bytes ends out after r
set_as J K f bytes ends out after r (inl d) = inl d
set_as J K f bytes ends out after r (inr t) = inr (record {
  taken = t.taken;
  result = t.result;
  judged = record {
    each = λ k lt. f _ _ _ _ (t.judged.each k lt);
    others = t.judged.others;
    places = t.judged.places;
    rest = t.judged.rest;
    same = t.judged.same;
  };
})
