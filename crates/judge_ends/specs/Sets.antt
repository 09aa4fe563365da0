-- What judging a page's set of sheets gives, for all input. `bytes` holds the sheets one after the other, and `ends` says where each ends;
-- `out` is what was lent, `after` what it holds afterwards. Places are counted from 0.
use Rattle.std.specs.Prelude.{◌≡◌, Bool, false, cond, not, ◌||◌, List, [], ◌∷◌, ◌⊎◌, ℕ, ◌-◌, ◌*◌, ◌<◌, ◌≤◌, eqb, ltb, ℤ, length, get_or, take, drop, replicate}
use Rattle.judge_result.specs.Judged.{least_room, judgement}
use Rattle.judge_result.specs.Answers.{Judgement}
use Rattle.judge_ends.specs.Answers.{SetJudgement}

-- a set has so many sheets at most
abbrev pub most_sheets : ℕ
most_sheets = 16

-- ---- a sheet's own bytes and words

-- a sheet starts where the one before it ends, the first at 0; past the last place this is the last end, 0 without sheets
abbrev pub start_of : List ℕ → ℕ → ℕ
start_of ends k = get_or (0 ∷ ends) k 0

abbrev pub sheet_at : List ℕ → List ℕ → ℕ → List ℕ
sheet_at bytes ends k = take (get_or ends k 0 - start_of ends k) (drop (start_of ends k) bytes)

abbrev pub stretch_at : List ℤ → ℕ → List ℤ
stretch_at out k = take least_room (drop (k * least_room) out)

-- ---- what a set is sent back for

-- an end is below the one before it, which is `before` for the first
unfoldable pub ends_fall_back : ℕ → List ℕ → Bool
ends_fall_back before [] = false
ends_fall_back before (e ∷ es) = ltb e before || ends_fall_back e es

-- 14: more sheets than there may be, an end that falls back, a last end that is not the byte count
abbrev pub has_wrong_ends : ℕ → List ℕ → Bool
has_wrong_ends count ends = ltb most_sheets (length ends) || (ends_fall_back 0 ends || not (eqb (start_of ends (length ends)) count))

-- 14, and then 13 for fewer lent words than a stretch for each sheet; 0 where the set is taken. No line is ever named.
unfoldable pub refusal_of_set : List ℕ → List ℕ → List ℤ → ℕ
refusal_of_set bytes ends out =
    cond (has_wrong_ends (length bytes) ends) 14
    (cond (ltb (length out) (length ends * least_room)) 13
    0)

-- ---- what is returned

-- at a place where no sheet was judged stands a refusal by the set's own number, which is 0 where the set is taken
abbrev pub unjudged : ℕ → Judgement
unjudged n = judgement 9 n 0 0 []

-- the number, line 0, how many sheets were judged, and a judgement for each place
abbrev pub set_judgement : ℕ → ℕ → List Judgement → SetJudgement
set_judgement n k js = record { number = n; line = 0; count = k; sheets = js }

-- the set is sent back: no sheet is judged, and nothing lent is changed
pub record SetSent (bytes ends : List ℕ) (out after : List ℤ) (r : SetJudgement) : Type 0 where
  pub cause : refusal_of_set bytes ends out ≡ 0 → ⊥
  pub result : r ≡ set_judgement (refusal_of_set bytes ends out) 0 (replicate most_sheets (unjudged (refusal_of_set bytes ends out)))
  pub lent : after ≡ out

-- what is promised of a sheet alone: of its bytes, of the words lent to it and what they hold afterwards, and of its judgement
abbrev pub Promise : Type 1
Promise = List ℕ → List ℤ → List ℤ → Judgement → Type 0

-- the sheets at the first n places are judged as they would be alone, each in its own stretch; the words past these stretches are as they were
pub record JudgedTo (J : Promise) (n : ℕ) (bytes ends : List ℕ) (out after : List ℤ) (js : List Judgement) : Type 0 where
  pub each : (k : ℕ) → k < n → J (sheet_at bytes ends k) (stretch_at out k) (stretch_at after k) (get_or js k (unjudged 0))
  pub others : (k : ℕ) → n ≤ k → get_or js k (unjudged 0) ≡ unjudged 0
  pub places : length js ≡ most_sheets
  pub rest : drop (n * least_room) after ≡ drop (n * least_room) out
  pub same : length after ≡ length out

-- the set is taken: all its sheets are
pub record SetTaken (J : Promise) (bytes ends : List ℕ) (out after : List ℤ) (r : SetJudgement) : Type 0 where
  pub taken : refusal_of_set bytes ends out ≡ 0
  pub result : r ≡ set_judgement 0 (length ends) r.sheets
  pub judged : JudgedTo J (length ends) bytes ends out after r.sheets

abbrev pub SetJudged : Promise → List ℕ → List ℕ → List ℤ → List ℤ → SetJudgement → Type 0
SetJudged J bytes ends out after r = SetSent bytes ends out after r ⊎ SetTaken J bytes ends out after r
