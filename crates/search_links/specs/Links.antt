-- A state in words with links. The word of a slot is a constant, the slot's own made-up value, or that of a lower slot, whose value it shares
-- from then on. No promise to a caller rests on these.
use Rattle.std.specs.Prelude.{cond, List, [], ◌∷◌, ℕ, zero, suc, ◌+◌, ◌-◌, ◌<◌, ◌≤◌, ltb, length, get_or}
use Rattle.tableau_layout.specs.Layout.{slot_end}
use Rattle.case_verdicts.specs.Tableau.{State}
use Rattle.case_verdicts.specs.Words.{state_of}

-- ---- following links

-- one link from v, where `s n` is the word of slot n. Only a link to a lower value is followed: constants, and made-up values whose slots have
-- nothing lower, lead to themselves
unfoldable pub link_step : ℕ → State → ℕ → ℕ
link_step top s v = cond (ltb v top) v (cond (ltb (s (v - top)) v) (s (v - top)) v)

-- as many links
unfoldable pub walk : ℕ → State → ℕ → ℕ → ℕ
walk top s zero v = v
walk top s (suc k) v = walk top s k (link_step top s v)

-- the value at the end of v's links. Each goes down, so there are at most as many as slots up to v's
unfoldable pub root : ℕ → State → ℕ → ℕ
root top s v = walk top s (suc (v - top)) v

-- each slot with the root of its own made-up value
abbrev pub follow : ℕ → State → State
follow top s n = root top s (top + n)

-- the state that words with links hold
abbrev pub linked_state : ℕ → List ℕ → State
linked_state top ws = follow top (state_of top ws)

-- the value at a place of the tableau: of a slot, or the constant that stands there
unfoldable pub place_root : ℕ → List ℕ → ℕ → ℕ
place_root top ws w = cond (ltb w slot_end) (root top (state_of top ws) (top + w)) (w - slot_end)

-- ---- which words these are

-- every word is at most its slot's own made-up value
abbrev pub Linked : ℕ → List ℕ → Type 0
Linked top ws = (n : ℕ) → n < length ws → get_or ws n 0 ≤ top + n

-- how many slots have nothing lower than their own made-up values; that of the first is t
unfoldable pub roots : ℕ → List ℕ → ℕ
roots t [] = 0
roots t (w ∷ ws) = cond (ltb w t) (roots (suc t) ws) (suc (roots (suc t) ws))

-- ---- words as equations

-- what a value stands for under a state: a constant for itself, a made-up value for what its slot has
abbrev pub value_under : ℕ → State → ℕ → ℕ
value_under top t v = cond (ltb v top) v (t (v - top))
