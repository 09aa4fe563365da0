-- The judged examples that are proved: each is an entry of one table, `examples`.
use Rattle.std.specs.Prelude.{◌≡◌, List, [], ◌∷◌, ◌++◌, ℕ, pos, negsuc, length}
use Rattle.sheet_format.specs.Line.{Line}
use Rattle.query_meaning.specs.Meaning.{Term, con, var, Fact, Log, Atom, Block, In, fact}
use Rattle.query_meaning.specs.Blocks.{View}
use Rattle.query_meaning.specs.Facts.{value_end}
use Rattle.query_meaning.specs.Evaluate.{Answers}
use Rattle.case_verdicts.specs.Verdict.{Sheet, Covered, NoLog}
use Rattle.case_verdicts.specs.Handed.{Handed}
use Rattle.case_verdicts.specs.Sheets.{ten, top, sheet_of}

-- ---- entries, and what they say

-- a verdict. With 1: the missing answer, how many facts the case has, and facts that are among them (all, where so many are named)
pub data Shown : Type 0 where
  covered : Shown
  case : List ℕ → ℕ → List Fact → Shown
  no_log : Shown

pub data Entry : Type 0 where
  judge : Sheet → Shown → Entry
  judge_any : List View → Entry
  evaluate : Block → Log → List (List ℕ) → Entry
  evaluate_any : Log → List (List ℕ) → Entry

abbrev pub sheet : Block → List Block → List View → Sheet
sheet q ls ws = record { table = ten; question = q; lists = ls; views = ws }

-- the case handed over has this missing answer, so many facts, and these among them
pub record Shows (x : Sheet) (a : List ℕ) (n : ℕ) (fs : List Fact) (h : Handed top value_end x) : Type 0 where
  pub answer : h.answer ≡ a
  pub count : length h.log ≡ n
  pub facts : (f : Fact) → In f fs → In f h.log

-- the verdict holds; with 1 there is a case to hand over, and every case that may be handed over is as shown
abbrev pub SaysOf : Sheet → Shown → Type 0
SaysOf x covered = Covered x
SaysOf x (case a n fs) = Handed top value_end x × ((h : Handed top value_end x) → Shows x a n fs h)
SaysOf x no_log = NoLog x

-- a sheet's verdict; no log for these views, whatever the question and the list are; a block's answers; those of every block (it has
-- an atom)
abbrev pub Says : Entry → Type 0
Says (judge x r) = SaysOf x r
Says (judge_any ws) = (q : Block) (ls : List Block) → NoLog (sheet q ls ws)
Says (evaluate b log rs) = Answers log b rs
Says (evaluate_any log rs) = (b : Block) (a : Atom) → In a b.atoms → Answers log b rs

-- ---- the sheet that is shown whole in the README, line by line, and the same without its rows

abbrev without_rows : List Line
without_rows =
    (pos 1 ∷ negsuc 0 ∷ negsuc 1 ∷ [])
    ∷ (pos 4 ∷ pos 4 ∷ negsuc 0 ∷ negsuc 1 ∷ [])
    ∷ (pos 2 ∷ negsuc 0 ∷ negsuc 1 ∷ [])
    ∷ (pos 4 ∷ pos 5 ∷ negsuc 0 ∷ negsuc 1 ∷ [])
    ∷ (pos 3 ∷ negsuc 0 ∷ negsuc 1 ∷ [])
    ∷ (pos 4 ∷ pos 4 ∷ negsuc 0 ∷ negsuc 1 ∷ [])
    ∷ []

abbrev pub whole : List Line
whole = without_rows ++ ((pos 5 ∷ pos 7 ∷ pos 1 ∷ []) ∷ (pos 5 ∷ pos 7 ∷ pos 2 ∷ []) ∷ [])

-- ---- the blocks of the others: their letters are variables

abbrev block : List Term → List Atom → Block
block h ls = record { head = h; atoms = ls; apart = [] }

abbrev pub view : Block → List (List ℕ) → View
view b rs = record { block = b; rows = rs }

abbrev strap : List Term → Atom
strap ts = record { rel = 2; terms = ts }

abbrev sig : List Term → Atom
sig ts = record { rel = 4; terms = ts }

abbrev beat : List Term → Atom
beat ts = record { rel = 5; terms = ts }

abbrev noise : List Term → Atom
noise ts = record { rel = 6; terms = ts }

abbrev pulse : List Term → Atom
pulse ts = record { rel = 7; terms = ts }

abbrev pause : List Term → Atom
pause ts = record { rel = 10; terms = ts }

abbrev s : Term
s = var 1

abbrev t : Term
t = var 2

abbrev both : List Term
both = s ∷ t ∷ []

abbrev first : List Term
first = s ∷ []

abbrev pub all_sig : Block
all_sig = block both (sig both ∷ [])

abbrev pub all_beat : Block
all_beat = block both (beat both ∷ [])

abbrev pub sig_straps : Block
sig_straps = block first (sig both ∷ [])

abbrev pub seven : Block
seven = block (con 7 ∷ []) (sig (con 7 ∷ t ∷ []) ∷ [])

abbrev all_straps : Block
all_straps = block first (strap first ∷ [])

abbrev strap_and_pause : Block
strap_and_pause = block first (strap first ∷ pause (t ∷ []) ∷ [])

abbrev paused_strap : Block
paused_strap = block [] (strap first ∷ pause first ∷ [])

-- Beat(7,1) and Noise(7,n), asked for without a column
abbrev pub beat_and_noise : ℕ → Block
beat_and_noise n = block [] (beat (con 7 ∷ con 1 ∷ []) ∷ noise (con 7 ∷ con n ∷ []) ∷ [])

abbrev pub one_pause : Block
one_pause = block [] (pause (con 1 ∷ []) ∷ [])

-- ticks with both a beat and noise
abbrev pub same_tick : Block
same_tick = block (t ∷ []) (beat (con 7 ∷ t ∷ []) ∷ noise (con 7 ∷ t ∷ []) ∷ [])

-- strap 7's rates at tick 1: one rate, and two rates side by side
abbrev all_pulse : Block
all_pulse = block (s ∷ t ∷ var 3 ∷ []) (pulse (s ∷ t ∷ var 3 ∷ []) ∷ [])

abbrev pub one_rate : Block
one_rate = block (s ∷ s ∷ []) (pulse (con 7 ∷ con 1 ∷ s ∷ []) ∷ [])

abbrev pub two_rates : Block
two_rates = block both (pulse (con 7 ∷ con 1 ∷ s ∷ []) ∷ pulse (con 7 ∷ con 1 ∷ t ∷ []) ∷ [])

-- ---- the table

abbrev pub examples : List Entry
examples =
    judge (sheet_of ten whole) (case (7 ∷ 1 ∷ []) 2 (fact 4 (7 ∷ 1 ∷ []) ∷ fact 4 (7 ∷ 2 ∷ []) ∷ []))
    ∷ judge (sheet_of ten without_rows) covered
    ∷ judge (sheet all_sig (all_beat ∷ []) (view all_sig ((7 ∷ 1 ∷ []) ∷ []) ∷ view all_beat ((7 ∷ 1 ∷ []) ∷ []) ∷ [])) covered
    ∷ judge (sheet sig_straps (seven ∷ []) (view sig_straps ((7 ∷ []) ∷ []) ∷ [])) covered
    ∷ judge (sheet sig_straps (seven ∷ []) (view sig_straps ((7 ∷ []) ∷ (8 ∷ []) ∷ []) ∷ [])) (case (8 ∷ []) 2 [])
    ∷ judge_any (view (block [] (beat both ∷ [])) ([] ∷ []) ∷ view all_beat [] ∷ [])
    ∷ judge (sheet strap_and_pause (all_straps ∷ []) (view paused_strap [] ∷ [])) covered
    ∷ judge_any (view all_beat ((7 ∷ 1 ∷ []) ∷ []) ∷ view all_sig [] ∷ [])
    ∷ judge (sheet all_beat (all_sig ∷ []) []) covered
    ∷ judge (sheet (beat_and_noise 2) (one_pause ∷ []) (view same_tick [] ∷ [])) (case [] 4 (fact 4 (7 ∷ 1 ∷ []) ∷ fact 4 (7 ∷ 2 ∷ []) ∷ fact 5 (7 ∷ 1 ∷ []) ∷ fact 6 (7 ∷ 2 ∷ []) ∷ []))
    ∷ judge (sheet (beat_and_noise 1) (one_pause ∷ []) (view same_tick [] ∷ [])) covered
    ∷ evaluate sig_straps (fact 4 (7 ∷ 1 ∷ []) ∷ fact 4 (7 ∷ 2 ∷ []) ∷ fact 4 (8 ∷ 2 ∷ []) ∷ []) ((7 ∷ []) ∷ (8 ∷ []) ∷ [])
    ∷ evaluate all_beat (fact 5 (7 ∷ 1 ∷ []) ∷ []) ((7 ∷ 1 ∷ []) ∷ [])
    ∷ evaluate_any [] []
    ∷ judge_any (view all_pulse ((7 ∷ 1 ∷ 60 ∷ []) ∷ (7 ∷ 1 ∷ 61 ∷ []) ∷ []) ∷ [])
    ∷ judge (sheet two_rates (one_rate ∷ []) []) covered
    ∷ evaluate two_rates (fact 7 (7 ∷ 1 ∷ 60 ∷ []) ∷ fact 7 (7 ∷ 1 ∷ 61 ∷ []) ∷ []) ((60 ∷ 60 ∷ []) ∷ (60 ∷ 61 ∷ []) ∷ (61 ∷ 60 ∷ []) ∷ (61 ∷ 61 ∷ []) ∷ [])
    ∷ []
