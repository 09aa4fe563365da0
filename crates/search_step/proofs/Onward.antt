-- From one alternative of a node to the next, and below it.
use mathlib.Core.Path.{◌≡◌, refl, sym, subst}
use mathlib.Core.Bool.{Bool, true, false, true≢false}
use mathlib.Core.List.{List}
use Prim.Native.Nat.{ℕ, ◌+◌, ◌-◌, ◌<◌}
use native.Mathlib.Omega.{arith}
use lib.ListN.{length}
use Rattle.tableau_layout.specs.Layout.{slot_end}
use Rattle.case_verdicts.specs.Verdict.{Sheet}
use Rattle.case_verdicts.specs.Sheets.{top}
use Rattle.case_verdicts.specs.Tableau.{Good}
use Rattle.search_slots.proofs.Laws.{within_trans}
use Rattle.search_links.specs.Links.{Linked, roots}
use Rattle.search_links.specs.Steps.{RootValues, Equated}
use Rattle.search_reasons.specs.Reasons.{RestsOn}
use Rattle.search_reasons.proofs.Laws.{fails_more}
use Rattle.search_task.specs.Task.{ReadyPlan, sheet_by}
use Rattle.search_task.specs.declared.Goal.{Goal}
use Rattle.search_node.specs.Choices.{left_at, left_of, right_of, how_many, LiveAt}
use Rattle.search_node.specs.Node.{Wordly, StateFound, Joinable, NodeBy}
use Rattle.search_node.proofs.Choices.{part-four, right-four}
use Rattle.search_step.specs.Run.{Remembers, Lost, FoundOrLost, SearchBegun, node_turn_at, FailsAt, TriedTurns, Going, RowLeft, LeftBy, Taken, Advanced, Behind}
use Rattle.search_step.proofs.Steps.{taken-wordly, taken-room}
use Rattle.search_step.proofs.Tries.{opened-more, tried-more}

-- ---- where a search begins

pub begun-behind : {p : List ℕ} {x y : Sheet} {ws : List ℕ} {left : ℕ} {set node sl sm : List ℕ} (below : List ℕ) → SearchBegun p x y ws left set node sl sm
    → Behind p x (Good y) ws set node 0 ws below sl sm
begun-behind below b = record { first = λ e. (refl, b.opened, b.memory); later = λ lt. absurd (omega arith) }

-- the words are as they were
pub from-kept : (p : List ℕ) (x y : Sheet) (back ws set node : List ℕ) (n : ℕ) (below : List ℕ) (last : ℕ) (sl sm more : List ℕ) (i : ℕ) (out : List ℕ) → back ≡ ws
    → (Wordly x y back → Going p x (Good y) back back set node n below last sl sm → Advanced p x (Good y) back more node i out sl sm)
    → Wordly x y ws → Going p x (Good y) ws back set node n below last sl sm → Advanced p x (Good y) ws more node i out sl sm
from-kept p x y back ws set node n below last sl sm more i out e f w g =
    subst (λ (l : List ℕ). Advanced p x (Good y) l more node i out sl sm) e
    (f (subst (Wordly x y) (sym e) w) (subst (λ (l : List ℕ). Going p x (Good y) l back set node n below last sl sm) (sym e) g))

-- ---- an alternative that was taken

module _ (p : List ℕ) (x : Sheet) (r : ReadyPlan p x) (goal : Goal) (ws : List ℕ) (w : Wordly x (sheet_by goal x) ws) (set node : List ℕ) (i : ℕ) (out sl sm : List ℕ)
    (t : Taken p x (Good (sheet_by goal x)) ws set node i out sl sm) where
  abbrev y : Sheet
  y = sheet_by goal x

  abbrev here : ℕ
  here = node_turn_at p node t.turn

  rows : Joinable x ws (left_of node here) (right_of p node here)
  rows = t.opened.joinable here t.live

  pub onward-wordly : Wordly x y out
  onward-wordly = taken-wordly p x r goal ws w (part-four node left_at here) (right-four node p here) rows out t.step

  -- the state after it is good, or a node again
  pub onward-found : (good : Bool) (under child state : List ℕ) → good ≡ true → NodeBy good p x y out under child state → StateFound x y state
  onward-found true under child state e said = said
  onward-found false under child state e said = absurd (true≢false (sym e))

  pub onward-begun : (left : ℕ) → roots top ws < left → (good : Bool) (under child state : List ℕ) → good ≡ false → NodeBy good p x y out under child state
      → SearchBegun p x y out (left - 1) under child sl sm
  onward-begun left room true under child state e said = absurd (true≢false e)
  onward-begun left room false under child state e said = record {
    wordly = onward-wordly;
    room = taken-room p x r goal ws w (part-four node left_at here) (right-four node p here) rows out t.step left room;
    opened = said;
    memory = t.memory;
  }

  -- a good state was found below it, or nothing was
  pub onward-good : (found : Bool) (end under tl tm state : List ℕ) → found ≡ true → FoundOrLost found x y out end under tl tm state → StateFound x y state
  onward-good true end under tl tm state e said = said
  onward-good false end under tl tm state e said = absurd (true≢false (sym e))

  pub onward-failed : (found : Bool) (end under tl tm state : List ℕ) → found ≡ false → FoundOrLost found x y out end under tl tm state → Behind p x (Good y) ws set node i end under tl tm
  onward-failed true end under tl tm state e said = absurd (true≢false e)
  onward-failed false end under tl tm state e lost = record {
    first = λ z. let a = t.after in absurd (omega arith);
    later = λ lt. (
      record {
        turn = t.turn;
        after = t.after;
        few = t.few;
        opened = t.opened;
        tried = t.tried;
        live = t.live;
        step = subst (λ (l : List ℕ). Equated top ws l (left_of node here) (right_of p node here)) (sym lost.kept) t.step;
        memory = subst (λ (l : List ℕ). Remembers (Good y) l tl tm) (sym lost.kept) lost.memory;
      },
      subst (λ (l : List ℕ). RestsOn (Good y) l under) (sym lost.kept) lost.rests,
    );
  }

  -- it is taken back
  module _ (k : ℕ) (is : k ≡ here) (below : List ℕ) (rests : RestsOn (Good y) out below) (jump : Bool) (back less more nl nm : List ℕ)
      (leave : k < how_many p node → (old : List ℕ) → length old ≡ slot_end → Linked top old → RootValues top old (left_of node k) → RootValues top old (right_of p node k)
      → Equated top old out (left_of node k) (right_of p node k) → RestsOn (Good y) out below → Remembers (Good y) out sl sm
      → LeftBy jump (Good y) old back (left_of node k) (right_of p node k) less set more nl nm) where
    live : LiveAt p node k
    live = subst (λ (j : ℕ). LiveAt p node j) (sym is) t.live

    left_so : LeftBy jump (Good y) ws back (left_of node k) (right_of p node k) less set more nl nm
    left_so =
        leave live.inside ws w.size w.linked (t.opened.joinable k live).left (t.opened.joinable k live).right
        (subst (λ (j : ℕ). Equated top ws out (left_of node j) (right_of p node j)) (sym is) t.step) rests t.memory

    -- the failure does not rest on it
    pub left_jumped : jump ≡ true → Advanced p x (Good y) ws more node 0 back nl nm
    left_jumped e = record { on = λ lt. absurd (omega arith); over = λ z. go jump e left_so }
      where
        go : (j : Bool) → j ≡ true → LeftBy j (Good y) ws back (left_of node k) (right_of p node k) less set more nl nm → Lost (Good y) ws back more nl nm
        go true e s = s
        go false e s = absurd (true≢false (sym e))

    -- it fails
    failed_row : jump ≡ false → RowLeft (Good y) ws back (left_of node k) (right_of p node k) less set more nl nm
    failed_row e = go jump e left_so
      where
        go : (j : Bool) → j ≡ false → LeftBy j (Good y) ws back (left_of node k) (right_of p node k) less set more nl nm → RowLeft (Good y) ws back (left_of node k) (right_of p node k) less set more nl nm
        go true e s = absurd (true≢false e)
        go false e s = s

    pub left-kept : jump ≡ false → back ≡ ws
    left-kept e = (failed_row e).kept

    pub left_going : jump ≡ false → Going p x (Good y) ws back more node i less k nl nm
    left_going e =
        let f = failed_row e in
        record {
          same = f.kept;
          opened = opened-more p x (Good y) ws node set more f.more t.opened;
          tried =
              let z : t.turn + 1 ≡ i = sym t.after in
              subst (λ (n : ℕ). TriedTurns p (Good y) ws more node n) z
              (tried-more p x (Good y) ws node set more f.more t.turn t.tried (λ s v now lives. subst (λ (j : ℕ). FailsAt p (Good y) ws s node j) is
              (fails_more (within_trans less more s f.within v) f.fails)));
          failed = λ lt. record { fails = f.fails; within = f.within };
          memory = f.memory;
        }
