-- What is seen one step ahead of a state: alternatives that fail at once, and what is learnt of it.
use mathlib.Core.Path.{◌≡◌, sym, ◌∙◌, subst}
use mathlib.Core.Bool.{Bool, true, false, true≢false}
use mathlib.Core.List.{List}
use Prim.Native.Nat.{ℕ, ◌<◌, ◌≤◌}
use native.Mathlib.Omega.{arith}
use Rattle.sheet_format.specs.Limits.{most_rows}
use Rattle.case_verdicts.specs.Verdict.{Sheet}
use Rattle.case_verdicts.specs.Sheets.{top}
use Rattle.case_verdicts.specs.Tableau.{State, Good}
use Rattle.search_links.specs.Steps.{RootValues, Equated, EquatedBy}
use Rattle.search_reasons.specs.Reasons.{RestsOn}
use Rattle.search_reasons.proofs.Laws.{step_of}
use Rattle.search_task.specs.Task.{ReadyPlan, sheet_by}
use Rattle.search_task.specs.declared.Goal.{Goal}
use Rattle.search_node.specs.Choices.{each_kind, left_at, node_of_parts, one_value, left_of, right_of, how_many, LiveAt, LiveBy}
use Rattle.search_node.specs.Node.{Wordly, OpenState, Joinable, NodeBy}
use Rattle.search_node.proofs.Choices.{part-four, right-four, shut_open}
use Rattle.search_step.specs.Run.{Remembers, node_turn_at, LeftBy, UndoneBy, Taken, Advanced, LookedInto, LearntAhead, JudgedState}
use Rattle.search_step.proofs.Steps.{taken-wordly, memory-down}

-- ---- a node with nothing left to be tried

pub closed-so : {p : List ℕ} {x : Sheet} {G : State → Type 0} {ws set node out sl sm : List ℕ} {i : ℕ} → Advanced p x G ws set node i out sl sm → i ≡ 0 → LookedInto G true ws out set
closed-so a z = record { kept = (a.over z).kept; rests = λ e. (a.over z).rests }

-- what the release of an alternative says of the words
abbrev pub Released : List ℕ → List ℕ → ℕ → List ℕ → List ℕ → Type 0
Released p node k out back =
    k < most_rows → k < how_many p node → (was : List ℕ) → RootValues top was (left_of node k) → RootValues top was (right_of p node k)
    → Equated top was out (left_of node k) (right_of p node k) → back ≡ was

-- one was left, and is taken back
pub closed-not : {p : List ℕ} {x : Sheet} {G : State → Type 0} {ws set node out sl sm : List ℕ} {i : ℕ} (t : Taken p x G ws set node i out sl sm) (k : ℕ) → k ≡ node_turn_at p node t.turn
    → how_many p node ≤ most_rows → (back : List ℕ) → Released p node k out back → LookedInto G false ws back set
closed-not {p} {x} {G} {ws} {set} {node} {out} t k is few back release = record {
  kept =
      let inside = live.inside in
      release (omega arith) inside ws (t.opened.joinable k live).left (t.opened.joinable k live).right
      (subst (λ (j : ℕ). Equated top ws out (left_of node j) (right_of p node j)) (sym is) t.step);
  rests = λ e. absurd (true≢false (sym e));
}
  where
    live : LiveAt p node k
    live = subst (λ (j : ℕ). LiveAt p node j) (sym is) t.live

-- ---- an alternative taken to see what it leads to

pub live-so : (p node : List ℕ) (k : ℕ) → k < how_many p node → (b : Bool) → b ≡ true → LiveBy b p node k → LiveAt p node k
live-so p node k lt true e l = record { inside = lt; listed = l }
live-so p node k lt false e l = absurd (true≢false (sym e))

module _ (p : List ℕ) (x : Sheet) (r : ReadyPlan p x) (goal : Goal) (ws : List ℕ) (w : Wordly x (sheet_by goal x) ws) (set node : List ℕ)
    (o : OpenState p x (Good (sheet_by goal x)) ws set node) (sl sm : List ℕ) (m : Remembers (Good (sheet_by goal x)) ws sl sm) (k : ℕ) (live : LiveAt p node k) (res : Bool) (out : List ℕ)
    (take : RootValues top ws (left_of node k) → RootValues top ws (right_of p node k) → EquatedBy res top ws out (left_of node k) (right_of p node k)) where
  abbrev G : State → Type 0
  G = Good (sheet_by goal x)

  rows : Joinable x ws (left_of node k) (right_of p node k)
  rows = o.joinable k live

  -- its constants clash
  pub ahead-clashed : res ≡ false → LearntAhead G false ws out set sl sm
  ahead-clashed e = go res e (take rows.left rows.right)
    where
      go : (b : Bool) → b ≡ false → EquatedBy b top ws out (left_of node k) (right_of p node k) → LearntAhead G false ws out set sl sm
      go true e q = absurd (true≢false e)
      go false e q = record {
        kept = q.1;
        rests = λ z. absurd (true≢false (sym z));
        memory = m;
      }

  module _ (on : res ≡ true) where
    step : Equated top ws out (left_of node k) (right_of p node k)
    step = go res on (take rows.left rows.right)
      where
        go : (b : Bool) → b ≡ true → EquatedBy b top ws out (left_of node k) (right_of p node k) → Equated top ws out (left_of node k) (right_of p node k)
        go true e q = q
        go false e q = absurd (true≢false (sym e))

    pub ahead-wordly : Wordly x (sheet_by goal x) out
    ahead-wordly = taken-wordly p x r goal ws w (part-four node left_at k) (right-four node p k) rows out step

    pub ahead-memory : Remembers G out sl sm
    ahead-memory = memory-down (step_of rows.left rows.right step) sl sm m

    module _ (so : Bool) (end below : List ℕ) (l : LookedInto G so out end below) where
      same_step : Equated top ws end (left_of node k) (right_of p node k)
      same_step = subst (λ (v : List ℕ). Equated top ws v (left_of node k) (right_of p node k)) (sym l.kept) step

      -- it fails, and is taken back
      pub ahead-left : so ≡ true → (jump : Bool) (back less more nl nm : List ℕ) → UndoneBy jump (left_of node k) (right_of p node k) end below sl sm back less set more nl nm
          → LearntAhead G jump ws back more nl nm
      ahead-left e jump back less more nl nm undone =
          go jump (undone (sheet_by goal x) ws w.size w.linked rows.left rows.right same_step (subst (λ (v : List ℕ). RestsOn G v below) (sym l.kept) (l.rests e))
          (subst (λ (v : List ℕ). Remembers G v sl sm) (sym l.kept) ahead-memory))
        where
          go : (j : Bool) → LeftBy j G ws back (left_of node k) (right_of p node k) less set more nl nm → LearntAhead G j ws back more nl nm
          go true q = record { kept = q.kept; rests = λ z. q.rests; memory = q.memory }
          go false q = record { kept = q.kept; rests = λ z. absurd (true≢false (sym z)); memory = q.memory }

      -- nothing is known of it
      pub ahead-unknown : (back : List ℕ) → ((was : List ℕ) → RootValues top was (left_of node k) → RootValues top was (right_of p node k)
          → Equated top was end (left_of node k) (right_of p node k) → back ≡ was) → LearntAhead G false ws back set sl sm
      ahead-unknown back release = record {
        kept = release ws rows.left rows.right same_step;
        rests = λ z. absurd (true≢false (sym z));
        memory = m;
      }

-- ---- a state judged in words that stay

-- the words and the table as they were when it began
pub judged-same : (good : Bool) (p : List ℕ) (x y : Sheet) (ws end set node found sl sm : List ℕ) → end ≡ ws → (Wordly x y end → NodeBy good p x y end set node found) → Wordly x y ws
    → Remembers (Good y) ws sl sm → JudgedState good p x y ws end set node found sl sm
judged-same good p x y ws end set node found sl sm e said w m = record {
  kept = e;
  judged = subst (λ (v : List ℕ). NodeBy good p x y v set node found) e (said (subst (Wordly x y) (sym e) w));
  memory = m;
}

-- one that was refuted by what was seen ahead
pub judged-refuted : (p : List ℕ) (x y : Sheet) (ws mid end set node found sl sm : List ℕ) (so : Bool) → so ≡ true → mid ≡ ws → LearntAhead (Good y) so mid end set sl sm
    → node ≡ node_of_parts each_kind 0 (one_value 0) (one_value 0) → JudgedState false p x y ws end set node found sl sm
judged-refuted p x y ws mid end set node found sl sm so on e l is = record {
  kept = l.kept ∙ e;
  judged =
      subst (λ (n : List ℕ). OpenState p x (Good y) ws set n) (sym is)
      (shut_open p x (Good y) ws set (one_value 0) (one_value 0) (subst (λ (v : List ℕ). RestsOn (Good y) v set) e (l.rests on)));
  memory = subst (λ (v : List ℕ). Remembers (Good y) v sl sm) e l.memory;
}

-- an alternative stays taken, with what the table says now
pub judged-taken : {p : List ℕ} {x y : Sheet} {ws set node : List ℕ} {i : ℕ} {out sl sm : List ℕ} → Taken p x (Good y) ws set node i out sl sm
    → (good : Bool) (end under child found tl tm : List ℕ) → JudgedState good p x y out end under child found tl tm → Taken p x (Good y) ws set node i end tl tm
judged-taken {p} {x} {y} {ws} {set} {node} t good end under child found tl tm j = record {
  turn = t.turn;
  after = t.after;
  few = t.few;
  opened = t.opened;
  tried = t.tried;
  live = t.live;
  step = subst (λ (v : List ℕ). Equated top ws v (left_of node (node_turn_at p node t.turn)) (right_of p node (node_turn_at p node t.turn))) (sym j.kept) t.step;
  memory = subst (λ (v : List ℕ). Remembers (Good y) v tl tm) (sym j.kept) j.memory;
}

pub judged-node : {good : Bool} {p : List ℕ} {x y : Sheet} {ws end set node found sl sm : List ℕ} → JudgedState good p x y ws end set node found sl sm → NodeBy good p x y end set node found
judged-node {good} {p} {x} {y} {ws} {end} {set} {node} {found} j = subst (λ (v : List ℕ). NodeBy good p x y v set node found) (sym j.kept) j.judged
