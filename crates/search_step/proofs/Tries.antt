-- Where a search stands with a node: what each turn adds.
use mathlib.Core.Path.{◌≡◌, refl, sym, ◌∙◌, subst}
use mathlib.Core.Bool.{Bool, true, false, true≢false}
use mathlib.Core.List.{List}
use mathlib.Core.Logic.{inl, inr}
use Prim.Native.Nat.{ℕ, ◌+◌, ◌-◌, ◌*◌, ◌<◌, ◌≤◌}
use native.Mathlib.Omega.{arith}
use borrow.Author.Count.{below_more}
use Rattle.case_verdicts.specs.Verdict.{Sheet}
use Rattle.case_verdicts.specs.Sheets.{top}
use Rattle.case_verdicts.specs.Tableau.{State, Good}
use Rattle.search_slots.specs.Slots.{SetWithin}
use Rattle.search_slots.proofs.Laws.{within-refl, within_trans, joined-left, joined-right}
use Rattle.search_links.specs.Steps.{RootValues, Equated, EquatedBy}
use Rattle.search_reasons.specs.Reasons.{AlternativeFails}
use Rattle.search_reasons.proofs.Laws.{step_of, fails_more, fails-clash, fails-value, value-fails-more}
use Rattle.search_nogoods.specs.Memory.{RowExcluded, ExcludedBy}
use Rattle.search_symmetry.specs.Symmetry.{Alike}
use Rattle.search_symmetry.proofs.Exchange.{alike-fails}
use Rattle.search_task.specs.Task.{ReadyPlan, sheet_by}
use Rattle.search_task.specs.declared.Goal.{Goal}
use Rattle.search_node.specs.Choices.{rows_kind, each_kind, left_at, node_kind, node_hint, left_of, right_of, how_many, LiveAt}
use Rattle.search_node.specs.Node.{Wordly, OpenState}
use Rattle.search_node.proofs.Choices.{part-whole, part-four, right-rows, right-four, many-rows}
use Rattle.search_step.specs.Run.{Remembers, node_turn_at, is_turn_at, FailsAt, TriedTurns, Going, RefutedAs, Advanced}
use Rattle.search_step.proofs.Turns.{choice_turn}
use Rattle.search_step.proofs.Steps.{memory-down}

-- ---- an alternative that need not be tried

module _ (r : Bool) (p ws node : List ℕ) (last k : ℕ) (below sl sm old set : List ℕ) where
  pub refuted-excluded : LiveAt p node k → ExcludedBy r (left_of node k) (right_of p node k) sl sm old set → RefutedAs r p ws node last k below sl sm old set
  refuted-excluded live x = go r x
    where
      go : (b : Bool) → ExcludedBy b (left_of node k) (right_of p node k) sl sm old set → RefutedAs b p ws node last k below sl sm old set
      go true x = inr (inr x)
      go false x = (live, x)

  pub refuted-not : r ≡ false → RefutedAs r p ws node last k below sl sm old set → LiveAt p node k × (set ≡ old)
  refuted-not e x = go r e x
    where
      go : (b : Bool) → b ≡ false → RefutedAs b p ws node last k below sl sm old set → LiveAt p node k × (set ≡ old)
      go true e x = absurd (true≢false e)
      go false e x = x

-- the same rows by other names
pub by_rows : (P : List ℕ → List ℕ → Type 0) {a b u r : List ℕ} → a ≡ u → b ≡ r → P a b → P u r
by_rows P {a} {b} {u} {r} e f m = subst (λ (l : List ℕ). P l r) e (subst (λ (l : List ℕ). P a l) f m)

-- ---- the turns so far

module _ (p : List ℕ) (x : Sheet) (G : State → Type 0) (ws node : List ℕ) where
  pub opened-more : (set more : List ℕ) → SetWithin set more → OpenState p x G ws set node → OpenState p x G ws more node
  opened-more set more w o = record { joinable = o.joinable; decide = λ s v. o.decide s (within_trans set more s w v) }

  pub tried-more : (set more : List ℕ) → SetWithin set more → (n : ℕ) → TriedTurns p G ws set node n
      → ((s : List ℕ) → SetWithin more s → is_turn_at p node n ≡ true → LiveAt p node (node_turn_at p node n) → FailsAt p G ws s node (node_turn_at p node n)) → TriedTurns p G ws more node (n + 1)
  tried-more set more w n t each = record { each = λ s v. below_more _ n (t.each s (within_trans set more s w v)) (each s v) }

  -- none was tried
  pub going_first : (st set : List ℕ) → st ≡ ws → OpenState p x G ws set node → (below : List ℕ) (last : ℕ) → how_many p node ≤ last → (sl sm : List ℕ) → Remembers G ws sl sm
      → Going p x G ws st set node 0 below last sl sm
  going_first st set same o below last far sl sm m = record {
    same = same;
    opened = o;
    tried = record { each = λ s w i lt. absurd (omega arith) };
    failed = λ lt. absurd (omega arith);
    memory = m;
  }

  module _ (set : List ℕ) (n : ℕ) (st below : List ℕ) (last : ℕ) (sl sm : List ℕ) (here : Going p x G ws st set node n below last sl sm) where
    -- one turn more, of an alternative that fails or is not tried now, with more slots
    going_more : (more : List ℕ) → SetWithin set more
        → ((s : List ℕ) → SetWithin more s → is_turn_at p node n ≡ true → LiveAt p node (node_turn_at p node n) → FailsAt p G ws s node (node_turn_at p node n))
        → Going p x G ws st more node (n + 1) below last sl sm
    going_more more w each = record {
      same = here.same;
      opened = opened-more set more w here.opened;
      tried = tried-more set more w n here.tried each;
      failed = λ lt. let f = here.failed lt in record { fails = f.fails; within = within_trans below set more f.within w };
      memory = here.memory;
    }

    -- it is not the alternative's turn
    pub going_later : (b : Bool) → b ≡ false → b ≡ is_turn_at p node n → Going p x G ws st set node (n + 1) below last sl sm
    going_later b off e = going_more set (within-refl set) (λ s w now. absurd (true≢false (sym now ∙ sym e ∙ off)))

    -- all turns are over
    pub going_all : 2 * how_many p node ≤ n → Advanced p x G ws set node 0 st sl sm
    going_all le = record {
      on = λ lt. absurd (omega arith);
      over = λ e. record {
        rests = here.opened.decide set (within-refl set) (λ k live.
            let lt = live.inside in
            let (i, few, now, is) = choice_turn (node_hint node) (how_many p node) k lt in
            subst (λ (j : ℕ). LiveAt p node j → FailsAt p G ws set node j) is (here.tried.each set (within-refl set) i (omega arith) now) live);
        kept = here.same;
        memory = here.memory;
      };
    }

    module _ (k : ℕ) (is : k ≡ node_turn_at p node n) where
      at_turn : (s : List ℕ) → (LiveAt p node k → FailsAt p G ws s node k) → LiveAt p node (node_turn_at p node n) → FailsAt p G ws s node (node_turn_at p node n)
      at_turn s f = subst (λ (j : ℕ). LiveAt p node j → FailsAt p G ws s node j) is f

      excluded : (more : List ℕ) → RowExcluded (left_of node k) (right_of p node k) sl sm set more → FailsAt p G ws more node k
      excluded more y =
          let four = part-four node left_at k in
          let four-r = right-four node p k in
          let c = y.few in
          let m = here.memory.each y.entry y.there in
          fails-value (value-fails-more (joined-right y.joined) m.1) m.0 y.column (omega arith) (omega arith) y.slot y.value

      -- it was not tried
      pub going_refuted : (node_kind node ≡ rows_kind → LiveAt p node k → Alike p ws below (left_of node k) last k → FailsAt p G ws below node last → FailsAt p G ws below node k)
          → (res : Bool) (more : List ℕ) → res ≡ true → RefutedAs res p st node last k below sl sm set more → Going p x G ws st more node (n + 1) below last sl sm
      going_refuted alike false more e said = absurd (true≢false (sym e))
      going_refuted alike true more e (inl (dead, same)) =
          subst (λ (l : List ℕ). Going p x G ws st l node (n + 1) below last sl sm) (sym same)
          (going_more set (within-refl set) (λ s v t. at_turn s (λ live. absurd (dead live))))
      going_refuted alike true more e (inr (inl (kind, like, same))) =
          let m = subst (λ (l : List ℕ). Alike p l below (left_of node k) last k) here.same like in
          let f = here.failed (let few = m.few.0 in let c = many-rows node p kind in omega arith) in
          subst (λ (l : List ℕ). Going p x G ws st l node (n + 1) below last sl sm) (sym same)
          (going_more set (within-refl set) (λ s v t. at_turn s (λ live. fails_more (within_trans below set s f.within v) (alike kind live m f.fails))))
      going_refuted alike true more e (inr (inr y)) = going_more more (joined-left y.joined) (λ s v t. at_turn s (λ live. fails_more v (excluded more y)))

      -- its constants clash
      pub going_clashed : (res : Bool) (out : List ℕ) → res ≡ false → EquatedBy res top ws out (left_of node k) (right_of p node k) → Going p x G ws out set node (n + 1) below last sl sm
      going_clashed true out e said = absurd (true≢false e)
      going_clashed false out e (clash, same) =
          let g = going_more set (within-refl set) (λ s v t. at_turn s (λ live. fails-clash clash)) in
          record { same = same; opened = g.opened; tried = g.tried; failed = g.failed; memory = g.memory }

-- ---- one turn

module _ (p : List ℕ) (x : Sheet) (r : ReadyPlan p x) (goal : Goal) (ws : List ℕ) (w : Wordly x (sheet_by goal x) ws) (node set : List ℕ) (n : ℕ) (st below : List ℕ) (last : ℕ)
    (sl sm : List ℕ) (here : Going p x (Good (sheet_by goal x)) ws st set node n below last sl sm) (k : ℕ) (is : k ≡ node_turn_at p node n) where
  abbrev G : State → Type 0
  G = Good (sheet_by goal x)

  -- rows that are alike fail together
  like-fails : node_kind node ≡ rows_kind → LiveAt p node k → Alike p ws below (left_of node k) last k → FailsAt p G ws below node last → FailsAt p G ws below node k
  like-fails kind live m f =
      subst (λ (l : List ℕ). AlternativeFails G ws below (left_of node k) l) (sym (right-rows node p k kind))
      (alike-fails p x r goal ws below (left_of node k) w.size (here.opened.joinable k live).left last k m
      (subst (λ (l : List ℕ). AlternativeFails G ws below (left_of node k) l) (right-rows node p last kind)
      (subst (λ (l : List ℕ). AlternativeFails G ws below l (right_of p node last)) (part-whole node left_at last off ∙ sym (part-whole node left_at k off)) f)))
    where
      off : node_kind node ≡ each_kind → ⊥
      off e = omega arith

  pub turn-refuted : (res : Bool) (more : List ℕ) → res ≡ true → RefutedAs res p st node last k below sl sm set more → Going p x G ws st more node (n + 1) below last sl sm
  turn-refuted res more = going_refuted p x G ws node set n st below last sl sm here k is like-fails res more

  -- what taking it says of the words as it found them
  module _ (live : LiveAt p node k) (res : Bool) (out : List ℕ)
      (take : RootValues top st (left_of node k) → RootValues top st (right_of p node k) → EquatedBy res top st out (left_of node k) (right_of p node k)) where
    at_words : EquatedBy res top ws out (left_of node k) (right_of p node k)
    at_words =
        subst (λ (l : List ℕ). (RootValues top l (left_of node k) → RootValues top l (right_of p node k) → EquatedBy res top l out (left_of node k) (right_of p node k))
        → EquatedBy res top ws out (left_of node k) (right_of p node k)) (sym here.same) (λ f. f (here.opened.joinable k live).left (here.opened.joinable k live).right) take

    pub turn-clashed : res ≡ false → Going p x G ws out set node (n + 1) below last sl sm
    turn-clashed e = going_clashed p x G ws node set n st below last sl sm here k is res out e at_words

    pub turn-taken : res ≡ true → n < 2 * how_many p node → Advanced p x G ws set node (n + 1) out sl sm
    turn-taken taken lt = record {
      on = λ more. record {
        turn = n;
        after = refl;
        few = lt;
        opened = here.opened;
        tried = here.tried;
        live = subst (λ (j : ℕ). LiveAt p node j) is live;
        step = subst (λ (j : ℕ). Equated top ws out (left_of node j) (right_of p node j)) is step;
        memory = memory-down (step_of (here.opened.joinable k live).left (here.opened.joinable k live).right step) sl sm here.memory;
      };
      over = λ e. absurd (omega arith);
    }
      where
        step : Equated top ws out (left_of node k) (right_of p node k)
        step = go res taken at_words
          where
            go : (a : Bool) → a ≡ true → EquatedBy a top ws out (left_of node k) (right_of p node k) → Equated top ws out (left_of node k) (right_of p node k)
            go true e q = q
            go false e q = absurd (true≢false (sym e))
