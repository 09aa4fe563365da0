-- A block's head in the plan, under a copy's valuation.
use mathlib.Core.Path.{◌≡◌, ap, ◌∙◌}
use mathlib.Core.List.{List}
use Prim.Native.Nat.{ℕ, ◌+◌, ◌-◌, ◌*◌, ◌<◌, ◌≤◌}
use native.Mathlib.Omega.{arith}
use borrow.Author.Tests.{lt-ltb, le-ltb}
use lib.ListN.{get_or}
use Rattle.query_layout.specs.Layout.{block_head, block_width, names}
use Rattle.tableau_layout.specs.Layout.{blocks_at}
use Rattle.query_join.specs.Joins.{value_of}
use Rattle.case_verdicts.specs.Tableau.{State}
use Rattle.tableau_plan.specs.Plan.{block_numbers}
use Rattle.tableau_parts.proofs.Laws.{block_at}

module _ (p : List ℕ) (s : State) (b k c : ℕ) (col : c < 4) where
  place : get_or (block_numbers p b) (block_head + c) 0 ≡ get_or p (blocks_at + b * block_width + block_head + c) 0
  place = block_at p b (block_head + c) (omega arith) ∙ ap (λ i. get_or p i 0) (let e : blocks_at + b * block_width + (block_head + c) ≡ blocks_at + b * block_width + block_head + c = omega arith in e)

  pub head-variable : get_or p (blocks_at + b * block_width + block_head + c) 0 < names
      → s (k * names + get_or p (blocks_at + b * block_width + block_head + c) 0) ≡ value_of (λ x. s (k * names + x)) (get_or (block_numbers p b) (block_head + c) 0)
  unfolding value_of
  head-variable lt = rw (place, lt-ltb (get_or p (blocks_at + b * block_width + block_head + c) 0) names lt)

  pub head-constant : names ≤ get_or p (blocks_at + b * block_width + block_head + c) 0 → get_or p (blocks_at + b * block_width + block_head + c) 0 - names ≡ value_of (λ x. s (k * names + x)) (get_or (block_numbers p b) (block_head + c) 0)
  unfolding value_of
  head-constant le = rw (place, le-ltb (get_or p (blocks_at + b * block_width + block_head + c) 0) names le)
