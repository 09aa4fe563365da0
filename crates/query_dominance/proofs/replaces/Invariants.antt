use mathlib.Core.Bool.{true≢false}
use mathlib.Core.Logic.{◌⊎◌}
use borrow.Author.Count.{below_more}
use borrow.Author.Tests.{not-false}
use mathlib.Core.Path.{sym}
use Prim.Native.Nat.{ℕ, ◌≤◌, ◌<◌, ◌-◌, ◌+◌, ◌*◌}
use native.Mathlib.Omega.{arith}
use Rattle.query_join.specs.Parts.{column_term, column_value}
use Rattle.query_dominance.specs.Dominance.{Lone, ColumnFollows}
use Rattle.query_dominance.proofs.Laws.{column-either}
use borrow.Author.Rules.{rules}
use Rattle.query_dominance.specs.Dominance.{Lone, ColumnFollows}
use Rattle.query_dominance.proofs.Laws.{column-either}
use borrow.Author.Rules.{rules}
use Rattle.query_dominance.proofs.replaces.Given as goal

abbrev pub invariant-loop-c : goal.invariant-loop-c
invariant-loop-c l = ((e : ℕ) → e < l.c → Lone l.blk (l.j * 5 + 1 + e) ⊎ ColumnFollows (column_term l.blk l.j e) l.y l.b (column_value l.facts l.i e) (column_value l.facts l.g e))
