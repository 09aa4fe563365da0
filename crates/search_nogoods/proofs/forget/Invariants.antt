use Rattle.std.proofs.Common.{◌≡◌, ◌≤◌, length}
use Rattle.search_nogoods.proofs.Laws.{KeepingApart}
use Rattle.search_nogoods.proofs.forget.Given as goal

abbrev pub invariant-loop-e : goal.invariant-loop-e
invariant-loop-e l = record {
  few : l.kept ≤ l.e;
  long : length l.sl ≡ length l.initial.sl;
  wide : length l.sm ≡ length l.initial.sm;
  keeping : KeepingApart l.initial.sl l.initial.sm l.set l.n l.kept l.e l.sl l.sm;
}
