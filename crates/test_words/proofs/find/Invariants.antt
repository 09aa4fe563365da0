-- What is found from there on is what is found from the start on.
use mathlib.Core.Path.{◌≡◌}
use Prim.Native.Nat.{◌≤◌, ◌+◌}
use lib.ListN.{length, drop}
use Rattle.test_words.specs.Words.{before_either}
use Rattle.test_words.proofs.find.Given as goal

abbrev pub invariant-loop-i : goal.invariant-loop-i
invariant-loop-i l = (l.from ≤ l.i) × (l.i ≤ length l.s) × (l.i + before_either l.a l.b (drop l.i l.s) ≡ l.from + before_either l.a l.b (drop l.from l.s))
