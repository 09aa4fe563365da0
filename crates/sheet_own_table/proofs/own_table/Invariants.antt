use mathlib.Core.Path.{◌≡◌, refl}
use Prim.Native.Nat.{◌≤◌, ◌-◌}
use native.Mathlib.Omega.{arith}
use lib.ListN.{length, take, replicate}
use borrow.Author.Rules.{rules}
use Rattle.list_laws.specs.Wrote.{Wrote}
use Rattle.list_laws.proofs.Laws.{wrote_none, copied_next}
use Rattle.sheet_own_table.specs.Own.{own_bytes, own_table_bytes}
use Rattle.sheet_own_table.proofs.Bytes.{own-length, own-written}
use Rattle.sheet_own_table.proofs.own_table.Given as goal

abbrev pub invariant-loop-i : goal.invariant-loop-i
invariant-loop-i l = (l.i ≤ own_table_bytes) × (length l.initial.bytes ≡ own_table_bytes) × Wrote l.initial.bytes l.bytes 0 l.i (take l.i own_bytes)
