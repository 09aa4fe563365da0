use mathlib.Core.Path.{◌≡◌, refl, sym}
use Prim.Native.Nat.{◌≤◌, ◌<◌, ◌*◌}
use native.Mathlib.Omega.{arith}
use borrow.Author.Rules.{rules}
use lib.ListN.{length, take}
use lib.Seq.{length-take-le}
use Rattle.search_task.proofs.NodeLaws.{ready-views}
use Rattle.case_writer.proofs.Handing.{written}
use Rattle.case_writer.proofs.put_facts.Reads as put-facts-reads
use Rattle.case_writer.proofs.spare_free.Reads as spare-free-reads
use Rattle.case_missing_answer.proofs.missing.Reads as missing-reads
use Rattle.std.proofs.Common.{is_some, unwrap_or, Option, Some, None, List, ℕ}
use Rattle.query_rows.specs.Rows.{zeros, row_values}
use Rattle.case_writer.proofs.hand_over.Goals as goal

values-or : (r : Option (List ℕ)) → unwrap_or r zeros ≡ row_values r
values-or None = refl
values-or (Some u) = refl

pub returns-clause-hands_over : goal.returns-clause-hands_over
returns-clause-hands_over c = let f = c.spare_free-count in
    let m = c.missing-row in
    let w = c.put_facts in (λ x r good room.
    let h = (f.ensures x r good).1.handed (is_some m.result) (row_values m.result) (m.ensures (ready-views c.args.p.now x r)) in
    rw (c.unwrap_or-missing.ensures, values-or m.result) (written x (take (f.result * 5) f.new.room) f.result (row_values m.result) c.args.out.now w.new.out h (w.ensures h.small)))
