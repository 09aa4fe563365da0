use mathlib.Core.Path.{◌≡◌, sym, ap, ◌∙◌, subst}
use Prim.Native.Nat.{ℕ, ◌≤◌, ◌<◌, ◌-◌, ◌+◌}
use native.Mathlib.Omega.{arith}
use borrow.Author.Rules.{rules}
use mathlib.Core.List.{List, map}
use lib.ListN.{length, get_or, take, set, length-map, length-set, get_or-map}
use lib.IntN.{pos}
use lib.Seq.{take-length}
use mir.Syntax.{w32}
use mir.Val.{to_z, of_z}
use mir.ValLaws.{to_z-of_z}
use Rattle.list_laws.specs.Wrote.{Wrote}
use Rattle.list_laws.proofs.Laws.{wrote_none, copied_next}
use Rattle.case_writer.proofs.word.Reads as word-reads
use Rattle.case_writer.proofs.put_facts.Goals as goal
use Rattle.case_writer.proofs.put_facts.Invariants.{Small}

pub loop-i-preserved : goal.loop-i-preserved
loop-i-preserved c = let l = c.loop-i in
    let a = c.args in
    let n = get_or a.facts.now l.i 0 in
    let t = c.loop-i-test.true in
    let m = length-map a.facts.now pos in (
      length-set l.out l.i _ ∙ l.invariant.0,
      λ small.
          let k = small l.i t in
          let e = l.invariant.0 in
          let q = c.requires in
          let v : to_z w32 (of_z w32 c.word.result) ≡ get_or (map pos a.facts.now) l.i (pos 0) =
          ap (λ z. to_z w32 (of_z w32 z)) (c.word.ensures k) ∙ to_z-of_z w32 (pos n) (record { sfits = omega arith }) ∙ sym (get_or-map pos a.facts.now l.i 0) in
          subst (λ z. Wrote a.out.now (set l.out l.i z) 0 (l.i + 1) (take (l.i + 1) (map pos a.facts.now))) (sym v)
          (copied_next a.out.now l.out (map pos a.facts.now) (pos 0) 0 l.i l.i (omega arith) (omega arith) (l.invariant.1 small)),
    )
