use mathlib.Core.Path.{◌≡◌, refl, ap, ◌∙◌, subst}
use Prim.Native.Nat.{◌≤◌, ◌-◌, ◌+◌, ◌*◌}
use native.Mathlib.Omega.{arith}
use borrow.Author.Rules.{rules}
use lib.ListN.{length, get_or, take}
use lib.IntN.{pos, nat_abs}
use lib.ListN.{length-set}
use mir.Syntax.{w32}
use mir.ValLaws.{to_z-of_z}
use Rattle.sheet_format.specs.Field.{field_bytes}
use Rattle.sheet_format.specs.Line.{gather, word_line}
use Rattle.list_laws.specs.Wrote.{Wrote}
use Rattle.list_laws.proofs.Laws.{wrote_none}
use Rattle.sheet_writer.proofs.WriteLaws.{seven_at, first_word, line-few, field-word, field-more, line-closed}
use Rattle.sheet_writer.proofs.put_bytes.Goals as goal

pub overflow_cast-n : goal.overflow_cast-n
overflow_cast-n c = let a = c.args in
    let w = get_or a.words.now (a.i * 7) (pos 0) in
    let f = line-few a.words.now a.i (omega arith) c.requires.2 in
    rw (to_z-of_z w32 w (record { sfits = c.n-1.given }), first_word a.words.now a.i (omega arith) c.requires.2) (tt, record { fits = omega arith })

pub loop-j-init : goal.loop-j-init
loop-j-init c = let a = c.args in
    let w = get_or a.words.now (a.i * 7) (pos 0) in
    let f = line-few a.words.now a.i (omega arith) c.requires.2 in
    let e = ap nat_abs (to_z-of_z w32 w (record { sfits = c.n-1.given }) ∙ first_word a.words.now a.i (omega arith) c.requires.2) in
    (omega arith, omega arith, e, omega arith, refl, wrote_none a.out.now a.at)

pub loop-j-preserved : goal.loop-j-preserved
loop-j-preserved c = let l = c.loop-j in
    let a = c.args in
    let p = c.put_field in
    let ln = word_line (seven_at a.words.now a.i) in
    let z = get_or a.words.now (a.i * 7 + 1 + l.j) (pos 0) in (
      omega arith,
      l.invariant.1,
      l.invariant.2,
      omega arith,
      omega arith,
      field-more ln a.out.now l.out p.new.out a.at l.to l.j (omega arith) l.invariant.5
          (subst (λ x. Wrote l.out p.new.out l.to (l.to + 8) (field_bytes x)) (to_z-of_z w32 z (record { sfits = c.put_field-arg-in-loop-j-1.given }) ∙ field-word a.words.now a.i (omega arith) c.requires.2 l.j (omega arith)) p.ensures),
    )

pub returns : goal.returns
returns c = let l = c.loop-j in
    let a = c.args in
    line-closed (word_line (seven_at a.words.now a.i)) a.out.now l.out a.at l.to l.j (omega arith) (omega arith) l.invariant.5
