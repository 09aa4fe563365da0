use mathlib.Core.Path.{◌≡◌, refl, sym, ap, ◌∙◌, subst}
use Prim.Native.Nat.{◌≤◌, ◌-◌, ◌+◌, ◌*◌}
use native.Mathlib.Omega.{arith}
use borrow.Author.Rules.{rules}
use lib.ListN.{length, drop}
use mathlib.Core.Bool.{true}
use Rattle.sheet_format.specs.Line.{all, is_number}
use Rattle.sheet_format.specs.Returns.{field_in}
use Rattle.sheet_reader.proofs.LineOf.{firsts, part_words, part-more, all_more, line-none, line-whole, line-broken, field-here}
use lib.IntN.{pos}
use lib.ListN.{set, take, length-drop}
use mir.Syntax.{w32}
use mir.Val.{SFits}
use mir.ValLaws.{to_z-of_z, to_z_pos}
use Rattle.sheet_reader.proofs.fields_at.Goals as goal

pub returns-in_default : goal.returns-in_default
returns-in_default c = let l = c.loop-j in
    let a = c.args in
    let t = drop a.at a.s.now in
    let p : a.n * 8 ≤ length t = simp length-drop (omega arith) in
    line-none (take (a.n * 8) t) (line-broken t a.n (omega arith) (omega arith) p l.j (omega arith)
    (sym (field-here a.s.now a.at a.n l.j (omega arith) (omega arith)) ∙ sym c.field.ensures ∙ ap field_in c.in_default.is))

pub loop-j-preserved : goal.loop-j-preserved
loop-j-preserved c = let l = c.loop-j in
    let a = c.args in
    let t = drop a.at a.s.now in
    let z = c.in-Some.z in
    let e = sym (field-here a.s.now a.at a.n l.j (omega arith) (omega arith)) ∙ sym c.field.ensures ∙ ap field_in c.in-Some.is in (
      omega arith,
      all_more t l.j z l.invariant.1 e,
      let fit : SFits w32 z = record { sfits = c.in-Some.known_told-1-own.given.0.1 } in rw (to_z-of_z w32 z fit) (ap (λ x. set x (l.j + 1) z) l.invariant.2 ∙ part-more t l.j z (omega arith) e),
    )

pub returns : goal.returns
returns c = let l = c.loop-j in
    let a = c.args in
    let t = drop a.at a.s.now in
    let p : a.n * 8 ≤ length t = simp length-drop (omega arith) in
    let e : l.j ≡ a.n = omega arith in
    rw (to_z_pos w32 a.n (omega arith)) (ap (λ x. set x 0 (pos a.n)) (l.invariant.2 ∙ ap (part_words t) e)
    ∙ line-whole t a.n (omega arith) (omega arith) p (subst (λ k. all is_number (firsts t k) ≡ true) e l.invariant.1))
