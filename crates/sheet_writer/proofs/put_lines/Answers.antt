use mathlib.Core.Path.{◌≡◌, refl}
use Prim.Native.Nat.{◌≤◌, ◌-◌}
use native.Mathlib.Omega.{arith}
use borrow.Author.Rules.{rules}
use Prim.Native.Nat.{◌/◌}
use lib.ListN.{length, take}
use Rattle.sheet_format.specs.Line.{bytes_of, word_lines}
use Rattle.list_laws.specs.Wrote.{Wrote}
use Rattle.sheet_writer.proofs.WriteLaws.{lines_none, few-lines, line-formed, at_small, lines_more, lines-all}
use Rattle.sheet_writer.proofs.put_lines.Goals as goal

pub loop-i-init : goal.loop-i-init
loop-i-init c = (omega arith, refl, lines_none c.args.out.now)

pub put_bytes-at-requires : goal.put_bytes-at-requires
put_bytes-at-requires c = let l = c.loop-i in
    let ws = c.args.words.now in
    let t = c.requires.0 in
    let p = c.requires.1 in
    let f = few-lines t ws p in
    let s = at_small t ws p l.i l.at c.args.out.now l.out l.invariant.0 l.invariant.2 in
    (omega arith, omega arith, line-formed t ws p l.i (omega arith))

pub loop-i-preserved : goal.loop-i-preserved
loop-i-preserved c = let l = c.loop-i in
    let a = c.args in
    let p = c.put_bytes-at in
    (omega arith, omega arith, lines_more c.requires.0 a.words.now c.requires.1 l.i l.at p.result a.out.now l.out p.new.out (omega arith) l.invariant.2 p.ensures)

pub returns : goal.returns
returns c = let l = c.loop-i in
    let a = c.args in
    lines-all c.requires.0 a.words.now c.requires.1 l.i l.at a.out.now l.out (omega arith) l.invariant.2
