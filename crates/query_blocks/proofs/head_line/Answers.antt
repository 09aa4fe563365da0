use mathlib.Core.Path.{◌≡◌, sym, ap, ◌∙◌, subst}
use mathlib.Core.List.{[]}
use mathlib.Core.Logic.{⊎_elim}
use Prim.Native.Nat.{ℕ, ◌+◌, ◌-◌, ◌*◌, ◌/◌, ◌≤◌, ◌<◌}
use native.Mathlib.Omega.{arith}
use borrow.Author.Rules.{rules}
use lib.ListN.{length, get_or}
use Rattle.list_laws.proofs.Words.{word_back}
use Rattle.sheet_format.proofs.WordLines.{lines-length}
use Rattle.sheet_format.specs.Line.{word_lines}
use Rattle.sheet_format.specs.Cause.{kind, is_head}
use Rattle.query_blocks.specs.Parts.{AcceptedLines, HeadAt}
use Rattle.query_blocks.proofs.Parts.{kind_is, Left, left-start, left_other, left-past, left_here, left_end}
use Rattle.query_blocks.proofs.head_line.Goals as goal
use Rattle.query_blocks.proofs.head_line.Goals.{else-is_head, then-is_head+else-left-eq1}

more : (m : ℕ) → 1 ≤ m → (m ≡ 1 → ⊥) → 1 ≤ m - 1
more m le ne = omega (arith, ne)

pub returns-then-left-eq1 : goal.returns-then-left-eq1
returns-then-left-eq1 c = let w = c.args.ws.now in
    let l = c.loop-i in
    (omega arith, λ a. left_here (word_lines w) c.args.k l.i ((let h1 : (c.loop-i.i < length (word_lines c.args.ws.now)) = let n = lines-length c.args.ws.now in omega arith in h1)) ((let h2 : (is_head (kind (get_or (word_lines c.args.ws.now) c.loop-i.i [])) ≡ c.is_head.result) = let w = c.args.ws.now in let i = c.loop-i.i in ap is_head (kind_is w i (omega arith) a) ∙ sym (rw (word_back w (7 * i + 1) c.is_head-arg-1.given) at c.is_head.ensures) in h2) ∙ c.if-is_head.true) (subst (λ m. Left (word_lines w) c.args.k l.i m) c.if-left-eq1.true (l.invariant.1 a)))

pub loop-i-preserved : goal.loop-i-preserved
loop-i-preserved c = let w = c.args.ws.now in
    let k = c.args.k in
    let l = c.loop-i in
    elim c.if-is_head.branch [ then-is_head+else-left-eq1 t ↦ rw t.left-is (more l.left l.invariant.0 t.if-left-eq1.false, λ a. left-past (word_lines w) k l.i ((let h3 : (c.loop-i.i < length (word_lines c.args.ws.now)) = let n = lines-length c.args.ws.now in omega arith in h3)) l.left l.invariant.0 t.if-left-eq1.false ((let h4 : (is_head (kind (get_or (word_lines c.args.ws.now) c.loop-i.i [])) ≡ c.is_head.result) = let w = c.args.ws.now in let i = c.loop-i.i in ap is_head (kind_is w i (omega arith) a) ∙ sym (rw (word_back w (7 * i + 1) c.is_head-arg-1.given) at c.is_head.ensures) in h4) ∙ t.if-is_head.true) (l.invariant.1 a)) | else-is_head t ↦ rw t.left-is (l.invariant.0, λ a. left_other (word_lines w) k l.i ((let h5 : (c.loop-i.i < length (word_lines c.args.ws.now)) = let n = lines-length c.args.ws.now in omega arith in h5)) l.left ((let h6 : (is_head (kind (get_or (word_lines c.args.ws.now) c.loop-i.i [])) ≡ c.is_head.result) = let w = c.args.ws.now in let i = c.loop-i.i in ap is_head (kind_is w i (omega arith) a) ∙ sym (rw (word_back w (7 * i + 1) c.is_head-arg-1.given) at c.is_head.ensures) in h6) ∙ t.if-is_head.false) (l.invariant.1 a)) ]

pub returns : goal.returns
returns c = let w = c.args.ws.now in
    let l = c.loop-i in
    let n = lines-length w in
    let e : l.i ≡ length w / 7 = omega arith in
    (omega arith, λ a. subst (λ i. HeadAt (word_lines w) c.args.k i) e (left_end (word_lines w) c.args.k l.i l.left (omega arith) (l.invariant.1 a)))
