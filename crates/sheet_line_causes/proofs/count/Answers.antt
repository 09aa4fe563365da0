use mathlib.Core.Path.{◌≡◌, refl, ap, ◌∙◌}
use Prim.Native.Nat.{◌≤◌, ◌+◌}
use native.Mathlib.Omega.{arith}
use lib.ListN.{length, get_or}
use borrow.Author.Tests.{not-true, not-false}
use lib.IntN.{pos}
use lib.Seq.{slice}
use mathlib.Core.Bool.{cond, ◌&&◌}
use Rattle.list_laws.proofs.Words.{word_back}
use Rattle.sheet_format.specs.Field.{fits}
use Rattle.sheet_format.specs.Line.{all, is_zero, word_line}
use Rattle.sheet_line_causes.specs.Parts.{count_of_fields}
use Rattle.sheet_line_causes.proofs.Words.{count_most}
use Rattle.sheet_line_causes.proofs.Lines.{line-told, part-is}
use borrow.Author.Rules.{rules}
use Rattle.sheet_line_causes.proofs.count.Goals as goal

pub returns-then-not-are_narrow : goal.returns-then-not-are_narrow
returns-then-not-are_narrow c = let ws = c.args.words.now in
    let n = c.field_count-n.result in
    rw (not-true c.are_narrow.result c.if-not-are_narrow.true-raw)
    at (line-told ws n c.requires (let h5 : (c.field_count-n.result ≡ count_of_fields (get_or c.args.words.now 0 (pos 0))) = rw (word_back c.args.words.now 0 c.field_count-arg-1.given) at c.field_count-n.ensures in h5) c.are_narrow.result (all is_zero (slice (n + 1) 7 ws)) (c.are_narrow.ensures ∙ ap (all fits) (part-is 1 (n + 1) ws (omega arith))) refl)

pub returns-then-not-are_zero : goal.returns-then-not-are_zero
returns-then-not-are_zero c = rw (not-false c.are_narrow.result c.if-not-are_narrow.false-raw, not-true c.are_zero.result c.if-not-are_zero.true-raw) at (let h10 : (cond (c.are_narrow.result && c.are_zero.result) c.field_count-n.result 0 ≡ length (word_line c.args.words.now)) = let n = c.field_count-n.result in let few : n + 1 ≤ 7 = (let e = (let h5 : (c.field_count-n.result ≡ count_of_fields (get_or c.args.words.now 0 (pos 0))) = rw (word_back c.args.words.now 0 c.field_count-arg-1.given) at c.field_count-n.ensures in h5) in let m = count_most (get_or c.args.words.now 0 (pos 0)) in omega arith) in line-told c.args.words.now n c.requires (let h5 : (c.field_count-n.result ≡ count_of_fields (get_or c.args.words.now 0 (pos 0))) = rw (word_back c.args.words.now 0 c.field_count-arg-1.given) at c.field_count-n.ensures in h5) c.are_narrow.result c.are_zero.result (c.are_narrow.ensures ∙ ap (all fits) (part-is 1 (n + 1) c.args.words.now (omega arith))) (c.are_zero.ensures ∙ ap (all is_zero) (part-is (n + 1) 7 c.args.words.now few)) in h10)

pub returns : goal.returns
returns c = rw (not-false c.are_narrow.result c.if-not-are_narrow.false-raw, not-false c.are_zero.result c.if-not-are_zero.false-raw) at (let h10 : (cond (c.are_narrow.result && c.are_zero.result) c.field_count-n.result 0 ≡ length (word_line c.args.words.now)) = let n = c.field_count-n.result in let few : n + 1 ≤ 7 = (let e = (let h5 : (c.field_count-n.result ≡ count_of_fields (get_or c.args.words.now 0 (pos 0))) = rw (word_back c.args.words.now 0 c.field_count-arg-1.given) at c.field_count-n.ensures in h5) in let m = count_most (get_or c.args.words.now 0 (pos 0)) in omega arith) in line-told c.args.words.now n c.requires (let h5 : (c.field_count-n.result ≡ count_of_fields (get_or c.args.words.now 0 (pos 0))) = rw (word_back c.args.words.now 0 c.field_count-arg-1.given) at c.field_count-n.ensures in h5) c.are_narrow.result c.are_zero.result (c.are_narrow.ensures ∙ ap (all fits) (part-is 1 (n + 1) c.args.words.now (omega arith))) (c.are_zero.ensures ∙ ap (all is_zero) (part-is (n + 1) 7 c.args.words.now few)) in h10)
