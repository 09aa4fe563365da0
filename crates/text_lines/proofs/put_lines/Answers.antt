use mathlib.Core.Path.{◌≡◌, ap, ◌∙◌}
use Prim.Native.Nat.{◌<◌, ◌/◌}
use borrow.Author.Rules.{rules}
use lib.ListN.{length, get_or}
use mathlib.Core.List.{List, []}
use Rattle.text_buffer.proofs.Laws.{said}
use Rattle.sheet_format.specs.Table.{table_in}
use Rattle.text_writer.specs.Texts.{small, groups, lines_from, lines_bytes}
use Rattle.text_lines.proofs.Written.{begun, more-lines, all_lines}
use Rattle.text_writer.proofs.Parts.{chunks-groups}
use lib.IntN.{ℤ, pos}
use lib.Signed.{mag}
use Rattle.list_laws.proofs.Words.{word_back}
use Rattle.text_lines.proofs.put_lines.Goals as goal

pub loop-i-init : goal.loop-i-init
loop-i-init c = begun (table_in c.args.table.now) c.args.out.now c.as_chunks.result.0.now

pub loop-i-preserved : goal.loop-i-preserved
loop-i-preserved c =
    let l = c.loop-i in
    let table = table_in c.args.table.now in
    let ls : List (List ℤ) = c.as_chunks.result.0.now in
    let line : List ℤ = get_or ls l.i [] in
    let m : mag (get_or line 1 (pos 0)) < 2147483648 = search rules in
    more-lines table ls l.i (lines_from table 0 ls) c.loop-i-test.true (c.small-kind.ensures.0 ∙ ap small (word_back line 1 m)) c.kind_at.ensures c.block_at-block.ensures l.invariant c.put_line-n.ensures

pub returns : goal.returns
unfolding lines_bytes
returns c =
    let ws : List ℤ = c.args.words.now in
    let table = table_in c.args.table.now in
    let ls : List (List ℤ) = c.as_chunks.result.0.now in
    let e : ls ≡ groups 7 (length ws / 7) ws = c.as_chunks.ensures.front ∙ chunks-groups 7 (length ws / 7) ws in
    said (ap (lines_from table 0) e) (all_lines table ls c.loop-i.i (lines_from table 0 ls) c.loop-i-test.false c.loop-i.invariant)
