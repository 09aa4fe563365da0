use mathlib.Core.Path.{◌≡◌, refl, ap, ◌∙◌}
use Prim.Native.Nat.{ℕ, ◌-◌}
use native.Mathlib.Omega.{arith}
use borrow.Author.Rules.{rules}
use Rattle.std.specs.Prelude.{Err}
use lib.IntN.{pos}
use lib.ListN.{length, length-replicate}
use Rattle.sheet_format.specs.Limits.{most_lines, most_words}
use Rattle.text_reader.proofs.Going.{Going, going_start, going_some, going_begins, going_word, end-word, going_fails, going_next, going_ends}
use Rattle.text_reader.proofs.run.Goals as goal

pub loop-at-init : goal.loop-at-init
loop-at-init c = going_start c.requires.1 c.requires.2 refl c.skip-at.ensures

pub returns-in_err-reached : goal.returns-in_err-reached
returns-in_err-reached c =
    let e : c.from_residual.result ≡ Err c.in_err-reached.field-0.0 = search rules in
    rw e (going_fails c.loop-at.invariant c.token_end-e.ensures c.in_err-reached.ensures)

pub loop-at-preserved : goal.loop-at-preserved
loop-at-preserved c = going_next c.loop-at.invariant c.token_end-e.ensures c.in_ok-reached.ensures c.skip-at-in-loop-at.ensures

pub returns : goal.returns
returns c = let t = c.take-2 in going_ends c.loop-at.invariant t.new.words t.new.begun t.new.names t.result t.ensures (omega arith)
