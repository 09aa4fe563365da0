use borrow.Author.Rules.{rules}
use native.Mathlib.Omega.{arith}
use Rattle.text_meaning.proofs.Bounds.{kind-small}
use Rattle.text_reader.proofs.Steps.{taken, misfits}
use Rattle.text_meaning.specs.Control.{Control}
use mathlib.Core.Path.{sym, subst}
use Prim.Native.Nat.{◌≤◌}
use Rattle.text_reader.proofs.take.Goals as goal

pub begin-a-requires : goal.begin-a-requires
begin-a-requires c = (c.requires.word_at.1.held.kept.room, subst (λ (x : Control). x.kind ≤ 5) (sym c.in-Ok.ensures) (kind-small _ _ c.requires.kind_bound.0))

pub put-b-requires : goal.put-b-requires
put-b-requires c = let h = c.begin-a.ensures.held c.requires.word_at.1.held in
    record { word_at = (c.requires.word_at.0, record { is = c.mark-m.ensures }); words_len = (h.kept.room.words_size, h.noted.size, h.noted.few, h.noted.begin) }

pub returns-in-Err : goal.returns-in-Err
returns-in-Err c = misfits c.mark-m.ensures c.in-Err.ensures

pub returns : goal.returns
returns c = taken c.mark-m.ensures c.in-Ok.ensures c.begin-a.ensures c.put-b.ensures (c.end_line.ensures c.in-Ok.s)
