-- The letter, the terms and the colon.
use mathlib.Core.Path.{ap, ◌∙◌}
use borrow.Author.Rules.{rules}
use Prim.Native.Nat.{◌<◌}
use lib.ListN.{get_or}
use lib.IntN.{pos}
use lib.Signed.{mag}
use Rattle.text_writer.proofs.Parts.{line-terms}
use Rattle.text_buffer.proofs.Laws.{said, followed}
use Rattle.list_laws.proofs.Words.{word_back}
use Rattle.text_writer.specs.Texts.{small, terms_bytes}
use mathlib.Core.List.{[], ◌∷◌}
use Rattle.text_lines.proofs.put_head.Goals as goal

pub returns : goal.returns
returns c = let l = c.args.line.now in
    let m : mag (get_or l 0 (pos 0)) < 2147483648 = search rules in
    let ts = line-terms l c.terms_end-end.result (c.small.ensures.0 ∙ ap small (word_back l 0 m)) c.terms_end-end.ensures.2 in
    let a = said (ap (λ b. b ∷ []) c.letter.ensures) c.put_byte-n.ensures in
    followed (followed a (said (ap terms_bytes ts) c.put_terms-m.ensures)) c.put_byte.ensures
