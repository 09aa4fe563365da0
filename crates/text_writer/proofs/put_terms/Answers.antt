use mathlib.Core.Path.{ap}
use Prim.Native.Nat.{ℕ, ◌<◌}
use native.Mathlib.Omega.{arith}
use borrow.Author.Rules.{rules}
use lib.ListN.{get_or}
use mathlib.Core.List.{◌++◌, map, List}
use Rattle.text_buffer.specs.Words.{bytes}
use Rattle.text_buffer.proofs.Laws.{nothing, said, followed}
use Rattle.text_writer.specs.Texts.{term_bytes, separated, terms_bytes}
use Rattle.text_writer.proofs.Parts.{more-separated}
use lib.Seq.{take_all}
use lib.IntN.{pos, ℤ}
use lib.Signed.{mag}
use mathlib.Core.Bool.{cond}
use lib.Dec.{eqb}
use Rattle.list_laws.proofs.Words.{word_back}
use Rattle.text_writer.proofs.put_terms.Goals as goal

pub loop-i-init : goal.loop-i-init
unfolding separated
loop-i-init c = nothing c.put_byte-n.new.out c.put_byte-n.result

pub loop-i-preserved : goal.loop-i-preserved
loop-i-preserved c = let l = c.loop-i in
    let ts = c.args.terms.now in
    let part : ℤ → List ℕ = λ w. cond (eqb l.i 0) (term_bytes w) (bytes "," ++ term_bytes w) in
    let m : mag (get_or ts l.i (pos 0)) < 2147483648 = search rules in
    let p = said (ap part (word_back ts l.i m)) c.put_next-n.ensures in
    more-separated term_bytes (bytes ",") (pos 0) ts l.i (omega arith) l.invariant p

pub returns : goal.returns
unfolding terms_bytes
returns c = let all = ap (λ ts. separated (bytes ",") (map term_bytes ts)) (take_all c.loop-i.i c.args.terms.now (omega arith)) in
    followed (followed c.put_byte-n.ensures (said all c.loop-i.invariant)) c.put_byte.ensures
