use mathlib.Core.Path.{◌≡◌, ap, ◌∙◌}
use Prim.Native.Nat.{ℕ, min, ◌/◌}
use native.Mathlib.Omega.{arith}
use lib.ListN.{length, take}
use mathlib.Core.List.{[], map, List}
use Rattle.text_buffer.specs.Words.{bytes}
use Rattle.text_buffer.proofs.Laws.{nothing, said}
use Rattle.sheet_format.specs.Table.{table_in}
use Rattle.text_writer.specs.Texts.{separated, groups, fact_bytes, facts_bytes}
use Rattle.text_writer.proofs.Parts.{more-separated, take-groups, chunks-groups}
use lib.Seq.{take_all}
use lib.IntN.{ℤ}
use Rattle.text_facts.proofs.put_facts.Goals as goal

pub loop-i-init : goal.loop-i-init
unfolding separated
loop-i-init c = nothing c.args.out.now c.args.at

pub loop-i-preserved : goal.loop-i-preserved
loop-i-preserved c =
    more-separated (fact_bytes (table_in c.args.table.now)) (bytes ", ") [] (take c.min.result c.as_chunks.result.0.now) c.loop-i.i c.loop-i-test.true c.loop-i.invariant c.put_next_fact-n.ensures

pub returns : goal.returns
unfolding facts_bytes
returns c =
    let ws : List ℤ = c.args.facts.now in
    let k : ℕ = length ws / 5 in
    let facts : List (List ℤ) = c.as_chunks.result.0.now in
    let some = c.min.result in
    let e : facts ≡ groups 5 k ws = c.as_chunks.ensures.front ∙ chunks-groups 5 k ws in
    let n : some ≡ min c.args.count k = c.min.ensures ∙ ap (min c.args.count) c.as_chunks.ensures.front_len in
    let all : take c.loop-i.i (take some facts) ≡ groups 5 (min c.args.count k) ws =
    take_all c.loop-i.i (take some facts) c.loop-i-test.false ∙ ap (take some) e ∙ take-groups 5 k some ws (omega arith) ∙ ap (λ n. groups 5 n ws) n in
    said (ap (λ fs. separated (bytes ", ") (map (fact_bytes (table_in c.args.table.now)) fs)) all) c.loop-i.invariant
