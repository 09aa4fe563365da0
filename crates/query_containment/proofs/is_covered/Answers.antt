use Rattle.sheet_format.specs.Limits.{most_atoms}
use Rattle.query_containment.proofs.Laws.{covers, laid}
use Rattle.query_containment.specs.Containment.{Contained}
use Rattle.query_join.specs.Joins.{Given}
use Rattle.query_answers.specs.Answers.{GivesBy}
use Prim.Native.Nat.{◌/◌, min, ◌+◌, ◌*◌}
use lib.ListN.{take, length}
use mathlib.Core.Path.{refl, subst}
use borrow.Author.Rules.{rules}
use Rattle.query_containment.proofs.is_covered.Goals as goal

pub returns : goal.returns
returns c = let n = c.few_atoms-n in
    let a = c.args in
    let m = length a.facts.now / 5 in
    let room = take ((m + n.result) * 5) c.put_atoms.new.out in
    λ yes.
    subst (λ x. Contained a.q.now x a.l.now (min a.ln most_atoms) a.facts.now a.row a.k) n.ensures
    (covers a.q.now a.l.now a.facts.now a.row n.result (min a.ln most_atoms) a.k m c.own_values-vals.result room c.requires.none_frozen c.requires.k_bound.0 c.own_values-vals.ensures
    (laid a.q.now c.own_values-vals.result n.result m a.facts.now c.copy.new.out c.put_atoms.new.out refl (search rules) c.copy.ensures c.put_atoms.ensures)
    (subst (λ t. Given a.l.now (min a.ln most_atoms) room t) c.head-row.ensures (subst (λ b. GivesBy b a.l.now (min a.ln most_atoms) room c.head-row.result) yes c.gives.ensures)))
