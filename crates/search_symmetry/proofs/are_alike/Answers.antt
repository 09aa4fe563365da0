use Rattle.std.proofs.Common.{arith, refl}
use Rattle.search_symmetry.proofs.Laws.{all_found}
use Rattle.search_symmetry.proofs.are_alike.Goals as goal

pub returns : goal.returns
returns c e =
    let l = c.if-not-are_listed.ensures refl in
    let few = l.few_rows in
    let one_in = l.one_inside in
    let other_in = l.other_inside in
    all_found c.args.p.now c.args.ws.now c.args.set.now c.args.u.now c.args.one c.args.other _ _ _
    (c.values_at-a.ensures (omega arith))
    (c.values_at-b.ensures (omega arith))
    l
    (c.if-not-is_unmoved.ensures refl)
    (c.if-not-agrees.ensures refl)
    (c.if-not-is_swapped.ensures refl)
    (c.if-not-is_sheet_turned.ensures refl)
    (c.are_slots_turned.ensures e)
