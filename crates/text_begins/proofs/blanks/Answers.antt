use Rattle.std.proofs.Common.{◌≡◌, ◌∙◌, length, unwrap_or, ap, arith, rules, tests}
use Rattle.text_begins.specs.Begins.{leading_blanks}
use Rattle.std.specs.List.{position}
use Rattle.std.proofs.lemmas.Iterator.{YieldsList-from_slice}
use Rattle.std.proofs.lemmas.Iterator.Search.{position_from_yields_List}
use Rattle.text_begins.proofs.Laws.{passes, first_place, blanks_within}
use Rattle.text_begins.proofs.blanks.Goals as goal

pub returns : goal.returns
returns c =
    let e : c.position.result ≡ position passes c.args.s.now = position_from_yields_List passes _ _ _ c.position.ensures.ran (YieldsList-from_slice c.args.s.now cc) (λ x b q k. search (rules, tests)) in
    let f : c.unwrap_or.result ≡ leading_blanks c.args.s.now = c.unwrap_or.ensures ∙ ap (λ o. unwrap_or o (length c.args.s.now)) e ∙ first_place c.args.s.now in
    (omega (arith, f, blanks_within c.args.s.now), f)
