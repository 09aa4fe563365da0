use Rattle.search_task.proofs.Heads.{head-variable, head-constant}
use Rattle.search_links.proofs.Words.{place-slot}
use Rattle.search_links.specs.Links.{linked_state}
use Rattle.case_verdicts.specs.Sheets.{top}
use mathlib.Core.Path.{◌∙◌}
use Prim.Native.Nat.{◌-◌}
use native.Mathlib.Omega.{arith}
use borrow.Author.Rules.{rules}
use Rattle.search_step.proofs.head_value.Goals as goal

pub returns-then-t-lt-NAMES : goal.returns-then-t-lt-NAMES
returns-then-t-lt-NAMES c = let a = c.args in
    c.place_value.ensures ∙ place-slot top a.ws.now _ (omega arith) ∙ head-variable a.p.now (linked_state top a.ws.now) a.b a.k a.c (omega arith) c.if-t-lt-NAMES.true

pub returns : goal.returns
returns c = let a = c.args in head-constant a.p.now (linked_state top a.ws.now) a.b a.k a.c (omega arith) c.if-t-lt-NAMES.false
