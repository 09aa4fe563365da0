-- A variable's value is the word of its slot; a constant is itself.
use mathlib.Core.Path.{◌∙◌}
use native.Mathlib.Omega.{arith}
use Rattle.list_laws.proofs.Lists.{inside}
use Rattle.case_verdicts.specs.Sheets.{top}
use Rattle.case_verdicts.specs.Words.{state_of}
use Rattle.search_task.proofs.Heads.{head-variable, head-constant}
use Rattle.search_leaf.proofs.head_value.Goals as goal

pub returns-then-t-lt-NAMES : goal.returns-then-t-lt-NAMES
returns-then-t-lt-NAMES c = λ size.
    let a = c.args in
    inside a.ws.now _ 0 _ (omega arith) ∙ head-variable a.p.now (state_of top a.ws.now) a.b a.k a.c (omega arith) c.if-t-lt-NAMES.true

pub returns : goal.returns
returns c = λ size.
    let a = c.args in
    head-constant a.p.now (state_of top a.ws.now) a.b a.k a.c (omega arith) c.if-t-lt-NAMES.false
