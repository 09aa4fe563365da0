-- What each byte stands for.
use mathlib.Core.Path.{◌∙◌}
use Rattle.test_bytes.proofs.Meant.{meant_blank, meant_line, meant_escaped, meant_itself}
use Rattle.test_bytes.proofs.byte.Goals as goal

pub returns-in-44 : goal.returns-in-44
returns-in-44 c = meant_blank c.args.b c.args.rest.now c.in-44.is

pub returns-in-47 : goal.returns-in-47
returns-in-47 c = meant_line c.args.b c.args.rest.now c.in-47.is

pub returns-in-92 : goal.returns-in-92
returns-in-92 c = c.escaped.ensures ∙ meant_escaped c.args.b c.args.rest.now c.in-92.is

pub returns-in_default : goal.returns-in_default
returns-in_default c = meant_itself c.args.b c.args.rest.now c.in_default.in_default-own.rest.0.0.1 c.in_default.in_default-own.rest.0.1 c.in_default.in_default-own.rest.1
