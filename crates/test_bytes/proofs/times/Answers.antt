-- How often each byte is meant.
use Rattle.test_bytes.proofs.Meant.{times_seven, times_six, times_one}
use Rattle.test_bytes.proofs.times.Goals as goal

pub returns-in-44 : goal.returns-in-44
returns-in-44 c = times_seven c.args.b c.in-44.is

pub returns-in-59 : goal.returns-in-59
returns-in-59 c = times_six c.args.b c.in-59.is

pub returns-in_default : goal.returns-in_default
returns-in_default c = times_one c.args.b c.in_default.in_default-own.rest.0.1 c.in_default.in_default-own.rest.1
