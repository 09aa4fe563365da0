use Rattle.sheet_format.specs.Cause.{none}
use Rattle.sheet_table.proofs.Loads.{loaded}
use Rattle.sheet_table.proofs.load.Goals as goal

pub returns : goal.returns
returns c = loaded c.args.s.now c.read_lines.new.ns none c.in_ok-read_lines.ensures
