-- `sheet_terms::own_table` meets its contract.
use Rattle.sheet_terms.proofs.Own.{own-ten}
use Rattle.sheet_terms.proofs.own_table.Goals as goal

pub returns : goal.returns
returns c = own-ten
