use Rattle.search_state.proofs.Tableau.{slot-value, constant-value}
use Rattle.search_state.proofs.value_of.Goals as goal

pub returns-then-t-lt-SLOTS : goal.returns-then-t-lt-SLOTS
returns-then-t-lt-SLOTS c = slot-value c.args.st.now c.args.t c.if-t-lt-SLOTS.true c.requires

pub returns : goal.returns
returns c = constant-value c.args.st.now c.args.t c.if-t-lt-SLOTS.false
