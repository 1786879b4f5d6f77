-- `table::fields::weight` meets its contract: past the end `get_or` gives its default.
use mathlib.Core.Path.{sym}
use lib.ListN.{get_or-eq_default}
use Rattle.table.proofs.fields.weight.Goals as goal

pub returns-else-value-weights : goal.returns-else-value-weights
returns-else-value-weights c = sym (get_or-eq_default c.args.weights.now 0 c.if-value-weights.false)
