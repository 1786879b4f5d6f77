-- `tally::list_in` meets its contract: where the container's own part ends, or that it has no list.
use mathlib.Core.Path.{ap, ◌∙◌}
use Rattle.std.proofs.Common.{Ok}
use Rattle.bits.specs.Places.{order_of}
use Rattle.tally.proofs.PlaceLaws.{list_open, list_stop}
use Rattle.tally.proofs.list_in.Goals as goal

pub returns-in-Ok-Some : goal.returns-in-Ok-Some
returns-in-Ok-Some c = let a = c.args in list_open (order_of a.order) a.code a.body.now c.read_container.ensures (c.in-Ok-Some.is ∙ ap Ok c.in-Ok-Some.field-0-is)

pub returns-in_default-2 : goal.returns-in_default-2
returns-in_default-2 c = let a = c.args in list_stop (order_of a.order) a.code a.body.now c.read_container.ensures c.in_default.is
