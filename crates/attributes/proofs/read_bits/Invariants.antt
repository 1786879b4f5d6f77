use Rattle.bits.specs.Places.{order_of}
use Rattle.attributes.proofs.FlagLaws.{Flagging}
use Rattle.attributes.proofs.read_bits.Given as goal

abbrev pub invariant-loop-step : goal.invariant-loop-step
invariant-loop-step g l = Flagging (order_of l.order) l.first l.at g.row.MOST l.number l.step
