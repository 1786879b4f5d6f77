use Rattle.bits.specs.Places.{order_of}
use Rattle.attributes.proofs.FlagLaws.{Gathering}
use Rattle.attributes.proofs.read_flags.Given as goal

abbrev pub invariant-loop-row : goal.invariant-loop-row
invariant-loop-row l = Gathering (order_of l.order) l.body l.rows l.numbers l.unit l.place l.row-index
