-- `attributes::read_flag` meets its contract: a Fixed one has no bit.
use Rattle.bits.specs.Places.{order_of}
use Rattle.attributes.proofs.FlagLaws.{flag_fixed}
use Rattle.attributes.proofs.read_flag.Goals as goal

pub returns-in-Fixed : goal.returns-in-Fixed
returns-in-Fixed c = let a = c.args in rw c.in-Fixed.is (flag_fixed (order_of a.order) a.first a.at)
