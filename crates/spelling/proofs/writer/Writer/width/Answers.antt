-- `Writer::width` meets its contract.
use Rattle.bits.specs.Places.{order_of}
use Rattle.format.specs.Formats.{Item}
use Rattle.spelling.proofs.FieldLaws.{width_is}
use Rattle.spelling.proofs.writer.Writer.width.Goals as goal

pub returns-clause-writes : goal.returns-clause-writes
returns-clause-writes c = c.less_one.ensures.writes Item.width (width_is (order_of c.args.self.now.order))
