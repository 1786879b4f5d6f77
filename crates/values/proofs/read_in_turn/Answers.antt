-- `values::read_in_turn` meets its contract: Points in turn are twice as many Floats.
use Rattle.std.proofs.Common.{sym, ap}
use Rattle.format.specs.Formats.{times}
use Rattle.format.specs.Items.{float}
use Rattle.format.specs.Bodies.{value}
use Rattle.bits.specs.Places.{order_of}
use Rattle.attributes.specs.Rows.{type_of}
use Rattle.attributes.specs.declared.DataType.{DataType}
use Rattle.table.proofs.ReaderLaws.{reads_as}
use Rattle.values.proofs.ValueLaws.{reads_is, alike_pairs}
use Rattle.values.proofs.read_in_turn.Goals as goal

pub returns-in-Point : goal.returns-in-Point
returns-in-Point c = let a = c.args.reader.now in
    reads_is (ap (λ (d : DataType). times c.args.count (value (type_of d))) (sym c.in-Point.is)) (reads_as (alike_pairs float c.args.count (order_of a.order) a.body.now a.place.0) c.floats-in-Point.ensures)
