-- `write_values::write_in_turn` meets its contract.
use Rattle.std.proofs.Common.{sym, ap}
use Rattle.format.specs.Formats.{times}
use Rattle.format.specs.Bodies.{value}
use Rattle.attributes.specs.Rows.{type_of}
use Rattle.attributes.specs.declared.DataType.{DataType}
use Rattle.write_values.proofs.ValueLaws.{points_are}
use Rattle.spelling.proofs.WriteLaws.{writes_is}
use Rattle.write_values.proofs.write_in_turn.Goals as goal

pub returns-in-Point : goal.returns-in-Point
returns-in-Point c = writes_is (ap (λ (d : DataType). times c.args.count (value (type_of d))) (sym c.in-Point.is)) (points_are c.args.count c.items.ensures.writes)
