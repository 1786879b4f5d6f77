-- `write_values::write_bit` meets its contract.
use Rattle.std.proofs.Common.{arith}
use Rattle.write_values.proofs.ValueLaws.{bit_of, bit_inside, bit_counts}
use Rattle.spelling.proofs.WriteLaws.{writes_ok, writes_err}
use Rattle.write_values.proofs.write_bit.Goals as goal

pub returns-in_err-fields-clause-writes : goal.returns-in_err-fields-clause-writes
returns-in_err-fields-clause-writes c = bit_of (writes_err c.fields.ensures.writes c.in_err-fields.was c.from_residual.ensures.0)

pub offset_bounds-values-index : goal.offset_bounds-values-index
offset_bounds-values-index c = omega (arith, bit_inside c.args.writer.now c.fields.new.self c.in_ok-fields.field-0 (bit_of c.in_ok-fields.ensures.writes))

pub bounds-values-index : goal.bounds-values-index
bounds-values-index c = bit_inside c.args.writer.now c.fields.new.self c.in_ok-fields.field-0 (bit_of c.in_ok-fields.ensures.writes)

pub returns-clause-writes : goal.returns-clause-writes
returns-clause-writes c = bit_of (writes_ok c.fields.ensures.writes c.in_ok-fields.was)

pub returns-clause-counts : goal.returns-clause-counts
returns-clause-counts c = bit_counts c.args.writer.now c.fields.new.self c.in_ok-fields.field-0 (bit_of c.in_ok-fields.ensures.writes)
