-- `bits::fields::first_bits` meets its contract: a field grows by a byte at a time, high first from the first one up, low first from the last one down.
use Rattle.std.proofs.Common.{arith}
use Rattle.bits.proofs.FieldLaws.{first_high, first_low}
use Rattle.bits.proofs.fields.first_bits.Goals as goal

pub returns-in-HighFirst : goal.returns-in-HighFirst
returns-in-HighFirst c = rw c.in-HighFirst.is (omega (arith, first_high c.args.bytes.now c.byte_at-b0.ensures c.byte_at-b1.ensures c.byte_at-b2.ensures c.byte_at-b3.ensures c.byte_at-b4.ensures))

pub returns-in-LowFirst : goal.returns-in-LowFirst
returns-in-LowFirst c = rw c.in-LowFirst.is (omega (arith, first_low c.args.bytes.now c.byte_at-b0.ensures c.byte_at-b1.ensures c.byte_at-b2.ensures c.byte_at-b3.ensures c.byte_at-b4.ensures))
