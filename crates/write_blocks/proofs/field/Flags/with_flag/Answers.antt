-- `Flags::with_flag` meets its contract.
use Rattle.std.proofs.Common.{arith}
use Rattle.bits.specs.Places.{order_of}
use Rattle.write_blocks.proofs.FlagLaws.{flag_in, flag_no, add_in, add_no}
use Rattle.write_blocks.proofs.field.Flags.with_flag.Goals as goal

pub returns-then-number-gt1 : goal.returns-then-number-gt1
returns-then-number-gt1 c = let a = c.args in add_no 1 (order_of a.order) a.self _ (flag_no (order_of a.order) a.number (omega (arith, c.if-number-gt1.true)))

pub returns : goal.returns
returns c = let a = c.args in add_in 1 (order_of a.order) a.self 1 a.number (omega arith) (omega (arith, c.if-number-gt1.false)) c.with_bits.ensures (flag_in (order_of a.order) a.number (omega (arith, c.if-number-gt1.false)))
