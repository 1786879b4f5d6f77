-- `Flags::with_two_flags` meets its contract.
use Rattle.std.proofs.Common.{arith}
use Rattle.bits.specs.Places.{order_of}
use Rattle.write_blocks.proofs.FlagLaws.{flag_zero, two_one, two_three, two_no, add_in, add_no}
use Rattle.write_blocks.proofs.field.Flags.with_two_flags.Goals as goal

pub returns-in-0 : goal.returns-in-0
returns-in-0 c = let a = c.args in add_in 2 (order_of a.order) a.self 1 0 (omega arith) (omega arith) c.with_bits.ensures (flag_zero (order_of a.order) 1 a.number c.in-0.is)

pub returns-in-1 : goal.returns-in-1
returns-in-1 c = let a = c.args in add_in 2 (order_of a.order) a.self 2 c.glue-still.result (omega arith) c.glue-still.ensures.1 c.with_bits-in-1.ensures (two_one (order_of a.order) a.number c.in-1.is c.glue-still.ensures.0)

pub returns-in-3 : goal.returns-in-3
returns-in-3 c = let a = c.args in add_in 2 (order_of a.order) a.self 2 c.glue-moving.result (omega arith) c.glue-moving.ensures.1 c.with_bits-in-3.ensures (two_three (order_of a.order) a.number c.in-3.is c.glue-moving.ensures.0)

pub returns-in_default : goal.returns-in_default
returns-in_default c = let a = c.args in add_no 2 (order_of a.order) a.self _ (two_no (order_of a.order) a.number c.in_default.in_default-own.rest.0.0.1 c.in_default.in_default-own.rest.0.1 c.in_default.in_default-own.rest.1)
