-- `Flags::with_three_flags` meets its contract: an exist bit, and the flags after it.
use Rattle.std.proofs.Common.{refl, arith}
use Rattle.bits.specs.Places.{order_of}
use Rattle.write_blocks.proofs.FlagLaws.{flag_zero, flag_even, add_in, add_no, add_after}
use Rattle.write_blocks.proofs.field.Flags.with_three_flags.Goals as goal

pub returns-then-number-eq0 : goal.returns-then-number-eq0
returns-then-number-eq0 c = let a = c.args in add_in 3 (order_of a.order) a.self 1 0 (omega arith) (omega arith) c.with_bits.ensures (flag_zero (order_of a.order) 2 a.number c.if-number-eq0.true)

pub returns-then-number-eq0-2 : goal.returns-then-number-eq0-2
returns-then-number-eq0-2 c = let a = c.args in add_no 3 (order_of a.order) a.self _ (flag_even (order_of a.order) 2 a.number c.if-number-eq0.false c.if-number-eq0-2.true)

pub returns : goal.returns
returns c = let a = c.args in add_after (order_of a.order) a.self c.with_bits-there.result a.number _ c.with_two_flags.result c.if-number-eq0.false c.if-number-eq0-2.false refl c.with_bits-there.ensures c.with_two_flags.ensures
