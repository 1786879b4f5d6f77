-- `attributes::read_bits` meets its contract: each bit that is set counts for those after it.
use native.Mathlib.Omega.{arith}
use Rattle.bits.specs.Places.{order_of}
use Rattle.attributes.proofs.FlagLaws.{flagging_start, flagging_next, flagging_stop, flagging_done, few_bits}
use Rattle.attributes.proofs.read_bits.Goals as goal

pub loop-step-init : goal.loop-step-init
loop-step-init g c = let a = c.args in flagging_start (order_of a.order) a.first a.at g.row.MOST

pub overflow_mul-number : goal.overflow_mul-number
overflow_mul-number g c = omega (arith, few_bits c.loop-step.invariant (omega (arith, c.requires.0, c.loop-step-test.true)))

pub overflow_add-number : goal.overflow_add-number
overflow_add-number g c = omega (arith, few_bits c.loop-step.invariant (omega (arith, c.requires.0, c.loop-step-test.true)))

pub loop-step-preserved : goal.loop-step-preserved
loop-step-preserved g c = let a = c.args in flagging_next (order_of a.order) a.first a.at g.row.MOST c.loop-step-test.true (omega (arith, c.requires.1, c.loop-step-test.true)) c.loop-step.invariant c.bit_of.ensures c.if-bit_of-eq0.false

pub returns-then-bit_of-eq0 : goal.returns-then-bit_of-eq0
returns-then-bit_of-eq0 g c = let a = c.args in flagging_stop (order_of a.order) a.first a.at g.row.MOST c.loop-step-test.true (omega (arith, c.requires.1, c.loop-step-test.true)) c.loop-step.invariant c.bit_of.ensures c.if-bit_of-eq0.true

pub returns : goal.returns
returns g c = let a = c.args in flagging_done (order_of a.order) a.first a.at g.row.MOST c.loop-step-test.false c.loop-step.auto.step-end c.loop-step.invariant
