-- `attributes::read_flags` meets its contract: the flags of the rows so far are digits, and those of the rows behind them are still to be read.
use native.Mathlib.Omega.{arith}
use Rattle.bits.specs.Places.{order_of}
use Rattle.attributes.proofs.FlagLaws.{gathering_start, gathering_next, gathering_stop, gathering_done, product_few, eight_few}
use Rattle.attributes.proofs.read_flags.Goals as goal

pub loop-row-init : goal.loop-row-init
loop-row-init c = let a = c.args in gathering_start (order_of a.order) a.body.now a.rows.now

pub returns-then-end-behind : goal.returns-then-end-behind
returns-then-end-behind c = let a = c.args in gathering_stop (order_of a.order) a.body.now a.rows.now c.requires.0 c.loop-row-test.true c.loop-row.invariant c.first_bits-first.ensures c.read_flag-flag.ensures (omega (arith, c.if-end-behind.true))

pub overflow_mul-numbers : goal.overflow_mul-numbers
overflow_mul-numbers c = let a = c.args in omega (arith, product_few (order_of a.order) a.body.now a.rows.now c.requires.0 c.loop-row-test.true c.loop-row.invariant c.first_bits-first.ensures c.read_flag-flag.ensures)

pub overflow_add-numbers : goal.overflow_add-numbers
overflow_add-numbers c = let a = c.args in omega (arith, c.loop-row.invariant.less, eight_few c.loop-row.row-index (omega (arith, c.requires.0, c.loop-row-test.true)), product_few (order_of a.order) a.body.now a.rows.now c.requires.0 c.loop-row-test.true c.loop-row.invariant c.first_bits-first.ensures c.read_flag-flag.ensures)

pub overflow_mul-unit : goal.overflow_mul-unit
overflow_mul-unit c = omega (arith, c.loop-row.invariant.unit, eight_few c.loop-row.row-index (omega (arith, c.requires.0, c.loop-row-test.true)))

pub loop-row-preserved : goal.loop-row-preserved
loop-row-preserved c = let a = c.args in gathering_next (order_of a.order) a.body.now a.rows.now c.requires.0 c.loop-row-test.true c.loop-row.invariant c.first_bits-first.ensures c.read_flag-flag.ensures (omega (arith, c.if-end-behind.false))

pub returns : goal.returns
returns c = let a = c.args in gathering_done (order_of a.order) a.body.now a.rows.now c.requires.0 c.loop-row-test.false c.loop-row.invariant
