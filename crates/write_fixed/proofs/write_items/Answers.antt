-- `write_fixed::write_items` meets its contract. The loop's invariant: the items of all rows are those of the rows from here on.
use Rattle.std.proofs.Common.{arith}
use Rattle.fixed.specs.Fixed.{in_order}
use Rattle.fixed.proofs.FixedLaws.{items_more, items_over}
use Rattle.spelling.proofs.WriteLaws.{going_none, going_next, going_failed, going_over}
use Rattle.write_fixed.proofs.write_items.Goals as goal

pub loop-kind-init : goal.loop-kind-init
loop-kind-init c = going_none c.args.writer.now (in_order c.args.rows.now)

pub returns-in_err-one : goal.returns-in_err-one
returns-in_err-one c = going_failed c.loop-kind.invariant (items_more c.args.rows.now c.loop-kind.kind-index _ c.loop-kind-test.true) c.one.ensures.writes c.in_err-one.was c.from_residual.ensures.0

pub loop-kind-preserved : goal.loop-kind-preserved
loop-kind-preserved c = going_next c.loop-kind.invariant (items_more c.args.rows.now c.loop-kind.kind-index _ c.loop-kind-test.true) c.one.ensures.writes c.in_ok-one.was

pub returns : goal.returns
returns c = going_over tt c.loop-kind.invariant (items_over c.args.rows.now c.loop-kind.kind-index (omega arith))
