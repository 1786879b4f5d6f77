-- `fixed::read_items` meets its contract: item by item, what is left of the rows is read as what is left of the whole.
use mathlib.Core.Path.{refl}
use Rattle.reasons.proofs.NumberLaws.{passed_on}
use Rattle.table.proofs.ReaderLaws.{on_start, on_next, on_stop, on_done}
use Rattle.fixed.proofs.FixedLaws.{items_more, items_over}
use Rattle.fixed.proofs.read_items.Goals as goal

pub loop-kind-init : goal.loop-kind-init
loop-kind-init c = on_start c.requires refl

pub returns-in_err-item : goal.returns-in_err-item
returns-in_err-item c = on_stop c.loop-kind.invariant (items_more c.args.rows.now c.loop-kind.kind-index _ c.loop-kind-test.true) c.item.ensures.reads c.in_err-item.was (passed_on c.from_residual.result c.from_residual.ensures.1)

pub loop-kind-preserved : goal.loop-kind-preserved
loop-kind-preserved c = on_next c.loop-kind.invariant (items_more c.args.rows.now c.loop-kind.kind-index _ c.loop-kind-test.true) c.item.ensures.reads c.in_ok-item.was

pub returns : goal.returns
returns c = on_done c.loop-kind.invariant (items_over c.args.rows.now c.loop-kind.kind-index c.loop-kind-test.false)
