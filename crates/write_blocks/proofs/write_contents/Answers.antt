-- `write_blocks::write_contents` meets its contract. The loop's invariant: the contents of all rows are those of the rows from here on, behind the flags that are gathered.
use Rattle.std.proofs.Common.{◌+◌, drop, refl, arith}
use Rattle.bits.specs.Places.{order_of}
use Rattle.attributes.specs.Rows.{attribute_of, attributes_in}
use Rattle.attributes.proofs.FlagLaws.{row_at, rows_next, rows_none}
use Rattle.spelling.proofs.WriteLaws.{onward_then}
use Rattle.write_blocks.proofs.FillLaws.{fill_start, fill_short, fill_flag, fill_gone, fill_next, fill_done, err_filled}
use Rattle.write_blocks.proofs.write_contents.Goals as goal

pub loop-row-init : goal.loop-row-init
loop-row-init c = let a = c.args in (omega arith, fill_start a.writer.now (attributes_in a.rows.now) _ c.requires.0.few c.requires.1 refl)

pub returns-in_err-number-clause-onward : goal.returns-in_err-number-clause-onward
returns-in_err-number-clause-onward c = onward_then c.loop-row.invariant.1.onward c.take.ensures.onward

pub returns-in_err-number-clause-fills : goal.returns-in_err-number-clause-fills
returns-in_err-number-clause-fills c = err_filled (order_of c.args.writer.now.order) c.take.new.self _ c.from_residual.ensures.0 (fill_short c.loop-row.invariant.1 (attribute_of (row_at c.args.rows.now c.loop-row.row-index)) (attributes_in (drop (c.loop-row.row-index + 1) c.args.rows.now)) (rows_next c.args.rows.now c.loop-row-test.true) c.in_err-number.ensures.taken)

pub invariant_of-flags : goal.invariant_of-flags
invariant_of-flags c = record { held = c.loop-row.invariant.0 }

pub with_kind-requires : goal.with_kind-requires
with_kind-requires c = omega (arith, c.loop-row.invariant.1.few)

pub returns-in_err-flags-clause-onward : goal.returns-in_err-flags-clause-onward
returns-in_err-flags-clause-onward c = onward_then c.loop-row.invariant.1.onward c.take.ensures.onward

pub returns-in_err-flags-clause-fills : goal.returns-in_err-flags-clause-fills
returns-in_err-flags-clause-fills c = err_filled (order_of c.args.writer.now.order) c.take.new.self _ c.from_residual-in_err-flags.ensures.0
    (fill_flag c.loop-row.invariant.1 (attribute_of (row_at c.args.rows.now c.loop-row.row-index)) (attributes_in (drop (c.loop-row.row-index + 1) c.args.rows.now)) (rows_next c.args.rows.now c.loop-row-test.true) c.in_ok-number.ensures.taken c.with_kind.result c.with_kind.ensures c.in_err-flags.was)

pub returns-in_err-write_content-clause-onward : goal.returns-in_err-write_content-clause-onward
returns-in_err-write_content-clause-onward c = onward_then (onward_then c.loop-row.invariant.1.onward c.take.ensures.onward) c.write_content.ensures.onward

pub returns-in_err-write_content-clause-fills : goal.returns-in_err-write_content-clause-fills
returns-in_err-write_content-clause-fills c = err_filled (order_of c.args.writer.now.order) c.write_content.new.writer _ c.from_residual-in_err-write_content.ensures.0
    (fill_gone c.loop-row.invariant.1 (attribute_of (row_at c.args.rows.now c.loop-row.row-index)) (attributes_in (drop (c.loop-row.row-index + 1) c.args.rows.now)) (rows_next c.args.rows.now c.loop-row-test.true) c.in_ok-number.ensures.taken c.with_kind.result c.with_kind.ensures c.take.ensures.onward c.take.ensures.stays c.in_ok-number.ensures.placed c.write_content.ensures c.in_err-write_content.was)

pub loop-row-preserved : goal.loop-row-preserved
loop-row-preserved c = (
  c.in_ok-flags.flags.held,
  fill_next c.loop-row.invariant.1 (attribute_of (row_at c.args.rows.now c.loop-row.row-index)) (attributes_in (drop (c.loop-row.row-index + 1) c.args.rows.now)) (rows_next c.args.rows.now c.loop-row-test.true) c.in_ok-number.ensures.taken c.with_kind.result c.with_kind.ensures c.take.ensures.onward c.take.ensures.stays c.in_ok-number.ensures.placed c.write_content.ensures c.in_ok-flags.flags c.in_ok-flags.was c.in_ok-write_content.was,
)

pub invariant_of-flags-2 : goal.invariant_of-flags-2
invariant_of-flags-2 c = record { held = c.loop-row.invariant.0 }

pub returns-clause-onward : goal.returns-clause-onward
returns-clause-onward c = c.loop-row.invariant.1.onward

pub returns-clause-fills : goal.returns-clause-fills
returns-clause-fills c = fill_done c.loop-row.invariant.1 (rows_none c.args.rows.now c.loop-row.row-index (omega arith))

pub returns-clause-few : goal.returns-clause-few
returns-clause-few c = omega (arith, c.loop-row.invariant.1.few)
