use Prim.Native.Nat.{◌<◌}
use mathlib.Core.Path.{refl}
use native.Mathlib.Omega.{arith}
use Rattle.reasons.proofs.NumberLaws.{passed_on}
use Rattle.attributes.specs.Flags.{flags_as}
use Rattle.attributes.proofs.FlagLaws.{digit_here, digits_after, digits_many}
use Rattle.bodies.proofs.ContentLaws.{rows_next_row, rows_stop, rows_done, rows_start}
use Rattle.bodies.proofs.blocks.read_contents.Goals as goal

pub loop-row-init : goal.loop-row-init
loop-row-init c = let a = c.args in (rows_start a.reader.now a.rows.now (flags_as a.numbers) c.requires.few c.requires.room, refl)

pub read_attribute-requires : goal.read_attribute-requires
read_attribute-requires c = omega (arith, c.loop-row.invariant.0.room, c.loop-row-test.true)

pub returns-in_err-read_attribute : goal.returns-in_err-read_attribute
returns-in_err-read_attribute c = let a = c.args in
    let few : c.loop-row.row-index < 12 = omega (arith, c.requires.few, c.loop-row-test.true) in
    rows_stop a.reader.now a.rows.now (flags_as a.numbers) c.loop-row-test.true (omega (arith, c.requires.few, digits_many a.numbers 12)) (digit_here a.numbers c.loop-row.flags c.loop-row.row-index few c.loop-row.invariant.1) c.loop-row.invariant.0 c.read_attribute.ensures c.in_err-read_attribute.was (passed_on c.from_residual.result c.from_residual.ensures.1)

pub loop-row-preserved : goal.loop-row-preserved
loop-row-preserved c = let a = c.args in
    let few : c.loop-row.row-index < 12 = omega (arith, c.requires.few, c.loop-row-test.true) in (
      rows_next_row a.reader.now a.rows.now (flags_as a.numbers) c.loop-row-test.true (omega (arith, c.requires.few, digits_many a.numbers 12)) (digit_here a.numbers c.loop-row.flags c.loop-row.row-index few c.loop-row.invariant.1) c.loop-row.invariant.0 c.read_attribute.ensures c.in_ok-read_attribute.was,
      digits_after a.numbers c.loop-row.flags c.loop-row.row-index few c.loop-row.invariant.1,
    )

pub returns : goal.returns
returns c = let a = c.args in rows_done a.reader.now a.rows.now (flags_as a.numbers) c.loop-row-test.false c.loop-row.invariant.0
