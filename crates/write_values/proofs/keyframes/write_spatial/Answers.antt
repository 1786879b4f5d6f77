-- `write_values::keyframes::write_spatial` meets its contract.
use Rattle.std.proofs.Common.{◌*◌, refl, arith}
use Rattle.table.specs.declared.fields.Field.TheVariants.{SpatialFlag}
use Rattle.values.specs.Parts.{announcing}
use Rattle.write_values.proofs.ValueLaws.{spatial_none, spatial_some}
use Rattle.spelling.proofs.WriteLaws.{writes_then}
use Rattle.write_values.proofs.keyframes.write_spatial.Goals as goal

pub returns-then-flag-ne7 : goal.returns-then-flag-ne7
returns-then-flag-ne7 c = spatial_none c.args.writer.now tt c.args.flag c.args.frames c.if-flag-ne7.true

pub returns : goal.returns
returns c = spatial_some c.args.flag c.args.frames (omega (arith, c.if-flag-ne7.false)) (writes_then c.skip.ensures.writes (λ xs. announcing SpatialFlag 1 (c.args.frames * 2)) refl c.write_announcing.ensures)
