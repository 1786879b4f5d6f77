-- `write_values::keyframes::write_frames` meets its contract.
use Rattle.std.proofs.Common.{◌+◌}
use Rattle.format.specs.Tests.{pick}
use Rattle.format.specs.Formats.{nothing, ◌▸◌}
use Rattle.format.specs.Items.{scaled}
use Rattle.format.specs.Bodies.{values, aligned, spatial, has_spatial}
use Rattle.attributes.specs.Rows.{kind_of, type_of}
use Rattle.write_values.proofs.ValueLaws.{frames_is}
use Rattle.spelling.proofs.WriteLaws.{writes_then, writes_failed}
use Rattle.write_values.proofs.keyframes.write_frames.Goals as goal

pub returns-in_err-times : goal.returns-in_err-times
returns-in_err-times c = frames_is (kind_of c.args.kind) (type_of c.args.what) c.args.flag c.args.frames c.args.easing (writes_failed c.times.ensures.writes (λ xs. (aligned ▸ values (kind_of c.args.kind) (type_of c.args.what) (c.args.frames + 1)) ▸ ((aligned ▸ scaled c.args.easing) ▸ pick (has_spatial c.args.flag) (spatial c.args.frames) nothing)) c.in_err-times.was c.from_residual.ensures.0)

pub returns-in_err-write_values_part : goal.returns-in_err-write_values_part
returns-in_err-write_values_part c = frames_is (kind_of c.args.kind) (type_of c.args.what) c.args.flag c.args.frames c.args.easing (writes_then c.times.ensures.writes (λ xs. (aligned ▸ values (kind_of c.args.kind) (type_of c.args.what) (c.args.frames + 1)) ▸ ((aligned ▸ scaled c.args.easing) ▸ pick (has_spatial c.args.flag) (spatial c.args.frames) nothing)) c.in_ok-times.was (writes_failed c.write_values_part.ensures (λ xs. (aligned ▸ scaled c.args.easing) ▸ pick (has_spatial c.args.flag) (spatial c.args.frames) nothing) c.in_err-write_values_part.was c.from_residual-in_err-write_values_part.ensures.0))

pub returns : goal.returns
returns c = frames_is (kind_of c.args.kind) (type_of c.args.what) c.args.flag c.args.frames c.args.easing (writes_then c.times.ensures.writes (λ xs. (aligned ▸ values (kind_of c.args.kind) (type_of c.args.what) (c.args.frames + 1)) ▸ ((aligned ▸ scaled c.args.easing) ▸ pick (has_spatial c.args.flag) (spatial c.args.frames) nothing)) c.in_ok-times.was (writes_then c.write_values_part.ensures (λ xs. (aligned ▸ scaled c.args.easing) ▸ pick (has_spatial c.args.flag) (spatial c.args.frames) nothing) c.in_ok-write_values_part.was c.write_eased.ensures))
