-- `write_values::keyframes::write_keyframes` meets its contract.
use Rattle.std.proofs.Common.{◌*◌, arith}
use Rattle.format.specs.Bodies.{how_many, curves}
use Rattle.attributes.specs.Rows.{kind_of, type_of}
use Rattle.values.specs.Parts.{frames_of}
use Rattle.values.proofs.ValueLaws.{easing_small}
use Rattle.write_values.proofs.ValueLaws.{keyframes_then}
use Rattle.spelling.proofs.WriteLaws.{writes_failed}
use Rattle.write_values.proofs.keyframes.write_keyframes.Goals as goal

pub returns-in_err-beziers : goal.returns-in_err-beziers
returns-in_err-beziers c = writes_failed c.write_interpolations.ensures.writes (λ kinds. frames_of (kind_of c.args.kind) (type_of c.args.what) c.args.flag c.args.frames (how_many 2 kinds * 4 * curves (kind_of c.args.kind) (type_of c.args.what))) c.in_err-beziers.was c.from_residual.ensures.0

pub overflow_mul-easing : goal.overflow_mul-easing
overflow_mul-easing c = omega (arith, easing_small c.args.frames c.in_ok-beziers.ensures.counts.1 c.curves.ensures.1 c.requires)

pub write_frames-requires : goal.write_frames-requires
write_frames-requires c = (c.requires, omega (arith, easing_small c.args.frames c.in_ok-beziers.ensures.counts.1 c.curves.ensures.1 c.requires))

pub returns : goal.returns
returns c = keyframes_then (kind_of c.args.kind) (type_of c.args.what) c.args.flag c.args.frames c.write_interpolations.ensures.writes c.in_ok-beziers.was c.in_ok-beziers.ensures.counts.0 c.curves.ensures.0 c.write_frames.ensures
