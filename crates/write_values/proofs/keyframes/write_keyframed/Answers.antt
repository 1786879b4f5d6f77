-- `write_values::keyframes::write_keyframed` meets its contract.
use Rattle.format.specs.Formats.{the}
use Rattle.attributes.specs.Rows.{kind_of, type_of}
use Rattle.values.specs.Parts.{keyframes_of}
use Rattle.spelling.proofs.WriteLaws.{writes_failed, number_then}
use Rattle.write_values.proofs.keyframes.write_keyframed.Goals as goal

pub returns-in_err-frames : goal.returns-in_err-frames
returns-in_err-frames c = writes_failed c.count.ensures.writes (λ n. keyframes_of (kind_of c.args.kind) (type_of c.args.what) c.args.flag (the n)) c.in_err-frames.was c.from_residual.ensures.0

pub returns : goal.returns
returns c = number_then c.count.ensures.writes (keyframes_of (kind_of c.args.kind) (type_of c.args.what) c.args.flag) c.in_ok-frames.was c.in_ok-frames.ensures.counts.0 c.write_keyframes.ensures
