-- `write_values::keyframes::write_eased` meets its contract.
use Rattle.format.specs.Tests.{pick}
use Rattle.format.specs.Formats.{nothing}
use Rattle.format.specs.Bodies.{spatial, has_spatial}
use Rattle.spelling.proofs.WriteLaws.{writes_then, writes_failed}
use Rattle.write_values.proofs.keyframes.write_eased.Goals as goal

pub returns-in_err-write_easing : goal.returns-in_err-write_easing
returns-in_err-write_easing c = writes_failed c.write_easing.ensures (λ xs. pick (has_spatial c.args.flag) (spatial c.args.frames) nothing) c.in_err-write_easing.was c.from_residual.ensures.0

pub returns : goal.returns
returns c = writes_then c.write_easing.ensures (λ xs. pick (has_spatial c.args.flag) (spatial c.args.frames) nothing) c.in_ok-write_easing.was c.write_spatial.ensures
