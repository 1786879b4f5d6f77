-- `write_values::keyframes::write_easing` meets its contract.
use Rattle.std.proofs.Common.{refl}
use Rattle.format.specs.Items.{scaled}
use Rattle.spelling.proofs.WriteLaws.{writes_then}
use Rattle.write_values.proofs.keyframes.write_easing.Goals as goal

pub returns : goal.returns
returns c = writes_then c.skip.ensures.writes (λ xs. scaled c.args.count) refl c.scaled.ensures.writes
