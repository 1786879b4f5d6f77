-- `write_values::keyframes::write_values_part` meets its contract.
use Rattle.std.proofs.Common.{refl}
use Rattle.format.specs.Bodies.{values}
use Rattle.attributes.specs.Rows.{kind_of, type_of}
use Rattle.spelling.proofs.WriteLaws.{writes_then}
use Rattle.write_values.proofs.keyframes.write_values_part.Goals as goal

pub returns : goal.returns
returns c = writes_then c.skip.ensures.writes (λ xs. values (kind_of c.args.kind) (type_of c.args.what) c.args.count) refl c.write_frame_values.ensures
