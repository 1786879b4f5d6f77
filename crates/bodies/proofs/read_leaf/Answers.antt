-- `bodies::read_leaf` meets its contract: the items, and then the end.
use mathlib.Core.Bool.{false}
use Rattle.reasons.proofs.NumberLaws.{passed_on}
use Rattle.bodies.specs.Leaf.{body_by}
use Rattle.bodies.proofs.BodyLaws.{leaf_lays, either_stop}
use Rattle.bodies.proofs.read_leaf.Goals as goal

pub returns-in_err-read_part-clause-lays : goal.returns-in_err-read_part-clause-lays
returns-in_err-read_part-clause-lays c = either_stop (body_by c.args.block c.args.code) c.read_part.ensures false c.in_err-read_part.was (passed_on c.from_residual.result c.from_residual.ensures.1)

pub returns-clause-lays : goal.returns-clause-lays
returns-clause-lays c = leaf_lays (body_by c.args.block c.args.code) c.read_part.ensures c.in_ok-read_part.was c.end_body.ensures.lays
