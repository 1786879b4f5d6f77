use Rattle.bodies.proofs.BodyLaws.{leaf_code}
use Rattle.bodies.proofs.read_body.Goals as goal

pub returns-clause-lays : goal.returns-clause-lays
returns-clause-lays c = leaf_code c.args.code c.is_block.ensures c.read_leaf.ensures.lays
