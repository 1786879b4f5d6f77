-- `bodies::read_part` meets its contract: a block, or other items.
use Rattle.reasons.proofs.NumberLaws.{passed_on}
use Rattle.bodies.proofs.BodyLaws.{part_block, part_fixed, lays_ok, lays_err}
use Rattle.bodies.proofs.read_part.Goals as goal

pub returns-then-not-block : goal.returns-then-not-block
returns-then-not-block c = part_fixed c.args.code c.if-not-block.true c.requires.place c.read_fixed.ensures

pub returns-in_err-read_block : goal.returns-in_err-read_block
returns-in_err-read_block c = part_block c.args.code c.if-not-block.false c.block_of.ensures.are (lays_err c.read_block.ensures.lays c.in_err-read_block.was (passed_on c.from_residual.result c.from_residual.ensures.1))

pub returns : goal.returns
returns c = part_block c.args.code c.if-not-block.false c.block_of.ensures.are (lays_ok c.read_block.ensures.lays tt c.in_ok-read_block.was)
