-- `Writer::conclude` meets its contract.
use Rattle.bits.specs.Places.{order_of}
use Rattle.spelling.specs.Writer.{state}
use Rattle.spelling.proofs.EndLaws.{end_left, end_done}
use Rattle.spelling.proofs.writer.Writer.conclude.Goals as goal

pub returns-then-self-count-clause-ended : goal.returns-then-self-count-clause-ended
returns-then-self-count-clause-ended c = let a = c.args.self.now in end_left (order_of a.order) c.args.count (state a) a.index c.if-self-count.true

pub returns-clause-ended : goal.returns-clause-ended
returns-clause-ended c = let a = c.args.self.now in end_done (order_of a.order) c.args.count (state a) a.index c.if-self-count.false c.align-end.ensures
