-- `write_bodies::write_items` meets its contract.
use Rattle.spelling.proofs.EndLaws.{lies_over}
use Rattle.write_bodies.proofs.write_items.Goals as goal

pub returns-then-at-gt16777216 : goal.returns-then-at-gt16777216
returns-then-at-gt16777216 c = let a = c.args in lies_over a.out.now a.at.0 _ c.if-at-gt16777216.true
