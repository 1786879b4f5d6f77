-- `items::var::ends` meets its contract: the tests of `can_end`, one after the other.
use Rattle.std.proofs.Common.{arith, le-ltb, lt-ltb}
use Rattle.items.specs.Kinds.{can_end}
use Rattle.items.proofs.var.ends.Goals as goal

pub returns-then-byte-eq0 : goal.returns-then-byte-eq0
unfolding can_end
returns-then-byte-eq0 c = rw c.if-byte-eq0.true

pub returns-then-left-gt0 : goal.returns-then-left-gt0
unfolding can_end
returns-then-left-gt0 c = rw (lt-ltb 0 c.args.byte (omega arith), lt-ltb 0 c.args.left c.if-left-gt0.true)

pub returns-else-left-gt0 : goal.returns-else-left-gt0
unfolding can_end
returns-else-left-gt0 c = rw (lt-ltb 0 c.args.byte (omega arith), le-ltb 0 c.args.left c.if-left-gt0.false)
