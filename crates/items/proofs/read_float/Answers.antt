use Rattle.std.proofs.Common.{sym, arith}
use Rattle.items.proofs.VarLaws.{num_is}
use Rattle.items.proofs.ItemLaws.{le_past}
use Rattle.items.proofs.read_float.Goals as goal

pub returns-then-body-i-lt4 : goal.returns-then-body-i-lt4
returns-then-body-i-lt4 c = λ o. sym (le_past o c.args.body.now c.args.at.byte.0 c.args.at.bit.0 4 c.args.at.same (omega arith) (omega arith))

pub returns : goal.returns
returns c = λ o. num_is c.number.ensures (rw c.args.at.same (c.float_at.ensures o))
