-- `items::read_byte` meets its contract: a byte is a field of 8 bits at a whole byte.
use Rattle.std.proofs.Common.{sym, ◌∙◌, arith}
use Rattle.bits.proofs.FieldLaws.{ub_in, ub_past}
use Rattle.items.proofs.VarLaws.{byte_is, num_is}
use Rattle.items.proofs.read_byte.Goals as goal

pub returns-then-body-i : goal.returns-then-body-i
returns-then-body-i c = λ o. ub_past o c.args.body.now c.args.at.bit.0 8 (omega arith)

pub returns : goal.returns
returns c = λ o. num_is c.number.ensures (ub_in o c.args.body.now c.args.at.bit.0 8 (omega arith) (byte_is o c.args.body.now c.args.at.byte.0 c.args.at.bit.0 c.args.at.same c.byte_at.ensures))
