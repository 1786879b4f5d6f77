-- `items::read_uint16` meets its contract: two bytes are there, or fewer.
use Rattle.std.proofs.Common.{sym, refl, arith}
use Rattle.items.proofs.VarLaws.{num_is}
use Rattle.items.proofs.ItemLaws.{le_past, uint16_is}
use Rattle.items.proofs.read_uint16.Goals as goal

pub returns-then-body-i-lt2 : goal.returns-then-body-i-lt2
returns-then-body-i-lt2 c = λ o. sym (le_past o c.args.body.now c.args.at.byte.0 c.args.at.bit.0 2 c.args.at.same (omega arith) (omega arith))

pub returns : goal.returns
returns c = λ o. num_is c.number.ensures (uint16_is o c.args.body.now c.args.at.byte.0 c.args.at.bit.0 c.args.at.same (omega arith) c.byte_at-b0.ensures c.byte_at-b1.ensures refl)
