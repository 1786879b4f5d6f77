-- `bits::fields::field` meets its contract: the field is cut out of a longer one.
use Rattle.std.proofs.Common.{◌-◌, ◌*◌, arith}
use Rattle.bits.specs.Places.{order_of}
use Rattle.bits.proofs.FieldLaws.{field_cut}
use Rattle.bits.proofs.fields.field.Goals as goal

pub returns-then-len-lt8 : goal.returns-then-len-lt8
returns-then-len-lt8 c = (field_cut (order_of c.args.order) c.args.bytes.now 0 c.args.at.0 c.args.width c.few.ensures.0 (omega arith) (omega (arith, c.if-len-lt8.true, c.requires)) c.cut_out.ensures.0, c.cut_out.ensures.1)

pub returns : goal.returns
returns c = (field_cut (order_of c.args.order) c.args.bytes.now c.min-i.result (c.args.at.0 - 8 * c.min-i.result) c.args.width c.eight.ensures.0 (omega (arith, c.min-i.ensures)) (omega (arith, c.min-i.ensures, c.if-len-lt8.false, c.requires)) c.cut_out-2.ensures.0, c.cut_out-2.ensures.1)
