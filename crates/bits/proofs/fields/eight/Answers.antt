-- `bits::fields::eight` meets its contract: a field grows by a byte at a time, from the last one down.
use Rattle.bits.proofs.FieldLaws.{is_byte, eight_low, eight_little}
use Rattle.bits.proofs.fields.eight.Goals as goal

pub returns : goal.returns
returns c =
    (eight_low c.args.bytes.now c.args.i (is_byte c.args.bytes.now _ c.type_inv.bytes c.from-b0.ensures) (is_byte c.args.bytes.now _ c.type_inv.bytes c.from-b1.ensures) (is_byte c.args.bytes.now _ c.type_inv.bytes c.from-b2.ensures) (is_byte c.args.bytes.now _ c.type_inv.bytes c.from-b3.ensures) (is_byte c.args.bytes.now _ c.type_inv.bytes c.from-b4.ensures) (is_byte c.args.bytes.now _ c.type_inv.bytes c.from-b5.ensures) (is_byte c.args.bytes.now _ c.type_inv.bytes c.from-b6.ensures) (is_byte c.args.bytes.now _ c.type_inv.bytes c.from-b7.ensures), eight_little c.args.bytes.now c.args.i (is_byte c.args.bytes.now _ c.type_inv.bytes c.from-b0.ensures) (is_byte c.args.bytes.now _ c.type_inv.bytes c.from-b1.ensures) (is_byte c.args.bytes.now _ c.type_inv.bytes c.from-b2.ensures) (is_byte c.args.bytes.now _ c.type_inv.bytes c.from-b3.ensures) (is_byte c.args.bytes.now _ c.type_inv.bytes c.from-b4.ensures) (is_byte c.args.bytes.now _ c.type_inv.bytes c.from-b5.ensures) (is_byte c.args.bytes.now _ c.type_inv.bytes c.from-b6.ensures) (is_byte c.args.bytes.now _ c.type_inv.bytes c.from-b7.ensures))
