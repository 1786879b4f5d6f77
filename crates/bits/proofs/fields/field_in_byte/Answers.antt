-- `bits::fields::field_in_byte` meets its contract: the field is cut out of its byte.
use Rattle.std.proofs.Common.{◌-◌, ◌%◌, sym, arith}
use Rattle.bits.specs.Places.{order_of}
use Rattle.bits.proofs.FieldLaws.{ub_in_byte, below_lt}
use Rattle.bits.proofs.fields.field_in_byte.Goals as goal

pub cut-requires : goal.cut-requires
cut-requires c =
    let a = c.args in
    let h = c.requires in
    (below_lt (order_of a.order) (a.at.0 % 8) (8 - a.at.0 % 8 - a.width) 64 c.bits_below-below.ensures (omega arith) (omega arith), omega (arith, h.0))

pub returns : goal.returns
returns c =
    let a = c.args in
    let h = c.requires in
    sym (ub_in_byte (order_of a.order) a.bytes.now a.at.0 a.width (8 - a.at.0 % 8 - a.width) c.byte_at.ensures (omega (arith, h.0)) c.bits_below-below.ensures c.cut.ensures.0)
