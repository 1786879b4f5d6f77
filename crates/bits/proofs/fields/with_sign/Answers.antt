-- `bits::fields::with_sign` meets its contract: the difference that wraps is the sum with 2 ^ 64 - size for the last numbers below size.
use Rattle.bits.proofs.FieldLaws.{signed_by}
use Rattle.bits.proofs.fields.with_sign.Goals as goal

pub returns : goal.returns
returns c =
    let a = c.args in
    let h = c.requires in
    signed_by a.value a.size a.negatives h.0 h.1 h.2 c.wrapping_sub_u64.type_inv c.wrapping_sub_u64.ensures.value
