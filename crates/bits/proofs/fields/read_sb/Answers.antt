-- `bits::fields::read_sb` meets its contract: an SB is a UB with its sign.
use Rattle.bits.specs.Places.{order_of}
use Rattle.bits.proofs.FieldLaws.{ub_got, ok_of}
use Rattle.bits.proofs.fields.read_sb.Goals as goal

pub extend-requires : goal.extend-requires
extend-requires c =
    let a = c.args in
    let g = ub_got (order_of a.order) a.bytes.now a.at.0 a.width (ok_of c.in_ok-value.was c.read_ub.ensures) in
    (c.requires.1, c.requires.2, rw g.value g.below)
