-- `bit_reader::read_near` meets its contract: a field of 32 bits touches no more than the five bytes from its first on.
use mathlib.Core.Path.{refl}
use native.Mathlib.Omega.{arith}
use Rattle.bits.specs.Places.{order_of}
use Rattle.bit_reader.proofs.FieldLaws.{near_end, near_value}
use Rattle.bit_reader.proofs.read_near.Goals as goal

pub returns : goal.returns
returns c =
    let a = c.args in
    rw c.in-Some.ensures.1 (near_value (order_of a.order) a.signed a.bytes.now a.place.0 a.width _ _ refl (near_end _ _ c.if-bytes-index.false c.min-end.ensures) (omega arith) c.in_ok-value.ensures)
