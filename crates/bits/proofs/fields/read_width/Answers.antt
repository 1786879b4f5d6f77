-- `bits::fields::read_width` meets its contract: a width is a UB plus 1, and small.
use Rattle.std.proofs.Common.{arith}
use Rattle.bits.specs.Places.{order_of}
use Rattle.bits.proofs.FieldLaws.{ub_got, ok_of}
use Rattle.bits.proofs.fields.read_width.Goals as goal

pub overflow_add-result : goal.overflow_add-result
overflow_add-result c =
    let a = c.args in
    let g = ub_got (order_of a.order) a.bytes.now a.at.0 5 (ok_of c.in_ok-value.was c.read_ub.ensures) in
    omega arith
