-- `bits::fields::bit_of` meets its contract: the bit is cut out of its number.
use Rattle.std.proofs.Common.{arith}
use Rattle.bits.specs.Places.{order_of}
use Rattle.bits.proofs.FieldLaws.{below_lt, bit_cut}
use Rattle.bits.proofs.fields.bit_of.Goals as goal

pub cut-requires : goal.cut-requires
cut-requires c = let a = c.args in (below_lt (order_of a.order) _ _ 64 c.bits_below.ensures (omega (arith, c.requires)) (omega (arith, c.requires)), omega arith)

pub returns : goal.returns
returns c = let a = c.args in bit_cut (order_of a.order) a.first a.place c.bits_below.ensures c.cut.ensures
