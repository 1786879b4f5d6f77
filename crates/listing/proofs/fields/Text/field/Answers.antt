use native.Mathlib.Omega.{arith}
use Rattle.listing.proofs.TextLaws.{decimal_most, field_added}
use Rattle.listing.proofs.fields.Text.field.Goals as goal

pub digits-requires : goal.digits-requires
digits-requires c = omega (arith, decimal_most c.args.value c.ranges.value.fits)

pub byte-requires : goal.byte-requires
byte-requires c = omega (arith, c.digits.ensures.used, c.digits.ensures.size, decimal_most c.args.value c.ranges.value.fits)

pub returns : goal.returns
returns c = field_added c.args.value c.args.end c.ranges.value.fits c.digits.ensures c.byte.ensures
