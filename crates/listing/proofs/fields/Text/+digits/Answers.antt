use native.Mathlib.Omega.{arith}
use Rattle.listing.proofs.TextLaws.{decimal_one, decimal_length, digits_only, digits_last}
use mathlib.Core.Path.{ap}
use lib.ListN.{length}
use Rattle.listing.proofs.fields.Text.+digits.Goals as goal
use Rattle.listing.proofs.fields.Text.+digits.Goals.{then-value-gt-LAST_DIGIT, else-value-gt-LAST_DIGIT}

pub digits-requires : goal.digits-requires
digits-requires t c = (omega (arith, c.decreases), omega (arith, decimal_length c.args.value (omega arith)))

pub byte-requires : goal.byte-requires
byte-requires t c =
    elim c.if-value-gt-LAST_DIGIT.branch [
      | then-value-gt-LAST_DIGIT w ↦ rw w.self-is (omega (arith, w.digits.ensures.used, w.digits.ensures.size, decimal_length c.args.value (omega arith)))
      | else-value-gt-LAST_DIGIT w ↦ rw w.self-is (omega (arith, ap length (decimal_one c.args.value (omega arith))))
    ]

pub returns : goal.returns
returns t c =
    elim c.if-value-gt-LAST_DIGIT.branch [
      | then-value-gt-LAST_DIGIT w ↦ digits_last c.args.value (omega arith) w.digits.ensures (rw w.self-is at c.byte.ensures)
      | else-value-gt-LAST_DIGIT w ↦ digits_only c.args.value (omega arith) (rw w.self-is at c.byte.ensures)
    ]
