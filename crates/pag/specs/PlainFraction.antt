-- The opacity of a mask at a frame as a plain struct.
use Rattle.opacity.specs.Opacity.{Opacity, fraction, refused}
use Rattle.pag.specs.declared.fraction.PagFraction.{PagFraction}

-- after a refusal both numbers are 0
abbrev pub plain_fraction : Opacity → PagFraction
plain_fraction (fraction p q) = record { reason = 0; numerator = p; denominator = q }
plain_fraction (refused e n) = record { reason = e; numerator = 0; denominator = 0 }
