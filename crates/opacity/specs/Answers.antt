-- The paper's words for an answer of `opacity`: a refusal has a reason, and the number 0.
use Rattle.std.specs.Prelude.{Result, Ok, Err}
use Rattle.reasons.specs.Numbers.{number_of}
use Rattle.reasons.specs.declared.Reason.{Reason}
use Rattle.opacity.specs.Opacity.{Opacity, fraction, refused}
use Rattle.opacity.specs.declared.Fraction.{Fraction}

abbrev pub opacity_of : Result Fraction Reason → Opacity
opacity_of (Ok f) = fraction f.above f.below
opacity_of (Err e) = refused (number_of e) 0
