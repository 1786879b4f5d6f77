use native.Mathlib.Omega.{arith}
use Rattle.listing.proofs.TextLaws.{laid_so}
use Rattle.listing.proofs.put_too_long.Goals as goal

pub returns : goal.returns
returns c = (laid_so c.word.ensures, omega (arith, c.word.ensures.used))
