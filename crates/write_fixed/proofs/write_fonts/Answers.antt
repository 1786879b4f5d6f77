-- `write_fixed::write_fonts` meets its contract.
use Rattle.format.specs.Formats.{the}
use Rattle.spelling.proofs.WriteLaws.{writes_failed, number_then}
use Rattle.write_fixed.proofs.FixedLaws.{fonts, fonts_of}
use Rattle.write_fixed.proofs.write_fonts.Goals as goal

pub returns-in_err-count : goal.returns-in_err-count
returns-in_err-count c = writes_failed c.count.ensures.writes (λ n. fonts (the n)) c.in_err-count.was c.from_residual.ensures.0

pub returns : goal.returns
returns c = number_then c.count.ensures.writes fonts c.in_ok-count.was c.in_ok-count.ensures.counts.0 (fonts_of c.in_ok-count.count c.write_all_anywhere.ensures.writes)
