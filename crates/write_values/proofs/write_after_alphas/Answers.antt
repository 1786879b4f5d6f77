-- `write_values::write_after_alphas` meets its contract.
use Rattle.format.specs.Formats.{the}
use Rattle.values.specs.Parts.{stops_of}
use Rattle.spelling.proofs.WriteLaws.{writes_failed, number_then}
use Rattle.write_values.proofs.write_after_alphas.Goals as goal

pub returns-in_err-colors : goal.returns-in_err-colors
returns-in_err-colors c = writes_failed c.count.ensures.writes (λ colors. stops_of c.args.alphas (the colors)) c.in_err-colors.was c.from_residual.ensures.0

pub returns : goal.returns
returns c = number_then c.count.ensures.writes (stops_of c.args.alphas) c.in_ok-colors.was c.in_ok-colors.ensures.counts.0 c.write_both_stops.ensures
