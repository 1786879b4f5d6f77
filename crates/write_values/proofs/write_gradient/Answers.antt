-- `write_values::write_gradient` meets its contract.
use Rattle.format.specs.Formats.{the}
use Rattle.write_values.proofs.ValueLaws.{gradient_after, gradient_of}
use Rattle.spelling.proofs.WriteLaws.{writes_failed, number_then}
use Rattle.write_values.proofs.write_gradient.Goals as goal

pub returns-in_err-alphas : goal.returns-in_err-alphas
returns-in_err-alphas c = writes_failed c.count.ensures.writes (λ n. gradient_after (the n)) c.in_err-alphas.was c.from_residual.ensures.0

pub returns : goal.returns
returns c = number_then c.count.ensures.writes gradient_after c.in_ok-alphas.was c.in_ok-alphas.ensures.counts.0 (gradient_of c.in_ok-alphas.alphas c.write_after_alphas.ensures)
