-- `write_values::StopPartAnywhere::write_anywhere` meets its contract.
use Rattle.format.specs.Formats.{times}
use Rattle.format.specs.Items.{byte}
use Rattle.spelling.proofs.WriteLaws.{writes_then, writes_failed}
use Rattle.write_values.proofs.StopPartAnywhere.write_anywhere.Goals as goal

pub returns-in_err-write_pair : goal.returns-in_err-write_pair
returns-in_err-write_pair c = record { writes = writes_failed c.write_pair.ensures (λ xs. times c.args.self.now.bytes byte) c.in_err-write_pair.was c.from_residual.ensures.0 }

pub returns : goal.returns
returns c = record { writes = writes_then c.write_pair.ensures (λ xs. times c.args.self.now.bytes byte) c.in_ok-write_pair.was c.items.ensures.writes }
