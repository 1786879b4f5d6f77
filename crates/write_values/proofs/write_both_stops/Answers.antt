-- `write_values::write_both_stops` meets its contract.
use Rattle.format.specs.Formats.{times}
use Rattle.values.specs.Parts.{stop_of}
use Rattle.spelling.proofs.WriteLaws.{writes_then, writes_failed}
use Rattle.write_values.proofs.write_both_stops.Goals as goal

pub returns-in_err-write_all_anywhere : goal.returns-in_err-write_all_anywhere
returns-in_err-write_all_anywhere c = writes_failed c.write_all_anywhere.ensures.writes (λ xs. times c.args.colors (stop_of 3)) c.in_err-write_all_anywhere.was c.from_residual.ensures.0

pub returns : goal.returns
returns c = writes_then c.write_all_anywhere.ensures.writes (λ xs. times c.args.colors (stop_of 3)) c.in_ok-write_all_anywhere.was c.write_all_anywhere-2.ensures.writes
