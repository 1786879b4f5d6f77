-- `write_values::write_path` meets its contract.
use Rattle.format.specs.Formats.{the}
use Rattle.table.specs.declared.fields.Field.TheVariants.{Verb}
use Rattle.values.specs.Parts.{announcing}
use Rattle.write_values.proofs.ValueLaws.{path_of}
use Rattle.spelling.proofs.WriteLaws.{writes_failed, number_then}
use Rattle.write_values.proofs.write_path.Goals as goal

pub returns-in_err-count : goal.returns-in_err-count
returns-in_err-count c = path_of (writes_failed c.count.ensures.writes (λ n. announcing Verb 3 (the n)) c.in_err-count.was c.from_residual.ensures.0)

pub returns : goal.returns
returns c = path_of (number_then c.count.ensures.writes (announcing Verb 3) c.in_ok-count.was c.in_ok-count.ensures.counts.0 c.write_announcing.ensures)
