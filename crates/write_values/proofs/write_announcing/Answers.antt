-- `write_values::write_announcing` meets its contract.
use Rattle.format.specs.Items.{scaled}
use Rattle.table.specs.Fields.{announced}
use Rattle.write_values.proofs.ValueLaws.{announcing_then}
use Rattle.spelling.proofs.WriteLaws.{writes_failed}
use Rattle.write_values.proofs.write_announcing.Goals as goal

pub returns-in_err-announced : goal.returns-in_err-announced
returns-in_err-announced c = writes_failed c.fields.ensures.writes (λ xs. scaled (announced c.args.kind xs)) c.in_err-announced.was c.from_residual.ensures.0

pub returns : goal.returns
returns c = announcing_then c.args.kind c.args.width c.args.count c.fields.ensures.writes c.in_ok-announced.was c.in_ok-announced.ensures.counts.0 c.scaled.ensures.writes
