-- `Writer::scaled` meets its contract.
use Rattle.format.specs.Formats.{times, the}
use Rattle.table.specs.Fields.{field_of}
use Rattle.spelling.proofs.WriteLaws.{writes_failed, number_then, writes_ok, writes_err}
use Rattle.spelling.proofs.writer.Writer.scaled.Goals as goal

pub returns-in_err-width : goal.returns-in_err-width
returns-in_err-width c = record { writes = writes_failed c.width.ensures.writes (λ w. times c.args.count (field_of c.args.kind (the w))) c.in_err-width.was c.from_residual.ensures.0 }

pub returns-in_err-fields : goal.returns-in_err-fields
returns-in_err-fields c = record { writes = number_then c.width.ensures.writes (λ w. times c.args.count (field_of c.args.kind w)) c.in_ok-width.was c.in_ok-width.ensures.counts.0 (writes_err c.fields.ensures.writes c.in_err-fields.was c.from_residual-in_err-fields.ensures.0) }

pub returns : goal.returns
returns c = record { writes = number_then c.width.ensures.writes (λ w. times c.args.count (field_of c.args.kind w)) c.in_ok-width.was c.in_ok-width.ensures.counts.0 (writes_ok c.fields.ensures.writes c.in_ok-fields.was) }
