-- `bodies::end_body` meets its contract: the next whole byte is the end of the body, or not.
use Rattle.reasons.proofs.NumberLaws.{passed_on}
use Rattle.bodies.proofs.BodyLaws.{end_err, end_in, end_over}
use Rattle.bodies.proofs.end_body.Goals as goal

pub returns-in_err-end-clause-lays : goal.returns-in_err-end-clause-lays
returns-in_err-end-clause-lays c = end_err c.to_byte.ensures.lays c.in_err-end.was (passed_on c.from_residual.result c.from_residual.ensures.1)

pub returns-then-end-reader-clause-lays : goal.returns-then-end-reader-clause-lays
returns-then-end-reader-clause-lays c = end_in c.to_byte.ensures.lays c.in_ok-end.was c.in_ok-end.ensures.byte c.if-end-reader.true

pub returns-else-end-reader-clause-lays : goal.returns-else-end-reader-clause-lays
returns-else-end-reader-clause-lays c = end_over c.to_byte.ensures.lays c.in_ok-end.was c.in_ok-end.ensures.byte c.if-end-reader.false
