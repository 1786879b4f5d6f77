-- `bodies::to_byte` meets its contract: nothing is shown, and the place is the next whole byte's.
use Rattle.std.proofs.Common.{refl, sym}
use Rattle.reasons.proofs.NumberLaws.{passed_on}
use Rattle.bodies.proofs.BodyLaws.{lays_none, lays_never}
use Rattle.bodies.proofs.to_byte.Goals as goal

pub returns-in_err-start-clause-lays : goal.returns-in_err-start-clause-lays
returns-in_err-start-clause-lays c = lays_never (passed_on c.from_residual.result c.from_residual.ensures.1) (sym c.in_err-start.ensures)

pub returns-clause-lays : goal.returns-clause-lays
returns-clause-lays c = lays_none (record { order = refl; body = refl; lent = refl }) refl refl (sym c.in_ok-start.ensures)
