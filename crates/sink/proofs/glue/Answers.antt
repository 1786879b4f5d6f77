-- `sink::glue` meets its contract: what comes first counts more high first, and less low first.
use native.Mathlib.Omega.{arith}
use Rattle.sink.proofs.LayingLaws.{glued_high, glued_low}
use Rattle.sink.proofs.glue.Goals as goal

pub overflow_mul-result : goal.overflow_mul-result
overflow_mul-result c = omega (arith, glued_high c.args.before c.args.behind c.args.first c.args.last c.power.result c.requires.0 c.requires.1 c.requires.2 c.power.ensures.0)

pub overflow_add-result : goal.overflow_add-result
overflow_add-result c = omega (arith, glued_high c.args.before c.args.behind c.args.first c.args.last c.power.result c.requires.0 c.requires.1 c.requires.2 c.power.ensures.0)

pub overflow_mul-result-in-LowFirst : goal.overflow_mul-result-in-LowFirst
overflow_mul-result-in-LowFirst c = omega (arith, glued_low c.args.before c.args.behind c.args.first c.args.last c.power-in-LowFirst.result c.requires.0 c.requires.1 c.requires.2 c.power-in-LowFirst.ensures.0)

pub overflow_add-result-in-LowFirst : goal.overflow_add-result-in-LowFirst
overflow_add-result-in-LowFirst c = omega (arith, glued_low c.args.before c.args.behind c.args.first c.args.last c.power-in-LowFirst.result c.requires.0 c.requires.1 c.requires.2 c.power-in-LowFirst.ensures.0)

pub returns-in-HighFirst : goal.returns-in-HighFirst
returns-in-HighFirst c = rw c.in-HighFirst.is (rw c.power.ensures.0, (glued_high c.args.before c.args.behind c.args.first c.args.last c.power.result c.requires.0 c.requires.1 c.requires.2 c.power.ensures.0).0)

pub returns-in-LowFirst : goal.returns-in-LowFirst
returns-in-LowFirst c = rw c.in-LowFirst.is (rw c.power-in-LowFirst.ensures.0, (glued_low c.args.before c.args.behind c.args.first c.args.last c.power-in-LowFirst.result c.requires.0 c.requires.1 c.requires.2 c.power-in-LowFirst.ensures.0).0)
