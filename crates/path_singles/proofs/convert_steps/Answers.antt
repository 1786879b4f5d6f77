use mathlib.Core.Path.{refl, ap, ◌∙◌}
use mathlib.Core.Bool.{Bool}
use native.Mathlib.Omega.{arith}
use Rattle.format.specs.Tests.{◌or◌}
use Rattle.path_singles.proofs.StepLaws.{or_is, starts, goes, gone}
use Rattle.path_singles.proofs.convert_steps.Goals as goal

pub loop-step-init : goal.loop-step-init
loop-step-init c = starts c.args.steps.now

pub loop-step-preserved : goal.loop-step-preserved
loop-step-preserved c = goes _ c.loop-step.invariant c.loop-step-test.true (rw c.convert_step-beyond.ensures.0 refl) (or_is c.loop-step.beyond c.convert_step-beyond.result ∙ ap (λ (b : Bool). c.loop-step.beyond or b) c.convert_step-beyond.ensures.1)

pub returns : goal.returns
returns c = gone _ c.loop-step.invariant (omega arith)
