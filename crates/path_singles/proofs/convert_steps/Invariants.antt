use Rattle.path_singles.proofs.StepLaws.{Going}
use Rattle.path_singles.proofs.convert_steps.Given as goal

abbrev pub invariant-loop-step : goal.invariant-loop-step
invariant-loop-step l = Going l.initial.steps l.steps l.step-index l.beyond
