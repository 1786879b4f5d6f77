use Prim.Native.Nat.{◌-◌}
use mathlib.Core.Path.{◌≡◌}
use native.Mathlib.Omega.{arith}
use Rattle.path_singles.proofs.StepLaws.{or_is}
use Rattle.path_singles.proofs.PathLaws.{turns_from, turns, turned, from_end, from_zero}
use Rattle.path_singles.proofs.convert_paths.Goals as goal

pub loop-init : goal.loop-init
loop-init c = let z : c.args.count - 0 ≡ c.args.count = omega arith in rw z (turns_from _ c.requires.0)

pub loop-preserved : goal.loop-preserved
loop-preserved c = turns _ c.loop.invariant (omega (arith, c.loop-test.true)) c.if-values-index.false c.convert_path-path.ensures.converted c.convert_path-path.ensures.ended (or_is c.loop.beyond c.convert_path-path.result.beyond)

pub returns-after-loop : goal.returns-after-loop
returns-after-loop c = turned _ c.loop.invariant (from_zero _ _ _ (omega (arith, c.loop-test.false)))

pub returns-then-values-index : goal.returns-then-values-index
returns-then-values-index c = turned _ c.loop.invariant (from_end _ _ _ c.if-values-index.true)
