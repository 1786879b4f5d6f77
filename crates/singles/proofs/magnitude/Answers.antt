use native.Mathlib.Omega.{arith}
use mathlib.Core.Path.{refl}
use Rattle.singles.proofs.SingleLaws.{nothing_at, zeros_few, unit_fits, rounded_is}
use Rattle.singles.proofs.magnitude.Goals as goal

pub returns-then-step-eq0 : goal.returns-then-step-eq0
returns-then-step-eq0 c = (nothing_at _ c.if-step-eq0.true, omega arith)

pub overflow_sub-behind : goal.overflow_sub-behind
overflow_sub-behind c = zeros_few c.args.step c.if-step-eq0.false c.requires (omega arith) (omega arith)

pub nearest-requires : goal.nearest-requires
nearest-requires c = unit_fits c.args.step c.if-step-eq0.false c.requires (omega arith) (omega arith)

pub returns : goal.returns
returns c = rounded_is c.args.step c.if-step-eq0.false c.requires (omega arith) (omega arith) refl c.from-exponent.ensures c.nearest.ensures
