-- `write_opaque::is_filled` meets its contract: each branch is a case of the definition.
use native.Mathlib.Omega.{arith}
use mathlib.Core.Path.{refl}
use Rattle.write_opaque.proofs.PackLaws.{filled_none, filled_some}
use lib.ListN.{drop}
use Rattle.write_opaque.proofs.is_filled.Goals as goal

pub returns-then-left-eq0 : goal.returns-then-left-eq0
returns-then-left-eq0 c = let a = c.args in filled_none a.len (drop 1 a.values.now) c.if-left-eq0.true

pub bounds-values-len : goal.bounds-values-len
bounds-values-len c = omega (arith, c.if-left-eq0.false, c.requires)

pub returns : goal.returns
returns c = let a = c.args in filled_some a.len a.values.now c.if-left-eq0.false refl c.power.ensures.0
