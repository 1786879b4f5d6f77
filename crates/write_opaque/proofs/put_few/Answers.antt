-- `write_opaque::put_few` meets its contract: the bytes so far are the first ones.
use native.Mathlib.Omega.{arith}
use mathlib.Core.Path.{refl}
use Rattle.write_opaque.proofs.PackLaws.{few_next, few_length, few_all}
use Rattle.write_opaque.proofs.put_few.Goals as goal

pub loop-i-init : goal.loop-i-init
loop-i-init c = refl

pub overflow_add-index : goal.overflow_add-index
overflow_add-index c = omega (arith, c.loop-i-test.true, c.requires)

pub overflow_mul-out : goal.overflow_mul-out
overflow_mul-out c = omega (arith, c.loop-i-test.true, c.requires)

pub overflow_shr-out : goal.overflow_shr-out
overflow_shr-out c = omega (arith, c.loop-i-test.true, c.requires)

pub bounds-out-index : goal.bounds-out-index
bounds-out-index c = let a = c.args in omega (arith, c.loop-i-test.true, c.requires, few_length a.out.now a.at a.number c.loop-i.i c.loop-i.invariant)

pub loop-i-preserved : goal.loop-i-preserved
loop-i-preserved c = let a = c.args in few_next a.out.now a.at a.number (omega (arith, c.loop-i-test.true, c.requires)) refl c.loop-i.invariant refl

pub shape_of-out : goal.shape_of-out
shape_of-out c = let a = c.args in few_length a.out.now a.at a.number c.loop-i.i c.loop-i.invariant

pub returns : goal.returns
returns c = let a = c.args in few_all a.out.now a.at a.number c.loop-i.i a.count c.loop-i.invariant (omega arith)
