-- `write_opaque::lay_eights` meets its contract: the numbers so far are the first ones.
use native.Mathlib.Omega.{arith}
use mathlib.Core.Path.{refl, sym}
use lib.ListN.{drop}
use lib.Seq.{get_or-drop}
use lib.ListN.{length-drop}
use Rattle.write_opaque.proofs.PackLaws.{spread_none, spread_next, spread_length, spread_all}
use Rattle.write_opaque.proofs.lay_eights.Goals as goal

pub loop-i-init : goal.loop-i-init
loop-i-init c = let a = c.args in spread_none (drop 1 a.values.now) a.from a.out.now

pub overflow_mul-i : goal.overflow_mul-i
overflow_mul-i c = omega (arith, c.loop-i-test.true, c.requires, c.ranges)

pub overflow_add-from : goal.overflow_add-from
overflow_add-from c = omega (arith, c.loop-i-test.true, c.requires)

pub overflow_add-i : goal.overflow_add-i
overflow_add-i c = omega (arith, c.loop-i-test.true, c.requires)

pub bounds-values-i : goal.bounds-values-i
bounds-values-i c = omega (arith, c.loop-i-test.true, c.requires)

pub put_eight-requires : goal.put_eight-requires
put_eight-requires c = let a = c.args in omega (arith, c.loop-i-test.true, c.requires, spread_length a.out.now a.from (drop 1 a.values.now) c.loop-i.i c.loop-i.invariant)

pub loop-i-preserved : goal.loop-i-preserved
loop-i-preserved c = let a = c.args in spread_next a.out.now a.from (drop 1 a.values.now) (omega (arith, c.loop-i-test.true, c.requires, length-drop 1 a.values.now)) (sym (get_or-drop 1 a.values.now c.loop-i.i 0)) refl c.loop-i.invariant c.put_eight.ensures

pub shape_of-out : goal.shape_of-out
shape_of-out c = let a = c.args in spread_length a.out.now a.from (drop 1 a.values.now) c.loop-i.i c.loop-i.invariant

pub returns : goal.returns
returns c = let a = c.args in spread_all a.out.now a.from (drop 1 a.values.now) c.loop-i.i a.count c.loop-i.invariant (omega arith)
