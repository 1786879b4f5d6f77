use mathlib.Core.Path.{refl, ◌∙◌}
use native.Mathlib.Omega.{arith}
use lib.ListN.{length-set}
use Rattle.write_heads.proofs.HeadLaws.{move_none, move_nowhere, move_next, move_all}
use Rattle.write_heads.proofs.move_up.Goals as goal

pub returns-then-by-eq0 : goal.returns-then-by-eq0
returns-then-by-eq0 c = move_nowhere c.args.out.now c.args.at.0 c.args.count c.args.by c.if-by-eq0.true

pub overflow_add-at : goal.overflow_add-at
overflow_add-at c = omega (arith, c.requires.0, c.requires.2)

pub loop-i-init : goal.loop-i-init
loop-i-init c = (refl, omega (arith, c.room_for-room.ensures), move_none c.args.out.now c.args.at.0 c.args.count c.args.by c.room_for-room.result c.room_for-room.ensures)

pub overflow_add-from : goal.overflow_add-from
overflow_add-from c = omega (arith, c.requires.0, c.requires.1, c.loop-i.invariant.1)

pub overflow_add-to : goal.overflow_add-to
overflow_add-to c = omega (arith, c.requires.0, c.requires.1, c.requires.2, c.loop-i.invariant.1)

pub bounds-out-from : goal.bounds-out-from
bounds-out-from c = omega (arith, c.loop-i.invariant.0, c.loop-i.invariant.1, c.loop-i-test.true)

pub bounds-out-to : goal.bounds-out-to
bounds-out-to c = omega (arith, c.loop-i.invariant.0, c.loop-i.invariant.1, c.loop-i-test.true)

pub loop-i-preserved : goal.loop-i-preserved
loop-i-preserved c = (length-set c.loop-i.out _ _ ∙ c.loop-i.invariant.0, omega (arith, c.loop-i.invariant.1), move_next c.args.out.now c.args.at.0 c.args.count c.args.by c.loop-i.i c.loop-i.out c.loop-i-test.true c.loop-i.invariant.1 c.loop-i.invariant.2)

pub shape_of-out : goal.shape_of-out
shape_of-out c = c.loop-i.invariant.0

pub returns : goal.returns
returns c = move_all c.args.out.now c.args.at.0 c.args.count c.args.by c.loop-i.i c.loop-i.out (omega (arith, c.loop-i-test.false)) c.loop-i.invariant.2
