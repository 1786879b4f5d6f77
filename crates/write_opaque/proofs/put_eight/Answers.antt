-- `write_opaque::put_eight` meets its contract: eight stores, one after the other.
use mathlib.Core.Path.{refl}
use native.Mathlib.Omega.{arith}
use lib.ListN.{length-set}
use Rattle.write_opaque.proofs.PackLaws.{eight_stored}
use Rattle.write_opaque.proofs.put_eight.Goals as goal

pub bounds-out-at-2 : goal.bounds-out-at-2
bounds-out-at-2 c = simp length-set (omega (arith, c.requires))

pub bounds-out-at-3 : goal.bounds-out-at-3
bounds-out-at-3 c = simp length-set (omega (arith, c.requires))

pub bounds-out-at-4 : goal.bounds-out-at-4
bounds-out-at-4 c = simp length-set (omega (arith, c.requires))

pub bounds-out-at-5 : goal.bounds-out-at-5
bounds-out-at-5 c = simp length-set (omega (arith, c.requires))

pub bounds-out-at-6 : goal.bounds-out-at-6
bounds-out-at-6 c = simp length-set (omega (arith, c.requires))

pub bounds-out-at-7 : goal.bounds-out-at-7
bounds-out-at-7 c = simp length-set (omega (arith, c.requires))

pub bounds-out-at-8 : goal.bounds-out-at-8
bounds-out-at-8 c = simp length-set (omega (arith, c.requires))

pub shape_of-out : goal.shape_of-out
shape_of-out c = simp length-set refl

pub returns : goal.returns
returns c = eight_stored c.args.out.now c.args.at c.args.number refl refl refl refl refl refl refl refl
