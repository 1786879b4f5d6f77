use Prim.Native.Nat.{◌-◌}
use lib.ListN.{length}
use Rattle.bits.specs.Places.{order_of}
use Rattle.lists.specs.Lists.{owner_of}
use Rattle.canvas.proofs.LookLaws.{Going}
use Rattle.canvas.proofs.+look_in.Given as goal

abbrev pub invariant-loop-place : goal.invariant-loop-place
invariant-loop-place l = Going (order_of l.walk.order) l.walk.classes.now l.list.depths (owner_of l.list.owner) l.list.at.0 l.list.room.now l.fn.headers l.place.0 l.headers

abbrev pub decreases-loop-place : goal.decreases-loop-place
decreases-loop-place l = length l.list.room.now - l.place.0

abbrev pub decreases-look_in : goal.decreases-look_in
decreases-look_in l = l.list.now.depths
