use Prim.Native.Nat.{◌-◌}
use lib.ListN.{length}
use Rattle.lists.proofs.ReadLaws.{Here}
use Rattle.lists.proofs.walk.Walk.+read_list.Given as goal

abbrev pub decreases-read_list : goal.decreases-read_list
decreases-read_list l = l.list.now.depths

abbrev pub invariant-loop-place : goal.invariant-loop-place
invariant-loop-place l = Here l.self l.list l.initial.lent l.lent l.place.0

abbrev pub decreases-loop-place : goal.decreases-loop-place
decreases-loop-place l = length l.list.room.now - l.place.0
