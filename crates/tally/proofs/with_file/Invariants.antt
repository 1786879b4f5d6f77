use Prim.Native.Nat.{◌-◌}
use mathlib.Core.Path.{◌≡◌}
use lib.ListN.{length}
use Rattle.bits.specs.Places.{order_of}
use Rattle.tally.proofs.AddLaws.{Going}
use Rattle.tally.proofs.with_file.Given as goal

abbrev pub invariant-loop-place : goal.invariant-loop-place
invariant-loop-place l = Going (order_of l.order) l.level l.file l.fn.tally.counts l.tally.counts l.place × (l.tally.headers ≡ l.fn.tally.headers)

abbrev pub decreases-loop-place : goal.decreases-loop-place
decreases-loop-place l = length l.file - l.place
