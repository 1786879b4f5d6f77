use Prim.Native.Nat.{◌+◌, ◌*◌, ◌^◌, ◌≤◌, ◌<◌}
use mathlib.Core.Path.{◌≡◌}
use lib.ListN.{length}
use Rattle.format.specs.WritingItems.{dig}
use Rattle.bits.specs.Places.{order_of}
use Rattle.sink.specs.Laying.{mk, lay}
use Rattle.sink.proofs.put_bits.Given as goal

abbrev pub invariant-loop-count : goal.invariant-loop-count
invariant-loop-count l = (length l.out ≡ length l.initial.out) × (l.count ≤ 39) × (l.waiting < 2 ^ l.count) × (l.i * 8 + l.count ≡ l.at + l.width) × (lay (order_of l.order) (mk l.initial.out (l.initial.i * 8) 0) (dig (order_of l.order) l.initial.count l.initial.waiting) ≡ lay (order_of l.order) (mk l.out (l.i * 8) 0) (dig (order_of l.order) l.count l.waiting))

abbrev pub decreases-loop-count : goal.decreases-loop-count
decreases-loop-count l = l.count
