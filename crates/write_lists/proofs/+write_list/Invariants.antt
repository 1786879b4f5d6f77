use Prim.Native.Nat.{◌-◌, ◌≤◌}
use mathlib.Core.Path.{◌≡◌}
use lib.ListN.{length}
use Rattle.bits.specs.Places.{order_of}
use Rattle.tags.specs.Lent.{classes_in}
use Rattle.sink.specs.Lain.{longest}
use Rattle.write_lists.proofs.ListLaws.{rest}
use Rattle.write_lists.proofs.+write_list.Given as goal

abbrev pub invariant-loop-index : goal.invariant-loop-index
invariant-loop-index l = (length l.out ≡ length l.initial.out) × (l.place.0 ≤ longest) × (l.index ≤ length l.table) × (rest (order_of l.order) (classes_in l.classes) l.table l.depths l.initial.out l.initial.place.0 l.initial.index ≡ rest (order_of l.order) (classes_in l.classes) l.table l.depths l.out l.place.0 l.index)

abbrev pub decreases-loop-index : goal.decreases-loop-index
decreases-loop-index l = longest - l.place.0

abbrev pub decreases-write_list : goal.decreases-write_list
decreases-write_list l = l.depths
