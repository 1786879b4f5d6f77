use Prim.Native.Nat.{◌+◌, ◌-◌, ◌≤◌, min}
use mathlib.Core.Path.{◌≡◌}
use lib.ListN.{length}
use Rattle.write_heads.proofs.HeadLaws.{moved_from}
use Rattle.write_heads.proofs.move_up.Given as goal

abbrev pub invariant-loop-i : goal.invariant-loop-i
invariant-loop-i l = (length l.out ≡ length l.initial.out) × (l.i ≤ min l.count (length l.initial.out - (l.at.0 + l.by))) × (l.out ≡ moved_from l.initial.out l.at.0 l.count l.by l.i)

abbrev pub decreases-loop-i : goal.decreases-loop-i
decreases-loop-i l = l.i
