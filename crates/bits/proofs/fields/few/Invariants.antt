use Rattle.std.proofs.Common.{◌≡◌, ◌-◌, ◌*◌, ◌≤◌, length, drop}
use Rattle.format.specs.Bits.{low, ub}
use Rattle.format.specs.FileAndTags.{le64}
use Rattle.bits.proofs.fields.few.Given as goal

abbrev pub invariant-loop-i : goal.invariant-loop-i
invariant-loop-i l = (l.sum ≡ ub low l.bytes (8 * l.i) (8 * (length l.bytes - l.i))) × (l.sum ≡ le64 (drop l.i l.bytes))
