use Rattle.std.proofs.Common.{◌≡◌, length, ◌-◌}
use Rattle.printing.proofs.print_parts.Given as goal

abbrev pub invariant-loop-cursor : goal.invariant-loop-cursor
invariant-loop-cursor g l = length l.out ≡ length l.initial.out

abbrev pub decreases-loop-cursor : goal.decreases-loop-cursor
decreases-loop-cursor g l = length l.tables.table.now - l.cursor.number
