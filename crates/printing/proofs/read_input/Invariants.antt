use Rattle.std.proofs.Common.{length, ◌-◌, ◌≤◌}
use Rattle.printing.proofs.read_input.Given as goal

abbrev pub invariant-loop-count : goal.invariant-loop-count
invariant-loop-count g l = l.count ≤ length l.file

abbrev pub decreases-loop-count : goal.decreases-loop-count
decreases-loop-count g l = length l.file - l.count
