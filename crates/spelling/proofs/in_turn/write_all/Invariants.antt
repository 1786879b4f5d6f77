use Rattle.std.proofs.Common.{◌-◌, ◌≤◌, length}
use Rattle.format.specs.Formats.{times}
use Rattle.spelling.proofs.WriteLaws.{Going}
use Rattle.spelling.proofs.in_turn.write_all.Given as goal

abbrev pub invariant-loop : goal.invariant-loop
invariant-loop g l = Going l.initial.writer l.writer (times l.count (g.P.Part.format l.part)) (times (l.count - l.counter) (g.P.Part.format l.part)) × (l.writer.index ≤ length l.writer.values.now)
