use Rattle.std.proofs.Common.{◌-◌}
use Rattle.format.specs.Formats.{times}
use Rattle.spelling.proofs.WriteLaws.{Going}
use Rattle.spelling.proofs.in_turn.write_all_anywhere.Given as goal

abbrev pub invariant-loop : goal.invariant-loop
invariant-loop g l = Going l.initial.writer l.writer (times l.count (g.P.PartAnywhere.format l.part)) (times (l.count - l.counter) (g.P.PartAnywhere.format l.part))
