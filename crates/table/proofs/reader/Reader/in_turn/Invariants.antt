use Rattle.std.proofs.Common.{◌-◌}
use Rattle.format.specs.Formats.{times}
use Rattle.table.proofs.ReaderLaws.{OnWay}
use Rattle.table.proofs.reader.Reader.in_turn.Given as goal

abbrev pub invariant-loop : goal.invariant-loop
invariant-loop g l = OnWay l.initial.self l.self (times l.count (g.P.Part.format l.part)) (times (l.count - l.counter) (g.P.Part.format l.part))
