use Rattle.table.proofs.FloatLaws.{Floating}
use Rattle.table.proofs.reader.Reader.floats.Given as goal

abbrev pub invariant-loop-i : goal.invariant-loop-i
invariant-loop-i l = Floating l.fn.self.body.now l.fn.self.table.now l.from l.count l.first l.table l.i
