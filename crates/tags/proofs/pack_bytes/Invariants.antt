use Rattle.table.proofs.StoringLaws.{Storing}
use Rattle.tags.proofs.TagLaws.{eights_of}
use Rattle.tags.proofs.pack_bytes.Given as goal

abbrev pub invariant-loop-i : goal.invariant-loop-i
invariant-loop-i l = Storing l.initial.table (eights_of l.body) l.first l.table l.i
