use Rattle.bits.specs.Places.{order_of, with_sign}
use Rattle.table.proofs.FieldLaws.{Laying}
use Rattle.table.proofs.reader.Reader.all_fields.Given as goal

abbrev pub invariant-loop-i : goal.invariant-loop-i
invariant-loop-i l = let a = l.fn.self in Laying (order_of a.order) (with_sign l.size l.negatives) l.width a.body.now a.table.now l.from l.whole l.first l.table l.i
