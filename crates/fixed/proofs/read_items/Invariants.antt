use lib.ListN.{drop}
use Rattle.table.proofs.ReaderLaws.{OnWay}
use Rattle.fixed.specs.Fixed.{in_order}
use Rattle.fixed.proofs.read_items.Given as goal

abbrev pub invariant-loop-kind : goal.invariant-loop-kind
invariant-loop-kind l = OnWay l.initial.reader l.reader (in_order l.rows) (in_order (drop l.kind-index l.rows))
