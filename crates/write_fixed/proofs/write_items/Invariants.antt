use Rattle.std.proofs.Common.{drop}
use Rattle.fixed.specs.Fixed.{in_order}
use Rattle.spelling.proofs.WriteLaws.{Going}
use Rattle.write_fixed.proofs.write_items.Given as goal

abbrev pub invariant-loop-kind : goal.invariant-loop-kind
invariant-loop-kind l = Going l.initial.writer l.writer (in_order l.rows) (in_order (drop l.kind-index l.rows))
