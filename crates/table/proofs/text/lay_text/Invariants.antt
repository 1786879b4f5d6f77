use Rattle.format.specs.Bits.{Order}
use Rattle.table.proofs.TextLaws.{Going}
use Rattle.table.proofs.text.lay_text.Given as goal

abbrev pub invariant-loop-count : goal.invariant-loop-count
invariant-loop-count l = (o : Order) → Going o l.body l.initial.table l.from l.fn.at.byte.0 l.fn.at.bit.0 l.table l.count
