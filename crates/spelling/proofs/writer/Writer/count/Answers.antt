-- `Writer::count` meets its contract.
use Rattle.std.proofs.Common.{sym, arith}
use Rattle.bits.specs.Places.{order_of}
use Rattle.spelling.specs.Writer.{state}
use Rattle.spelling.proofs.RunLaws.{the_one}
use Rattle.spelling.proofs.NumberLaws.{count_done}
use Rattle.spelling.proofs.writer.Writer.count.Goals as goal

pub offset_bounds-values-index : goal.offset_bounds-values-index
offset_bounds-values-index c = let a = c.args.self.now in let b = c.one.new.self in
    omega (arith, (count_done (order_of a.order) c.args.least a.values.now (state a) (state b) a.index b.index (sym c.in_ok-one.ensures.writes.told)).1)

pub bounds-values-index : goal.bounds-values-index
bounds-values-index c = let a = c.args.self.now in let b = c.one.new.self in
    (count_done (order_of a.order) c.args.least a.values.now (state a) (state b) a.index b.index (sym c.in_ok-one.ensures.writes.told)).1

pub returns-clause-counts : goal.returns-clause-counts
returns-clause-counts c = let a = c.args.self.now in let b = c.one.new.self in
    let d = count_done (order_of a.order) c.args.least a.values.now (state a) (state b) a.index b.index (sym c.in_ok-one.ensures.writes.told) in
    (sym (the_one a.values.now a.index b.index d.0 d.1), d.2, d.3)
