-- `values::read_dashes` meets its contract: the skip, the length, and the flag of the offset.
use Rattle.std.proofs.Common.{lit≤}
use Rattle.bits.specs.Places.{order_of}
use Rattle.table.proofs.ReaderLaws.{reads_then, reads_first}
use Rattle.values.proofs.ValueLaws.{dash_one, ub_behind}
use Rattle.values.proofs.read_dashes.Goals as goal

pub returns : goal.returns
returns c =
    let a = c.align.new.self in
    let k = ub_behind (order_of a.order) a.body.now a.place.0 3 (lit≤ tt) c.in_ok-length.ensures in
    reads_then _ c.align.ensures c.in_ok-align.was
    (reads_first _ c.in_ok-align.ensures.room k.0 c.show.ensures (dash_one (order_of a.order) a.body.now a.place.0 c.in_ok-length.ensures) c.read_offset_flag.ensures)
