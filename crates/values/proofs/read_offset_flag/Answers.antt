-- `values::read_offset_flag` meets its contract: one bit, and another if it is set.
use Rattle.std.proofs.Common.{ap, lit≤}
use Rattle.bits.specs.Places.{order_of}
use Rattle.reasons.proofs.NumberLaws.{passed_on}
use Rattle.table.specs.Fields.{reason_told}
use Rattle.table.proofs.ReaderLaws.{reads_first, reads_ok, reads_err}
use Rattle.values.proofs.ValueLaws.{ub_one, ub_behind}
use Rattle.values.proofs.read_offset_flag.Goals as goal

pub returns-in_err-fields : goal.returns-in_err-fields
returns-in_err-fields c = let a = c.args.reader.now in let k = ub_behind (order_of a.order) a.body.now a.place.0 1 (lit≤ tt) c.in_ok-exist.ensures in
    reads_first _ c.requires k.0 c.show.ensures (ub_one (order_of a.order) a.body.now a.place.0 1 c.in_ok-exist.ensures) (reads_err (ap reason_told c.in_err-fields.was) (passed_on c.from_residual-in_err-fields.result c.from_residual-in_err-fields.ensures.1) c.fields.ensures.reads)

pub returns : goal.returns
returns c = let a = c.args.reader.now in let k = ub_behind (order_of a.order) a.body.now a.place.0 1 (lit≤ tt) c.in_ok-exist.ensures in
    reads_first _ c.requires k.0 c.show.ensures (ub_one (order_of a.order) a.body.now a.place.0 1 c.in_ok-exist.ensures) (reads_ok (ap reason_told c.in_ok-fields.was) c.fields.ensures.reads)
