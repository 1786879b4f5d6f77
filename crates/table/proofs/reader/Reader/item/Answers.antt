-- `table::Reader::item` meets its contract: the item that is read is shown.
use Rattle.std.proofs.Common.{sym, ap}
use Rattle.format.specs.Reading.{Reading}
use Rattle.items.specs.Kinds.{format_of}
use Rattle.bits.specs.Places.{order_of}
use Rattle.reasons.proofs.NumberLaws.{passed_on}
use Rattle.table.proofs.ReaderLaws.{reads_one, reads_never, fair_kind, one_behind}
use Rattle.table.proofs.reader.Reader.item.Goals as goal

pub returns-in_err-number-clause-reads : goal.returns-in_err-number-clause-reads
returns-in_err-number-clause-reads c = reads_never (passed_on c.from_residual.result c.from_residual.ensures.1) (sym c.in_err-number.ensures)

pub show-requires : goal.show-requires
show-requires c = let a = c.args.self.now in
    let h = one_behind (order_of a.order) a.body.now (format_of c.args.kind) (fair_kind (order_of a.order) c.args.kind) a.inside (sym c.in_ok-number.ensures) in (c.requires, h.0, h.1)

pub returns-clause-reads : goal.returns-clause-reads
returns-clause-reads c = let a = c.args.self.now in
    let h = one_behind (order_of a.order) a.body.now (format_of c.args.kind) (fair_kind (order_of a.order) c.args.kind) a.inside (sym c.in_ok-number.ensures) in
    reads_one c.requires h.0 c.show.ensures (sym c.in_ok-number.ensures)

pub returns-clause-shown : goal.returns-clause-shown
returns-clause-shown c = ap (λ (r : Reading). r.shown) (sym c.in_ok-number.ensures)
