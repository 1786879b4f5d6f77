-- `table::Reader::align` meets its contract: nothing is shown, and the place is the next whole byte's.
use Rattle.std.proofs.Common.{refl, sym, ◌∙◌, Ok}
use Rattle.bits.proofs.FieldLaws.{align_told}
use Rattle.bits.specs.Places.{order_of}
use Rattle.reasons.proofs.NumberLaws.{passed_on}
use Rattle.table.proofs.ReaderLaws.{reads_none, reads_never, align_is}
use Rattle.table.proofs.reader.Reader.align.Goals as goal

pub returns-in_err-start : goal.returns-in_err-start
returns-in_err-start c = let a = c.args.self.now in
    reads_never (passed_on c.from_residual.result c.from_residual.ensures.1) (align_is (order_of a.order) a.body.now a.place.0 ∙ sym c.in_err-start.ensures)

pub returns : goal.returns
returns c = let a = c.args.self.now in
    let h = align_told (order_of a.order) a.body.now a.place.0 (Ok c.in_ok-start.start) c.in_ok-start.ensures in
    reads_none c.requires h.1 (record { order = refl; body = refl; lent = refl }) refl refl (align_is (order_of a.order) a.body.now a.place.0 ∙ sym c.in_ok-start.ensures)
