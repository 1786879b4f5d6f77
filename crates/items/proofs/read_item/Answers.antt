-- `items::read_item` meets its contract: the skip, then the bytes, then the range.
use Rattle.std.proofs.Common.{sym, arith, Ok}
use Rattle.bits.specs.Places.{order_of}
use Rattle.bits.proofs.FieldLaws.{align_told}
use Rattle.reasons.proofs.NumberLaws.{passed_on, positive}
use Rattle.items.proofs.ItemLaws.{item_unclean, item_bad, item_in, item_out}
use Rattle.items.proofs.read_item.Goals as goal

pub returns-in_err-start : goal.returns-in_err-start
returns-in_err-start c = let a = c.args in
    rw (passed_on c.from_residual.result c.from_residual.ensures.1) (sym (item_unclean (order_of a.order) a.body.now a.at.0 a.kind (sym c.in_err-start.ensures)))

pub read_spelling-requires : goal.read_spelling-requires
read_spelling-requires c = let h = align_told (order_of c.args.order) c.args.body.now c.args.at.0 (Ok c.in_ok-start.start) c.in_ok-start.ensures in (omega (arith, c.in_ok-start.start.same, h.1, h.2, c.requires.0), c.requires.1)

pub returns-in_err-number : goal.returns-in_err-number
returns-in_err-number c = let a = c.args in
    rw (passed_on c.from_residual-in_err-number.result c.from_residual-in_err-number.ensures.1) (item_bad (order_of a.order) a.body.now a.at.0 a.kind (sym c.in_ok-start.ensures) (c.in_err-number.ensures (order_of a.order)))

pub returns-in_err-in_range : goal.returns-in_err-in_range
returns-in_err-in_range c = let a = c.args in
    rw (passed_on c.from_residual-in_err-in_range.result c.from_residual-in_err-in_range.ensures.1) (item_out (order_of a.order) a.body.now a.at.0 a.kind (sym c.in_ok-start.ensures) (c.in_ok-number.ensures (order_of a.order)) c.in_err-in_range.ensures (positive c.in_err-in_range.field-0.0))

pub returns : goal.returns
returns c = let a = c.args in item_in (order_of a.order) a.body.now a.at.0 a.kind (sym c.in_ok-start.ensures) (c.in_ok-number.ensures (order_of a.order)) (sym c.in_ok-in_range.ensures)
