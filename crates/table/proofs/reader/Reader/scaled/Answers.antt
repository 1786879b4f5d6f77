-- `table::Reader::scaled` meets its contract: a width, and the run that it tells.
use Rattle.std.proofs.Common.{sym, ap, ◌∙◌}
use Rattle.format.specs.Formats.{times, the}
use Rattle.bits.specs.Places.{order_of}
use Rattle.reasons.proofs.NumberLaws.{passed_on}
use Rattle.table.specs.Fields.{field_of, reason_told}
use Rattle.table.proofs.ReaderLaws.{reads_first, reads_never_then, reads_ok, reads_err, shown_room}
use Rattle.table.proofs.FieldLaws.{width_one, width_stop, width_fits, judged_unsigned}
use Rattle.table.proofs.reader.Reader.scaled.Goals as goal

pub returns-in_err-width : goal.returns-in_err-width
returns-in_err-width c = let a = c.args.self.now in
    reads_never_then (λ w. times c.args.count (field_of c.args.kind (the w))) (passed_on c.from_residual.result c.from_residual.ensures.1) (width_stop (order_of a.order) a.body.now a.place.0 c.in_err-width.ensures)

pub show-requires : goal.show-requires
show-requires c = let a = c.args.self.now in let f = width_fits (order_of a.order) a.body.now a.place.0 c.in_ok-width.ensures in (c.requires.0, f.0, f.1)

pub all_fields-requires : goal.all_fields-requires
all_fields-requires c = let a = c.args.self.now in let f = width_fits (order_of a.order) a.body.now a.place.0 c.in_ok-width.ensures in
    (shown_room c.requires.0 f.0 c.show.ensures, f.2, f.3, c.requires.1, sym c.shows_all.ensures ∙ c.if-shows_all.true)

pub returns-then-shows_all : goal.returns-then-shows_all
returns-then-shows_all c = let a = c.args.self.now in let f = width_fits (order_of a.order) a.body.now a.place.0 c.in_ok-width.ensures in
    reads_first (λ w. times c.args.count (field_of c.args.kind (the w))) c.requires.0 f.0 c.show.ensures (width_one (order_of a.order) a.body.now a.place.0 c.in_ok-width.ensures) c.all_fields.ensures

pub fields-requires : goal.fields-requires
fields-requires c = let a = c.args.self.now in let f = width_fits (order_of a.order) a.body.now a.place.0 c.in_ok-width.ensures in
    (shown_room c.requires.0 f.0 c.show.ensures, f.2, f.3, c.requires.1, judged_unsigned c.args.kind c.in_ok-width.width.value (sym c.shows_all.ensures ∙ c.if-shows_all.false))

pub returns-in_err-fields : goal.returns-in_err-fields
returns-in_err-fields c = let a = c.args.self.now in let f = width_fits (order_of a.order) a.body.now a.place.0 c.in_ok-width.ensures in
    reads_first (λ w. times c.args.count (field_of c.args.kind (the w))) c.requires.0 f.0 c.show.ensures (width_one (order_of a.order) a.body.now a.place.0 c.in_ok-width.ensures) (reads_err (ap reason_told c.in_err-fields.was) (passed_on c.from_residual-in_err-fields.result c.from_residual-in_err-fields.ensures.1) c.fields.ensures.reads)

pub returns : goal.returns
returns c = let a = c.args.self.now in let f = width_fits (order_of a.order) a.body.now a.place.0 c.in_ok-width.ensures in
    reads_first (λ w. times c.args.count (field_of c.args.kind (the w))) c.requires.0 f.0 c.show.ensures (width_one (order_of a.order) a.body.now a.place.0 c.in_ok-width.ensures) (reads_ok (ap reason_told c.in_ok-fields.was) c.fields.ensures.reads)
