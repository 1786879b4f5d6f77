-- `table::Reader::string` meets its contract: the skip to a whole byte, and the text.
use Rattle.std.proofs.Common.{◌≡◌, ℕ, ◌+◌, ◌-◌, ◌*◌, length, refl, sym, ap, ◌∙◌, arith, Ok}
use Rattle.format.specs.Reading.{At, Fault}
use Rattle.table.specs.State.{shown_over}
use Rattle.table.proofs.EngineLaws.{state}
use Rattle.bits.specs.Places.{order_of}
use Rattle.bits.proofs.FieldLaws.{align_told}
use Rattle.reasons.proofs.NumberLaws.{passed_on}
use Rattle.table.proofs.ReaderLaws.{reads_never, string_is, string_never}
use Rattle.table.proofs.reader.Reader.string.Goals as goal

pub returns-in_err-start : goal.returns-in_err-start
returns-in_err-start c = let a = c.args.self.now in
    reads_never (passed_on c.from_residual.result c.from_residual.ensures.1) (string_never (order_of a.order) a.body.now a.place.0 (sym c.in_err-start.ensures))

pub lay_text-requires : goal.lay_text-requires
lay_text-requires c = let a = c.args.self.now in
    let h = align_told (order_of a.order) a.body.now a.place.0 (Ok c.in_ok-start.start) c.in_ok-start.ensures in
    ((omega (arith, h.1, h.2, c.in_ok-start.start.same, a.inside.0), a.inside.1), omega (arith, c.requires, a.inside))

pub returns-in-Some : goal.returns-in-Some
returns-in-Some c = let a = c.args.self.now in
    let h = align_told (order_of a.order) a.body.now a.place.0 (Ok c.in_ok-start.start) c.in_ok-start.ensures in
    let j : a.index + (1 + c.in-Some.count) ≡ a.index + 1 + c.in-Some.count = omega arith in
    record { same = record { order = refl; body = refl; lent = refl }; left = ap (λ (k : ℕ). state c.lay_text.new.table k (At (c.in_ok-start.start.bit.0 + 8 * c.in-Some.count + 8))) j ∙ c.in-Some.ensures.laid (order_of a.order) ∙ ap (shown_over a.table.now a.index) (sym (string_is (order_of a.order) a.body.now a.place.0 (sym c.in_ok-start.ensures))); room = omega (arith, c.requires, h.1) }

pub returns-in-None : goal.returns-in-None
returns-in-None c = let a = c.args.self.now in
    let j : a.index + (1 + (length a.body.now - c.in_ok-start.start.byte.0)) ≡ a.index + 1 + (length a.body.now - c.in_ok-start.start.byte.0) = omega arith in
    record { same = record { order = refl; body = refl; lent = refl }; left = ap (λ (k : ℕ). state c.lay_text.new.table k (Fault 13)) j ∙ c.in-None.ensures.laid (order_of a.order) ∙ ap (shown_over a.table.now a.index) (sym (string_is (order_of a.order) a.body.now a.place.0 (sym c.in_ok-start.ensures))); room = tt }
