-- `table::Reader::times` meets its contract: what is left of the n Times is read from here, on a whole byte.
use Rattle.std.proofs.Common.{◌≡◌, ℕ, ◌-◌, refl, sym, ap, ◌∙◌, arith, Ok}
use Rattle.bits.proofs.FieldLaws.{align_told}
use Rattle.format.specs.Formats.{times}
use Rattle.bits.specs.Places.{order_of}
use Rattle.bits.specs.declared.BitPlace.{BitPlace}
use Rattle.format.specs.Items.{run}
use Rattle.items.specs.Kinds.{format_of}
use Rattle.items.specs.declared.Item.TheVariants.{Time}
use Rattle.reasons.proofs.NumberLaws.{passed_on}
use Rattle.table.specs.State.{shown_over}
use Rattle.table.proofs.ReaderLaws.{reads_never, on_start, on_one, on_never, on_done, times_zero, times_turn, times_over, items_whole, items_never, fair_kind, one_behind}
use Rattle.table.proofs.reader.Reader.times.Goals as goal

pub returns-then-count-eq0 : goal.returns-then-count-eq0
returns-then-count-eq0 c = on_done (on_start c.requires (times_zero c.args.count (format_of Time) c.if-count-eq0.true)) refl

pub returns-in_err-place : goal.returns-in_err-place
returns-in_err-place c = let a = c.args.self.now in
    reads_never (passed_on c.from_residual.result c.from_residual.ensures.1) (items_never (order_of a.order) a.body.now a.place.0 Time c.args.count (omega (arith, c.if-count-eq0.false)) (sym c.in_err-place.ensures))

pub loop-init : goal.loop-init
loop-init c = let a = c.args.self.now in let h = align_told (order_of a.order) a.body.now a.place.0 (Ok c.in_ok-place.place) c.in_ok-place.ensures in let z : c.args.count ≡ c.args.count - 0 = omega arith in (
  record {
    same = record { order = refl; body = refl; lent = refl };
    room = omega (arith, c.requires, h.1);
    left = ap (shown_over a.table.now a.index) (items_whole (order_of a.order) a.body.now a.place.0 Time c.args.count (omega (arith, c.if-count-eq0.false)) c.in_ok-place.place.byte.0 (sym c.in_ok-place.ensures) c.in_ok-place.place.same ∙ ap (λ (n : ℕ). run (order_of a.order) a.body.now (times n (format_of Time)) c.in_ok-place.place.bit.0) z);
  },
  refl,
)

pub returns-in_err-value : goal.returns-in_err-value
returns-in_err-value c = let b = c.loop.self in
    let e = ap (λ (p : _). run (order_of b.order) b.body.now (format_of Time) p) c.loop.invariant.1 ∙ sym (c.in_err-value.ensures (order_of b.order)) in
    on_never c.loop.invariant.0 (times_turn c.args.count c.loop.counter (format_of Time) c.loop-test.true) e (passed_on c.from_residual-in_err-value.result c.from_residual-in_err-value.ensures.1)

pub show-requires : goal.show-requires
show-requires c = let b = c.loop.self in
    let e = ap (λ (p : _). run (order_of b.order) b.body.now (format_of Time) p) c.loop.invariant.1 ∙ sym (c.in_ok-value.ensures (order_of b.order)) in
    let h = one_behind (order_of b.order) b.body.now (format_of Time) (fair_kind (order_of b.order) Time) b.inside e in (c.loop.invariant.0.room, h.0, h.1)

pub loop-preserved : goal.loop-preserved
loop-preserved c = let b = c.loop.self in
    let e = ap (λ (p : _). run (order_of b.order) b.body.now (format_of Time) p) c.loop.invariant.1 ∙ sym (c.in_ok-value.ensures (order_of b.order)) in
    let h = one_behind (order_of b.order) b.body.now (format_of Time) (fair_kind (order_of b.order) Time) b.inside e in
    (on_one c.loop.invariant.0 (times_turn c.args.count c.loop.counter (format_of Time) c.loop-test.true) h.0 c.show.ensures e, ap (λ (p : BitPlace). p.0) c.show.ensures.place)

pub returns : goal.returns
returns c = on_done c.loop.invariant.0 (times_over c.args.count c.loop.counter (format_of Time) c.loop-test.false)
