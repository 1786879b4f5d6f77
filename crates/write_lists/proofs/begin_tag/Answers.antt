-- `write_lists::begin_tag` meets its contract.
use Rattle.std.proofs.Common.{◌+◌, drop, sym, ap, ◌∙◌, arith}
use Rattle.std.specs.Prelude.{Result}
use Rattle.bits.specs.Places.{order_of}
use Rattle.bits.specs.declared.BytePlace.{BytePlace}
use Rattle.sink.specs.declared.Impossible.{Impossible}
use Rattle.write_heads.specs.Heads.{kept_bytes}
use Rattle.write_lists.specs.Stood.{stood_as}
use Rattle.write_lists.specs.Tags.{begun}
use Rattle.write_lists.proofs.TagLaws.{kept_bounds, over_late, standing, begun_none, begun_put, err_stood}
use Rattle.write_lists.proofs.begin_tag.Goals as goal

pub overflow_add-at : goal.overflow_add-at
overflow_add-at c = omega (arith, (kept_bounds c.args.claimed).1, c.kept.ensures, c.requires.0)

pub returns-then-at-gt16777216 : goal.returns-then-at-gt16777216
returns-then-at-gt16777216 c = over_late c.args.out.now (c.args.place.0 + kept_bytes c.args.claimed) c.args.index (begun (order_of c.args.order) c.args.claimed c.args.class (drop c.args.index c.args.table.now)) (omega (arith, c.if-at-gt16777216.true, c.kept.ensures, (kept_bounds c.args.claimed).0))

pub returns-in_err-behind : goal.returns-in_err-behind
returns-in_err-behind c = err_stood _ _ c.from_residual.ensures.0 (begun_none (order_of c.args.order) c.args.claimed c.args.class c.args.table.now c.args.index c.args.out.now (c.args.place.0 + kept_bytes c.args.claimed) c.in_err-behind.ensures)

pub returns-in_err-stop : goal.returns-in_err-stop
returns-in_err-stop c = let u = c.write_tag_values.new.out in err_stood u _ c.from_residual-in_err-stop.ensures.0 (ap (λ (R : Result BytePlace Impossible). stood_as u (standing c.in_ok-behind.behind R)) (sym c.in_err-stop.was) ∙ begun_put (order_of c.args.order) c.args.claimed c.args.class c.args.table.now c.args.index c.in_ok-behind.ensures c.args.code c.requires.2 c.args.out.now u c.write_tag_values.result (omega (arith, c.kept.ensures)) c.write_tag_values.ensures)

pub returns : goal.returns
returns c = let u = c.write_tag_values.new.out in ap (λ (R : Result BytePlace Impossible). stood_as u (standing c.in_ok-behind.behind R)) (sym c.in_ok-stop.was) ∙ begun_put (order_of c.args.order) c.args.claimed c.args.class c.args.table.now c.args.index c.in_ok-behind.ensures c.args.code c.requires.2 c.args.out.now u c.write_tag_values.result (omega (arith, c.kept.ensures)) c.write_tag_values.ensures
