-- `write_lists::write_list` meets its contract.
-- ---- what is known at the places of a turn
-- ---- what the code leaves to be shown
use Prim.Native.Nat.{◌+◌}
use mathlib.Core.Path.{refl, sym, ap, ◌∙◌}
use native.Mathlib.Omega.{arith}
use lib.ListN.{length, get_or, drop}
use Rattle.bits.specs.Places.{order_of}
use Rattle.tags.specs.Lent.{classes_in}
use Rattle.format.specs.Possible.{this}
use Rattle.write_heads.specs.Heads.{kept_bytes}
use Rattle.write_lists.specs.Stood.{stood, stood_as}
use Rattle.write_lists.specs.Tags.{begun}
use Rattle.write_lists.proofs.StoodLaws.{stood_index}
use Rattle.write_lists.proofs.TagLaws.{err_stood, shut_over, shut_fell, shut_after, parts_begun, list_by_lem}
use Rattle.write_lists.proofs.ListLaws.{inner, rest_none, turn_high, values_alone, values_list, values_fell, opaque_put, opaque_deep, opaque_more, tag_index, turn_last, turn_more, turn_fell, turn_too_deep, not_too_deep, list_deep}
use Rattle.write_lists.proofs.+write_list.Goals as goal
use Rattle.write_lists.proofs.+write_list.Goals.{then-holds_list+in_ok-inside, else-holds_list}

pub loop-index-init : goal.loop-index-init
loop-index-init t c = (refl, c.requires.1, c.requires.2, refl)

pub bounds-table-index : goal.bounds-table-index
bounds-table-index t c = omega (arith, c.loop-index-test.true)

pub shape_of-out-then-number-gt1023 : goal.shape_of-out-then-number-gt1023
shape_of-out-then-number-gt1023 t c = c.loop-index.invariant.0

pub returns-then-number-gt1023 : goal.returns-then-number-gt1023
returns-then-number-gt1023 t c = turn_high (order_of c.args.order) (classes_in c.args.classes.now) c.args.table.now c.loop-index.out c.args.depths c.loop-index.place.0 c.loop-index.index c.loop-index-test.true (omega (arith, c.if-number-gt1023.true)) ∙ sym c.loop-index.invariant.3

pub overflow_cast-code : goal.overflow_cast-code
overflow_cast-code t c = omega (arith, c.if-number-gt1023.false)

pub class_of-class-requires : goal.class_of-class-requires
class_of-class-requires t c = omega (arith, c.if-number-gt1023.false, c.requires.0.classed.size)

pub claims_long-claimed-requires : goal.claims_long-claimed-requires
claims_long-claimed-requires t c = c.loop-index-test.true

pub write_opaque_tag-requires : goal.write_opaque_tag-requires
write_opaque_tag-requires t c = (omega (arith, c.loop-index.invariant.1), c.loop-index-test.true, refl, omega (arith, c.if-number-gt1023.false))

pub shape_of-out-in_err-whole : goal.shape_of-out-in_err-whole
shape_of-out-in_err-whole t c = c.write_opaque_tag.auto.out ∙ c.loop-index.invariant.0

pub returns-in_err-whole : goal.returns-in_err-whole
returns-in_err-whole t c = err_stood c.write_opaque_tag.new.out _ c.from_residual.ensures.0 (turn_fell (order_of c.args.order) (record { there = c.loop-index-test.true; is = refl; low = omega (arith, c.if-number-gt1023.false); tabled = c.requires.0; classed = c.class_of-class.ensures; claimed = c.claims_long-claimed.ensures }) c.loop-index.out c.args.depths c.loop-index.place.0 (opaque_deep (order_of c.args.order) (record { there = c.loop-index-test.true; is = refl; low = omega (arith, c.if-number-gt1023.false); tabled = c.requires.0; classed = c.class_of-class.ensures; claimed = c.claims_long-claimed.ensures }) c.loop-index.out c.args.depths c.loop-index.place.0 (sym c.is_opaque.ensures ∙ c.if-is_opaque.true)) (ap (stood_as c.write_opaque_tag.new.out) (sym c.in_err-whole.was) ∙ (opaque_put (order_of c.args.order) (record { there = c.loop-index-test.true; is = refl; low = omega (arith, c.if-number-gt1023.false); tabled = c.requires.0; classed = c.class_of-class.ensures; claimed = c.claims_long-claimed.ensures }) c.loop-index.out c.args.depths c.loop-index.place.0 (sym c.is_opaque.ensures ∙ c.if-is_opaque.true) c.write_opaque_tag.ensures)) ∙ sym c.loop-index.invariant.3)

pub loop-index-smaller-then-is_opaque : goal.loop-index-smaller-then-is_opaque
loop-index-smaller-then-is_opaque t c = let x = tag_index (order_of c.args.order) (record { there = c.loop-index-test.true; is = refl; low = omega (arith, c.if-number-gt1023.false); tabled = c.requires.0; classed = c.class_of-class.ensures; claimed = c.claims_long-claimed.ensures }) c.loop-index.out c.args.depths c.loop-index.place.0 c.write_opaque_tag.new.out _ _ (ap (stood_as c.write_opaque_tag.new.out) (sym c.in_ok-whole.was) ∙ (opaque_put (order_of c.args.order) (record { there = c.loop-index-test.true; is = refl; low = omega (arith, c.if-number-gt1023.false); tabled = c.requires.0; classed = c.class_of-class.ensures; claimed = c.claims_long-claimed.ensures }) c.loop-index.out c.args.depths c.loop-index.place.0 (sym c.is_opaque.ensures ∙ c.if-is_opaque.true) c.write_opaque_tag.ensures)) in omega (arith, x.1, x.2)

pub loop-index-preserved-then-is_opaque : goal.loop-index-preserved-then-is_opaque
loop-index-preserved-then-is_opaque t c = let x = tag_index (order_of c.args.order) (record { there = c.loop-index-test.true; is = refl; low = omega (arith, c.if-number-gt1023.false); tabled = c.requires.0; classed = c.class_of-class.ensures; claimed = c.claims_long-claimed.ensures }) c.loop-index.out c.args.depths c.loop-index.place.0 c.write_opaque_tag.new.out _ _ (ap (stood_as c.write_opaque_tag.new.out) (sym c.in_ok-whole.was) ∙ (opaque_put (order_of c.args.order) (record { there = c.loop-index-test.true; is = refl; low = omega (arith, c.if-number-gt1023.false); tabled = c.requires.0; classed = c.class_of-class.ensures; claimed = c.claims_long-claimed.ensures }) c.loop-index.out c.args.depths c.loop-index.place.0 (sym c.is_opaque.ensures ∙ c.if-is_opaque.true) c.write_opaque_tag.ensures)) in
    (c.write_opaque_tag.auto.out ∙ c.loop-index.invariant.0, x.2, x.0, c.loop-index.invariant.3 ∙ turn_more (order_of c.args.order) (record { there = c.loop-index-test.true; is = refl; low = omega (arith, c.if-number-gt1023.false); tabled = c.requires.0; classed = c.class_of-class.ensures; claimed = c.claims_long-claimed.ensures }) c.loop-index.out c.args.depths c.loop-index.place.0 (opaque_deep (order_of c.args.order) (record { there = c.loop-index-test.true; is = refl; low = omega (arith, c.if-number-gt1023.false); tabled = c.requires.0; classed = c.class_of-class.ensures; claimed = c.claims_long-claimed.ensures }) c.loop-index.out c.args.depths c.loop-index.place.0 (sym c.is_opaque.ensures ∙ c.if-is_opaque.true)) (opaque_more (order_of c.args.order) (record { there = c.loop-index-test.true; is = refl; low = omega (arith, c.if-number-gt1023.false); tabled = c.requires.0; classed = c.class_of-class.ensures; claimed = c.claims_long-claimed.ensures }) c.loop-index.out c.args.depths c.loop-index.place.0 (sym c.is_opaque.ensures ∙ c.if-is_opaque.true)) (ap (stood_as c.write_opaque_tag.new.out) (sym c.in_ok-whole.was) ∙ (opaque_put (order_of c.args.order) (record { there = c.loop-index-test.true; is = refl; low = omega (arith, c.if-number-gt1023.false); tabled = c.requires.0; classed = c.class_of-class.ensures; claimed = c.claims_long-claimed.ensures }) c.loop-index.out c.args.depths c.loop-index.place.0 (sym c.is_opaque.ensures ∙ c.if-is_opaque.true) c.write_opaque_tag.ensures)))

pub shape_of-out-then-is_too_deep : goal.shape_of-out-then-is_too_deep
shape_of-out-then-is_too_deep t c = c.loop-index.invariant.0

pub returns-then-is_too_deep : goal.returns-then-is_too_deep
returns-then-is_too_deep t c = turn_too_deep (order_of c.args.order) (record { there = c.loop-index-test.true; is = refl; low = omega (arith, c.if-number-gt1023.false); tabled = c.requires.0; classed = c.class_of-class.ensures; claimed = c.claims_long-claimed.ensures }) c.loop-index.out c.args.depths c.loop-index.place.0 c.is_too_deep.ensures c.if-is_too_deep.true ∙ sym c.loop-index.invariant.3

pub begin_tag-requires : goal.begin_tag-requires
begin_tag-requires t c = (omega (arith, c.loop-index.invariant.1), c.loop-index-test.true, refl, sym c.is_opaque.ensures ∙ c.if-is_opaque.false)

pub shape_of-out-in_err-begun : goal.shape_of-out-in_err-begun
shape_of-out-in_err-begun t c = c.begin_tag.auto.out ∙ c.loop-index.invariant.0

pub returns-in_err-begun : goal.returns-in_err-begun
returns-in_err-begun t c = err_stood c.begin_tag.new.out _ c.from_residual-in_err-begun.ensures.0 (values_fell (order_of c.args.order) (record { there = c.loop-index-test.true; is = refl; low = omega (arith, c.if-number-gt1023.false); tabled = c.requires.0; classed = c.class_of-class.ensures; claimed = c.claims_long-claimed.ensures }) c.loop-index.out c.args.depths c.loop-index.place.0 (not_too_deep (order_of c.args.order) (record { there = c.loop-index-test.true; is = refl; low = omega (arith, c.if-number-gt1023.false); tabled = c.requires.0; classed = c.class_of-class.ensures; claimed = c.claims_long-claimed.ensures }) c.loop-index.out c.args.depths c.loop-index.place.0 c.is_too_deep.ensures c.if-is_too_deep.false) (ap (stood_as c.begin_tag.new.out) (sym c.in_err-begun.was) ∙ c.begin_tag.ensures) ∙ sym c.loop-index.invariant.3)

pub overflow_sub-begun : goal.overflow_sub-begun
overflow_sub-begun t c = let h = (list_by_lem (order_of c.args.order) c.claims_long-claimed.result c.class_of-class.result c.args.table.now c.loop-index.index (get_or c.args.table.now c.loop-index.index 0) c.loop-index.out (c.loop-index.place.0 + kept_bytes c.claims_long-claimed.result) c.begin_tag.new.out c.in_ok-begun.begun.place.0 c.in_ok-begun.begun.index c.loop-index-test.true refl (ap (stood_as c.begin_tag.new.out) (sym c.in_ok-begun.was) ∙ c.begin_tag.ensures)) in omega (arith, h.0)

pub offset_bounds-table-begun : goal.offset_bounds-table-begun
offset_bounds-table-begun t c = let h = (list_by_lem (order_of c.args.order) c.claims_long-claimed.result c.class_of-class.result c.args.table.now c.loop-index.index (get_or c.args.table.now c.loop-index.index 0) c.loop-index.out (c.loop-index.place.0 + kept_bytes c.claims_long-claimed.result) c.begin_tag.new.out c.in_ok-begun.begun.place.0 c.in_ok-begun.begun.index c.loop-index-test.true refl (ap (stood_as c.begin_tag.new.out) (sym c.in_ok-begun.was) ∙ c.begin_tag.ensures)) in omega (arith, h.0, h.1)

pub bounds-table-begun : goal.bounds-table-begun
bounds-table-begun t c = let h = (list_by_lem (order_of c.args.order) c.claims_long-claimed.result c.class_of-class.result c.args.table.now c.loop-index.index (get_or c.args.table.now c.loop-index.index 0) c.loop-index.out (c.loop-index.place.0 + kept_bytes c.claims_long-claimed.result) c.begin_tag.new.out c.in_ok-begun.begun.place.0 c.in_ok-begun.begun.index c.loop-index-test.true refl (ap (stood_as c.begin_tag.new.out) (sym c.in_ok-begun.was) ∙ c.begin_tag.ensures)) in omega (arith, h.0, h.1)

pub overflow_sub-depths : goal.overflow_sub-depths
overflow_sub-depths t c = let h = list_deep c.class_of-class.result (drop c.loop-index.index c.args.table.now) c.args.depths (not_too_deep (order_of c.args.order) (record { there = c.loop-index-test.true; is = refl; low = omega (arith, c.if-number-gt1023.false); tabled = c.requires.0; classed = c.class_of-class.ensures; claimed = c.claims_long-claimed.ensures }) c.loop-index.out c.args.depths c.loop-index.place.0 c.is_too_deep.ensures c.if-is_too_deep.false) (sym (list_by_lem (order_of c.args.order) c.claims_long-claimed.result c.class_of-class.result c.args.table.now c.loop-index.index (get_or c.args.table.now c.loop-index.index 0) c.loop-index.out (c.loop-index.place.0 + kept_bytes c.claims_long-claimed.result) c.begin_tag.new.out c.in_ok-begun.begun.place.0 c.in_ok-begun.begun.index c.loop-index-test.true refl (ap (stood_as c.begin_tag.new.out) (sym c.in_ok-begun.was) ∙ c.begin_tag.ensures)).2 ∙ sym c.holds_list.ensures ∙ c.if-holds_list.true) in omega (arith, h)

pub write_list-requires : goal.write_list-requires
write_list-requires t c = let h = stood_index c.args.table.now c.loop-index.out (c.loop-index.place.0 + kept_bytes c.claims_long-claimed.result) c.loop-index.index c.begin_tag.new.out _ _ (begun (order_of c.args.order) c.claims_long-claimed.result c.class_of-class.result (drop c.loop-index.index c.args.table.now)) (omega (arith, c.loop-index-test.true)) (parts_begun (order_of c.args.order) c.claims_long-claimed.result c.class_of-class.result (drop c.loop-index.index c.args.table.now)) (ap (stood_as c.begin_tag.new.out) (sym c.in_ok-begun.was) ∙ c.begin_tag.ensures) in
    let d = list_deep c.class_of-class.result (drop c.loop-index.index c.args.table.now) c.args.depths (not_too_deep (order_of c.args.order) (record { there = c.loop-index-test.true; is = refl; low = omega (arith, c.if-number-gt1023.false); tabled = c.requires.0; classed = c.class_of-class.ensures; claimed = c.claims_long-claimed.ensures }) c.loop-index.out c.args.depths c.loop-index.place.0 c.is_too_deep.ensures c.if-is_too_deep.false) (sym (list_by_lem (order_of c.args.order) c.claims_long-claimed.result c.class_of-class.result c.args.table.now c.loop-index.index (get_or c.args.table.now c.loop-index.index 0) c.loop-index.out (c.loop-index.place.0 + kept_bytes c.claims_long-claimed.result) c.begin_tag.new.out c.in_ok-begun.begun.place.0 c.in_ok-begun.begun.index c.loop-index-test.true refl (ap (stood_as c.begin_tag.new.out) (sym c.in_ok-begun.was) ∙ c.begin_tag.ensures)).2 ∙ sym c.holds_list.ensures ∙ c.if-holds_list.true) in (omega (arith, c.decreases, d), (c.requires.0, h.3, h.1))

pub shape_of-out-in_err-inside : goal.shape_of-out-in_err-inside
shape_of-out-in_err-inside t c = c.write_list.auto.out ∙ c.begin_tag.auto.out ∙ c.loop-index.invariant.0

pub returns-in_err-inside : goal.returns-in_err-inside
returns-in_err-inside t c = err_stood c.write_list.new.out _ c.from_residual-in_err-inside.ensures.0 (turn_fell (order_of c.args.order) (record { there = c.loop-index-test.true; is = refl; low = omega (arith, c.if-number-gt1023.false); tabled = c.requires.0; classed = c.class_of-class.ensures; claimed = c.claims_long-claimed.ensures }) c.loop-index.out c.args.depths c.loop-index.place.0 (not_too_deep (order_of c.args.order) (record { there = c.loop-index-test.true; is = refl; low = omega (arith, c.if-number-gt1023.false); tabled = c.requires.0; classed = c.class_of-class.ensures; claimed = c.claims_long-claimed.ensures }) c.loop-index.out c.args.depths c.loop-index.place.0 c.is_too_deep.ensures c.if-is_too_deep.false) (shut_fell c.loop-index.out c.loop-index.place.0 c.loop-index.index c.claims_long-claimed.result (get_or c.args.table.now c.loop-index.index 0) (inner (order_of c.args.order) (classes_in c.args.classes.now) c.claims_long-claimed.result c.class_of-class.result c.args.depths (drop c.loop-index.index c.args.table.now)) (values_list (order_of c.args.order) (record { there = c.loop-index-test.true; is = refl; low = omega (arith, c.if-number-gt1023.false); tabled = c.requires.0; classed = c.class_of-class.ensures; claimed = c.claims_long-claimed.ensures }) c.loop-index.out c.args.depths c.loop-index.place.0 (sym (list_by_lem (order_of c.args.order) c.claims_long-claimed.result c.class_of-class.result c.args.table.now c.loop-index.index (get_or c.args.table.now c.loop-index.index 0) c.loop-index.out (c.loop-index.place.0 + kept_bytes c.claims_long-claimed.result) c.begin_tag.new.out c.in_ok-begun.begun.place.0 c.in_ok-begun.begun.index c.loop-index-test.true refl (ap (stood_as c.begin_tag.new.out) (sym c.in_ok-begun.was) ∙ c.begin_tag.ensures)).2 ∙ sym c.holds_list.ensures ∙ c.if-holds_list.true) (ap (stood_as c.begin_tag.new.out) (sym c.in_ok-begun.was) ∙ c.begin_tag.ensures) (ap (stood_as c.write_list.new.out) (sym c.in_err-inside.was) ∙ c.write_list.ensures))) ∙ sym c.loop-index.invariant.3)

pub shut-requires : goal.shut-requires
shut-requires t c = let h = shut_after c.loop-index.out c.if-holds_list.out c.loop-index.place.0 c.loop-index.index c.claims_long-claimed.result c.if-holds_list.stop.0 c.if-holds_list.last (inner (order_of c.args.order) (classes_in c.args.classes.now) c.claims_long-claimed.result c.class_of-class.result c.args.depths (drop c.loop-index.index c.args.table.now)) (elim c.if-holds_list.branch [ then-holds_list+in_ok-inside w ↦ (λ i. this (stood (w.out-is i) (w.stop-is i).0 (w.last-is i))) ∙ values_list (order_of c.args.order) (record { there = c.loop-index-test.true; is = refl; low = omega (arith, c.if-number-gt1023.false); tabled = c.requires.0; classed = c.class_of-class.ensures; claimed = c.claims_long-claimed.ensures }) c.loop-index.out c.args.depths c.loop-index.place.0 (sym (list_by_lem (order_of c.args.order) c.claims_long-claimed.result c.class_of-class.result c.args.table.now c.loop-index.index (get_or c.args.table.now c.loop-index.index 0) c.loop-index.out (c.loop-index.place.0 + kept_bytes c.claims_long-claimed.result) c.begin_tag.new.out c.in_ok-begun.begun.place.0 c.in_ok-begun.begun.index c.loop-index-test.true refl (ap (stood_as c.begin_tag.new.out) (sym c.in_ok-begun.was) ∙ c.begin_tag.ensures)).2 ∙ sym c.holds_list.ensures ∙ w.if-holds_list.true) (ap (stood_as c.begin_tag.new.out) (sym c.in_ok-begun.was) ∙ c.begin_tag.ensures) (ap (stood_as w.write_list.new.out) (sym w.in_ok-inside.was) ∙ w.write_list.ensures) | else-holds_list w ↦ (λ i. this (stood (w.out-is i) (w.stop-is i).0 (w.last-is i))) ∙ values_alone (order_of c.args.order) (record { there = c.loop-index-test.true; is = refl; low = omega (arith, c.if-number-gt1023.false); tabled = c.requires.0; classed = c.class_of-class.ensures; claimed = c.claims_long-claimed.ensures }) c.loop-index.out c.args.depths c.loop-index.place.0 (sym (list_by_lem (order_of c.args.order) c.claims_long-claimed.result c.class_of-class.result c.args.table.now c.loop-index.index (get_or c.args.table.now c.loop-index.index 0) c.loop-index.out (c.loop-index.place.0 + kept_bytes c.claims_long-claimed.result) c.begin_tag.new.out c.in_ok-begun.begun.place.0 c.in_ok-begun.begun.index c.loop-index-test.true refl (ap (stood_as c.begin_tag.new.out) (sym c.in_ok-begun.was) ∙ c.begin_tag.ensures)).2 ∙ sym c.holds_list.ensures ∙ w.if-holds_list.false) (ap (stood_as c.begin_tag.new.out) (sym c.in_ok-begun.was) ∙ c.begin_tag.ensures) ]) in (h.0, h.1, omega (arith, c.if-number-gt1023.false))

pub shape_of-out-in_err-wrote : goal.shape_of-out-in_err-wrote
shape_of-out-in_err-wrote t c = c.shut.auto.out ∙ (elim c.if-holds_list.branch [ then-holds_list+in_ok-inside w ↦ ap length w.out-is ∙ w.write_list.auto.out ∙ c.begin_tag.auto.out | else-holds_list w ↦ ap length w.out-is ∙ c.begin_tag.auto.out ]) ∙ c.loop-index.invariant.0

pub returns-in_err-wrote : goal.returns-in_err-wrote
returns-in_err-wrote t c = err_stood c.shut.new.out _ c.from_residual-in_err-wrote.ensures.0 (turn_fell (order_of c.args.order) (record { there = c.loop-index-test.true; is = refl; low = omega (arith, c.if-number-gt1023.false); tabled = c.requires.0; classed = c.class_of-class.ensures; claimed = c.claims_long-claimed.ensures }) c.loop-index.out c.args.depths c.loop-index.place.0 (not_too_deep (order_of c.args.order) (record { there = c.loop-index-test.true; is = refl; low = omega (arith, c.if-number-gt1023.false); tabled = c.requires.0; classed = c.class_of-class.ensures; claimed = c.claims_long-claimed.ensures }) c.loop-index.out c.args.depths c.loop-index.place.0 c.is_too_deep.ensures c.if-is_too_deep.false) (ap (stood_as c.shut.new.out) (sym c.in_err-wrote.was) ∙ (c.shut.ensures ∙ shut_over c.loop-index.out c.if-holds_list.out c.loop-index.place.0 c.loop-index.index c.claims_long-claimed.result (get_or c.args.table.now c.loop-index.index 0) c.if-holds_list.stop.0 c.if-holds_list.last (inner (order_of c.args.order) (classes_in c.args.classes.now) c.claims_long-claimed.result c.class_of-class.result c.args.depths (drop c.loop-index.index c.args.table.now)) (elim c.if-holds_list.branch [ then-holds_list+in_ok-inside w ↦ (λ i. this (stood (w.out-is i) (w.stop-is i).0 (w.last-is i))) ∙ values_list (order_of c.args.order) (record { there = c.loop-index-test.true; is = refl; low = omega (arith, c.if-number-gt1023.false); tabled = c.requires.0; classed = c.class_of-class.ensures; claimed = c.claims_long-claimed.ensures }) c.loop-index.out c.args.depths c.loop-index.place.0 (sym (list_by_lem (order_of c.args.order) c.claims_long-claimed.result c.class_of-class.result c.args.table.now c.loop-index.index (get_or c.args.table.now c.loop-index.index 0) c.loop-index.out (c.loop-index.place.0 + kept_bytes c.claims_long-claimed.result) c.begin_tag.new.out c.in_ok-begun.begun.place.0 c.in_ok-begun.begun.index c.loop-index-test.true refl (ap (stood_as c.begin_tag.new.out) (sym c.in_ok-begun.was) ∙ c.begin_tag.ensures)).2 ∙ sym c.holds_list.ensures ∙ w.if-holds_list.true) (ap (stood_as c.begin_tag.new.out) (sym c.in_ok-begun.was) ∙ c.begin_tag.ensures) (ap (stood_as w.write_list.new.out) (sym w.in_ok-inside.was) ∙ w.write_list.ensures) | else-holds_list w ↦ (λ i. this (stood (w.out-is i) (w.stop-is i).0 (w.last-is i))) ∙ values_alone (order_of c.args.order) (record { there = c.loop-index-test.true; is = refl; low = omega (arith, c.if-number-gt1023.false); tabled = c.requires.0; classed = c.class_of-class.ensures; claimed = c.claims_long-claimed.ensures }) c.loop-index.out c.args.depths c.loop-index.place.0 (sym (list_by_lem (order_of c.args.order) c.claims_long-claimed.result c.class_of-class.result c.args.table.now c.loop-index.index (get_or c.args.table.now c.loop-index.index 0) c.loop-index.out (c.loop-index.place.0 + kept_bytes c.claims_long-claimed.result) c.begin_tag.new.out c.in_ok-begun.begun.place.0 c.in_ok-begun.begun.index c.loop-index-test.true refl (ap (stood_as c.begin_tag.new.out) (sym c.in_ok-begun.was) ∙ c.begin_tag.ensures)).2 ∙ sym c.holds_list.ensures ∙ w.if-holds_list.false) (ap (stood_as c.begin_tag.new.out) (sym c.in_ok-begun.was) ∙ c.begin_tag.ensures) ]))) ∙ sym c.loop-index.invariant.3)

pub shape_of-out-then-ends_list : goal.shape_of-out-then-ends_list
shape_of-out-then-ends_list t c = c.shut.auto.out ∙ (elim c.if-holds_list.branch [ then-holds_list+in_ok-inside w ↦ ap length w.out-is ∙ w.write_list.auto.out ∙ c.begin_tag.auto.out | else-holds_list w ↦ ap length w.out-is ∙ c.begin_tag.auto.out ]) ∙ c.loop-index.invariant.0

pub returns-then-ends_list : goal.returns-then-ends_list
returns-then-ends_list t c = turn_last (order_of c.args.order) (record { there = c.loop-index-test.true; is = refl; low = omega (arith, c.if-number-gt1023.false); tabled = c.requires.0; classed = c.class_of-class.ensures; claimed = c.claims_long-claimed.ensures }) c.loop-index.out c.args.depths c.loop-index.place.0 (not_too_deep (order_of c.args.order) (record { there = c.loop-index-test.true; is = refl; low = omega (arith, c.if-number-gt1023.false); tabled = c.requires.0; classed = c.class_of-class.ensures; claimed = c.claims_long-claimed.ensures }) c.loop-index.out c.args.depths c.loop-index.place.0 c.is_too_deep.ensures c.if-is_too_deep.false) (sym c.ends_list.ensures ∙ c.if-ends_list.true) (ap (stood_as c.shut.new.out) (sym c.in_ok-wrote.was) ∙ (c.shut.ensures ∙ shut_over c.loop-index.out c.if-holds_list.out c.loop-index.place.0 c.loop-index.index c.claims_long-claimed.result (get_or c.args.table.now c.loop-index.index 0) c.if-holds_list.stop.0 c.if-holds_list.last (inner (order_of c.args.order) (classes_in c.args.classes.now) c.claims_long-claimed.result c.class_of-class.result c.args.depths (drop c.loop-index.index c.args.table.now)) (elim c.if-holds_list.branch [ then-holds_list+in_ok-inside w ↦ (λ i. this (stood (w.out-is i) (w.stop-is i).0 (w.last-is i))) ∙ values_list (order_of c.args.order) (record { there = c.loop-index-test.true; is = refl; low = omega (arith, c.if-number-gt1023.false); tabled = c.requires.0; classed = c.class_of-class.ensures; claimed = c.claims_long-claimed.ensures }) c.loop-index.out c.args.depths c.loop-index.place.0 (sym (list_by_lem (order_of c.args.order) c.claims_long-claimed.result c.class_of-class.result c.args.table.now c.loop-index.index (get_or c.args.table.now c.loop-index.index 0) c.loop-index.out (c.loop-index.place.0 + kept_bytes c.claims_long-claimed.result) c.begin_tag.new.out c.in_ok-begun.begun.place.0 c.in_ok-begun.begun.index c.loop-index-test.true refl (ap (stood_as c.begin_tag.new.out) (sym c.in_ok-begun.was) ∙ c.begin_tag.ensures)).2 ∙ sym c.holds_list.ensures ∙ w.if-holds_list.true) (ap (stood_as c.begin_tag.new.out) (sym c.in_ok-begun.was) ∙ c.begin_tag.ensures) (ap (stood_as w.write_list.new.out) (sym w.in_ok-inside.was) ∙ w.write_list.ensures) | else-holds_list w ↦ (λ i. this (stood (w.out-is i) (w.stop-is i).0 (w.last-is i))) ∙ values_alone (order_of c.args.order) (record { there = c.loop-index-test.true; is = refl; low = omega (arith, c.if-number-gt1023.false); tabled = c.requires.0; classed = c.class_of-class.ensures; claimed = c.claims_long-claimed.ensures }) c.loop-index.out c.args.depths c.loop-index.place.0 (sym (list_by_lem (order_of c.args.order) c.claims_long-claimed.result c.class_of-class.result c.args.table.now c.loop-index.index (get_or c.args.table.now c.loop-index.index 0) c.loop-index.out (c.loop-index.place.0 + kept_bytes c.claims_long-claimed.result) c.begin_tag.new.out c.in_ok-begun.begun.place.0 c.in_ok-begun.begun.index c.loop-index-test.true refl (ap (stood_as c.begin_tag.new.out) (sym c.in_ok-begun.was) ∙ c.begin_tag.ensures)).2 ∙ sym c.holds_list.ensures ∙ w.if-holds_list.false) (ap (stood_as c.begin_tag.new.out) (sym c.in_ok-begun.was) ∙ c.begin_tag.ensures) ]))) ∙ sym c.loop-index.invariant.3

pub loop-index-smaller : goal.loop-index-smaller
loop-index-smaller t c = let x = tag_index (order_of c.args.order) (record { there = c.loop-index-test.true; is = refl; low = omega (arith, c.if-number-gt1023.false); tabled = c.requires.0; classed = c.class_of-class.ensures; claimed = c.claims_long-claimed.ensures }) c.loop-index.out c.args.depths c.loop-index.place.0 c.shut.new.out _ _ (ap (stood_as c.shut.new.out) (sym c.in_ok-wrote.was) ∙ (c.shut.ensures ∙ shut_over c.loop-index.out c.if-holds_list.out c.loop-index.place.0 c.loop-index.index c.claims_long-claimed.result (get_or c.args.table.now c.loop-index.index 0) c.if-holds_list.stop.0 c.if-holds_list.last (inner (order_of c.args.order) (classes_in c.args.classes.now) c.claims_long-claimed.result c.class_of-class.result c.args.depths (drop c.loop-index.index c.args.table.now)) (elim c.if-holds_list.branch [ then-holds_list+in_ok-inside w ↦ (λ i. this (stood (w.out-is i) (w.stop-is i).0 (w.last-is i))) ∙ values_list (order_of c.args.order) (record { there = c.loop-index-test.true; is = refl; low = omega (arith, c.if-number-gt1023.false); tabled = c.requires.0; classed = c.class_of-class.ensures; claimed = c.claims_long-claimed.ensures }) c.loop-index.out c.args.depths c.loop-index.place.0 (sym (list_by_lem (order_of c.args.order) c.claims_long-claimed.result c.class_of-class.result c.args.table.now c.loop-index.index (get_or c.args.table.now c.loop-index.index 0) c.loop-index.out (c.loop-index.place.0 + kept_bytes c.claims_long-claimed.result) c.begin_tag.new.out c.in_ok-begun.begun.place.0 c.in_ok-begun.begun.index c.loop-index-test.true refl (ap (stood_as c.begin_tag.new.out) (sym c.in_ok-begun.was) ∙ c.begin_tag.ensures)).2 ∙ sym c.holds_list.ensures ∙ w.if-holds_list.true) (ap (stood_as c.begin_tag.new.out) (sym c.in_ok-begun.was) ∙ c.begin_tag.ensures) (ap (stood_as w.write_list.new.out) (sym w.in_ok-inside.was) ∙ w.write_list.ensures) | else-holds_list w ↦ (λ i. this (stood (w.out-is i) (w.stop-is i).0 (w.last-is i))) ∙ values_alone (order_of c.args.order) (record { there = c.loop-index-test.true; is = refl; low = omega (arith, c.if-number-gt1023.false); tabled = c.requires.0; classed = c.class_of-class.ensures; claimed = c.claims_long-claimed.ensures }) c.loop-index.out c.args.depths c.loop-index.place.0 (sym (list_by_lem (order_of c.args.order) c.claims_long-claimed.result c.class_of-class.result c.args.table.now c.loop-index.index (get_or c.args.table.now c.loop-index.index 0) c.loop-index.out (c.loop-index.place.0 + kept_bytes c.claims_long-claimed.result) c.begin_tag.new.out c.in_ok-begun.begun.place.0 c.in_ok-begun.begun.index c.loop-index-test.true refl (ap (stood_as c.begin_tag.new.out) (sym c.in_ok-begun.was) ∙ c.begin_tag.ensures)).2 ∙ sym c.holds_list.ensures ∙ w.if-holds_list.false) (ap (stood_as c.begin_tag.new.out) (sym c.in_ok-begun.was) ∙ c.begin_tag.ensures) ]))) in omega (arith, x.1, x.2)

pub loop-index-preserved : goal.loop-index-preserved
loop-index-preserved t c = let x = tag_index (order_of c.args.order) (record { there = c.loop-index-test.true; is = refl; low = omega (arith, c.if-number-gt1023.false); tabled = c.requires.0; classed = c.class_of-class.ensures; claimed = c.claims_long-claimed.ensures }) c.loop-index.out c.args.depths c.loop-index.place.0 c.shut.new.out _ _ (ap (stood_as c.shut.new.out) (sym c.in_ok-wrote.was) ∙ (c.shut.ensures ∙ shut_over c.loop-index.out c.if-holds_list.out c.loop-index.place.0 c.loop-index.index c.claims_long-claimed.result (get_or c.args.table.now c.loop-index.index 0) c.if-holds_list.stop.0 c.if-holds_list.last (inner (order_of c.args.order) (classes_in c.args.classes.now) c.claims_long-claimed.result c.class_of-class.result c.args.depths (drop c.loop-index.index c.args.table.now)) (elim c.if-holds_list.branch [ then-holds_list+in_ok-inside w ↦ (λ i. this (stood (w.out-is i) (w.stop-is i).0 (w.last-is i))) ∙ values_list (order_of c.args.order) (record { there = c.loop-index-test.true; is = refl; low = omega (arith, c.if-number-gt1023.false); tabled = c.requires.0; classed = c.class_of-class.ensures; claimed = c.claims_long-claimed.ensures }) c.loop-index.out c.args.depths c.loop-index.place.0 (sym (list_by_lem (order_of c.args.order) c.claims_long-claimed.result c.class_of-class.result c.args.table.now c.loop-index.index (get_or c.args.table.now c.loop-index.index 0) c.loop-index.out (c.loop-index.place.0 + kept_bytes c.claims_long-claimed.result) c.begin_tag.new.out c.in_ok-begun.begun.place.0 c.in_ok-begun.begun.index c.loop-index-test.true refl (ap (stood_as c.begin_tag.new.out) (sym c.in_ok-begun.was) ∙ c.begin_tag.ensures)).2 ∙ sym c.holds_list.ensures ∙ w.if-holds_list.true) (ap (stood_as c.begin_tag.new.out) (sym c.in_ok-begun.was) ∙ c.begin_tag.ensures) (ap (stood_as w.write_list.new.out) (sym w.in_ok-inside.was) ∙ w.write_list.ensures) | else-holds_list w ↦ (λ i. this (stood (w.out-is i) (w.stop-is i).0 (w.last-is i))) ∙ values_alone (order_of c.args.order) (record { there = c.loop-index-test.true; is = refl; low = omega (arith, c.if-number-gt1023.false); tabled = c.requires.0; classed = c.class_of-class.ensures; claimed = c.claims_long-claimed.ensures }) c.loop-index.out c.args.depths c.loop-index.place.0 (sym (list_by_lem (order_of c.args.order) c.claims_long-claimed.result c.class_of-class.result c.args.table.now c.loop-index.index (get_or c.args.table.now c.loop-index.index 0) c.loop-index.out (c.loop-index.place.0 + kept_bytes c.claims_long-claimed.result) c.begin_tag.new.out c.in_ok-begun.begun.place.0 c.in_ok-begun.begun.index c.loop-index-test.true refl (ap (stood_as c.begin_tag.new.out) (sym c.in_ok-begun.was) ∙ c.begin_tag.ensures)).2 ∙ sym c.holds_list.ensures ∙ w.if-holds_list.false) (ap (stood_as c.begin_tag.new.out) (sym c.in_ok-begun.was) ∙ c.begin_tag.ensures) ]))) in (
  c.shut.auto.out ∙ (elim c.if-holds_list.branch [ then-holds_list+in_ok-inside w ↦ ap length w.out-is ∙ w.write_list.auto.out ∙ c.begin_tag.auto.out | else-holds_list w ↦ ap length w.out-is ∙ c.begin_tag.auto.out ]) ∙ c.loop-index.invariant.0,
  x.2,
  x.0,
  c.loop-index.invariant.3 ∙ turn_more (order_of c.args.order) (record { there = c.loop-index-test.true; is = refl; low = omega (arith, c.if-number-gt1023.false); tabled = c.requires.0; classed = c.class_of-class.ensures; claimed = c.claims_long-claimed.ensures }) c.loop-index.out c.args.depths c.loop-index.place.0 (not_too_deep (order_of c.args.order) (record { there = c.loop-index-test.true; is = refl; low = omega (arith, c.if-number-gt1023.false); tabled = c.requires.0; classed = c.class_of-class.ensures; claimed = c.claims_long-claimed.ensures }) c.loop-index.out c.args.depths c.loop-index.place.0 c.is_too_deep.ensures c.if-is_too_deep.false) (sym c.ends_list.ensures ∙ c.if-ends_list.false) (ap (stood_as c.shut.new.out) (sym c.in_ok-wrote.was) ∙ (c.shut.ensures ∙ shut_over c.loop-index.out c.if-holds_list.out c.loop-index.place.0 c.loop-index.index c.claims_long-claimed.result (get_or c.args.table.now c.loop-index.index 0) c.if-holds_list.stop.0 c.if-holds_list.last (inner (order_of c.args.order) (classes_in c.args.classes.now) c.claims_long-claimed.result c.class_of-class.result c.args.depths (drop c.loop-index.index c.args.table.now)) (elim c.if-holds_list.branch [ then-holds_list+in_ok-inside w ↦ (λ i. this (stood (w.out-is i) (w.stop-is i).0 (w.last-is i))) ∙ values_list (order_of c.args.order) (record { there = c.loop-index-test.true; is = refl; low = omega (arith, c.if-number-gt1023.false); tabled = c.requires.0; classed = c.class_of-class.ensures; claimed = c.claims_long-claimed.ensures }) c.loop-index.out c.args.depths c.loop-index.place.0 (sym (list_by_lem (order_of c.args.order) c.claims_long-claimed.result c.class_of-class.result c.args.table.now c.loop-index.index (get_or c.args.table.now c.loop-index.index 0) c.loop-index.out (c.loop-index.place.0 + kept_bytes c.claims_long-claimed.result) c.begin_tag.new.out c.in_ok-begun.begun.place.0 c.in_ok-begun.begun.index c.loop-index-test.true refl (ap (stood_as c.begin_tag.new.out) (sym c.in_ok-begun.was) ∙ c.begin_tag.ensures)).2 ∙ sym c.holds_list.ensures ∙ w.if-holds_list.true) (ap (stood_as c.begin_tag.new.out) (sym c.in_ok-begun.was) ∙ c.begin_tag.ensures) (ap (stood_as w.write_list.new.out) (sym w.in_ok-inside.was) ∙ w.write_list.ensures) | else-holds_list w ↦ (λ i. this (stood (w.out-is i) (w.stop-is i).0 (w.last-is i))) ∙ values_alone (order_of c.args.order) (record { there = c.loop-index-test.true; is = refl; low = omega (arith, c.if-number-gt1023.false); tabled = c.requires.0; classed = c.class_of-class.ensures; claimed = c.claims_long-claimed.ensures }) c.loop-index.out c.args.depths c.loop-index.place.0 (sym (list_by_lem (order_of c.args.order) c.claims_long-claimed.result c.class_of-class.result c.args.table.now c.loop-index.index (get_or c.args.table.now c.loop-index.index 0) c.loop-index.out (c.loop-index.place.0 + kept_bytes c.claims_long-claimed.result) c.begin_tag.new.out c.in_ok-begun.begun.place.0 c.in_ok-begun.begun.index c.loop-index-test.true refl (ap (stood_as c.begin_tag.new.out) (sym c.in_ok-begun.was) ∙ c.begin_tag.ensures)).2 ∙ sym c.holds_list.ensures ∙ w.if-holds_list.false) (ap (stood_as c.begin_tag.new.out) (sym c.in_ok-begun.was) ∙ c.begin_tag.ensures) ]))),
)

pub shape_of-out : goal.shape_of-out
shape_of-out t c = c.loop-index.invariant.0

pub returns : goal.returns
returns t c = rest_none (order_of c.args.order) (classes_in c.args.classes.now) c.args.table.now c.loop-index.out c.args.depths c.loop-index.place.0 c.loop-index.index c.loop-index-test.false ∙ sym c.loop-index.invariant.3
