-- `table::fields::lay_fields` meets its contract: what is left to read is what is left of the whole, of whatever number of fields.
use Rattle.std.proofs.Common.{◌≡◌, ◌+◌, ◌*◌, refl, sym, ◌∙◌, arith}
use Rattle.bits.specs.Places.{order_of}
use Rattle.table.proofs.FieldLaws.{Inside, field_in, field_out, unsigned_shown, weight_is, step_more, fields_in, fields_next, fields_stop, going_told}
use Rattle.table.proofs.fields.lay_fields.Goals as goal

pub returns-then-not-allowed : goal.returns-then-not-allowed
returns-then-not-allowed c = let a = c.args.reader.now in let w = c.args.width in let some = c.loop-i-test.true in (
  record { same = record { order = refl; body = refl; lent = refl }; place = refl; index = refl },
  (
    some,
    λ n l. let st : Inside w a.body.now a.place.0 n c.args.there = record { upto = l; inside = c.requires.4 } in let g = c.loop-i.invariant n l in
        fields_stop st g some (field_out (order_of a.order) c.args.kind a.body.now (a.place.0 + c.loop-i.i * w) w (fields_in st g some) c.field-value.ensures.0 (unsigned_shown c.args.kind w c.field-value.result c.requires.5) (sym c.allowed.ensures ∙ c.if-not-allowed.true)),
  ),
)

pub overflow_add-sum : goal.overflow_add-sum
overflow_add-sum c = omega (arith, (c.loop-i.invariant c.args.there (omega arith)).few, (weight_is c.args.kind c.field-value.result c.weights_of-weights.ensures c.weight-sum.ensures).1, c.loop-i-test.true, c.requires.3)

pub loop-i-preserved : goal.loop-i-preserved
loop-i-preserved c = let a = c.args.reader.now in let w = c.args.width in let some = c.loop-i-test.true in
    λ n l. let st : Inside w a.body.now a.place.0 n c.args.there = record { upto = l; inside = c.requires.4 } in let g = c.loop-i.invariant n l in
    let f = field_in (order_of a.order) c.args.kind a.body.now (a.place.0 + c.loop-i.i * w) w (fields_in st g some) c.field-value.ensures.0 (unsigned_shown c.args.kind w c.field-value.result c.requires.5) (sym c.allowed.ensures ∙ c.if-not-allowed.false) in
    let e : a.place.0 + c.loop-i.i * w + w ≡ a.place.0 + (c.loop-i.i + 1) * w = omega (arith, step_more c.loop-i.i w) in
    rw e at (fields_next st g some f c.put.ensures (weight_is c.args.kind c.field-value.result c.weights_of-weights.ensures c.weight-sum.ensures))

pub returns : goal.returns
returns c = (record { same = record { order = refl; body = refl; lent = refl }; place = refl; index = refl }, going_told c.loop-i-test.false c.loop-i.invariant)
