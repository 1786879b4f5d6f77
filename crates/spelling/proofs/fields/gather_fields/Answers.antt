-- `spelling::fields::gather_fields` meets its contract. The loop's invariant: the bits of all of them are laid by laying those that wait, and then those that are left.
use Rattle.std.proofs.Common.{◌≡◌, ◌+◌, ◌-◌, ◌%◌, get_or, refl, ◌∙◌, arith, pow_pos}
use Rattle.bits.specs.Places.{order_of}
use Rattle.spelling.proofs.FieldLaws.{rest_small, gathering_start, gathering_next, gathering_put, gathered}
use Rattle.spelling.proofs.fields.gather_fields.Goals as goal
use Rattle.spelling.proofs.fields.gather_fields.Goals.{then-full, else-full}

pub loop-value-init : goal.loop-value-init
loop-value-init c = let a = c.args in (refl, omega arith, gathering_start (order_of a.order) a.width a.numbers.now a.out.now a.sink.place.0 a.sink.part c.requires.0.0 c.requires.0.1)

pub glue-waiting-requires : goal.glue-waiting-requires
glue-waiting-requires c = let a = c.args in let l = c.loop-value in (omega (arith, c.loop-value.invariant.1, c.requires.2), c.loop-value.invariant.2.small, rest_small a.width (get_or a.numbers.now l.value-index 0) c.power-size.result c.power-size.ensures.0)

pub split-word-requires : goal.split-word-requires
split-word-requires c = let whole : 32 + (c.loop-value.held + c.args.width - 32) ≡ c.loop-value.held + c.args.width = omega (arith, c.if-full.true) in (omega (arith, c.loop-value.invariant.1, c.requires.2), rw whole c.glue-waiting.ensures.1)

pub loop-value-preserved : goal.loop-value-preserved
loop-value-preserved c = let l = c.loop-value in
    let more = gathering_next l.invariant.2 c.loop-value-test.true c.requires.2 c.power-size.ensures.0 c.glue-waiting.ensures.0 c.glue-waiting.ensures.1 in
    elim c.if-full.branch [
      | then-full w ↦ rw (w.out-is, w.byte-is, w.held-is, w.waiting-is) (w.put_word.auto.out ∙ l.invariant.0, omega (arith, l.invariant.1, c.requires.2), gathering_put more w.if-full.true w.split-word.ensures w.put_word.ensures)
      | else-full w ↦ rw (w.out-is, w.byte-is, w.held-is, w.waiting-is) (l.invariant.0, omega (arith, w.if-full.false), more)
    ]

pub put_bits-requires : goal.put_bits-requires
put_bits-requires c = (pow_pos (c.first_bit-place.result.0 % 8), omega (arith, c.first_bit-place.ensures, c.loop-value.invariant.2.low), omega (arith, c.loop-value.invariant.1), c.loop-value.invariant.2.small)

pub shape_of-out : goal.shape_of-out
shape_of-out c = c.put_bits.auto.out ∙ c.loop-value.invariant.0

pub returns : goal.returns
returns c = let a = c.args in gathered (order_of a.order) a.width a.numbers.now a.out.now a.sink.place.0 a.sink.part c.loop-value.invariant.2 (omega arith) c.requires.4 c.requires.0.0 c.first_bit-place.ensures c.put_bits.ensures
