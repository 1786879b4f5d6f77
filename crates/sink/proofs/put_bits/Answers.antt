-- `sink::put_bits` meets its contract. The loop's invariant: laying the whole field is laying what is left from here on.
use Prim.Native.Nat.{◌+◌, ◌-◌}
use mathlib.Core.Path.{◌≡◌, refl, ◌∙◌}
use native.Mathlib.Omega.{arith}
use Rattle.bits.specs.Places.{order_of}
use Rattle.sink.specs.Laying.{at as under}
use Rattle.sink.proofs.LayingLaws.{flow_next, flow_few, flow_past, flow_done, field_past, field_none}
use Rattle.sink.proofs.put_bits.Goals as goal

pub returns-then-width-eq0 : goal.returns-then-width-eq0
returns-then-width-eq0 c = field_none (order_of c.args.order) (under c.args.out.now c.args.sink) c.args.width c.args.value c.if-width-eq0.true

pub returns-then-out-at : goal.returns-then-out-at
returns-then-out-at c = field_past (order_of c.args.order) c.args.out.now c.args.sink.place.0 c.args.sink.part c.args.width c.args.value c.if-out-at.true c.if-width-eq0.false refl

pub glue-waiting-requires : goal.glue-waiting-requires
glue-waiting-requires c = (omega arith, c.requires.0, c.requires.3)

pub loop-count-init : goal.loop-count-init
loop-count-init c = (refl, omega arith, c.glue-waiting.ensures.1, omega arith, refl)

pub split-byte-requires : goal.split-byte-requires
split-byte-requires c = let whole : 8 + (c.loop-count.count - 8) ≡ c.loop-count.count = omega (arith, c.loop-count-test.true) in
    (omega arith, rw whole c.loop-count.invariant.2)

pub put_byte-requires : goal.put_byte-requires
put_byte-requires c = c.split-byte.ensures.first

pub loop-count-preserved : goal.loop-count-preserved
loop-count-preserved c = (
  c.put_byte.auto.out ∙ c.loop-count.invariant.0,
  omega (arith, c.loop-count.invariant.1),
  c.split-byte.ensures.last,
  omega (arith, c.loop-count.invariant.3, c.loop-count-test.true),
  c.loop-count.invariant.4 ∙ flow_next (order_of c.args.order) c.loop-count.out c.loop-count.i c.loop-count.count c.loop-count.waiting c.split-byte.result.0 c.split-byte.result.1 (omega (arith, c.loop-count-test.true)) c.split-byte.ensures c.put_byte.ensures,
)

pub shape_of-out-then-out-i : goal.shape_of-out-then-out-i
shape_of-out-then-out-i c = c.loop-count.invariant.0

pub returns-then-out-i : goal.returns-then-out-i
returns-then-out-i c = flow_done (order_of c.args.order) c.args.out.now c.args.sink.place.0 c.args.sink.part c.args.width c.args.value c.glue-waiting.result (omega (arith, c.if-out-at.false)) c.requires.0 c.requires.3 c.glue-waiting.ensures.0
    (c.loop-count.invariant.4 ∙ flow_past (order_of c.args.order) c.loop-count.out c.loop-count.i c.loop-count.count c.loop-count.waiting (omega (arith, c.if-out-i.true)) c.loop-count.invariant.3)

pub shape_of-out : goal.shape_of-out
shape_of-out c = c.loop-count.invariant.0

pub returns : goal.returns
returns c = flow_done (order_of c.args.order) c.args.out.now c.args.sink.place.0 c.args.sink.part c.args.width c.args.value c.glue-waiting.result (omega (arith, c.if-out-at.false)) c.requires.0 c.requires.3 c.glue-waiting.ensures.0
    (c.loop-count.invariant.4 ∙ flow_few (order_of c.args.order) c.loop-count.out c.loop-count.i c.loop-count.count c.loop-count.waiting (omega (arith, c.if-out-i.false)) (omega (arith, c.loop-count-test.false)) c.loop-count.invariant.2 c.loop-count.invariant.3)
