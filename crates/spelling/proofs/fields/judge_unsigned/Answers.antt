-- `spelling::fields::judge_unsigned` meets its contract. The loop's invariant: whether all are fields is whether those left are, and the sum is what those before announce.
use mathlib.Core.Bool.{not}
use Rattle.std.proofs.Common.{ℕ, get_or, refl, ap, arith}
use Rattle.table.proofs.FieldLaws.{weight_is}
use Rattle.spelling.proofs.FieldLaws.{unsigned_large, unsigned_out, unsigned_in_lem, judging_start, judging_no, judging_next, judging_over, counted_few, counted_next, counted_all}
use Rattle.spelling.proofs.fields.judge_unsigned.Goals as goal

pub loop-number-init : goal.loop-number-init
loop-number-init c = let a = c.args in (judging_start a.kind a.width a.numbers.now, refl)

pub returns-then-size-value : goal.returns-then-size-value
returns-then-size-value c = let a = c.args in judging_no c.loop-number.invariant.0 c.loop-number-test.true (unsigned_large a.kind a.width (get_or a.numbers.now c.loop-number.number-index 0) c.power-size.result c.requires.2 c.power-size.ensures.0 c.if-size-value.true)

pub returns-then-not-allowed : goal.returns-then-not-allowed
returns-then-not-allowed c = let a = c.args in judging_no c.loop-number.invariant.0 c.loop-number-test.true (unsigned_out a.kind a.width (get_or a.numbers.now c.loop-number.number-index 0) c.power-size.result c.requires.2 c.power-size.ensures.0 c.allowed.ensures (ap not c.if-not-allowed.true))

pub overflow_add-sum : goal.overflow_add-sum
overflow_add-sum c = let a = c.args in let w = weight_is a.kind (get_or a.numbers.now c.loop-number.number-index 0) c.weights_of-weights.ensures c.weight-sum.ensures in omega (arith, w.1, counted_few a.kind a.numbers.now c.loop-number.number-index c.loop-number.sum c.loop-number.invariant.1, c.loop-number-test.true, c.requires.1)

pub loop-number-preserved : goal.loop-number-preserved
loop-number-preserved c = let a = c.args in let v : ℕ = get_or a.numbers.now c.loop-number.number-index 0 in (
  judging_next c.loop-number.invariant.0 c.loop-number-test.true (unsigned_in_lem a.kind a.width v c.power-size.result c.requires.2 c.power-size.ensures.0 c.allowed.ensures (ap not c.if-not-allowed.false) c.if-size-value.false),
  counted_next a.kind a.numbers.now c.loop-number.number-index c.loop-number.invariant.1 c.loop-number-test.true (weight_is a.kind v c.weights_of-weights.ensures c.weight-sum.ensures).0,
)

pub returns : goal.returns
returns c = let a = c.args in (judging_over c.loop-number.invariant.0 (omega arith), counted_all a.kind a.numbers.now c.loop-number.number-index c.loop-number.invariant.1 (omega arith))
