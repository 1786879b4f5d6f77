-- `spelling::fields::all_bare` meets its contract. The loop's invariant: whether all are fields is whether those left are, for every bare kind that has so many negative numbers.
use Rattle.std.proofs.Common.{get_or, sym, arith}
use Rattle.spelling.proofs.FieldLaws.{bare_in, bare_out, judging_start, judging_no, judging_next, judging_over}
use Rattle.spelling.proofs.fields.all_bare.Goals as goal

pub loop-value-init : goal.loop-value-init
loop-value-init c = let a = c.args in λ f b e. judging_start f a.width a.numbers.now

pub returns-then-size-wrapping_add_u64 : goal.returns-then-size-wrapping_add_u64
returns-then-size-wrapping_add_u64 c = let a = c.args in let n = c.negatives_of-negatives in let m = c.power-size in sym (judging_no (c.loop-value.invariant a.kind c.requires.2 n.ensures) c.loop-value-test.true (bare_out a.kind a.width (get_or a.numbers.now c.loop-value.value-index 0) m.result n.result c.wrapping_add_u64.result c.requires.2 c.requires.0 c.requires.1 m.ensures.0 n.ensures (omega (arith, c.type_inv.numbers c.loop-value.value-index)) c.wrapping_add_u64.ensures.value c.if-size-wrapping_add_u64.true))

pub loop-value-preserved : goal.loop-value-preserved
loop-value-preserved c = let a = c.args in let n = c.negatives_of-negatives in let m = c.power-size in λ f b e. judging_next (c.loop-value.invariant f b e) c.loop-value-test.true (bare_in f a.width (get_or a.numbers.now c.loop-value.value-index 0) m.result n.result c.wrapping_add_u64.result b c.requires.0 c.requires.1 m.ensures.0 e (omega (arith, c.type_inv.numbers c.loop-value.value-index)) c.wrapping_add_u64.ensures.value c.if-size-wrapping_add_u64.false)

pub returns : goal.returns
returns c = let a = c.args in sym (judging_over (c.loop-value.invariant a.kind c.requires.2 c.negatives_of-negatives.ensures) (omega arith))
