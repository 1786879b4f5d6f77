use mathlib.Core.Path.{ap, ◌∙◌}
use native.Mathlib.Omega.{arith}
use Rattle.std.proofs.Common.{Err}
use Rattle.reasons.proofs.NumberLaws.{passed_on}
use Rattle.bits.specs.Places.{order_of}
use Rattle.bits.proofs.FieldLaws.{order_told}
use Rattle.opacity.specs.Answers.{opacity_of}
use Rattle.opacity.proofs.FindLaws.{order_refused, length_refused, mask_answered, mask_refused, mask_judged, mask_shown}
use Rattle.opacity.proofs.opacity.Goals as goal

pub returns-in_err-order : goal.returns-in_err-order
returns-in_err-order c = let h = order_told c.args.order c.in_err-order.ensures in
    ap opacity_of (passed_on c.from_residual.result c.from_residual.ensures.1 ∙ ap Err h.0) ∙ order_refused c.args.order c.args.body.now c.args.t h.1

pub returns-then-body-ge1152921504606846976 : goal.returns-then-body-ge1152921504606846976
returns-then-body-ge1152921504606846976 c = length_refused c.args.order c.args.body.now c.args.t (order_told c.args.order c.in_ok-order.ensures).1 c.if-body-ge1152921504606846976.true

pub returns-in_err-read_body : goal.returns-in_err-read_body
returns-in_err-read_body c =
    ap opacity_of (passed_on c.from_residual-in_err-read_body.result c.from_residual-in_err-read_body.ensures.1)
    ∙ mask_answered c.args.order c.args.body.now c.args.t (order_told c.args.order c.in_ok-order.ensures).1 (omega (arith, c.if-body-ge1152921504606846976.false)) (order_told c.args.order c.in_ok-order.ensures).0 (mask_refused (order_of c.in_ok-order.order) c.args.body.now c.read_body.ensures.lays c.args.t c.in_err-read_body.was)

pub invariant_of-opacity : goal.invariant_of-opacity
invariant_of-opacity c = record { judged = mask_judged (order_of c.in_ok-order.order) c.args.body.now c.read_body.ensures.lays (omega (arith, c.if-body-ge1152921504606846976.false)) c.in_ok-read_body.was }

pub returns : goal.returns
returns c = mask_answered c.args.order c.args.body.now c.args.t (order_told c.args.order c.in_ok-order.ensures).1 (omega (arith, c.if-body-ge1152921504606846976.false)) (order_told c.args.order c.in_ok-order.ensures).0 (c.opacity.ensures ∙ mask_shown (order_of c.in_ok-order.order) c.args.body.now c.args.t (mask_judged (order_of c.in_ok-order.order) c.args.body.now c.read_body.ensures.lays (omega (arith, c.if-body-ge1152921504606846976.false)) c.in_ok-read_body.was))
