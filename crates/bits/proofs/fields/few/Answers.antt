-- `bits::fields::few` meets its contract: the bytes so far are the field of their bits, from the last one down.
use Rattle.std.proofs.Common.{◌≡◌, ℕ, ◌+◌, ◌-◌, ◌*◌, length, drop, refl, ap, ◌∙◌, arith}
use Rattle.format.specs.FileAndTags.{le64}
use Rattle.bits.proofs.FieldLaws.{is_byte, bytes_none, bytes_more, bytes_bound, bytes_all, few_none, few_little}
use Rattle.bits.proofs.fields.few.Goals as goal

pub loop-i-init : goal.loop-i-init
loop-i-init c = (bytes_none c.args.bytes.now (length c.args.bytes.now), few_none c.args.bytes.now)

pub overflow_mul-sum : goal.overflow_mul-sum
overflow_mul-sum c = omega (arith, bytes_bound c.args.bytes.now (8 * c.loop-i.i) (8 * (length c.args.bytes.now - c.loop-i.i)) (omega (arith, c.loop-i-test.true, c.requires)) c.loop-i.invariant.0)

pub overflow_add-sum : goal.overflow_add-sum
overflow_add-sum c = omega (arith, c.from.type_inv, c.from.ensures, c.type_inv.bytes (c.loop-i.i - 1), bytes_bound c.args.bytes.now (8 * c.loop-i.i) (8 * (length c.args.bytes.now - c.loop-i.i)) (omega (arith, c.loop-i-test.true, c.requires)) c.loop-i.invariant.0)

pub loop-i-preserved : goal.loop-i-preserved
loop-i-preserved c =
    let s : c.loop-i.i - 1 + 1 ≡ c.loop-i.i = omega (arith, c.loop-i-test.true) in
    (bytes_more c.args.bytes.now (c.loop-i.i - 1) c.loop-i.i (length c.args.bytes.now) s c.loop-i.auto.i c.loop-i.invariant.0 (is_byte c.args.bytes.now _ c.type_inv.bytes c.from.ensures), few_little c.args.bytes.now (c.loop-i.i - 1) c.loop-i.i s c.loop-i.auto.i c.requires c.loop-i.invariant.1 c.from.ensures)

pub returns : goal.returns
returns c =
    let none : c.loop-i.i ≡ 0 = omega (arith, c.loop-i-test.false) in
    (bytes_all c.args.bytes.now c.loop-i.i (length c.args.bytes.now) none refl c.requires c.loop-i.invariant.0, c.loop-i.invariant.1 ∙ ap (λ (k : ℕ). le64 (drop k c.args.bytes.now)) none)
