-- `items::var::read_var` meets its contract: the loop keeps `Rest`: the whole is what was read in front of what is left.
use Rattle.std.proofs.Common.{refl, ◌≡◌, sym, ◌∙◌, lt_trans, lt_of_le_of_lt, le-add_left, arith}
use Rattle.format.specs.Bits.{high}
use Rattle.items.proofs.VarLaws.{num_is, var_past, first_last, first_more, more_past, more_last, more_full, more_next, last_fits, next_fits}
use Rattle.items.proofs.var.read_var.Goals as goal

pub returns-then-body-i : goal.returns-then-body-i
returns-then-body-i c = let a = c.args in λ o. sym (var_past o a.body.now a.top a.at.byte.0 a.at.bit.0 a.most a.at.same c.if-body-i.true)

pub returns-then-value-lt128 : goal.returns-then-value-lt128
returns-then-value-lt128 c = let a = c.args in λ o. num_is c.spelled.ensures (first_last o a.body.now a.top a.at.byte.0 a.at.bit.0 a.most a.at.same c.requires.1 c.if-body-i.false c.byte_at-value.ensures c.if-value-lt128.true)

pub loop-i-init : goal.loop-i-init
loop-i-init c = let a = c.args in (
  omega arith,
  λ o p e.
      let d : p ≡ a.at.bit.0 = omega arith in
      rw d (first_more o a.body.now a.top a.at.byte.0 a.at.bit.0 a.most a.at.same c.requires.1 c.if-body-i.false c.byte_at-value.ensures c.if-value-lt128.false c.requires.4),
)

pub returns-then-body-i-2 : goal.returns-then-body-i-2
returns-then-body-i-2 c = λ o. more_past o (c.loop-i.invariant.1 o c.args.at.bit.0 refl) c.if-body-i-2.true

pub overflow_add-next-in-loop-i : goal.overflow_add-next-in-loop-i
overflow_add-next-in-loop-i c = omega (arith, (c.loop-i.invariant.1 high c.args.at.bit.0 refl).at)

pub overflow_mul-total : goal.overflow_mul-total
overflow_mul-total c = record { fits = lt_of_le_of_lt (le-add_left _ _) (last_fits high (c.loop-i.invariant.1 high c.args.at.bit.0 refl) c.requires.2 c.if-value-lt128-2.true (sym c.ends.ensures ∙ c.if-ends.true)) }

pub overflow_add-total : goal.overflow_add-total
overflow_add-total c = record { fits = last_fits high (c.loop-i.invariant.1 high c.args.at.bit.0 refl) c.requires.2 c.if-value-lt128-2.true (sym c.ends.ensures ∙ c.if-ends.true) }

pub returns-then-ends : goal.returns-then-ends
returns-then-ends c = λ o. num_is c.spelled-then-ends.ensures (more_last o (c.loop-i.invariant.1 o c.args.at.bit.0 refl) c.if-body-i-2.false c.byte_at-value-in-loop-i.ensures c.if-value-lt128-2.true (sym c.if-ends.true ∙ c.ends.ensures))

pub returns-then-value-lt128-2 : goal.returns-then-value-lt128-2
returns-then-value-lt128-2 c = λ o. more_last o (c.loop-i.invariant.1 o c.args.at.bit.0 refl) c.if-body-i-2.false c.byte_at-value-in-loop-i.ensures c.if-value-lt128-2.true (sym c.if-ends.false ∙ c.ends.ensures)

pub returns-then-left-eq0 : goal.returns-then-left-eq0
returns-then-left-eq0 c = λ o. more_full o (c.loop-i.invariant.1 o c.args.at.bit.0 refl) c.if-body-i-2.false c.byte_at-value-in-loop-i.ensures c.requires.3 c.if-value-lt128-2.false c.if-left-eq0.true

pub overflow_mul-sum : goal.overflow_mul-sum
overflow_mul-sum c = let f = next_fits high (c.loop-i.invariant.1 high c.args.at.bit.0 refl) c.requires.2 c.byte_at-value-in-loop-i.ensures.1 c.if-left-eq0.false in record { fits = lt_of_le_of_lt (le-add_left _ _) (lt_trans f.0 f.2) }

pub overflow_add-sum : goal.overflow_add-sum
overflow_add-sum c = let f = next_fits high (c.loop-i.invariant.1 high c.args.at.bit.0 refl) c.requires.2 c.byte_at-value-in-loop-i.ensures.1 c.if-left-eq0.false in record { fits = lt_trans f.0 f.2 }

pub overflow_mul-weight : goal.overflow_mul-weight
overflow_mul-weight c = let f = next_fits high (c.loop-i.invariant.1 high c.args.at.bit.0 refl) c.requires.2 c.byte_at-value-in-loop-i.ensures.1 c.if-left-eq0.false in record { fits = f.2 }

pub loop-i-preserved : goal.loop-i-preserved
loop-i-preserved c = (omega arith, λ o p e. more_next o (c.loop-i.invariant.1 o p e) c.if-body-i-2.false c.byte_at-value-in-loop-i.ensures c.requires.2 c.if-value-lt128-2.false c.if-left-eq0.false)

pub spelled-requires : goal.spelled-requires
spelled-requires c = omega (arith, c.args.at.same)

pub spelled-requires-then-ends : goal.spelled-requires-then-ends
spelled-requires-then-ends c = omega (arith, (c.loop-i.invariant.1 high c.args.at.bit.0 refl).at)
