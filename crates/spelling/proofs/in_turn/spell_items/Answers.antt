-- `spelling::in_turn::spell_items` meets its contract. The loop's invariant: all of them are those that are left from here on.
use Rattle.std.proofs.Common.{◌+◌, sym, refl, ◌∙◌, arith}
use Rattle.format.specs.Bits.{high}
use Rattle.spelling.proofs.ByteLaws.{next_inside, turn_fell, turn_on, turns_start, turns_over, err_written}
use Rattle.spelling.proofs.in_turn.spell_items.Goals as goal

pub loop-i-init : goal.loop-i-init
loop-i-init c = let a = c.args in (c.requires.0, refl, λ h. absurd (omega arith), λ o. turns_start o a.kind a.values.now _ a.from a.count)

pub returns-in_err-byte-clause-writes : goal.returns-in_err-byte-clause-writes
returns-in_err-byte-clause-writes c = let a = c.args in let l = c.loop-i in λ o.
    err_written _ _ _ c.from_residual.ensures.0 (turn_fell o a.kind a.values.now l.out l.byte a.from a.count l.i c.loop-i-test.true (c.in_err-byte.ensures.writes o) ∙ sym (l.invariant.3 o))

pub loop-i-preserved : goal.loop-i-preserved
loop-i-preserved c = let a = c.args in let l = c.loop-i in let n = next_inside high a.kind a.values.now l.out l.byte (a.from + l.i) c.spell_next.new.out c.in_ok-byte.byte (c.in_ok-byte.ensures.writes high) in (
  c.in_ok-byte.ensures.within,
  c.spell_next.auto.out ∙ l.invariant.1,
  λ h. omega (arith, n),
  λ o. l.invariant.3 o ∙ turn_on o a.kind a.values.now l.out l.byte a.from a.count l.i c.loop-i-test.true c.spell_next.new.out c.in_ok-byte.byte (c.in_ok-byte.ensures.writes o),
)

pub returns-clause-writes : goal.returns-clause-writes
returns-clause-writes c = let a = c.args in let l = c.loop-i in λ o. sym (l.invariant.3 o ∙ turns_over o a.kind a.values.now l.out l.byte a.from a.count l.i (omega arith) c.loop-i-test.false l.invariant.0)
