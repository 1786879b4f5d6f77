-- `spelling::in_turn::spell_times` meets its contract. The loop's invariant: all of them are those that are left from here on.
use Rattle.std.proofs.Common.{◌+◌, ◌*◌, get_or, sym, refl, ◌∙◌, arith}
use Rattle.items.specs.Kinds.{range_fault}
use Rattle.items.specs.declared.Item.TheVariants.{Time}
use Rattle.sink.specs.Laying.{mk}
use Rattle.spelling.proofs.NumberLaws.{time_put}
use Rattle.spelling.proofs.ByteLaws.{next_late, next_to, turn_fell, turn_on, turns_start, turns_over}
use Rattle.spelling.proofs.in_turn.spell_times.Goals as goal

pub loop-i-init : goal.loop-i-init
loop-i-init c = let a = c.args in (c.requires.0, refl, λ o. turns_start o Time a.values.now _ a.from a.count)

pub returns-in_err-next-clause-writes : goal.returns-in_err-next-clause-writes
returns-in_err-next-clause-writes c = let a = c.args in let l = c.loop-i in λ o. absurd (time_put o (mk l.out (8 * l.byte) 0) c.spell_var.new.out (get_or a.values.now (a.from + l.i) 0) (omega (arith, c.type_inv.values (a.from + l.i))) (c.in_err-next.ensures o))

pub returns-then-next-gt16777216-clause-writes : goal.returns-then-next-gt16777216-clause-writes
unfolding range_fault
returns-then-next-gt16777216-clause-writes c = let a = c.args in let l = c.loop-i in let v = c.spell_var in λ o.
    turn_fell o Time a.values.now l.out l.byte a.from a.count l.i c.loop-i-test.true (next_late o Time a.values.now l.out l.byte (a.from + l.i) (omega arith) refl refl refl v.new.out v.result (v.ensures o) c.in_ok-next.was c.if-next-gt16777216.true)
    ∙ sym (l.invariant.2 o)

pub loop-i-preserved : goal.loop-i-preserved
unfolding range_fault
loop-i-preserved c = let a = c.args in let l = c.loop-i in let v = c.spell_var in (
  c.if-next-gt16777216.false,
  v.auto.out ∙ l.invariant.1,
  λ o. l.invariant.2 o ∙ turn_on o Time a.values.now l.out l.byte a.from a.count l.i c.loop-i-test.true v.new.out c.in_ok-next.next (next_to o Time a.values.now l.out l.byte (a.from + l.i) (omega arith) refl refl refl v.new.out v.result (v.ensures o) c.in_ok-next.was c.if-next-gt16777216.false),
)

pub returns-clause-writes : goal.returns-clause-writes
returns-clause-writes c = let a = c.args in let l = c.loop-i in λ o. sym (l.invariant.2 o ∙ turns_over o Time a.values.now l.out l.byte a.from a.count l.i (omega arith) c.loop-i-test.false l.invariant.0)
