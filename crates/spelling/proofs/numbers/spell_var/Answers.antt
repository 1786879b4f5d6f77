-- `spelling::numbers::spell_var` meets its contract. The loop's invariant: the spelling of the number is that of what is left of it from here on.
use Rattle.std.proofs.Common.{◌≡◌, ℕ, ◌+◌, ◌-◌, ◌*◌, ◌/◌, sym, refl, ap₂, ◌∙◌, arith}
use Rattle.sink.specs.Laying.{mk}
use Rattle.spelling.proofs.ByteLaws.{spelled}
use Rattle.format.specs.WritingItems.{spell_var}
use Rattle.spelling.specs.Writing.{bits_over}
use Rattle.spelling.proofs.NumberLaws.{var_more, var_over, var_end, var_start, var_last}
use Rattle.spelling.proofs.numbers.spell_var.Goals as goal

pub loop-i-init : goal.loop-i-init
loop-i-init c = (refl, λ o. var_start o c.args.out.now c.args.at c.args.top c.args.value c.args.most)

pub shape_of-out-then-rest-lt128 : goal.shape_of-out-then-rest-lt128
shape_of-out-then-rest-lt128 c = c.put_byte.auto.out ∙ c.loop-i.invariant.0

pub returns-then-rest-lt128 : goal.returns-then-rest-lt128
returns-then-rest-lt128 c = λ o. let l = c.loop-i in let a = c.args in spelled _ (a.at + l.i + 1) (8 * (a.at + l.i) + 8) (omega arith) (var_end o l.out (a.at + l.i) (8 * (a.at + l.i)) a.top l.rest refl (a.most - l.i) c.if-rest-lt128.true (λ z. absurd (omega arith)) c.put_byte.ensures ∙ sym (l.invariant.1 o))

pub loop-i-preserved : goal.loop-i-preserved
loop-i-preserved c = let l = c.loop-i in let a = c.args in let q : 8 * (a.at + l.i) + 8 ≡ 8 * (a.at + (l.i + 1)) = omega arith in let n : a.most - l.i - 1 ≡ a.most - (l.i + 1) = omega arith in (
  c.put_byte-in-loop-i.auto.out ∙ l.invariant.0,
  λ o. l.invariant.1 o ∙ var_more o l.out (a.at + l.i) (8 * (a.at + l.i)) a.top l.rest refl (a.most - l.i) (λ z. omega arith) (omega (arith, c.if-rest-lt128.false)) c.put_byte-in-loop-i.ensures ∙ ap₂ (λ (m k : ℕ). bits_over o (mk c.put_byte-in-loop-i.new.out m 0) (spell_var o a.top (l.rest / 128) k)) q n,
)

pub shape_of-out-then-top-rest : goal.shape_of-out-then-top-rest
shape_of-out-then-top-rest c = c.loop-i.invariant.0

pub returns-then-top-rest : goal.returns-then-top-rest
returns-then-top-rest c = λ o. let l = c.loop-i in let a = c.args in var_over o l.out (a.at + l.i) (8 * (a.at + l.i)) a.top l.rest refl (a.most - l.i) (omega arith) c.if-top-rest.true ∙ sym (l.invariant.1 o)

pub shape_of-out : goal.shape_of-out
shape_of-out c = c.put_byte-2.auto.out ∙ c.loop-i.invariant.0

pub returns : goal.returns
returns c = λ o. let l = c.loop-i in let a = c.args in spelled _ (a.at + a.most + 1) (8 * (a.at + a.most) + 8) (omega arith) (var_end o l.out (a.at + a.most) (8 * (a.at + a.most)) a.top l.rest refl 0 (omega (arith, c.if-top-rest.false)) (λ z. omega (arith, c.if-top-rest.false)) c.put_byte-2.ensures ∙ var_last o l.out a.at a.top l.rest a.most l.i (omega arith) ∙ sym (l.invariant.1 o))
