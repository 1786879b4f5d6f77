-- `spelling::text::spell_text` meets its contract. The loop's invariant: the String from its start is the rest of it from here on.
use Rattle.std.proofs.Common.{sym, refl, ◌∙◌, arith}
use Rattle.spelling.proofs.TextLaws.{text_start, text_zero, text_large, text_next, text_over_lem}
use Rattle.spelling.proofs.text.spell_text.Goals as goal

pub loop-i-init : goal.loop-i-init
loop-i-init c = (refl, λ o. text_start o c.args.out.now c.args.at c.args.text.now)

pub returns-then-value-eq0-clause-writes : goal.returns-then-value-eq0-clause-writes
returns-then-value-eq0-clause-writes c = λ o. let l = c.loop-i in sym (l.invariant.1 o ∙ text_zero o l.out c.args.at c.args.text.now l.i (omega arith) c.if-value-eq0.true)

pub returns-then-value-gt255-clause-writes : goal.returns-then-value-gt255-clause-writes
returns-then-value-gt255-clause-writes c = λ o. let l = c.loop-i in sym (l.invariant.1 o ∙ text_large o l.out c.args.at c.args.text.now l.i (omega arith) c.if-value-eq0.false c.if-value-gt255.true)

pub loop-i-preserved : goal.loop-i-preserved
loop-i-preserved c = let l = c.loop-i in (c.put_byte.auto.out ∙ l.invariant.0, λ o. l.invariant.1 o ∙ text_next o l.out c.args.at c.args.text.now l.i (omega arith) c.if-value-eq0.false c.if-value-gt255.false c.put_byte.ensures)

pub shape_of-out : goal.shape_of-out
shape_of-out c = c.put_byte-2.auto.out ∙ c.loop-i.invariant.0

pub returns-clause-writes : goal.returns-clause-writes
returns-clause-writes c = λ o. let l = c.loop-i in text_over_lem o l.out c.args.at c.args.text.now l.i (omega arith) c.put_byte-2.ensures ∙ sym (l.invariant.1 o)
