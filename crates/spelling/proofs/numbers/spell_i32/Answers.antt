-- `spelling::numbers::spell_i32` meets its contract.
use Rattle.std.proofs.Common.{◌*◌, sym, ap, ◌∙◌, arith, rules}
use Rattle.sink.specs.Laying.{mk}
use Rattle.spelling.specs.Writing.{bits_over}
use Rattle.spelling.proofs.RunLaws.{laid_no}
use Rattle.spelling.proofs.NumberLaws.{i32_plus, i32_minus, i32_none}
use Rattle.spelling.proofs.numbers.spell_i32.Goals as goal

pub returns-then-value-lt9223372036854775808 : goal.returns-then-value-lt9223372036854775808
returns-then-value-lt9223372036854775808 c = λ o. c.spell_var.ensures o ∙ ap (bits_over o (mk c.args.out.now (8 * c.args.at) 0)) (sym (i32_plus o c.args.value c.if-value-lt9223372036854775808.true))

pub returns-then-magnitude-gt2147483647 : goal.returns-then-magnitude-gt2147483647
returns-then-magnitude-gt2147483647 c = λ o. laid_no o (mk c.args.out.now (8 * c.args.at) 0) _ (i32_none o c.args.value c.wrapping_sub_u64-magnitude.result (search rules) c.if-value-lt9223372036854775808.false (omega (arith, c.wrapping_sub_u64-magnitude.ensures.value)) c.if-magnitude-gt2147483647.true)

pub returns : goal.returns
returns c = λ o. c.spell_var-2.ensures o ∙ ap (bits_over o (mk c.args.out.now (8 * c.args.at) 0)) (sym (i32_minus o c.args.value c.wrapping_sub_u64-magnitude.result (search rules) c.if-value-lt9223372036854775808.false (omega (arith, c.wrapping_sub_u64-magnitude.ensures.value))))
