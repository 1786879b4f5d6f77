use Rattle.std.proofs.Common.{◌+◌, ◌*◌, refl, arith}
use Rattle.sink.specs.Laying.{mk}
use Rattle.spelling.proofs.ByteLaws.{spelled}
use Rattle.spelling.proofs.NumberLaws.{float_in, float_no}
use Rattle.spelling.proofs.numbers.spell_float.Goals as goal

pub returns-then-value-gt4294967295 : goal.returns-then-value-gt4294967295
returns-then-value-gt4294967295 c = λ o. float_no o (mk c.args.out.now (8 * c.args.at) 0) c.args.value (omega (arith, c.if-value-gt4294967295.true))

pub returns : goal.returns
returns c = λ o. let a = c.args in spelled _ (a.at + 4) (8 * a.at + 32) (omega arith) (float_in o a.out.now a.at (8 * a.at) a.value refl (omega (arith, c.if-value-gt4294967295.false)) refl refl refl c.put_float.ensures)
