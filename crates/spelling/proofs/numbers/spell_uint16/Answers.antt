-- `spelling::numbers::spell_uint16` meets its contract.
use Rattle.std.proofs.Common.{◌+◌, ◌*◌, refl, arith}
use Rattle.sink.specs.Laying.{mk}
use Rattle.spelling.proofs.ByteLaws.{spelled}
use Rattle.spelling.proofs.NumberLaws.{uint16_in, uint16_no}
use Rattle.spelling.proofs.numbers.spell_uint16.Goals as goal

pub returns-then-value-gt65535 : goal.returns-then-value-gt65535
returns-then-value-gt65535 c = λ o. uint16_no o (mk c.args.out.now (8 * c.args.at) 0) c.args.value c.if-value-gt65535.true

pub returns : goal.returns
returns c = λ o. let a = c.args in spelled _ (a.at + 2) (8 * a.at + 16) (omega arith) (uint16_in o a.out.now a.at (8 * a.at) a.value refl (omega (arith, c.if-value-gt65535.false)) c.put_byte.ensures c.put_byte-2.ensures)
