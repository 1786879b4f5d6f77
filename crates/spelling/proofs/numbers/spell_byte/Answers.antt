-- `spelling::numbers::spell_byte` meets its contract.
use Rattle.std.proofs.Common.{◌+◌, ◌*◌, refl, arith}
use Rattle.sink.specs.Laying.{mk}
use Rattle.spelling.proofs.ByteLaws.{spelled}
use Rattle.spelling.proofs.NumberLaws.{byte_in, byte_no}
use Rattle.spelling.proofs.numbers.spell_byte.Goals as goal

pub returns-then-value-gt255 : goal.returns-then-value-gt255
returns-then-value-gt255 c = λ o. byte_no o (mk c.args.out.now (8 * c.args.at) 0) c.args.value c.if-value-gt255.true

pub returns : goal.returns
returns c = λ o. spelled _ (c.args.at + 1) (8 * c.args.at + 8) (omega arith) (byte_in o c.args.out.now c.args.at (8 * c.args.at) c.args.value refl c.if-value-gt255.false c.put_byte.ensures)
