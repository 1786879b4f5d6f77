-- `spelling::fields::put_fields` meets its contract.
use Rattle.std.proofs.Common.{refl}
use Rattle.bits.specs.Places.{order_of}
use Rattle.spelling.proofs.FieldLaws.{put_none, put_past}
use Rattle.spelling.proofs.fields.put_fields.Goals as goal

pub returns-then-count-eq0 : goal.returns-then-count-eq0
returns-then-count-eq0 c = let a = c.args in put_none (order_of a.order) a.width a.numbers.now a.out.now a.sink c.if-count-eq0.true

pub returns-then-out-at : goal.returns-then-out-at
returns-then-out-at c = let a = c.args in put_past (order_of a.order) a.width a.numbers.now a.out.now a.sink c.if-out-at.true c.if-count-eq0.false c.requires.1 refl
