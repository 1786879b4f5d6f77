-- `canvas::values_in` meets its contract: the body's values over seven zeros.
use mathlib.Core.Path.{refl}
use Rattle.std.proofs.Common.{rules}
use Rattle.bits.specs.Places.{order_of}
use Rattle.canvas.proofs.CallLaws.{filled_is}
use Rattle.canvas.proofs.values_in.Goals as goal

pub returns : goal.returns
returns c = let a = c.args in filled_is (order_of a.order) a.body.now c.read_body.ensures.lays refl refl (search rules)
