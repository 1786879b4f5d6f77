-- `sink::align` meets its contract.
use native.Mathlib.Omega.{arith}
use Prim.Native.Nat.{◌+◌, ◌-◌, ◌%◌}
use mathlib.Core.Path.{◌≡◌}
use lib.Pow.{pow_pos}
use Rattle.bits.specs.Places.{order_of}
use Rattle.sink.proofs.LayingLaws.{skip_none, skip_some}
use Rattle.sink.proofs.align.Goals as goal

pub returns-then-used-eq0 : goal.returns-then-used-eq0
returns-then-used-eq0 c = skip_none (order_of c.args.order) c.args.out.now c.args.sink.place.0 c.args.sink.part c.requires.0 c.next_byte.ensures c.next_byte.result.same c.if-used-eq0.true

pub glue-requires : goal.glue-requires
glue-requires c = (omega arith, c.requires.0, pow_pos _)

pub put_byte-requires : goal.put_byte-requires
put_byte-requires c =
    let whole : c.args.sink.place.0 % 8 + (8 - c.args.sink.place.0 % 8) ≡ 8 = omega arith in
    rw whole at c.glue.ensures.1

pub returns : goal.returns
returns c =
    skip_some (order_of c.args.order) c.args.out.now c.args.sink.place.0 c.args.sink.part c.requires.0 c.next_byte-2.ensures c.next_byte-2.result.same c.glue.result c.if-used-eq0.false c.glue.ensures.0 c.put_byte.ensures
