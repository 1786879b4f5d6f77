use mathlib.Core.Path.{refl}
use native.Mathlib.Omega.{arith}
use Rattle.bits.specs.Places.{order_of}
use Rattle.opacity.proofs.FindLaws.{four_rows, flags_there, behind_in, contents_there, found}
use Rattle.opacity.proofs.places.Mask.find.Goals as goal

pub unwrap-flags-requires : goal.unwrap-flags-requires
unwrap-flags-requires c = flags_there (order_of c.args.self.now.order) c.args.self.now.body.now c.args.self.now.judged c.block_of-rows.result.now c.block_of-rows.ensures.are c.read_flags.result c.read_flags.ensures

pub invariant_of-reader : goal.invariant_of-reader
invariant_of-reader c = record { inside = (behind_in (order_of c.args.self.now.order) c.args.self.now.body.now c.args.self.now.judged c.block_of-rows.result.now c.block_of-rows.ensures.are c.unwrap-flags.ensures c.read_flags.ensures, c.args.self.now.judged.few) }

pub slice_bounds-read_contents-end : goal.slice_bounds-read_contents-end
slice_bounds-read_contents-end c = omega (arith, four_rows (order_of c.args.self.now.order) c.args.self.now.body.now c.args.self.now.judged c.block_of-rows.result.now c.block_of-rows.ensures.are)

pub unwrap-requires : goal.unwrap-requires
unwrap-requires c = contents_there (order_of c.args.self.now.order) c.args.self.now.body.now c.args.self.now.judged c.block_of-rows.result.now c.block_of-rows.ensures.are c.unwrap-flags.ensures c.read_flags.ensures c.read_contents.ensures refl refl refl

pub returns : goal.returns
returns c = found (order_of c.args.self.now.order) c.args.self.now.body.now c.args.self.now.judged c.block_of-rows.result.now c.block_of-rows.ensures.are c.unwrap-flags.ensures c.read_flags.ensures c.read_contents.ensures refl refl refl c.unwrap.ensures refl
