-- `write_blocks::put_flags` meets its contract.
use Prim.Native.Nat.{◌+◌, ◌-◌, ◌/◌}
use native.Mathlib.Omega.{arith}
use mathlib.Core.Path.{refl}
use Rattle.bits.specs.Places.{order_of}
use Rattle.write_blocks.proofs.BodyLaws.{put_over, put_fine, put_done}
use Rattle.write_blocks.proofs.put_flags.Goals as goal

pub returns-then-end-gt16777216-clause-lain : goal.returns-then-end-gt16777216-clause-lain
returns-then-end-gt16777216-clause-lain c = let a = c.args in let w = a.writer.now in put_over (order_of w.order) w.out.now a.at.0 a.flags c.requires.0 (a.stop.0 - (a.at.0 + 1)) ((a.flags.width + 7) / 8 - 1) (a.stop.0 + ((a.flags.width + 7) / 8 - 1)) refl (omega (arith, c.requires.2)) (omega (arith, c.if-end-gt16777216.true))

pub align-requires : goal.align-requires
align-requires c = let a = c.args in let w = a.writer.now in put_fine (order_of w.order) w.out.now a.at.0 a.flags c.requires.0 c.move_up.new.out c.put_bits-next.new.out c.put_bits-next.result c.first_bit-place.ensures (omega (arith, c.requires.2, c.requires.3)) c.requires.1 c.put_bits-next.ensures

pub returns-clause-lain : goal.returns-clause-lain
returns-clause-lain c = let a = c.args in let w = a.writer.now in put_done (order_of w.order) w.out.now a.at.0 a.flags c.requires.0 (a.stop.0 - (a.at.0 + 1)) ((a.flags.width + 7) / 8 - 1) (a.stop.0 + ((a.flags.width + 7) / 8 - 1)) c.move_up.new.out c.put_bits-next.new.out c.align.new.out c.put_bits-next.result c.align.result.byte.0 c.align.result.bit.0 c.first_bit-place.ensures refl (omega (arith, c.requires.2)) (omega (arith, c.if-end-gt16777216.false)) c.move_up.ensures c.put_bits-next.ensures c.align.ensures
