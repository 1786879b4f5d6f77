-- `write_blocks::write_at` meets its contract.
use Rattle.std.proofs.Common.{ap, ◌∙◌}
use Rattle.bits.specs.Places.{order_of}
use Rattle.attributes.specs.Rows.{attributes_in}
use Rattle.spelling.proofs.EndLaws.{err_lain}
use Rattle.spelling.proofs.WriteLaws.{onward_then}
use Rattle.write_blocks.proofs.BodyLaws.{block_gone, block_stop, block_room, block_done}
use Rattle.write_blocks.proofs.write_at.Goals as goal

pub returns-in_err-flags-clause-lain : goal.returns-in_err-flags-clause-lain
returns-in_err-flags-clause-lain c = let a = c.args in let w = a.writer.now in let on = c.write_contents.ensures.onward in err_lain _ _ c.from_residual.ensures.0 (block_gone (order_of w.order) (attributes_in a.rows.now) w.values.now c.requires.flags w.out.now a.at.0 c.write_contents.new.writer c.write_contents.result c.requires.first.1 c.requires.first.2 c.write_contents.ensures.fills c.in_err-flags.was)

pub returns-in_err-stop-clause-onward : goal.returns-in_err-stop-clause-onward
returns-in_err-stop-clause-onward c = onward_then c.write_contents.ensures.onward c.conclude.ensures.onward

pub returns-in_err-stop-clause-lain : goal.returns-in_err-stop-clause-lain
returns-in_err-stop-clause-lain c = let a = c.args in let w = a.writer.now in let on = c.write_contents.ensures.onward in err_lain _ _ c.from_residual-in_err-stop.ensures.0 (block_stop (order_of w.order) (attributes_in a.rows.now) w.values.now c.requires.flags w.out.now a.at.0 c.write_contents.new.writer c.write_contents.result c.requires.first.1 c.requires.first.2 c.write_contents.ensures.fills c.in_ok-flags.flags c.in_ok-flags.was c.conclude.new.self.out.now c.conclude.result (ap order_of on.order) on.values c.conclude.ensures.ended c.in_err-stop.was)

pub put_flags-requires : goal.put_flags-requires
put_flags-requires c = let a = c.args in let w = a.writer.now in let on = c.write_contents.ensures.onward in
    let room = block_room (order_of w.order) (attributes_in a.rows.now) w.values.now c.requires.flags w.out.now a.at.0 c.write_contents.new.writer c.write_contents.result c.requires.first.1 c.requires.first.2 c.write_contents.ensures.fills c.in_ok-flags.flags c.in_ok-flags.was c.conclude.new.self.out.now c.conclude.result (ap order_of on.order) on.values c.conclude.ensures.ended c.in_ok-stop.stop c.in_ok-stop.was in
    (room.0, c.in_ok-flags.ensures.few, room.1, room.2)

pub returns-clause-onward : goal.returns-clause-onward
returns-clause-onward c = onward_then (onward_then c.write_contents.ensures.onward c.conclude.ensures.onward) c.put_flags.ensures.onward

pub returns-clause-lain : goal.returns-clause-lain
returns-clause-lain c = let a = c.args in let w = a.writer.now in let on = c.write_contents.ensures.onward in block_done (order_of w.order) (attributes_in a.rows.now) w.values.now c.requires.flags w.out.now a.at.0 c.write_contents.new.writer c.write_contents.result c.requires.first.1 c.requires.first.2 c.write_contents.ensures.fills c.in_ok-flags.flags c.in_ok-flags.was c.conclude.new.self.out.now c.conclude.result (ap order_of on.order) on.values c.conclude.ensures.ended c.in_ok-stop.stop c.in_ok-stop.was (ap order_of (c.conclude.ensures.onward.order ∙ on.order)) c.put_flags.ensures.lain
