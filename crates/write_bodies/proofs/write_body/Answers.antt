-- `write_bodies::write_body` meets its contract.
use Rattle.std.proofs.Common.{sym, ◌∙◌}
use Rattle.bits.specs.Places.{order_of}
use Rattle.write_bodies.proofs.BodyLaws.{rows_flags, body_block, body_fixed}
use Rattle.write_bodies.proofs.write_body.Goals as goal

pub write_block-requires : goal.write_block-requires
write_block-requires c = let a = c.args in rows_flags a.code c.block_of-rows.result.now (sym c.is_block.ensures ∙ c.if-is_block.true) c.block_of-rows.ensures.are

pub returns-then-is_block : goal.returns-then-is_block
returns-then-is_block c = let a = c.args in body_block a.code c.block_of-rows.result.now (sym c.is_block.ensures ∙ c.if-is_block.true) c.block_of-rows.ensures.are (order_of a.order) a.values.now a.out.now a.at.0 c.write_block.ensures

pub returns : goal.returns
returns c = let a = c.args in body_fixed (order_of a.order) a.values.now a.out.now a.at.0 a.code (sym c.is_block.ensures ∙ c.if-is_block.false) c.write_items.ensures
