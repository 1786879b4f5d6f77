-- `write_blocks::write_block` meets its contract.
use Rattle.std.proofs.Common.{arith}
use Rattle.bits.specs.Places.{order_of}
use Rattle.attributes.specs.Rows.{attributes_in}
use Rattle.write_blocks.proofs.BodyLaws.{block_over}
use Rattle.write_blocks.proofs.write_block.Goals as goal

pub returns-then-at-ge16777216 : goal.returns-then-at-ge16777216
returns-then-at-ge16777216 c = let a = c.args in block_over (order_of a.order) (attributes_in a.rows.now) a.values.now c.requires a.out.now a.at.0 (omega (arith, c.if-at-ge16777216.true))
