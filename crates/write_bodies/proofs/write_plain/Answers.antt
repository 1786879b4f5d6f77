use mathlib.Core.Path.{sym, ◌∙◌}
use Rattle.bits.specs.Places.{order_of}
use Rattle.write_bodies.proofs.BodyLaws.{body_fixed}
use Rattle.write_bodies.proofs.write_plain.Goals as goal

pub returns-then-is_block : goal.returns-then-is_block
returns-then-is_block c = c.write_body.ensures

pub returns : goal.returns
returns c = let a = c.args in body_fixed (order_of a.order) a.values.now a.out.now a.at.0 a.code (sym c.is_block.ensures ∙ c.if-is_block.false) c.write_items.ensures
