use mathlib.Core.Path.{sym, ◌∙◌}
use Rattle.path_singles.proofs.StepLaws.{or_is}
use Rattle.path_singles.proofs.BlockLaws.{blocks_past, blocks_path, blocks_end}
use Rattle.path_singles.proofs.blocks.convert_block.Goals as goal
use Rattle.path_singles.proofs.blocks.convert_block.Goals.{then-is_path, else-is_path}

pub loop-row-preserved : goal.loop-row-preserved
loop-row-preserved c =
    elim c.if-is_path.branch [
      | then-is_path w ↦ blocks_path _ _ _ c.loop-row.invariant c.loop-row-test.true (sym c.is_path.ensures ∙ w.if-is_path.true) c.if-is_path.auto.values w.numbers_before-flag.ensures (rw w.values-is w.convert_attribute-beyond.ensures) (w.beyond-is ∙ or_is c.loop-row.beyond w.convert_attribute-beyond.result)
      | else-is_path w ↦ rw (w.values-is, w.beyond-is) (blocks_past _ _ _ c.loop-row.invariant c.loop-row-test.true (sym c.is_path.ensures ∙ w.if-is_path.false))
    ]

pub returns : goal.returns
returns c = blocks_end _ _ _ c.block_of-rows.ensures.are c.loop-row.invariant c.loop-row-test.false
