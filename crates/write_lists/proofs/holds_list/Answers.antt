-- `write_lists::holds_list` meets its contract.
use mathlib.Core.Path.{sym, ◌∙◌}
use Rattle.write_lists.proofs.holds_list.Goals as goal

pub returns-then-is_block : goal.returns-then-is_block
returns-then-is_block c = rw (c.in-Container.is, sym c.is_block.ensures ∙ c.if-is_block.true)

pub returns-else-is_block : goal.returns-else-is_block
returns-else-is_block c = rw (c.in-Container.is, sym c.is_block.ensures ∙ c.if-is_block.false)
