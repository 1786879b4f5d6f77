-- `tally::next_place` meets its contract: a list starts in its container's body.
use native.Mathlib.Omega.{arith}
use Rattle.tally.proofs.PlaceLaws.{list_le}
use Rattle.tally.proofs.next_place.Goals as goal

pub overflow_add-result : goal.overflow_add-result
overflow_add-result c = omega (arith, c.requires.0, c.requires.1, list_le _ _ _ c.list_in.ensures)
