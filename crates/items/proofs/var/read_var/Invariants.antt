use Rattle.std.proofs.Common.{◌≡◌, ℕ, ◌+◌, ◌-◌, ◌<◌}
use Rattle.format.specs.Bits.{Order}
use Rattle.format.specs.Items.{read_var}
use Rattle.items.proofs.VarLaws.{Rest}
use Rattle.items.proofs.var.read_var.Given as goal

abbrev pub invariant-loop-i : goal.invariant-loop-i
invariant-loop-i l = (0 < l.left) × ((o : Order) (p : ℕ) → p + 8 ≡ l.initial.next → Rest o l.body l.top (read_var o l.body l.top p l.most) l.i l.next (l.left - 1) l.weight l.sum)

abbrev pub decreases-loop-i : goal.decreases-loop-i
decreases-loop-i l = l.left
