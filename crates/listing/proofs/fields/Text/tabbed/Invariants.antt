use Prim.Native.Nat.{◌≤◌, ◌+◌, ◌*◌}
use lib.ListN.{drop}
use Rattle.listing.specs.Steps.{tabbed}
use Rattle.listing.proofs.TextLaws.{Left}
use Rattle.listing.proofs.fields.Text.tabbed.Given as goal

abbrev pub invariant-loop-value : goal.invariant-loop-value
invariant-loop-value l = Left l.initial.self l.self (tabbed l.values) (tabbed (drop l.value-index l.values)) × (l.self.used ≤ l.initial.self.used + 21 * l.value-index)
