use Prim.Native.Nat.{◌≤◌, ◌+◌, ◌*◌}
use lib.ListN.{drop}
use Rattle.listing.proofs.TextLaws.{Left}
use Rattle.tally_text.specs.Report.{count_lines}
use Rattle.tally_text.proofs.put_counts.Given as goal

abbrev pub invariant-loop-code : goal.invariant-loop-code
invariant-loop-code l = Left l.initial.text l.text (count_lines 0 l.counts) (count_lines l.code (drop l.code l.counts)) × (l.text.used ≤ l.initial.text.used + 42 * l.code)
