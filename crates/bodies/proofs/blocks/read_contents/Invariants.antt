use Prim.Native.Nat.{◌-◌}
use mathlib.Core.Path.{◌≡◌}
use lib.ListN.{drop}
use Rattle.attributes.specs.Flags.{flags_as, digits}
use Rattle.bodies.proofs.ContentLaws.{RowsGoing}
use Rattle.bodies.proofs.blocks.read_contents.Given as goal

abbrev pub invariant-loop-row : goal.invariant-loop-row
invariant-loop-row l = RowsGoing l.initial.reader l.rows (flags_as l.numbers) l.reader l.row-index × (drop l.row-index (flags_as l.numbers) ≡ digits l.flags (12 - l.row-index))
