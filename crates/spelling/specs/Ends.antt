-- The end of a body: its values are used up, and zero bits go up to a whole byte.
use Rattle.std.specs.Prelude.{ℕ, ◌/◌, ◌==◌}
use Rattle.format.specs.Tests.{pick}
use Rattle.format.specs.Bits.{Order}
use Rattle.format.specs.Items.{skipped}
use Rattle.format.specs.Possible.{Possible, this, cannot}
use Rattle.format.specs.WritingItems.{dig}
use Rattle.sink.specs.Lain.{Lain, lain}
use Rattle.sink.specs.Laying.{State, lay}
use Rattle.spelling.specs.Writing.{Seen, here}

-- the state after the skip to a whole byte
abbrev pub skipped_to : Order → State → State
skipped_to o st = lay o st (dig o (skipped st.place) 0)

-- n values are to be used up
abbrev pub concluded : Order → ℕ → Possible Seen → Possible Lain
concluded o n (this (here st k)) = pick (k == n) (this (lain (skipped_to o st).bytes ((skipped_to o st).place / 8))) cannot
concluded o n cannot = cannot
