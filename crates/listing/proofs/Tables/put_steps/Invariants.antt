use Prim.Native.Nat.{◌≤◌, ◌-◌}
use mathlib.Core.Path.{◌≡◌}
use lib.ListN.{length}
use Rattle.listing.specs.Steps.{part_of, text_over}
use Rattle.listing.proofs.Tables.put_steps.Given as goal

abbrev pub invariant-loop-cursor : goal.invariant-loop-cursor
invariant-loop-cursor l =
    (l.text.out.ghost_name ≡ l.fn.text.out.ghost_name) × (length l.text.out.now ≡ length l.fn.text.out.now) × (l.text.used ≤ length l.fn.text.out.now)
    × (text_over l.fn.text.out.now l.fn.text.used (part_of (length l.fn.text.out.now - l.fn.text.used) l.self.len l.self.table.now l.self.rows.now l.fn.start)
    ≡ text_over l.text.out.now l.text.used (part_of (length l.fn.text.out.now - l.text.used) l.self.len l.self.table.now l.self.rows.now l.cursor))

abbrev pub decreases-loop-cursor : goal.decreases-loop-cursor
decreases-loop-cursor l = length l.self.table.now - l.cursor.number
