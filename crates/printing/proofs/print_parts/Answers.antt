use native.Mathlib.Omega.{arith}
use lib.ListN.{length}
use Rattle.listing.proofs.Parts.{part_less}
use Rattle.printing.proofs.print_parts.Goals as goal

pub loop-cursor-smaller : goal.loop-cursor-smaller
loop-cursor-smaller g c = part_less c.args.tables.now.len c.args.tables.now.table.now c.args.tables.now.rows.now c.loop-cursor.out (length c.loop-cursor.out) c.loop-cursor.cursor c.put_part-part.ensures.0 (omega (arith, c.if-part-eq0.false))
