-- `fixed::read_fixed` meets its contract: fonts, or the rows of the code.
use mathlib.Core.Path.{sym, ap}
use Rattle.bits.specs.Places.{order_of}
use Rattle.table.proofs.ReaderLaws.{reading, reads_as}
use Rattle.fixed.proofs.FixedLaws.{fixed_fonts}
use Rattle.fixed.proofs.read_fixed.Goals as goal

pub returns-then-code-eq1 : goal.returns-then-code-eq1
returns-then-code-eq1 c = reads_as (ap (reading c.args.reader.now) (sym (fixed_fonts c.args.code c.if-code-eq1.true))) c.read_fonts.ensures

pub returns : goal.returns
returns c = let a = c.args.reader.now in reads_as (c.rows_of.ensures.items (order_of a.order) a.body.now a.place.0) c.read_items.ensures
