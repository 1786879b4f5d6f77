-- `fixed::read_fonts` meets its contract: the count, and then its Strings.
use mathlib.Core.Path.{sym}
use native.Mathlib.Omega.{arith}
use Rattle.bits.specs.Places.{order_of}
use Rattle.format.specs.Items.{string}
use Rattle.reasons.proofs.NumberLaws.{passed_on}
use Rattle.table.proofs.ReaderLaws.{reads_stop, reads_item, reads_as}
use Rattle.fixed.proofs.FixedLaws.{fonts_few, pairs}
use Rattle.fixed.proofs.read_fonts.Goals as goal

pub returns-in_err-count : goal.returns-in_err-count
returns-in_err-count c = reads_stop _ c.item.ensures.reads c.in_err-count.was (passed_on c.from_residual.result c.from_residual.ensures.1)

pub overflow_mul-count : goal.overflow_mul-count
overflow_mul-count c = omega (arith, fonts_few c.item.ensures.reads c.in_ok-count.was c.in_ok-count.ensures.shown)

pub returns : goal.returns
returns c = let b = c.item.new.self in
    reads_item _ c.item.ensures.reads c.in_ok-count.was c.in_ok-count.ensures.shown (reads_as (sym (pairs c.in_ok-count.count string (order_of b.order) b.body.now b.place.0)) c.in_turn.ensures)
