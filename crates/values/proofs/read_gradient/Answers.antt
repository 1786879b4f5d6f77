-- `values::read_gradient` meets its contract: both counts, the alpha stops, the color stops.
use Rattle.reasons.proofs.NumberLaws.{passed_on}
use Rattle.table.proofs.ReaderLaws.{reads_then, reads_stop, reads_item}
use Rattle.values.proofs.ValueLaws.{gradient_is}
use Rattle.values.proofs.read_gradient.Goals as goal

pub returns-in_err-colors : goal.returns-in_err-colors
returns-in_err-colors c = gradient_is (reads_item _ c.item.ensures.reads c.in_ok-alphas.was c.in_ok-alphas.ensures.shown
    (reads_stop _ c.item-2.ensures.reads c.in_err-colors.was (passed_on c.from_residual-in_err-colors.result c.from_residual-in_err-colors.ensures.1)))

pub returns-in_err-in_turn : goal.returns-in_err-in_turn
returns-in_err-in_turn c = gradient_is (reads_item _ c.item.ensures.reads c.in_ok-alphas.was c.in_ok-alphas.ensures.shown
    (reads_item _ c.item-2.ensures.reads c.in_ok-colors.was c.in_ok-colors.ensures.shown
    (reads_stop _ c.in_turn.ensures c.in_err-in_turn.was (passed_on c.from_residual-in_err-in_turn.result c.from_residual-in_err-in_turn.ensures.1))))

pub returns : goal.returns
returns c = gradient_is (reads_item _ c.item.ensures.reads c.in_ok-alphas.was c.in_ok-alphas.ensures.shown
    (reads_item _ c.item-2.ensures.reads c.in_ok-colors.was c.in_ok-colors.ensures.shown
    (reads_then _ c.in_turn.ensures c.in_ok-in_turn.was c.in_turn-2.ensures)))
