-- The laws by which the check finds what functions over a reader promise: one part after another, and what a `?` passes on.
use Rattle.reasons.proofs.NumberLaws.{passed_on}
use Rattle.table.proofs.ReaderLaws.{reads_then, reads_stop, reads_item, reads_never_then, reads_err, shown_room}
use Rattle.values.proofs.ValueLaws.{count_few, gradient_is, frames_is, ub_stop, dash_stop, ub_behind}

pub ruleset reading = (reads_then, reads_stop, reads_item, passed_on, reads_never_then, reads_err, shown_room, count_few, gradient_is, frames_is, ub_stop, dash_stop, ub_behind)
