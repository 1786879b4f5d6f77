use Rattle.std.proofs.Common.{◌≡◌, ◌<◌, length}
use Rattle.bits.specs.Places.{order_of}
use Rattle.spelling.proofs.FieldLaws.{waits, Gathering}
use Rattle.spelling.proofs.fields.gather_fields.Given as goal

abbrev pub invariant-loop-value : goal.invariant-loop-value
invariant-loop-value l = (length l.out ≡ length l.initial.out) × (l.held < 32) × Gathering (order_of l.order) l.width l.numbers (waits (order_of l.order) l.initial.out l.initial.byte l.initial.held l.initial.waiting) l.out l.byte l.held l.waiting l.value-index
