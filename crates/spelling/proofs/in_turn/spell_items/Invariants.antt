use Rattle.std.proofs.Common.{◌≡◌, ◌+◌, ◌-◌, ◌*◌, ◌<◌, ◌≤◌, length}
use Rattle.format.specs.Bits.{Order}
use Rattle.format.specs.Formats.{times}
use Rattle.items.specs.Kinds.{format_of}
use Rattle.sink.specs.Laying.{mk}
use Rattle.spelling.specs.Writing.{ran}
use Rattle.spelling.proofs.in_turn.spell_items.Given as goal

abbrev pub invariant-loop-i : goal.invariant-loop-i
invariant-loop-i l = (l.byte ≤ 16777216) × (length l.out ≡ length l.initial.out) × (0 < l.i → l.from + l.i ≤ length l.values) × ((o : Order) → ran o l.values (mk l.initial.out (8 * l.at) 0) l.from (times l.count (format_of l.kind)) ≡ ran o l.values (mk l.out (8 * l.byte) 0) (l.from + l.i) (times (l.count - l.i) (format_of l.kind)))
