use Rattle.std.proofs.Common.{◌≡◌, ◌+◌, ◌-◌, ◌*◌, length}
use Rattle.sink.specs.Laying.{mk}
use Rattle.format.specs.Bits.{Order}
use Rattle.format.specs.WritingItems.{spell_var}
use Rattle.spelling.specs.Writing.{bits_over}
use Rattle.spelling.proofs.numbers.spell_var.Given as goal

abbrev pub invariant-loop-i : goal.invariant-loop-i
invariant-loop-i l = (length l.out ≡ length l.initial.out) × ((o : Order) → bits_over o (mk l.initial.out (8 * l.at) 0) (spell_var o l.top l.value l.most) ≡ bits_over o (mk l.out (8 * (l.at + l.i)) 0) (spell_var o l.top l.rest (l.most - l.i)))
