use Rattle.std.proofs.Common.{◌≡◌, ◌+◌, ◌*◌, length, drop}
use Rattle.format.specs.Bits.{Order}
use Rattle.format.specs.WritingItems.{spell_txt}
use Rattle.sink.specs.Laying.{mk}
use Rattle.spelling.specs.Writing.{bits_over}
use Rattle.spelling.proofs.text.spell_text.Given as goal

abbrev pub invariant-loop-i : goal.invariant-loop-i
invariant-loop-i l = (length l.out ≡ length l.initial.out) × ((o : Order) → bits_over o (mk l.initial.out (8 * l.at) 0) (spell_txt o l.text) ≡ bits_over o (mk l.out (8 * (l.at + l.i)) 0) (spell_txt o (drop l.i l.text)))
