-- The bits of one number by the kinds of items that the code has, without the skip and the range; and what the code answers of a number, with the output that it leaves.
use Rattle.std.specs.Prelude.{◌≡◌, ℕ, ◌+◌, ◌*◌, ◌/◌, ◌%◌, ◌<◌, ◌≤◌, Bool, List, length, get_or, slice_set, Result, Ok, Err}
use Rattle.format.specs.Bits.{Order}
use Rattle.format.specs.Possible.{Possible, this, cannot}
use Rattle.format.specs.WritingItems.{spell_ub, spell_var, spell_i32, spell_le}
use Rattle.items.specs.declared.Item.{Item}
use Rattle.items.specs.declared.Item.TheVariants.{U32, I32, Time, Float, Uint16, Byte, Enum, BlendMode, Count}
use Rattle.sink.specs.Laying.{State, mk}
use Rattle.sink.specs.declared.Impossible.{Impossible}
use Rattle.spelling.specs.Writing.{Seen, here}

abbrev pub spelling_of : Order → Item → ℕ → Possible (List Bool)
spelling_of o U32 v = spell_var o 15 v 4
spelling_of o I32 v = spell_i32 o v
spelling_of o Time v = spell_var o 1 v 9
spelling_of o Float v = spell_le o v 4
spelling_of o Uint16 v = spell_le o v 2
spelling_of o Byte v = spell_ub o 8 v
spelling_of o (Enum top) v = spell_ub o 8 v
spelling_of o BlendMode v = spell_ub o 8 v
spelling_of o (Count lo) v = spell_var o 15 v 4

-- four bytes of v stored from index i on, lowest first, where there is room for them
abbrev pub four_bytes : List ℕ → ℕ → ℕ → List ℕ
four_bytes u i v = slice_set (slice_set (slice_set (slice_set u i (v % 256)) (i + 1) (v / 256 % 256)) (i + 2) (v / 65536 % 256)) (i + 3) (v / 16777216)

-- the number at index k of the values t is n; or there is none
abbrev pub Numbered : List ℕ → ℕ → Result ℕ Impossible → Type 0
Numbered t k (Ok n) = (k < length t) × (n ≡ get_or t k 0)
Numbered t k (Err e) = length t ≤ k

-- a number was put, and the byte place behind it is p; or it has no spelling
abbrev pub spelled_to : List ℕ → Result ℕ Impossible → Possible State
spelled_to u (Ok p) = this (mk u (8 * p) 0)
spelled_to u (Err e) = cannot

-- so items were put, and the index of the next value is k; or no file has them
abbrev pub written_to : List ℕ → Result ℕ Impossible → ℕ → Possible Seen
written_to u (Ok p) k = this (here (mk u (8 * p) 0) k)
written_to u (Err e) k = cannot
