-- The kinds of items that show one number: the formats of document 01 that they stand for, and what each part of an item reads as.
use Rattle.std.specs.Prelude.{◌≡◌, ℕ, zero, suc, ◌+◌, ◌*◌, Bool, leb, List, nat_le, nat_lt, Result, Ok, Err}
use Rattle.format.specs.Tests.{pick, ◌and◌, ◌or◌}
use Rattle.format.specs.Bits.{Order}
use Rattle.format.specs.Formats.{Format}
use Rattle.format.specs.Items.{Num, u32, i32, time, float, uint16, byte, enum, count, read_u32, read_u64, read_le, read_ub, map_num, not_one, sign}
use Rattle.format.specs.Bodies.{blend_mode}
use Rattle.bits.specs.declared.Number.{Number}
use Rattle.reasons.specs.declared.Reason.{Reason}
use Rattle.items.specs.declared.Item.{Item}
use Rattle.items.specs.declared.Item.TheVariants.{U32, I32, Time, Float, Uint16, Byte, Enum, BlendMode, Count}
use Rattle.items.specs.declared.Spelled.{Spelled}

-- the format of a kind; a Count goes to 4,096
abbrev pub format_of : Item → Format
format_of U32 = u32
format_of I32 = i32
format_of Time = time
format_of Float = float
format_of Uint16 = uint16
format_of Byte = byte
format_of (Enum top) = enum top
format_of BlendMode = blend_mode
format_of (Count lo) = count lo 4096

-- what its bytes read as, from a whole byte on: all but its range
abbrev pub spelt : Order → Item → List ℕ → ℕ → Num
spelt o U32 b p = read_u32 o b p
spelt o I32 b p = map_num sign (not_one (read_u32 o b p))
spelt o Time b p = read_u64 o b p
spelt o Float b p = read_le o b p 4
spelt o Uint16 b p = read_le o b p 2
spelt o Byte b p = read_ub o b p 8
spelt o (Enum top) b p = read_ub o b p 8
spelt o BlendMode b p = read_ub o b p 8
spelt o (Count lo) b p = read_u32 o b p

-- v is from a to z
abbrev pub between : ℕ → ℕ → ℕ → Bool
between a v z = leb a v and leb v z

-- the reason that the number v gets outside its range: 0 if there is none
unfoldable pub range_fault : Item → ℕ → ℕ
range_fault U32 v = 0
range_fault I32 v = 0
range_fault Time v = 0
range_fault Float v = 0
range_fault Uint16 v = 0
range_fault Byte v = 0
range_fault (Enum top) v = pick (nat_le v top) 0 16
range_fault BlendMode v = pick (leb v 16 or between 21 v 26) 0 16
range_fault (Count lo) v = pick (between lo v 4096) 0 17

-- may b end a spelling of several bytes, with k more allowed after it? Not as 0, and the last that is allowed is at most top
unfoldable pub can_end : ℕ → ℕ → ℕ → Bool
can_end k top b = nat_lt 0 b and (nat_lt 0 k or leb b top)

-- what a spelling of at most k + 1 bytes, the last at most top, stays below
abbrev pub cap : ℕ → ℕ → ℕ
cap zero top = top + 1
cap (suc k) top = 128 * cap k top

-- an answer with its bit place alone
abbrev pub by_bits : Result Spelled Reason → Result Number Reason
by_bits (Ok s) = Ok (record { value = s.value; next = s.next.bit })
by_bits (Err e) = Err e
