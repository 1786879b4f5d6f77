-- What the functions of this crate answer, in the words of the definitions.
use Rattle.std.specs.Prelude.{ℕ, ◌+◌, ◌-◌, ◌*◌, ◌/◌, ◌%◌, ◌^◌, ◌<◌, ◌≤◌, List, [], length, ◌==◌, nat_lt, Result, Ok, Err}
use Rattle.format.specs.Tests.{pick}
use Rattle.format.specs.Bits as paper
use Rattle.format.specs.WritingItems.{below}
use Rattle.format.specs.Items.{Num, num, bad}
use Rattle.format.specs.Reading.{Reading, shows, stop}
use Rattle.bits.specs.declared.Order.{Order}
use Rattle.bits.specs.declared.Order.TheVariants.{HighFirst, LowFirst}
use Rattle.bits.specs.declared.Number.{Number}
use Rattle.bits.specs.declared.whole.Whole.{Whole}
use Rattle.reasons.specs.declared.Reason.{Reason}
use Rattle.reasons.specs.declared.Reason.TheVariants.{OrderUnknown}
use Rattle.reasons.specs.Numbers.{number_of}

abbrev pub order_of : Order → paper.Order
order_of HighFirst = paper.high
order_of LowFirst = paper.low

-- the order that a number names, or the refusal of one that names none
abbrev pub order_by : ℕ → Result Order Reason
order_by n = pick (n == 0) (Ok HighFirst) (pick (n == 1) (Ok LowFirst) (Err OrderUnknown))

-- what holds in either order, since it is about whole bytes
abbrev pub InEither : (paper.Order → Type 0) → Type 0
InEither P = (o : paper.Order) → P o

-- the eight bytes of a number the other way round
abbrev pub turned_of : ℕ → ℕ
turned_of x =
    ((((((x % 256 * 256 + x / 256 % 256) * 256 + x / 65536 % 256) * 256 + x / 16777216 % 256) * 256 + x / 4294967296 % 256) * 256
    + x / 1099511627776 % 256) * 256 + x / 281474976710656 % 256) * 256 + x / 72057594037927936 % 256

-- eight bytes that are one number with the first of them lowest, as an order has them
abbrev pub ordered_by : paper.Order → ℕ → ℕ
ordered_by paper.high x = turned_of x
ordered_by paper.low x = x

-- of 40 bits that are one number x as an order has them, the one at place p
abbrev pub bit_of : paper.Order → ℕ → ℕ → ℕ
bit_of o x p = x / 2 ^ below o p (39 - p) % 2

-- a number v below z, the last h of which are negative ones: those are kept modulo 2 ^ 64
abbrev pub with_sign : ℕ → ℕ → ℕ → ℕ
with_sign z h v = pick (nat_lt (v + h) z) v (v + (2 ^ 64 - z))

-- the bit place p is in the bytes b or at their end, and sums of places fit
abbrev pub PlaceIn : List ℕ → ℕ → Type 0
PlaceIn b p = (p ≤ 8 * length b) × (length b < 2 ^ 60)

-- an answer of `align` as the definitions have it
abbrev pub aligned_as : Result Whole Reason → Reading
aligned_as (Ok w) = shows [] w.bit.0
aligned_as (Err e) = stop (number_of e)

-- an answer of the code as the definitions have it
abbrev pub num_of : Result Number Reason → Num
num_of (Ok n) = num n.value n.next.0
num_of (Err e) = bad (number_of e)
