-- What flags that are read out of the first 40 bits of a body are, in the words of the definitions.
use Rattle.std.specs.Prelude.{ℕ, zero, suc, ◌+◌, ◌*◌, ◌/◌, ◌%◌, ◌^◌, ◌≤◌, ◌<◌, List, [], ◌∷◌, ◌≡◌, leb, length, take, Result, Ok, Err}
use Rattle.format.specs.Tests.{pick}
use Rattle.format.specs.Bits.{Order, ub}
use Rattle.format.specs.Reading.{Reading, shows}
use Rattle.format.specs.Reading as reading
use Rattle.format.specs.Formats.{Item, item}
use Rattle.format.specs.Items.{Num, num, bad, show_num, run}
use Rattle.bits.specs.declared.Number.{Number}
use Rattle.reasons.specs.Numbers.{number_of}
use Rattle.reasons.specs.declared.Reason.{Reason}

-- the number v and the place q behind it, if the bytes b go so far; else 13
abbrev pub num_in : List ℕ → ℕ → ℕ → Num
num_in b v q = pick (leb q (8 * length b)) (num v q) (bad 13)

-- x is the first 40 bits of some bytes, and zeros past their end; whatever bytes they are, if p is a place in them, the item there is the number v, with the
-- place q behind it. It has at most m bits.
pub record FlagRead (o : Order) (x : ℕ) (i : Item) (p m v q : ℕ) : Type 0 where
  pub means : (b : List ℕ) → x ≡ ub o b 0 40 → p ≤ 8 * length b → show_num (num_in b v q) ≡ run o b (item i) p
  pub small : v < 2 ^ m
  pub near : q ≤ p + m

-- ---- the flag numbers of a block, as one number

-- the first n digits of a number in base 8, the lowest first
unfoldable pub digits : ℕ → ℕ → List ℕ
digits x zero = []
digits x (suc n) = x % 8 ∷ digits (x / 8) n

-- a flag number is a digit, and a block has at most twelve
abbrev pub flags_as : ℕ → List ℕ
flags_as x = digits x 12

-- so many flag numbers, read as one number, and the place behind them; or a reason
abbrev pub FlagsRead : ℕ → Reading → Result Number Reason → Type 0
FlagsRead count r (Ok n) = (r ≡ shows (take count (flags_as n.value)) n.next.0) × (n.value < 8 ^ count)
FlagsRead count r (Err e) = r.ended ≡ reading.Fault (number_of e)
