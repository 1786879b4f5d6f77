-- Bits and bit fields. A place is counted in bits here; what stands past the end of the bytes b counts as 0.
use Rattle.std.specs.Prelude.{ℕ, zero, suc, ◌+◌, ◌-◌, ◌*◌, ◌/◌, ◌%◌, ◌^◌, ◌<◌, List, [], ◌∷◌, get_or}

-- every number of a list is a byte
abbrev pub AllBytes : List ℕ → Type 0
AllBytes [] = Unit {0}
AllBytes (x ∷ b) = (x < 256) × AllBytes b

-- high, the ruling of document 01: the first bit is the top bit of its byte, and the highest of its field.
-- low (C-18): in low order the first bit read is the low bit of the byte and the lowest of its field.
pub data Order : Type 0 where
  high low : Order

-- (C-18) the order that a call's number names: 0 is high first, 1 low first. Any other number is refused (24: `start_fault` and `Writes` of Reasons)
abbrev pub order_named : ℕ → Order
order_named zero = high
order_named (suc n) = low

-- the power of two that the k-th bit of a byte counts, k from 0
abbrev pub weight : Order → ℕ → ℕ
weight high k = 7 - k
weight low k = k

-- the bit at place p: bit p % 8 of byte p / 8
unfoldable pub bit_at : Order → List ℕ → ℕ → ℕ
bit_at o b p = get_or b (p / 8) 0 / 2 ^ weight o (p % 8) % 2

-- a field of n + 1 bits, made of its first bit x and the field v of the other n
abbrev pub join : Order → ℕ → ℕ → ℕ → ℕ
join high n x v = x * 2 ^ n + v
join low n x v = v * 2 + x

-- the field of n bits at place p, unsigned
unfoldable pub ub : Order → List ℕ → ℕ → ℕ → ℕ
ub o b p zero = 0
ub o b p (suc n) = join o n (bit_at o b p) (ub o b (suc p) n)
