-- Bits put after one another over a list of bytes: what an output and a sink are after them.
use Rattle.std.specs.Prelude.{ℕ, ◌+◌, ◌*◌, ◌/◌, ◌%◌, ◌^◌, ◌<◌, ◌≡◌, List, [], ◌∷◌, Bool, length, set, eqb, ltb}
use Rattle.format.specs.Tests.{pick}
use Rattle.format.specs.Bits.{Order}
use Rattle.format.specs.Items.{skipped}
use Rattle.format.specs.WritingItems.{dig, glue}
use Rattle.format.specs.WritingBodies.{bit}
use Rattle.sink.specs.declared.Sink.{Sink}

-- the bytes, the next bit place, and the bits of its byte that were put, as a field
pub record State : Type 0 where
  pub bytes : List ℕ
  pub place : ℕ
  pub part : ℕ

abbrev pub mk : List ℕ → ℕ → ℕ → State
mk u p a = record { bytes = u; place = p; part = a }

-- an output with a sink
abbrev pub at : List ℕ → Sink → State
at u s = mk u s.place.0 s.part

-- one bit more, behind those of the part; a byte that is full is stored, where there is room for it; past the end nothing waits
unfoldable pub push : Order → State → Bool → State
push o st b =
    pick (eqb (st.place % 8) 7)
    (mk (set st.bytes (st.place / 8) (glue o (st.place % 8) 1 st.part (bit b))) (st.place + 1) 0)
    (mk st.bytes (st.place + 1) (pick (ltb (st.place / 8) (length st.bytes)) (glue o (st.place % 8) 1 st.part (bit b)) 0))

unfoldable pub lay : Order → State → List Bool → State
lay o st [] = st
lay o st (b ∷ bs) = lay o (push o st b) bs

-- a part says no more than its bits can
abbrev pub Holds : ℕ → ℕ → Type 0
Holds p a = a < 2 ^ (p % 8)

-- zero bits up to a whole byte, byte or bit in the two counts, with the output u
pub record Skipped (o : Order) (st : State) (u : List ℕ) (byte bit : ℕ) : Type 0 where
  pub whole : bit ≡ 8 * byte
  pub laid : mk u bit 0 ≡ lay o st (dig o (skipped st.place) 0)

-- a field of m + n bits taken apart: x is the field of its first m bits, y that of its last n
pub record Split (o : Order) (m n v x y : ℕ) : Type 0 where
  pub glued : v ≡ glue o m n x y
  pub first : x < 2 ^ m
  pub last : y < 2 ^ n
