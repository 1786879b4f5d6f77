-- What the definitions' writing does to an output and a sink.
-- What cannot be written leaves an output of which nothing is said.
use Rattle.std.specs.Prelude.{◌≡◌, ℕ, ◌+◌, ◌*◌, ◌≤◌, Bool, List, length, drop, nat_le}
use Rattle.format.specs.Tests.{pick}
use Rattle.format.specs.Bits.{Order}
use Rattle.format.specs.Formats.{Format}
use Rattle.format.specs.Possible.{Possible, this, cannot}
use Rattle.format.specs.WritingItems.{Written, wrote}
use Rattle.format.specs.WritingFormats.{unrun}
use Rattle.sink.specs.Laying.{State, lay, Holds}
use Rattle.sink.specs.declared.Sink.{Sink}

-- one number
abbrev pub bits_over : Order → State → Possible (List Bool) → Possible State
bits_over o st (this bs) = this (lay o st bs)
bits_over o st cannot = cannot

-- some values: the state after them, and the index of the next one
pub data Seen : Type 0 where
  here : State → ℕ → Seen

-- in bits: no file is longer
abbrev pub limit : ℕ
limit = 134217728

unfoldable pub ends : State → ℕ → Possible Seen
ends st k = pick (nat_le st.place limit) (this (here st k)) cannot

unfoldable pub written_over : Order → State → ℕ → Possible Written → Possible Seen
written_over o st k (this (wrote xs bs ys)) = ends (lay o st bs) (k + length xs)
written_over o st k cannot = cannot

-- a format written from index k of the values t
unfoldable pub ran : Order → List ℕ → State → ℕ → Format → Possible Seen
ran o t st k f = written_over o st k (unrun o f (drop k t) st.place)

-- a sink that code may go on with
abbrev pub Fine : Sink → Type 0
Fine s = Holds s.place.0 s.part × (s.place.0 ≤ limit)

-- a whole byte, in the two counts
abbrev pub OnByte : ℕ → ℕ → Type 0
OnByte byte bit = (bit ≡ 8 * byte) × (bit ≤ limit)
