-- What may come after a list.
use Rattle.std.specs.Prelude.{ℕ}
use Rattle.bits.specs.declared.BytePlace.{BytePlace}

-- the next index of the table and of the tag table; or a reason and its second number, a place in the file
pub data Walked : Type 0 where
  Next : ℕ → ℕ → Walked
  Fault : ℕ → BytePlace → Walked
