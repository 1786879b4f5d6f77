-- What may come after a tag.
use Rattle.std.specs.Prelude.{ℕ}
use Rattle.bits.specs.declared.BytePlace.{BytePlace}

-- a container whose own numbers are stored: its list has the room from `list` up to `stop`, and `behind` is the next index of the table
pub record Opened : Type 0 where
  pub list : BytePlace
  pub stop : BytePlace
  pub behind : ℕ

-- after a tag that ends at this place of the room, with the next index of the table: another tag may follow; it was End. Or it is a container, whose list is
-- still to be read; or a reason
pub data Step : Type 0 where
  Next Last : BytePlace → ℕ → Step
  Open : Opened → Step
  Fault : ℕ → Step
