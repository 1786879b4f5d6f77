-- What reading the values of a tag leaves: they start with their body, and end on a whole byte.
use Rattle.std.specs.Prelude.{ℕ, ◌*◌, ◌%◌, ◌^◌, ◌<◌, Bool, true, false, ◌≡◌, Result, Ok, Err, Option, Some, None}
use Rattle.format.specs.Reading.{Reading}
use Rattle.bits.specs.declared.BytePlace.{BytePlace}
use Rattle.reasons.specs.declared.Reason.{Reason}
use Rattle.table.specs.State.{shown_over}
use Rattle.table.specs.Readers.{Same, state_of}
use Rattle.table.specs.declared.reader.Reader.{Reader}

-- a reader at the start of a body, and its index has room
pub record Starts (r : Reader) : Type 0 where
  pub place : r.place.0 ≡ 0
  pub index : r.index < 2 ^ 61

-- a reading of the reader's body is laid over its table, from its index on
pub record Lays {A : Type 0} (old new : Reader) (a : Result A Reason) (r : Reading) : Type 0 where
  pub same : Same old new
  pub left : state_of new a ≡ shown_over old.table.now old.index r

-- whether a list is still to be read, from this byte on: it stands at the bit place p, and without a list p is a whole byte's too
abbrev pub Opens : Bool → ℕ → Result (Option BytePlace) Reason → Type 0
Opens list p (Ok (Some q)) = (list ≡ true) × (p ≡ 8 * q.0)
Opens list p (Ok None) = (list ≡ false) × (p % 8 ≡ 0)
Opens list p (Err e) = Unit {0}

-- the same of a tag that has a list or none: so is the list of one that has one, unless what stands before it was refused
pub record Shows (old new : Reader) (a : Result (Option BytePlace) Reason) (r : Reading) (list : Bool) : Type 0 where
  pub lays : Lays old new a r
  pub opened : Opens list new.place.0 a
