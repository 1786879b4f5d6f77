-- What a call on a reader does: in the words of the definitions, with the table that it leaves as a state.
use Rattle.std.specs.Prelude.{◌≡◌, ℕ, ◌+◌, ◌-◌, ◌*◌, ◌^◌, ◌≤◌, List, length, set, Option, Some, None, Result, Ok, Err, IfOk, ltb, ◌<◌}
use Rattle.format.specs.Reading.{Ending, At, Fault}
use Rattle.format.specs.Formats.{Format}
use Rattle.format.specs.Items.{run, read_text, show_text}
use Rattle.reasons.specs.declared.Reason.{Reason}
use Rattle.reasons.specs.declared.Reason.TheVariants.{ItemPastTheBody, UnlistedValue}
use Rattle.format.specs.Tests.{pick}
use Rattle.reasons.specs.Numbers.{number_of}
use Rattle.bits.specs.Places.{order_of, InEither}
use Rattle.bits.specs.declared.Number.{Number}
use Rattle.bits.specs.declared.BitPlace.{BitPlace}
use Rattle.bits.specs.declared.whole.Whole.{Whole}
use Rattle.table.specs.State.{State, shown_over}
use Rattle.table.specs.declared.reader.Reader.{Reader}

-- how a reading ended: at a place, or by a reason
abbrev pub ending_of : {A : Type 0} → BitPlace → Result A Reason → Ending
ending_of p (Ok x) = At p.0
ending_of p (Err e) = Fault (number_of e)

-- what a call leaves
abbrev pub state_of : {A : Type 0} → Reader → Result A Reason → State
state_of r a = record { table = r.table.now; count = r.index; ended = ending_of r.place a }

-- the same bytes in the same order, and the same lent table
pub record Same (old new : Reader) : Type 0 where
  pub order : new.order ≡ old.order
  pub body : new.body.now ≡ old.body.now
  pub lent : new.table.ghost_name ≡ old.table.ghost_name

-- so far a number was stored for each bit at most, so that no index can wrap. It is no part of the type: a String that is cut at the end of its body shows a length without a bit of its own
abbrev pub Room : Reader → Type 0
Room r = r.index ≤ r.place.0 + 2 ^ 62

-- the format f was read from the reader's place: what it shows is laid over the table from the reader's index on
pub record Reads {A : Type 0} (old new : Reader) (a : Result A Reason) (f : Format) : Type 0 where
  pub same : Same old new
  pub left : state_of new a ≡ shown_over old.table.now old.index (run (order_of old.order) old.body.now f old.place.0)
  pub room : IfOk a (λ x. Room new)

-- only the table is another
pub record Kept (old new : Reader) : Type 0 where
  pub same : Same old new
  pub place : new.place ≡ old.place
  pub index : new.index ≡ old.index

-- it stops with 16 behind m fields, which were stored
pub record Stops (old new : Reader) (m : ℕ) (a : Reason) : Type 0 where
  pub same : Same old new
  pub table : new.table.now ≡ old.table.now
  pub index : new.index ≡ old.index + m
  pub told : a ≡ UnlistedValue

-- one number was shown
pub record Shown (old new : Reader) (n : Number) : Type 0 where
  pub same : Same old new
  pub table : new.table.now ≡ set old.table.now old.index n.value
  pub index : new.index ≡ old.index + 1
  pub place : new.place ≡ n.next

-- the bytes of a text were laid over the table t from index k on, behind their count: so many, which a zero byte ends, or all that are left; u is the table then
abbrev pub text_left : List ℕ → Whole → ℕ → List ℕ → Option ℕ → State
text_left b w k u (Some n) = record { table = u; count = k + 1 + n; ended = At (w.bit.0 + 8 * n + 8) }
text_left b w k u None = record { table = u; count = k + 1 + (length b - w.byte.0); ended = Fault 13 }

abbrev pub LaysText : List ℕ → Whole → List ℕ → ℕ → List ℕ → Option ℕ → Type 0
LaysText b w t k u r = InEither (λ o. text_left b w k u r ≡ shown_over t k (show_text (read_text o b w.bit.0 (length b))))

-- m of n fields of w bits stand in the bytes behind the reader's place
abbrev pub Passable : Reader → ℕ → ℕ → ℕ → Type 0
Passable r w m n = Room r × (1 ≤ w) × (m ≤ n) × (n < 2 ^ 32) × (r.place.0 + m * w ≤ 8 * length r.body.now)

-- they are passed over; where one of the n does not stand there, that is 13
pub record Passes (old new : Reader) (w m n : ℕ) (a : Result (Unit {0}) Reason) : Type 0 where
  pub same : Same old new
  pub table : new.table.now ≡ old.table.now
  pub index : new.index ≡ old.index + m
  pub place : new.place.0 ≡ old.place.0 + m * w
  pub told : a ≡ pick (ltb m n) (Err ItemPastTheBody) (Ok tt)
