-- What reading a tag list leaves: the lent table, the lent tag table, and the answer.
use Rattle.std.specs.Prelude.{ℕ, ◌≡◌, ◌+◌, ◌-◌, ◌*◌, ◌/◌, ◌≤◌, Bool, Option, Some, None, Result, Ok, Err, List, [], ◌∷◌, length, take, drop, eqb}
use Rattle.std.proofs.lemmas.List.Edits.{sets}
use Rattle.format.specs.Bits.{Order}
use Rattle.format.specs.Tests.{pick}
use Rattle.format.specs.Reading.{Ending, At, Reading}
use Rattle.format.specs.Reading as reading
use Rattle.format.specs.Items.{to_byte}
use Rattle.format.specs.FileAndTags as paper
use Rattle.format.specs.FileAndTags.{le16, state_of, Outcome, whole, fault, Walk, blame}
use Rattle.format.specs.TableOfNumbers.{numbers, tag_table}
use Rattle.classes.specs.Classes.{bare}
use Rattle.classes.specs.declared.Class.{Class}
use Rattle.classes.specs.declared.Class.TheVariants.{Opaque, End, Container, Fixed, Attributes}
use Rattle.headers.specs.Heads.{head_by}
use Rattle.bits.specs.declared.BytePlace.{BytePlace}
use Rattle.tags.specs.Lent.{class_in}
use Rattle.tags.specs.Shown.{values_of, list_of, headed}
use Rattle.reasons.specs.declared.Reason.{Reason}
use Rattle.reasons.specs.Numbers.{number_of}
use Rattle.lists.specs.Walks.{Walked}
use Rattle.lists.specs.Walks as walked
use Rattle.lists.specs.Steps.{Step}
use Rattle.lists.specs.Steps as step
use Rattle.lists.specs.declared.Fault.{Fault}
use Rattle.lists.specs.declared.Lent.{Lent}
use Rattle.lists.specs.declared.Step.{Step as Told}
use Rattle.lists.specs.declared.Step.TheVariants as told

abbrev pub owner_of : Option BytePlace → paper.Owner
owner_of None = paper.file
owner_of (Some c) = paper.inside c.0

-- the byte place n
abbrev pub byte_at : ℕ → BytePlace
byte_at n = record { 0 = n }

-- ---- one tag

-- its code, state, count and values; its header has this size
abbrev pub tag_shown : Order → Class → ℕ → ℕ → ℕ → List ℕ → Reading
tag_shown o class code len size body = headed code (state_of (bare class) size len) (values_of o class code body)

-- what comes after it, if it has no list: it ends at `stop`
abbrev pub next_by : Class → BytePlace → Told
next_by Opaque stop = told.Next stop
next_by End stop = told.Last stop
next_by Container stop = told.Next stop
next_by Fixed stop = told.Next stop
next_by Attributes stop = told.Next stop

-- what the code tells of a tag, with the next index j
abbrev pub step_with : ℕ → Told → Step
step_with j (told.Next p) = step.Next p j
step_with j (told.Last p) = step.Last p j
step_with j (told.Open l p) = step.Open (record { list = l; stop = p; behind = j })

abbrev pub step_as : ℕ → Result Told Reason → Step
step_as j (Ok x) = step_with j x
step_as j (Err e) = step.Fault (number_of e)

-- by whether it has a list, and how its values ended; its body stands from `start` on
abbrev pub step_of : Class → Bool → ℕ → ℕ → ℕ → Ending → Step
step_of class list start stop j (At p) =
    pick list (step.Open (record { list = byte_at (start + to_byte p); stop = byte_at stop; behind = j })) (step_with j (next_by class (byte_at stop)))
step_of class list start stop j (reading.Fault e) = step.Fault e

pub record Stepped : Type 0 where
  pub table : List ℕ
  pub rows : List ℕ
  pub step : Step

abbrev pub stepped : List ℕ → List ℕ → Step → Stepped
stepped t g x = record { table = t; rows = g; step = x }

-- the tag at i of the list r, which stands at place a: its numbers over the table t from index k on, its row over the tag table g from index m on
abbrev pub tag_at : Order → Class → ℕ → ℕ → List ℕ → ℕ → List ℕ → ℕ → List ℕ → ℕ → paper.Head → Stepped
tag_at o class depths a r i t k g m (paper.no_head e) = stepped t g (step.Fault e)
tag_at o class depths a r i t k g m (paper.head code len size) =
    stepped (sets t k (tag_shown o class code len size (take len (drop size (drop i r)))).shown) (sets g m ((8 - depths) ∷ code ∷ (a + i) ∷ size ∷ len ∷ []))
    (step_of class (list_of o class code (take len (drop size (drop i r)))) (i + size) (i + size + len) (k + length (tag_shown o class code len size (take len (drop size (drop i r)))).shown) (tag_shown o class code len size (take len (drop size (drop i r)))).ended)

-- by its header, and the class that its code has among these
abbrev pub tag_in : Order → List Class → ℕ → ℕ → List ℕ → ℕ → List ℕ → ℕ → List ℕ → ℕ → Stepped
tag_in o ns depths a r i t k g m =
    tag_at o (class_in ns (le16 (drop i r) / 64)) depths a r i t k g m (head_by (class_in ns (le16 (drop i r) / 64)) depths (drop i r))

-- the tables are the same two
pub record SameTables (old new : Lent) : Type 0 where
  pub table : new.table.ghost_name ≡ old.table.ghost_name
  pub rows : new.rows.ghost_name ≡ old.rows.ghost_name

-- what a call left of a tag
pub record Steps (old new : Lent) (a : Result Told Reason) (s : Stepped) : Type 0 where
  pub same : SameTables old new
  pub row : new.row ≡ old.row
  pub left : stepped new.table.now new.rows.now (step_as new.index a) ≡ s

-- how a list ends: well; or a reason, and its second number
abbrev pub ended_by : Result (Unit {0}) Fault → Outcome
ended_by (Ok u) = whole
ended_by (Err f) = fault (number_of f.why) f.place.0

-- after End, which ends at `stop` of the room
abbrev pub last_of : Option BytePlace → ℕ → ℕ → ℕ → Outcome
last_of own a stop room = pick (eqb stop room) whole (fault 11 (blame (owner_of own) (a + stop)))

-- ---- a list

pub record Listed : Type 0 where
  pub table : List ℕ
  pub rows : List ℕ
  pub answer : Walked

abbrev pub listed : List ℕ → List ℕ → Walked → Listed
listed t g x = record { table = t; rows = g; answer = x }

abbrev pub walked_of : ℕ → ℕ → Outcome → Walked
walked_of k m whole = walked.Next k m
walked_of k m (fault e n) = walked.Fault e (byte_at n)

-- a walk's numbers laid over the table t from index k on, and its rows over the tag table g from index m on; what does not fit is dropped
abbrev pub walk_over : List ℕ → ℕ → List ℕ → ℕ → Walk → Listed
walk_over t k g m w =
    listed (sets t k (numbers w.tags)) (sets g m (tag_table w.tags))
    (walked_of (k + length (numbers w.tags)) (m + length (tag_table w.tags)) w.ended)

-- what a call left of a list
pub record Walks (old new : Lent) (a : Result (Unit {0}) Fault) (w : Listed) : Type 0 where
  pub same : SameTables old new
  pub left : listed new.table.now new.rows.now (walked_of new.index new.row (ended_by a)) ≡ w

-- the room ends inside the longest file; a list adds at most 2 ^ 27 to an index, and each depth is one list more
pub record Bounds (depths a n k m : ℕ) : Type 0 where
  pub depth : depths ≤ 8
  pub place : a + n ≤ 16777216
  pub index : k ≤ (9 - depths) * 134217728
  pub row : m ≤ (9 - depths) * 134217728
