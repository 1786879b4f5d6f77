-- The place of the next tag in file order, as the code finds it in a file that was judged: a container's list starts behind its own part, and any other
-- tag's body has no tag in it.
use Rattle.std.specs.Prelude.{ℕ, ◌+◌, ◌≤◌, ◌≡◌, Bool, List, length, get_or, take, drop}
use Rattle.format.specs.Tests.{pick}
use Rattle.format.specs.Bits.{Order}
use Rattle.format.specs.Reading.{Ending, At, Fault}
use Rattle.format.specs.Items.{to_byte}
use Rattle.format.specs.Bodies.{Body}
use Rattle.format.specs.FileAndTags.{class_of, Tag, Walk, whole, file, walk_list}
use Rattle.bodies.specs.Leaf.{container_body, has_list_in, own_part}
use Rattle.classes.specs.declared.Class.{Class}
use Rattle.classes.specs.declared.Class.TheVariants.{Opaque, End, Container, Fixed, Attributes}

-- where the tags inside a container start in its body of n bytes, whose own part ended so: behind that part; without a list none do, and the body ends
abbrev pub list_start : Bool → ℕ → Ending → ℕ
list_start list n (At p) = pick list (to_byte p) n
list_start list n (Fault e) = n

abbrev pub start_in : Order → Body → List ℕ → ℕ
start_in o y body = list_start (has_list_in o y body) (length body) (own_part o y body).ended

abbrev pub list_in : Order → ℕ → List ℕ → ℕ
list_in o code body = start_in o (container_body code) body

-- behind the header, which ends at s, of a tag of this class
abbrev pub next_by : Order → Class → ℕ → ℕ → ℕ → List ℕ → ℕ
next_by o Opaque code len s f = s + len
next_by o End code len s f = s + len
next_by o Container code len s f = s + list_in o code (take len (drop s f))
next_by o Fixed code len s f = s + len
next_by o Attributes code len s f = s + len

-- no count is above this
abbrev pub NoneAbove : ℕ → List ℕ → Type 0
NoneAbove most ns = (i : ℕ) → get_or ns i 0 ≤ most

-- the walk of a file behind its header, in an order
abbrev pub walk_in : Order → ℕ → List ℕ → Walk
walk_in o level f = walk_list o (class_of level) 8 file 9 (drop 9 f)

abbrev pub tags_in : Order → ℕ → List ℕ → List Tag
tags_in o level f = (walk_in o level f).tags

-- the file was judged, and it is good
pub record Good (o : Order) (level : ℕ) (f : List ℕ) : Type 0 where
  pub ended : (walk_in o level f).ended ≡ whole
  pub long : 9 ≤ length f
  pub limit : length f ≤ 16777216
