-- Document 02, C-15: canvas size first, sentence by sentence. The walk is that of Reasons (`walk_file`): its tags in file order, at any depth, and how it ended.
use Rattle.std.specs.Prelude.{ℕ, zero, suc, ◌+◌, List, [], ◌∷◌, Bool, not, length, take, drop, leb, eqb}
use Rattle.format.specs.Tests.{pick, ◌and◌}
use Rattle.format.specs.FileAndTags.{Tag, Outcome, whole, fault, Walk}
use Rattle.format.specs.TableOfNumbers.{is_opaque}
use Rattle.format.specs.Reasons.{walk_file}

-- ---- The catalogue page needs only the first CompositionAttributes that isn't opaque, in file order and at any depth. (Its code is 3; a state that is odd
-- isn't opaque.)
abbrev pub is_canvas : ℕ → ℕ → Bool
is_canvas code state = eqb code 3 and not (is_opaque state)

-- what is answered: its values; 'none'; or a reason and its second number
pub data Seen : Type 0 where
  found : List ℕ → Seen
  none : Seen
  refused : ℕ → ℕ → Seen

-- ---- The answer also reports how many tag headers were read.
pub record Canvas : Type 0 where
  pub seen : Seen
  pub headers : ℕ

abbrev pub canvas : Seen → ℕ → Canvas
canvas s n = record { seen = s; headers = n }

-- n headers more
abbrev pub more : ℕ → Canvas → Canvas
more n c = canvas c.seen (n + c.headers)

-- ---- Answer its values from a walk that stops there, without judging the rest.

-- The walk is at the tag that it looks for, which has the values vs; the tags ts follow in the whole walk, and it ended so. A fault inside that tag's body is
-- one: then no tag follows, and the reason is one of bodies (13 to 18). All else comes later, and is not judged.
abbrev pub seen_in : List ℕ → List Tag → Outcome → Seen
seen_in vs [] (fault e n) = pick (leb 13 e) (refused e n) (found vs)
seen_in vs [] whole = found vs
seen_in vs (t ∷ ts) z = found vs

-- there is no such tag: none, or the fault
abbrev pub ended_as : Outcome → Seen
ended_as whole = none
ended_as (fault e n) = refused e n

-- ---- This number equals the count of tags up to and including the one found in file order, or of all tags for "none"; for a fault, of the headers that passed
-- 6 to 10 and 12 before it (a tag of a walk is one whose header passed), 0 for reasons 1 to 5 (and 24: then there is no tag).
unfoldable pub canvas_in : List Tag → Outcome → Canvas
canvas_in [] z = canvas (ended_as z) 0
canvas_in (t ∷ ts) z = more 1 (pick (is_canvas t.code t.state) (canvas (seen_in t.values ts z) 0) (canvas_in ts z))

abbrev pub canvas_of : Walk → Canvas
canvas_of w = canvas_in w.tags w.ended

-- ---- Refusals: those of the reader but 19.
abbrev pub canvas_file : ℕ → ℕ → List ℕ → Canvas
canvas_file order level f = canvas_of (walk_file order level f)

-- ---- For every file that the full reader accepts at that level, the answer equals the one taken from the full table, "none" included: taken from the table's
-- numbers alone. Each tag has its code, its state, the count of its values, and the values; k bounds the number of tags.
unfoldable pub in_numbers : ℕ → List ℕ → Canvas
in_numbers zero ns = canvas none 0
in_numbers (suc k) [] = canvas none 0
in_numbers (suc k) (code ∷ []) = canvas none 0
in_numbers (suc k) (code ∷ s ∷ []) = canvas none 0
in_numbers (suc k) (code ∷ s ∷ n ∷ ns) = more 1 (pick (is_canvas code s) (canvas (found (take n ns)) 0) (in_numbers k (drop n ns)))

-- the compression byte stands before the tags' numbers
abbrev pub in_table : List ℕ → Canvas
in_table [] = canvas none 0
in_table (comp ∷ ns) = in_numbers (length ns) ns
