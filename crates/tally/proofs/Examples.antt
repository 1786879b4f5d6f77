-- The definitions, tried on files that were worked out by hand.
use Prim.Native.Nat.{ℕ}
use mathlib.Core.List.{List, [], ◌∷◌}
use mathlib.Core.Bool.{true, false}
use mathlib.Core.Path.{◌≡◌, refl}
use lib.ListN.{get_or, set, replicate}
use Rattle.format.specs.Bits.{bit_at, ub}
use Rattle.format.specs.Items.{read_var, read_item, run}
use Rattle.format.specs.Bodies.{read_part}
use Rattle.format.specs.FileAndTags.{eights, class_of, walk}
use Rattle.format.specs.Reasons.{accepted, refused, start_fault, walk_file}
use Rattle.tally.specs.OwnBytes.{own_bytes}
use Rattle.tally.specs.Adding.{at_zero, adds, is_full, Left, adding}
use Rattle.tally.specs.declared.Tally.{Tally}

-- a tally with the header count h and the count n of code k
abbrev counted : ℕ → ℕ → ℕ → Tally
counted h k n = record { counts = set (replicate 1024 0) k n; headers = h }

-- A file of 32 bytes: its header (9); a composition (2) with a long header (6) and its id in two bytes, in it a layer (5) with a header (2), its type and
-- its id (1 and 1), in that an opaque tag of code 4 with a header (2) and three bytes, and End (2); End (2); End (2). So 2 has 8 bytes, 5 has 4, 4 has 5, and
-- End has 6.
nested : List ℕ
nested =
    0x50 ∷ 0x41 ∷ 0x47 ∷ 1 ∷ 32 ∷ 0 ∷ 0 ∷ 0 ∷ 0
    ∷ 0xBF ∷ 0 ∷ 15 ∷ 0 ∷ 0 ∷ 0 ∷ 0x80 ∷ 1
    ∷ 0x49 ∷ 1 ∷ 7 ∷ 1
    ∷ 3 ∷ 1 ∷ 10 ∷ 20 ∷ 30
    ∷ 0 ∷ 0
    ∷ 0 ∷ 0
    ∷ 0 ∷ 0 ∷ []

added : Left
added = adding 0 1023 at_zero nested

-- at level 4 the layer is opaque, and its 11 bytes are its own
lower : Left
lower = adding 0 4 at_zero nested

nested_answer : added.answer ≡ accepted 32
unfolding added adding walk_file start_fault class_of walk nested read_part run read_item read_var ub bit_at is_full eights
nested_answer = refl

nested_counts : (added.tally.headers ∷ get_or added.tally.counts 0 0 ∷ get_or added.tally.counts 2 0 ∷ get_or added.tally.counts 4 0 ∷ get_or added.tally.counts 5 0 ∷ []) ≡ 9 ∷ 6 ∷ 8 ∷ 5 ∷ 4 ∷ []
unfolding added adding walk_file start_fault class_of walk nested read_part run read_item read_var ub bit_at is_full eights adds own_bytes
nested_counts = refl

lower_counts : (get_or lower.tally.counts 0 0 ∷ get_or lower.tally.counts 2 0 ∷ get_or lower.tally.counts 4 0 ∷ get_or lower.tally.counts 5 0 ∷ []) ≡ 4 ∷ 8 ∷ 0 ∷ 11 ∷ []
unfolding lower adding walk_file start_fault class_of walk nested read_part run read_item read_var ub bit_at is_full eights adds own_bytes
lower_counts = refl

-- 25 comes first: the file is too short, the level too high and the order neither
full_first : (adding 9 2000 (counted 9000000 0 0) []).answer ≡ refused 25 0
unfolding adding is_full
full_first = refl

-- a count at the limit is still taken, one above it is not
at_limit : is_full (counted 8999991 7 16777216000000) ≡ false
unfolding is_full
at_limit = refl

above_limit : is_full (counted 0 7 16777216000001) ≡ true
unfolding is_full
above_limit = refl
