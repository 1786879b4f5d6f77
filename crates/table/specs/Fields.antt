-- The kinds of bit fields that stand in runs, and their formats.
use Rattle.std.specs.Prelude.{◌≡◌, ℕ, ◌+◌, ◌-◌, ◌*◌, ◌^◌, ◌<◌, ◌≤◌, List, [], ◌∷◌, Bool, true, false, ltb, leb, eqb, Result, Ok, Err}
use Rattle.format.specs.Tests.{pick}
use Rattle.format.specs.Bits.{Order}
use Rattle.format.specs.Reading.{Fault}
use Rattle.format.specs.Formats.{Item, Format, item, only, the, times}
use Rattle.format.specs.Items.{Num, num, bad, by_verb, coordinates_of, run}
use Rattle.bits.specs.Places.{PlaceIn}
use Rattle.table.specs.State.{State, shown_over}
use Rattle.table.specs.declared.fields.Field.{Field}
use Rattle.table.specs.declared.fields.Field.TheVariants.{Verb, Interpolation, SpatialFlag, Plain, ByteValue, Coordinate}
use Rattle.table.specs.declared.fields.Stopped.{Stopped}
use Rattle.reasons.specs.declared.Reason.{Reason}

-- what a field's number may be: an interpolation is not 0, and a byte value at most 255
abbrev pub allows : Field → ℕ → Bool
allows Verb v = true
allows Interpolation v = ltb 0 v
allows SpatialFlag v = true
allows Plain v = true
allows ByteValue v = leb v 255
allows Coordinate v = true

abbrev pub judge_num : Field → Num → Num
judge_num f (num v p) = pick (allows f v) (num v p) (bad 16)
judge_num f (bad e) = bad e

-- one field of w bits
abbrev pub field_of : Field → ℕ → Format
field_of Verb w = item (Item.UB w)
field_of Interpolation w = only (λ ns. ltb 0 (the ns)) 16 (item (Item.UB w))
field_of SpatialFlag w = item (Item.UB w)
field_of Plain w = item (Item.UB w)
field_of ByteValue w = only (λ ns. leb (the ns) 255) 16 (item (Item.UB w))
field_of Coordinate w = item (Item.SB w)

-- a coordinate is signed, and nothing else is
abbrev pub signed : Field → Bool
signed Verb = false
signed Interpolation = false
signed SpatialFlag = false
signed Plain = false
signed ByteValue = false
signed Coordinate = true

-- a field of this kind and width shows whatever its bits are: a byte value does in eight bits or fewer
abbrev pub shows_all : Field → ℕ → Bool
shows_all Verb w = true
shows_all Interpolation w = false
shows_all SpatialFlag w = true
shows_all Plain w = true
shows_all ByteValue w = leb w 8
shows_all Coordinate w = true

-- how many signed fields a field of this kind and value announces: a verb its coordinates, a Bezier frame four, a set spatial flag two
abbrev pub announces : Field → ℕ → ℕ
announces Verb v = coordinates_of v
announces Interpolation v = pick (eqb v 2) 4 0
announces SpatialFlag v = pick (eqb v 1) 2 0
announces Plain v = 0
announces ByteValue v = 0
announces Coordinate v = 0

abbrev pub announced : Field → List ℕ → ℕ
announced f [] = 0
announced f (v ∷ vs) = announces f v + announced f vs

-- the same for the numbers 0 to 7, as a list; a greater one announces nothing
abbrev pub weights : Field → List ℕ
weights Verb = by_verb
weights Interpolation = 0 ∷ 0 ∷ 4 ∷ 0 ∷ 0 ∷ 0 ∷ 0 ∷ 0 ∷ []
weights SpatialFlag = 0 ∷ 2 ∷ 0 ∷ 0 ∷ 0 ∷ 0 ∷ 0 ∷ 0 ∷ []
weights Plain = 0 ∷ 0 ∷ 0 ∷ 0 ∷ 0 ∷ 0 ∷ 0 ∷ 0 ∷ []
weights ByteValue = 0 ∷ 0 ∷ 0 ∷ 0 ∷ 0 ∷ 0 ∷ 0 ∷ 0 ∷ []
weights Coordinate = 0 ∷ 0 ∷ 0 ∷ 0 ∷ 0 ∷ 0 ∷ 0 ∷ 0 ∷ []

-- an engine's place p and index k: so far a number was stored for each bit at most, so that no index can wrap
abbrev pub Fits : List ℕ → ℕ → ℕ → Type 0
Fits b p k = PlaceIn b p × (k ≤ p + 2 ^ 62)

-- what the code tells of a run of fields: how many signed fields are announced, where it stopped by those before; and why it stopped
abbrev pub sum_told : Result ℕ Stopped → ℕ
sum_told (Ok n) = n
sum_told (Err s) = s.announced

abbrev pub reason_told : Result ℕ Stopped → Result ℕ Reason
reason_told (Ok n) = Ok n
reason_told (Err s) = Err s.why

-- of n fields of w bits, for every n of which m stand in the bytes, those m were read from p on, and laid over the table t from index k: they announce a number of signed fields, and the others are still to
-- be read, over the table u; or only i of them, which announce so many, and the next is not allowed
abbrev pub LaysFields : Order → Field → ℕ → List ℕ → List ℕ → ℕ → ℕ → ℕ → List ℕ → Result ℕ (ℕ × ℕ) → Type 0
LaysFields o f w b t k p m u (Ok sum) = (n : ℕ) → m ≤ n → (shown_over t k (run o b (times n (field_of f w)) p) ≡ shown_over u (k + m) (run o b (times (n - m) (field_of f w)) (p + m * w)))
    × (announced f (run o b (times n (field_of f w)) p).shown ≡ sum + announced f (run o b (times (n - m) (field_of f w)) (p + m * w)).shown) × (sum ≤ 6 * m)
LaysFields o f w b t k p m u (Err (i, sum)) = (i < m) × ((n : ℕ) → m ≤ n → (◌≡◌ {A = State} (record { table = u; count = k + i; ended = Fault 16 }) (shown_over t k (run o b (times n (field_of f w)) p)))
    × ((sum ≡ announced f (run o b (times n (field_of f w)) p).shown) × (sum ≤ 6 * n)))
