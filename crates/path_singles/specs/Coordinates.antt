-- Document 02, C-23: "a form that prints these bits for path coordinates in place of steps". Where path coordinates stand among the values of a tag, and the
-- values with their bits. Document 01 says how the numbers of a path, of keyframed content and of an attribute block follow one another.
use Rattle.std.specs.Prelude.{ℕ, zero, suc, ◌+◌, Bool, true, false, List, [], ◌∷◌, ◌++◌, map, length, get_or, take, drop, eqb}
use Rattle.format.specs.Tests.{pick, ◌and◌, ◌or◌}
use Rattle.format.specs.Bits.{Order}
use Rattle.format.specs.Items.{coordinates, run}
use Rattle.format.specs.Bodies.{Kind, Value, Fixed, BitFlag, Simple, Discrete, MultiDimension, Spatial, Custom, DataType, U32s, Times, Floats, Ratios, Bools, Bytes, BlendModes, Paths, Points, Colors, GradientColors, Enums, Dashes, TagBlocks, Attribute, all_flags, rows, hand_on}
use Rattle.format.specs.Reasons.{Answer, accepted, refused}
use Rattle.singles.specs.Single.{of_number}

-- ---- A step's number, and its bits in place of it. A step beyond the range of singles stays; it refuses the file (`judged` of Listing)
abbrev pub bits_of : ℕ → Answer → ℕ
bits_of n (accepted bits) = bits
bits_of n (refused e k) = n

abbrev pub as_single : ℕ → ℕ
as_single n = bits_of n (of_number n)

abbrev pub is_refused : Answer → Bool
is_refused (accepted n) = false
is_refused (refused e n) = true

abbrev pub is_beyond : ℕ → Bool
is_beyond n = is_refused (of_number n)

unfoldable pub any_beyond : List ℕ → Bool
any_beyond [] = false
any_beyond (n ∷ ns) = is_beyond n or any_beyond ns

-- numbers, with the bits of singles for the coordinates among them; and whether one of these is beyond
pub record Singled : Type 0 where
  pub shown : List ℕ
  pub beyond : Bool

-- no coordinates
abbrev pub plain : List ℕ → Singled
plain ns = record { shown = ns; beyond = false }

-- the numbers xs, which are no coordinates, the coordinates cs, and then s
abbrev pub joined : List ℕ → List ℕ → Singled → Singled
joined xs cs s = record { shown = xs ++ (map as_single cs ++ s.shown); beyond = any_beyond cs or s.beyond }

-- ---- Path: verb count, verbs, width, coordinates (by verb). m paths in turn
unfoldable pub paths : ℕ → List ℕ → Singled
paths zero ns = plain ns
paths (suc m) [] = plain []
paths (suc m) (n ∷ ns) =
    joined (n ∷ take (suc n) ns) (take (coordinates (take n ns)) (drop (suc n) ns)) (paths m (drop (coordinates (take n ns)) (drop (suc n) ns)))

-- ---- Keyframed content, with n frames: n, n interpolations, n + 1 times, n + 1 values; then easing, which has no coordinates
unfoldable pub frames : List ℕ → Singled
frames [] = plain []
frames (n ∷ ns) = joined (n ∷ take (n + suc n) ns) [] (paths (suc n) (drop (n + suc n) ns))

-- ---- An attribute's content, by its flag number: 0 none, 1 a value, 3 keyframed
unfoldable pub content : ℕ → List ℕ → Singled
content φ ns = pick (eqb φ 0) (plain ns) (pick (eqb φ 1) (paths 1 ns) (frames ns))

-- ---- Paths are Simple attributes, of masks (14) and (C-24) of ShapePaths (19); every attribute list has its kinds and data types
abbrev pub is_simple : Kind → Bool
is_simple Value = false
is_simple Fixed = false
is_simple BitFlag = false
is_simple Simple = true
is_simple Discrete = false
is_simple MultiDimension = false
is_simple Spatial = false
is_simple Custom = false

abbrev pub is_paths : DataType → Bool
is_paths U32s = false
is_paths Times = false
is_paths Floats = false
is_paths Ratios = false
is_paths Bools = false
is_paths Bytes = false
is_paths BlendModes = false
is_paths Paths = true
is_paths Points = false
is_paths Colors = false
is_paths GradientColors = false
is_paths (Enums top) = false
is_paths Dashes = false
is_paths TagBlocks = false

abbrev pub is_path : Attribute → Bool
is_path a = is_simple a.kind and is_paths a.data_type

-- the numbers that the first i attributes of a block show, whose body is b
unfoldable pub earlier : Order → List ℕ → List Attribute → ℕ → List ℕ
earlier o b attrs i = (hand_on (run o b (all_flags attrs) 0).shown (run o b (all_flags attrs) 0).ended (λ φs p. run o b (rows (take i attrs) φs) p)).shown

-- the values vs, with the content behind the flag number at index k
unfoldable pub behind_flag : ℕ → List ℕ → Singled
behind_flag k vs = joined (take (suc k) vs) [] (content (get_or vs k 0) (drop (suc k) vs))

-- and so on with what is shown
abbrev pub onward : Singled → (List ℕ → Singled) → Singled
onward s next = record { shown = (next s.shown).shown; beyond = s.beyond or (next s.shown).beyond }

-- the values vs of a block with the attributes attrs, from some attribute on, of which the first has number i
unfoldable pub block : Order → List ℕ → List Attribute → List Attribute → ℕ → List ℕ → Singled
block o b attrs [] i vs = plain vs
block o b attrs (a ∷ more) i vs = pick (is_path a) (onward (behind_flag (length (earlier o b attrs i)) vs) (block o b attrs more (suc i))) (block o b attrs more (suc i) vs)
