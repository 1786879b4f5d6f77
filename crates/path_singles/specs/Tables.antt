-- Document 02, C-23: the tags of a file with singles for path coordinates, and the refusal. f is the file.
use Rattle.std.specs.Prelude.{ℕ, List, [], ◌∷◌, map, ◌≡◌}
use Rattle.format.specs.Tests.{pick}
use Rattle.format.specs.Bits.{high}
use Rattle.format.specs.FileAndTags.{Tag, Walk}
use Rattle.format.specs.TableOfNumbers.{is_opaque, body_in, showing}
use Rattle.format.specs.Reasons.{Answer, accepted, refused, gives, read_file, read_tags}
use Rattle.attributes.specs.Rows.{attributes_of}
use Rattle.path_singles.specs.Coordinates.{Singled, plain, block}

-- a tag's values, by its state, its code and its body: an opaque tag has no coordinates
unfoldable pub values_by : ℕ → ℕ → List ℕ → List ℕ → Singled
values_by state code b vs = pick (is_opaque state) (plain vs) (block high b (attributes_of code) (attributes_of code) 0 vs)

abbrev pub singled_tag : List ℕ → Tag → Singled
singled_tag f t = values_by t.state t.code (body_in f t) t.values

abbrev pub with_singles : List ℕ → Tag → Tag
with_singles f t = showing t (singled_tag f t).shown

-- the walk with singles for path coordinates; the tags are the same
abbrev pub in_singles : List ℕ → Walk → Walk
in_singles f w = record { tags = map (with_singles f) w.tags; ended = w.ended }

-- ---- "in the listing it refuses the file after all others, with the place of the first such tag"
abbrev pub judged : List ℕ → List Tag → Answer
judged f [] = accepted 0
judged f (t ∷ ts) = pick (singled_tag f t).beyond (refused 29 t.place) (judged f ts)

-- the two tables of the file, at level 1023 and high first
abbrev pub TablesOf : List ℕ → List ℕ → List ℕ → Type 0
TablesOf f t g = (read_file 0 1023 f ≡ gives t) × (read_tags 0 1023 f ≡ gives g)
