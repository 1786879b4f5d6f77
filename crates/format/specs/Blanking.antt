-- (C-20) Opaque bytes reach nothing else: what it is to blank a file, and what then may differ.
use Rattle.std.specs.Prelude.{ℕ, ◌+◌, ◌≤◌, ◌<◌, List, [], ◌∷◌, map, ◌≡◌, true, length, get_or}
use Rattle.format.specs.Tests.{pick}
use Rattle.format.specs.FileAndTags.{Tag}
use Rattle.format.specs.TableOfNumbers.{table, is_opaque, showing, tag_table}
use Rattle.format.specs.Levels.{end_of}
use Rattle.format.specs.Reasons.{walk_file, Result, gives, refuses}

-- ---- Take a file, a level and a room, and change bytes only inside the bodies of opaque tags that the reading passed before it ended.

-- place n is inside the body of an opaque tag of ts: past its header, and before the place after it
pub data InOpaque (n : ℕ) : List Tag → Type 0 where
  here : {t : Tag} {ts : List Tag} → is_opaque t.state ≡ true → t.place + t.header_size ≤ n → n < end_of t → InOpaque n (t ∷ ts)
  later : {t : Tag} {ts : List Tag} → InOpaque n ts → InOpaque n (t ∷ ts)

-- g is the file f with such bytes changed: as long, and the same at every place that is in no opaque body of the tags that the reading of f passed
pub record Blanked (order level : ℕ) (f g : List ℕ) : Type 0 where
  pub long : length g ≡ length f
  pub elsewhere : (n : ℕ) → (InOpaque n (walk_file order level f).tags → ⊥) → get_or g n 0 ≡ get_or f n 0

-- ---- Their tables differ only in the values of those tags. (Of these only in the packed bytes: an opaque tag's first value is its body's length.)

-- index i of a table is a packed byte number of an opaque tag of ts, whose numbers start at index k: it is past the tag's code, state, count and first
-- value, and before the numbers of the next tag
pub data InPacked (i : ℕ) : ℕ → List Tag → Type 0 where
  in_this : {k : ℕ} {t : Tag} {ts : List Tag} → is_opaque t.state ≡ true → k + 4 ≤ i → i < k + (3 + length t.values) → InPacked i k (t ∷ ts)
  in_next : {k : ℕ} {t : Tag} {ts : List Tag} → InPacked i (k + (3 + length t.values)) ts → InPacked i k (t ∷ ts)

-- the tables t and u, the first one of the tags ts, are as long, and the same at every index that is no packed byte number of an opaque tag. (The compression
-- byte stands before the tags' numbers.)
pub record SameBut (ts : List Tag) (t u : List ℕ) : Type 0 where
  pub long : length u ≡ length t
  pub elsewhere : (i : ℕ) → (InPacked i 1 ts → ⊥) → get_or u i 0 ≡ get_or t i 0

-- the values of an opaque tag without its bytes: their count and the first one stay
abbrev pub zeroed : List ℕ → List ℕ
zeroed [] = []
zeroed (n ∷ ws) = n ∷ map (λ w. 0) ws

-- the tag without the bytes of an opaque body
abbrev pub zeroed_tag : Tag → Tag
zeroed_tag t = showing t (pick (is_opaque t.state) (zeroed t.values) t.values)

-- ---- Both are accepted or both are refused, with the same reason and number, and their tables differ only in the values of those tags. The tag tables are
-- equal.
pub record Unreached (order level : ℕ) (f g : List ℕ) : Type 0 where
  pub ended : (walk_file order level g).ended ≡ (walk_file order level f).ended
  -- the same tags in depth, code, place, header size, body length and state, and in their values but for the bytes of opaque ones
  pub tags : map zeroed_tag (walk_file order level g).tags ≡ map zeroed_tag (walk_file order level f).tags
  pub tables : SameBut (walk_file order level f).tags (table f (walk_file order level f)) (table g (walk_file order level g))
  pub tag_tables : tag_table (walk_file order level g).tags ≡ tag_table (walk_file order level f).tags

-- what the two files give: the same refusal, or tables that differ only so
pub data SameResult (ts : List Tag) : Result → Result → Type 0 where
  both_refuse : {e n : ℕ} → SameResult ts (refuses e n) (refuses e n)
  both_give : {t u : List ℕ} → SameBut ts t u → SameResult ts (gives t) (gives u)
