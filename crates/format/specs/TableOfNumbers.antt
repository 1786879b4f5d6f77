-- Document 01, 'The table of numbers': what is shown of a file f whose walk is w; and C-17's two forms of it.
use Rattle.std.specs.Prelude.{ℕ, zero, suc, ◌+◌, ◌/◌, ◌%◌, List, [], ◌∷◌, ◌++◌, map, Bool, length, take, drop, eqb}
use Rattle.format.specs.Tests.{pick}
use Rattle.format.specs.FileAndTags.{compression, packed, Tag, Walk}

-- ---- The compression byte, then per tag its code, its state (`state_of`: 1 read, 0 opaque; C-11 adds 2), the count of its values, and the
-- values; a container's children follow it. End is a tag that is read and has no values. (A walk's tags stand in this order, and `within` gives
-- the values: an opaque tag's are its body, packed (C-17); the others' are the items in file order. Negative numbers, widths and Strings: Items. Flags: Bodies.)
abbrev pub numbers : List Tag → List ℕ
numbers [] = []
numbers (t ∷ ts) = t.code ∷ t.state ∷ length t.values ∷ (t.values ++ numbers ts)

abbrev pub table : List ℕ → Walk → List ℕ
table f w = compression f ∷ numbers w.tags

-- ---- Document 01's own table, the plain one: an opaque tag's values are its body bytes. (C-17 packs them; the tags are the same.)

-- an even state
abbrev pub is_opaque : ℕ → Bool
is_opaque s = eqb (s % 2) 0

-- the bytes of a tag's body in the file f
abbrev pub body_in : List ℕ → Tag → List ℕ
body_in f t = take t.body_length (drop (t.place + t.header_size) f)

-- the tag with the values vs
abbrev pub showing : Tag → List ℕ → Tag
showing t vs = record {
  depth = t.depth;
  code = t.code;
  place = t.place;
  header_size = t.header_size;
  body_length = t.body_length;
  state = t.state;
  values = vs;
}

abbrev pub plain_tag : List ℕ → Tag → Tag
plain_tag f t = showing t (pick (is_opaque t.state) (body_in f t) t.values)

abbrev pub plain_table : List ℕ → Walk → List ℕ
plain_table f w = compression f ∷ numbers (map (plain_tag f) w.tags)

-- ---- (C-17) The packed table and the old one determine each other: `pack` and `unpack`, on tables alone.

-- the eight bytes of a number, lowest first
abbrev pub eight_of : ℕ → List ℕ
eight_of w =
    w % 256 ∷ w / 256 % 256 ∷ w / 65536 % 256 ∷ w / 16777216 % 256 ∷ w / 4294967296 % 256 ∷ w / 1099511627776 % 256 ∷ w / 281474976710656 % 256
    ∷ w / 72057594037927936 % 256 ∷ []

unfoldable pub spread : List ℕ → List ℕ
spread [] = []
spread (w ∷ ws) = eight_of w ++ spread ws

-- a body from its packed numbers
abbrev pub unpacked : List ℕ → List ℕ
unpacked [] = []
unpacked (n ∷ ws) = take n (spread ws)

-- the numbers of tags, the values of each opaque one changed by g: an even state says that a tag is opaque, the count says where it ends. k bounds the
-- number of tags
unfoldable pub changed : (List ℕ → List ℕ) → ℕ → List ℕ → List ℕ
changed g zero ns = ns
changed g (suc k) [] = []
changed g (suc k) (code ∷ []) = code ∷ []
changed g (suc k) (code ∷ s ∷ []) = code ∷ s ∷ []
changed g (suc k) (code ∷ s ∷ n ∷ ns) =
    code ∷ s ∷ length (pick (is_opaque s) (g (take n ns)) (take n ns)) ∷ (pick (is_opaque s) (g (take n ns)) (take n ns) ++ changed g k (drop n ns))

abbrev pub changed_table : (List ℕ → List ℕ) → List ℕ → List ℕ
changed_table g [] = []
changed_table g (comp ∷ ns) = comp ∷ changed g (length ns) ns

abbrev pub pack : List ℕ → List ℕ
pack t = changed_table packed t

abbrev pub unpack : List ℕ → List ℕ
unpack t = changed_table unpacked t

-- ---- A second call fills a tag table, five numbers a tag: depth, code, place, header size, body length.
abbrev pub tag_table : List Tag → List ℕ
tag_table [] = []
tag_table (t ∷ ts) = t.depth ∷ t.code ∷ t.place ∷ t.header_size ∷ t.body_length ∷ tag_table ts
