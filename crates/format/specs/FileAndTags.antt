-- Document 01, 'File and tags', sentence by sentence; and from 'What the mark covers' the class of each code at each level.
-- Reading a tag list gives a walk: the tags in file order, and how it ended.
use Rattle.std.specs.Prelude.{ℕ, zero, suc, pred, ◌+◌, ◌-◌, ◌*◌, ◌/◌, ◌%◌, List, [], ◌∷◌, ◌++◌, Bool, true, false, length, get_or, take, drop, ltb, leb, eqb}
use Rattle.format.specs.Tests.{pick, ◌and◌}
use Rattle.format.specs.Bits.{Order}
use Rattle.format.specs.Reading.{Ending, At, Fault, Reading}
use Rattle.format.specs.Formats.{Format, ◌▸◌}
use Rattle.format.specs.Items.{u32, byte, to_byte}
use Rattle.format.specs.Bodies.{font_tables, composition_attributes, solid_color, image_reference, composition_reference, layer_attributes, text_path_option, text_more_option, transform_2d, mask_block, shape_group, rectangle, ellipse, poly_star, shape_path, fill_block, stroke, gradient_fill, gradient_stroke, merge_paths, trim_paths, repeater, round_corners, Body, fixed, attributes, to_end, read_body}

-- ---- Header, 9 bytes: "PAG", version byte (1), length of the whole file as a little-endian 32-bit number, compression byte (reserved: any
-- value is taken and kept). A file has at most 16,777,216 bytes. Tags at depth 0 follow (`walk_file` of Reasons).

-- the little-endian numbers at the start of r
abbrev pub le16 : List ℕ → ℕ
le16 r = get_or r 0 0 + 256 * get_or r 1 0

abbrev pub le32 : List ℕ → ℕ
le32 r = le16 r + 65536 * (get_or r 2 0 + 256 * get_or r 3 0)

abbrev pub le64 : List ℕ → ℕ
le64 r = le32 r + 4294967296 * le32 (drop 4 r)

abbrev pub signature_right : List ℕ → Bool
signature_right f = eqb (get_or f 0 0) 0x50 and eqb (get_or f 1 0) 0x41 and eqb (get_or f 2 0) 0x47

abbrev pub version_right : List ℕ → Bool
version_right f = eqb (get_or f 3 0) 1

abbrev pub length_right : List ℕ → Bool
length_right f = eqb (le32 (drop 4 f)) (length f) and leb (length f) 16777216

abbrev pub compression : List ℕ → ℕ
compression f = get_or f 8 0

-- ---- Tag header: a little-endian 16-bit number; code = number / 64, length = number % 64. Length 63 means that a little-endian 32-bit body
-- length follows; (C-11) any length is taken, so 8 is no longer given. A header that the end of its list's room cuts is 6.

-- code, body length and header size; or a reason
pub data Head : Type 0 where
  head : ℕ → ℕ → ℕ → Head
  no_head : ℕ → Head

-- r is the rest of the list's room
abbrev pub raw_head : List ℕ → Head
raw_head r =
    pick (ltb (length r) 2) (no_head 6)
    (pick (eqb (le16 r % 64) 63)
    (pick (ltb (length r) 6) (no_head 6) (head (le16 r / 64) (le32 (drop 2 r)) 6))
    (head (le16 r / 64) (le16 r % 64) 2))

-- ---- A tag list ends with End: code 0, length 0. Tags 2 and 5 are containers. Body of 2: id (U32), then a tag list. Body of 5: type (one
-- byte, any), id (U32), then a tag list.
abbrev pub vector_composition : Format
vector_composition = u32

abbrev pub layer_block : Format
layer_block = byte ▸ u32

-- what a tag is: carried as bytes; End; a container, with what stands before its list; read. (C-24) "ShapeGroup is a container if its table gives it a tag list": it does.
pub data Class : Type 0 where
  opaque end : Class
  container : Body → Class
  known : Body → Class

-- the codes 0 to 27
abbrev pub codes : List Class
codes =
    end
    ∷ known (fixed font_tables)
    ∷ container (fixed vector_composition)
    ∷ known (fixed composition_attributes)
    ∷ opaque
    ∷ container (fixed layer_block)
    ∷ known (attributes layer_attributes)
    ∷ known (fixed solid_color)
    ∷ opaque
    ∷ known (attributes text_path_option)
    ∷ known (attributes text_more_option)
    ∷ known (fixed image_reference)
    ∷ known (fixed composition_reference)
    ∷ known (attributes transform_2d)
    ∷ known (attributes mask_block)
    ∷ container (attributes shape_group)
    ∷ known (attributes rectangle)
    ∷ known (attributes ellipse)
    ∷ known (attributes poly_star)
    ∷ known (attributes shape_path)
    ∷ known (attributes fill_block)
    ∷ known (attributes stroke)
    ∷ known (attributes gradient_fill)
    ∷ known (attributes gradient_stroke)
    ∷ known (attributes merge_paths)
    ∷ known (attributes trim_paths)
    ∷ known (attributes repeater)
    ∷ known (attributes round_corners)
    ∷ []

-- ---- ('What the mark covers') Every other tag is opaque; listed tags with a code above the level are opaque too.
unfoldable pub class_of : ℕ → ℕ → Class
class_of level code = pick (ltb level code) opaque (get_or codes code opaque)

abbrev pub is_end : Class → Bool
is_end opaque = false
is_end end = true
is_end (container y) = false
is_end (known y) = false

abbrev pub is_container : Class → Bool
is_container opaque = false
is_container end = false
is_container (container y) = true
is_container (known y) = false

-- ---- ('The table of numbers', C-11) The state of a tag: 1 read, 0 opaque; it gains 2 when a long header carries a body below 63. (The whole
-- body counts, a container's list included; a long header has 6 bytes.)
abbrev pub is_read : Class → ℕ
is_read opaque = 0
is_read end = 1
is_read (container y) = 1
is_read (known y) = 1

abbrev pub long_on_short : ℕ → ℕ → Bool
long_on_short size len = eqb size 6 and ltb len 63

abbrev pub state_of : Class → ℕ → ℕ → ℕ
state_of class size len = is_read class + pick (long_on_short size len) 2 0

-- ---- A container at depth 8 is refused (12). Before that: the body is longer than the list's rest (9); End has a body (10).

-- depths: how many may still lie below this list
abbrev pub passes : (ℕ → Class) → ℕ → List ℕ → Head → Head
passes class depths r (no_head e) = no_head e
passes class depths r (head code len size) =
    pick (ltb (length (drop size r)) len) (no_head 9)
    (pick (is_end (class code) and ltb 0 len) (no_head 10)
    (pick (is_container (class code) and eqb depths 0) (no_head 12)
    (head code len size)))

abbrev pub read_head : (ℕ → Class) → ℕ → List ℕ → Head
read_head class depths r = passes class depths r (raw_head r)

-- ---- What a walk gives.

-- state: 0 to 3 (`state_of`)
pub record Tag : Type 0 where
  pub depth : ℕ
  pub code : ℕ
  pub place : ℕ
  pub header_size : ℕ
  pub body_length : ℕ
  pub state : ℕ
  pub values : List ℕ

-- whole: the list filled its room exactly. fault: a reason and its second number
pub data Outcome : Type 0 where
  whole : Outcome
  fault : ℕ → ℕ → Outcome

-- a tag whose header passed is in the list, also if its body then faults: with the values shown up to there
pub record Walk : Type 0 where
  pub tags : List Tag
  pub ended : Outcome

-- no tags, and this outcome
abbrev pub no_tags : Outcome → Walk
no_tags z = record { tags = []; ended = z }

abbrev pub broken : ℕ → ℕ → Walk
broken e n = no_tags (fault e n)

-- the tags ts, which ended so, and if that is whole what follows
abbrev pub chain : List Tag → Outcome → Walk → Walk
chain ts whole w = record { tags = ts ++ w.tags; ended = w.ended }
chain ts (fault e n) w = record { tags = ts; ended = fault e n }

-- ---- The list must fill its room exactly.

-- whose list it is: the file's own, or that of the container at this place
pub data Owner : Type 0 where
  file : Owner
  inside : ℕ → Owner

-- the second number of 7 and 11: the container's place; at depth 0 the place a where it happened
abbrev pub blame : Owner → ℕ → ℕ
blame file a = a
blame (inside c) a = c

-- after End the room is used up, else 11
abbrev pub at_end : Owner → ℕ → List ℕ → Walk
at_end c a [] = no_tags whole
at_end c a (x ∷ r) = broken 11 (blame c a)

-- after a tag: nothing more if it is End, else the rest r of the list, at place a
abbrev pub after_tag : Bool → Owner → ℕ → List ℕ → (ℕ → List ℕ → Walk) → Walk
after_tag true c a r next = at_end c a r
after_tag false c a r next = next a r

-- ---- Lists nest, and any tag may stand in any list.

-- what stands in a tag: its values, and the walk of the list inside it
pub record TagInside : Type 0 where
  pub values : List ℕ
  pub walk : Walk

-- a fault of an item has the tag's place a
abbrev pub end_at : ℕ → Ending → Outcome
end_at a (At p) = whole
end_at a (Fault e) = fault e a

-- a tag at place a whose body is items alone
abbrev pub leaf : ℕ → Reading → TagInside
leaf a r = record { values = r.shown; walk = no_tags (end_at a r.ended) }

-- a container whose own numbers are xs has a list; (C-24) one that is an attribute block only where the flag of its last attribute, the TagBlock, is set
abbrev pub has_list : Body → List ℕ → Bool
has_list (fixed f) xs = true
has_list (attributes attrs) xs = eqb (get_or xs (length xs - 1) 0) 1

-- the container at place a, whose own numbers are xs; its list, read by R, starts on the whole byte behind them and has the rest of the body, which stands at s
abbrev pub opened : (Owner → ℕ → List ℕ → Walk) → ℕ → ℕ → List ℕ → List ℕ → Ending → TagInside
opened R a s body xs (At p) = record { values = xs; walk = R (inside a) (s + to_byte p) (drop (to_byte p) body) }
opened R a s body xs (Fault e) = record { values = xs; walk = broken e a }

-- (C-17) Hold an opaque body as its byte length and then eight bytes to a number, lowest byte first, the last number filled with zeros: k numbers,
-- and what stands past the end counts as 0
unfoldable pub eights : ℕ → List ℕ → List ℕ
eights zero b = []
eights (suc k) b = le64 b ∷ eights k (drop 8 b)

abbrev pub packed : List ℕ → List ℕ
packed b = length b ∷ eights ((length b + 7) / 8) b

-- by class: the tag at place a, with its body at s
abbrev pub within : Order → (Owner → ℕ → List ℕ → Walk) → Class → ℕ → ℕ → List ℕ → TagInside
within o R opaque a s body = record { values = packed body; walk = no_tags whole }
within o R end a s body = record { values = []; walk = no_tags whole }
within o R (known y) a s body = leaf a (read_body o y body)
within o R (container y) a s body =
    pick (has_list y (to_end o body y).shown) (opened R a s body (to_end o body y).shown (to_end o body y).ended) (leaf a (read_body o y body))

-- the tag with this header, this state and what stands in it, and the walk w of what follows it
abbrev pub tag_then : ℕ → ℕ → ℕ → ℕ → ℕ → ℕ → TagInside → Walk → Walk
tag_then d code a size len s i w =
    chain (record { depth = d; code = code; place = a; header_size = size; body_length = len; state = s; values = i.values } ∷ i.walk.tags) i.walk.ended w

-- one tag, by its header, and the rest of its list; lists are read by R
abbrev pub one_tag : Order → (ℕ → Class) → (ℕ → Owner → ℕ → List ℕ → Walk) → ℕ → Owner → ℕ → List ℕ → Head → Walk
one_tag o class R depths c a r (no_head e) = broken e a
one_tag o class R depths c a r (head code len size) =
    tag_then (8 - depths) code a size len (state_of (class code) size len) (within o (R (pred depths)) (class code) a (a + size) (take len (drop size r)))
    (after_tag (is_end (class code)) c (a + size + len) (drop (size + len) r) (R depths c))

-- the list at place a, whose room is r. Room that is used up without End is 7.
-- k bounds the number of tags; it does not matter if it is at least the room's length: `list_nil` and `list_one` of proofs/ListLaws are this rule without it.
unfoldable pub walk : Order → (ℕ → Class) → ℕ → ℕ → Owner → ℕ → List ℕ → Walk
walk o class zero depths c a r = broken 7 (blame c a)
walk o class (suc k) depths c a [] = broken 7 (blame c a)
walk o class (suc k) depths c a (x ∷ r) = one_tag o class (walk o class k) depths c a (x ∷ r) (read_head class depths (x ∷ r))

-- a room of n bytes has fewer than n tags
abbrev pub walk_list : Order → (ℕ → Class) → ℕ → Owner → ℕ → List ℕ → Walk
walk_list o class depths c a r = walk o class (length r) depths c a r
