-- The listing made step by step from the two tables, whatever they hold; a number past a table's end counts as 0. That the steps from the
-- start on a file's tables are its listing is `listed` of proofs/.
use Rattle.std.specs.Prelude.{ℕ, zero, suc, ◌+◌, ◌-◌, Bool, true, false, List, [], ◌∷◌, ◌++◌, length, get_or, ltb, leb, eqb}
use Rattle.std.proofs.lemmas.List.Edits.{sets}
use Rattle.format.specs.Tests.{pick, ◌and◌}
use Rattle.format.specs.TableOfNumbers.{is_opaque, eight_of}
use Rattle.listing.specs.Decimal.{decimal}
use Rattle.listing.specs.declared.Cursor.{Cursor}
use Rattle.listing.specs.declared.Part.{Part}

-- ---- Text laid over lent bytes from an index on, and the index after it.
pub record Laid : Type 0 where
  pub lent : List ℕ
  pub next : ℕ

abbrev pub laid : List ℕ → ℕ → Laid
laid b k = record { lent = b; next = k }

unfoldable pub lays : List ℕ → ℕ → List ℕ → Laid
lays b k text = record { lent = sets b k text; next = k + length text }

-- ---- Fields: a number and the byte that ends it; numbers that a tab ends each.
unfoldable pub field : ℕ → ℕ → List ℕ
field n end = decimal n ++ end ∷ []

abbrev pub tabbed : List ℕ → List ℕ
tabbed [] = []
tabbed (n ∷ ns) = field n 9 ++ tabbed ns

-- a tab where fields follow in the record, else a newline
abbrev pub ender : ℕ → ℕ
ender left = pick (eqb left 0) 10 9

-- bytes, each a field, while there are fields left in the record
unfoldable pub byte_fields : List ℕ → ℕ → List ℕ
byte_fields [] left = []
byte_fields (b ∷ bs) zero = []
byte_fields (b ∷ bs) (suc left) = field b (ender left) ++ byte_fields bs left

-- ---- One step: its text, and where the next one starts.
pub record Step : Type 0 where
  pub text : List ℕ
  pub to : Cursor

abbrev pub cursor : ℕ → ℕ → ℕ → Bool → Cursor
cursor k m n p = record { number = k; row = m; left = n; packed = p }

abbrev pub start : Cursor
start = cursor 0 0 0 false

-- the first line of a file of n bytes
abbrev pub first_step : ℕ → List ℕ → Step
first_step n t = record {
  text = 0x50 ∷ 0x41 ∷ 0x47 ∷ 9 ∷ (tabbed (1 ∷ n ∷ []) ++ field (get_or t 0 0) 10);
  to = cursor 1 0 0 false;
}

-- what follows the head of the tag whose numbers stand at k: its values; or, if it is opaque, the bytes of its body, as many as its first value says, in
-- the numbers after that one. m is the next row
abbrev pub after_head : List ℕ → ℕ → ℕ → Cursor
after_head t k m = pick (is_opaque (get_or t (k + 1) 0)) (cursor (k + 4) m (get_or t (k + 3) 0) true) (cursor (k + 3) m (get_or t (k + 2) 0) false)

-- a tag's first six fields: depth, place, header size and body length from its row m, code and state from the numbers at k
abbrev pub head_step : List ℕ → List ℕ → ℕ → ℕ → Step
head_step t g k m = record {
  text = tabbed (get_or g m 0 ∷ get_or g (m + 2) 0 ∷ get_or g (m + 3) 0 ∷ get_or g (m + 4) 0 ∷ get_or t k 0 ∷ [])
      ++ field (get_or t (k + 1) 0) (ender (after_head t k (m + 5)).left);
  to = after_head t k (m + 5);
}

-- one value, the last of its record if nothing is left after it
abbrev pub number_step : List ℕ → ℕ → ℕ → ℕ → Step
number_step t k m left = record { text = field (get_or t k 0) (ender (left - 1)); to = cursor (k + 1) m (left - 1) false }

-- the bytes of one packed number, the lowest first, without its filling
abbrev pub bytes_step : List ℕ → ℕ → ℕ → ℕ → Step
bytes_step t k m left = record { text = byte_fields (eight_of (get_or t k 0)) left; to = cursor (k + 1) m (left - 8) true }

abbrev pub value_step : List ℕ → Cursor → Step
value_step t c = pick c.packed (bytes_step t c.number c.row c.left) (number_step t c.number c.row c.left)

unfoldable pub step : ℕ → List ℕ → List ℕ → Cursor → Step
step n t g c = pick (eqb c.number 0) (first_step n t) (pick (eqb c.left 0) (head_step t g c.number c.row) (value_step t c))

-- there is a number to show, and the tag table is not overrun
abbrev pub more : List ℕ → List ℕ → Cursor → Bool
more t g c = ltb c.number (length t) and leb c.row (length g)

-- ---- All steps from a cursor on. Each shows a number of t at least, so that k = length t is enough.
unfoldable pub text_from : ℕ → ℕ → List ℕ → List ℕ → Cursor → List ℕ
text_from zero n t g c = []
text_from (suc k) n t g c = pick (more t g c) ((step n t g c).text ++ text_from k n t g (step n t g c).to) []

abbrev pub table_listing : ℕ → List ℕ → List ℕ → List ℕ
table_listing n t g = text_from (length t) n t g start

-- ---- One part: steps while there is room for the largest, 128 bytes.
abbrev pub stay : Cursor → Step
stay c = record { text = []; to = c }

abbrev pub joined : Step → Step → Step
joined a b = record { text = a.text ++ b.text; to = b.to }

unfoldable pub fill : ℕ → ℕ → ℕ → List ℕ → List ℕ → Cursor → Step
fill zero room n t g c = stay c
fill (suc k) room n t g c =
    pick (more t g c and leb 128 room) (joined (step n t g c) (fill k (room - length (step n t g c).text) n t g (step n t g c).to)) (stay c)

-- into room bytes
abbrev pub part_of : ℕ → ℕ → List ℕ → List ℕ → Cursor → Step
part_of room n t g c = fill (length t) room n t g c

-- what a part leaves: the lent bytes, how many are used, and where the next part starts
pub record AfterPart : Type 0 where
  pub lent : List ℕ
  pub used : ℕ
  pub to : Cursor

abbrev pub after_part : List ℕ → ℕ → Cursor → AfterPart
after_part b k c = record { lent = b; used = k; to = c }

abbrev pub part_leaves : List ℕ → Part → AfterPart
part_leaves b p = after_part b p.used p.to

unfoldable pub text_over : List ℕ → ℕ → Step → AfterPart
text_over b k s = after_part (sets b k s.text) (k + length s.text) s.to
