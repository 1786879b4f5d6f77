-- Attribute blocks and whole bodies, written.
use Rattle.std.specs.Prelude.{ℕ, zero, suc, ◌+◌, ◌/◌, List, [], ◌∷◌, Bool, true, false, length, get_or, drop}
use Rattle.format.specs.Bits.{Order, join}
use Rattle.format.specs.Formats.{Item}
use Rattle.format.specs.Bodies.{Attribute, content, all_flags, rows, Body, fixed, attributes}
use Rattle.format.specs.Possible.{Possible, this, cannot}
use Rattle.format.specs.WritingItems.{Written, wrote, write_item}
use Rattle.format.specs.WritingFormats.{adjoin, onward, unrun}

-- ---- attribute blocks

abbrev pub left_of : Possible Written → List ℕ
left_of (this (wrote xs bs ys)) = ys
left_of cannot = []

-- the flag numbers, as they stand in the table before each content
unfoldable pub flags_in : Order → List Attribute → List ℕ → List ℕ
flags_in o [] ns = []
flags_in o (a ∷ rest) [] = []
flags_in o (a ∷ rest) (φ ∷ ns) = φ ∷ flags_in o rest (left_of (unrun o (content a φ) ns 0))

-- all numbers were used up
abbrev pub used_up : Possible Written → (List ℕ → List Bool → Possible Written) → Possible Written
used_up (this (wrote xs bs [])) k = k xs bs
used_up (this (wrote xs bs (y ∷ ys))) k = cannot
used_up cannot k = cannot

unfoldable pub write_block : Order → List Attribute → List ℕ → ℕ → Possible Written
write_block o attrs ns p = used_up (unrun o (all_flags attrs) (flags_in o attrs ns) p) (λ φs bs. adjoin [] bs (unrun o (rows attrs φs) ns (p + length bs)))

unfoldable pub write_part : Order → Body → List ℕ → ℕ → Possible Written
write_part o (fixed f) ns p = unrun o f ns p
write_part o (attributes attrs) ns p = write_block o attrs ns p

-- ---- bytes from bits

-- a bit as a number
abbrev pub bit : Bool → ℕ
bit true = 1
bit false = 0

-- the first n bits as a field
unfoldable pub val : Order → ℕ → List Bool → ℕ
val o zero bs = 0
val o (suc n) bs = join o n (bit (get_or bs 0 false)) (val o n (drop 1 bs))

-- k bytes
unfoldable pub bytes_of : Order → ℕ → List Bool → List ℕ
bytes_of o zero bs = []
bytes_of o (suc k) bs = val o 8 bs ∷ bytes_of o k (drop 8 bs)

-- all numbers are used up
abbrev pub whole_bytes : Order → Possible Written → Possible (List ℕ)
whole_bytes o (this (wrote xs bs [])) = this (bytes_of o (length bs / 8) bs)
whole_bytes o (this (wrote xs bs (y ∷ ys))) = cannot
whole_bytes o cannot = cannot

unfoldable pub write_body : Order → Body → List ℕ → Possible (List ℕ)
write_body o y ns = whole_bytes o (onward (write_part o y ns 0) 0 (λ xs ys p. write_item o Item.align ys p))
