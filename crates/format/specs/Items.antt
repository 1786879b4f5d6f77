-- Document 01, 'Items', sentence by sentence: what reading each item at a bit place p of the bytes b gives.
-- An item that faults shows nothing, but for a String that is cut.
use Rattle.std.specs.Prelude.{ℕ, zero, suc, ◌+◌, ◌-◌, ◌*◌, ◌/◌, ◌%◌, ◌^◌, List, [], ◌∷◌, Bool, length, get_or, ltb, leb, eqb}
use Rattle.format.specs.Tests.{pick, ◌and◌}
use Rattle.format.specs.Bits.{Order, ub}
use Rattle.format.specs.Reading.{Ending, At, Fault, Reading, shows, stop, follow}
use Rattle.format.specs.Formats.{Item, Format, nothing, item, only, ◌▹◌, ◌▸◌, times, the}

-- n more bits are there at p
abbrev pub room : List ℕ → ℕ → ℕ → Bool
room b p n = leb (p + n) (8 * length b)

-- a number and the next bit place; or a reason
pub data Num : Type 0 where
  num : ℕ → ℕ → Num
  bad : ℕ → Num

-- the number turned by f
abbrev pub map_num : (ℕ → ℕ) → Num → Num
map_num f (num v p) = num (f v) p
map_num f (bad e) = bad e

-- an item that starts at the next whole byte
abbrev pub byte_item : Item → Format
byte_item i = item Item.align ▸ item i

-- ---- U32 and U64: seven bits a byte, lowest first, top bit set when more follow; at most 5 and 10 bytes.
-- Ruling: only the shortest spelling is taken; the fifth byte is at most 15, the tenth at most 1.

-- a byte x with its top bit set, and the number of the bytes after it: a rest of 0 is not the shortest spelling (14)
abbrev pub carry : ℕ → Num → Num
carry x (num zero p) = bad 14
carry x (num (suc v) p) = num (x % 128 + 128 * suc v) p
carry x (bad e) = bad e

-- at most k + 1 bytes, the last of these at most c (14); a byte that is not there is 13
unfoldable pub read_var : Order → List ℕ → ℕ → ℕ → ℕ → Num
read_var o b c p zero = pick (room b p 8) (pick (leb (ub o b p 8) c) (num (ub o b p 8) (p + 8)) (bad 14)) (bad 13)
read_var o b c p (suc k) =
    pick (room b p 8) (pick (ltb (ub o b p 8) 128) (num (ub o b p 8) (p + 8)) (carry (ub o b p 8) (read_var o b c (p + 8) k))) (bad 13)

abbrev pub read_u32 : Order → List ℕ → ℕ → Num
read_u32 o b p = read_var o b 15 p 4

abbrev pub read_u64 : Order → List ℕ → ℕ → Num
read_u64 o b p = read_var o b 1 p 9

abbrev pub u32 : Format
u32 = byte_item Item.U32

-- ---- I32: a U32 d; the magnitude is d / 2, odd d is negative (kept modulo 2 ^ 64). d = 1 (minus zero) is refused (14).
abbrev pub sign : ℕ → ℕ
sign d = pick (eqb (d % 2) 0) (d / 2) (2 ^ 64 - d / 2)

abbrev pub not_one : Num → Num
not_one (num d p) = pick (eqb d 1) (bad 14) (num d p)
not_one (bad e) = bad e

abbrev pub i32 : Format
i32 = byte_item Item.I32

-- ---- Time: a U64.
abbrev pub time : Format
time = byte_item Item.U64

-- ---- Float: four bytes, little-endian, kept as their 32-bit pattern.

-- a byte x, and the number of the bytes above it
abbrev pub above : ℕ → Num → Num
above x (num v p) = num (x + 256 * v) p
above x (bad e) = bad e

-- n bytes, lowest first
unfoldable pub read_le : Order → List ℕ → ℕ → ℕ → Num
read_le o b p zero = num 0 p
read_le o b p (suc n) = pick (room b p 8) (above (ub o b p 8) (read_le o b (p + 8) n)) (bad 13)

abbrev pub float : Format
float = byte_item (Item.Le 4)

-- ---- Bool: one byte, 0 or 1 (else 16). An enum is a byte too, from 0 to its top.
abbrev pub byte : Format
byte = byte_item (Item.UB 8)

abbrev pub enum : ℕ → Format
enum top = only (λ ns. leb (the ns) top) 16 byte

abbrev pub bool : Format
bool = enum 1

-- ---- String: bytes up to a zero byte, may be empty.

-- the bytes before the zero byte and the place after it; or the bytes that are there, where the body ends without one
pub data Text : Type 0 where
  text : List ℕ → ℕ → Text
  cut : List ℕ → Text

-- one byte more in front
abbrev pub add_text : ℕ → Text → Text
add_text x (text xs p) = text (x ∷ xs) p
add_text x (cut xs) = cut (x ∷ xs)

-- k bounds how many bytes there are
unfoldable pub read_text : Order → List ℕ → ℕ → ℕ → Text
read_text o b p zero = cut []
read_text o b p (suc k) = pick (room b p 8) (pick (eqb (ub o b p 8) 0) (text [] (p + 8)) (add_text (ub o b p 8) (read_text o b (p + 8) k))) (cut [])

-- shown as its length and then its bytes; one that is cut too, with fault 13
abbrev pub show_text : Text → Reading
show_text (text xs p) = shows (length xs ∷ xs) p
show_text (cut xs) = record { shown = length xs ∷ xs; ended = Fault 13 }

abbrev pub string : Format
string = byte_item Item.string

-- ---- Bits: the ruling stands in Bits. UB[n] is unsigned; a field past the end of the body is 13.
abbrev pub read_ub : Order → List ℕ → ℕ → ℕ → Num
read_ub o b p n = pick (room b p n) (num (ub o b p n) (p + n)) (bad 13)

-- SB[n] is sign-extended from its top bit; a negative number is kept modulo 2 ^ 64
abbrev pub sign_extend : ℕ → ℕ → ℕ
sign_extend n v = pick (ltb (v * 2) (2 ^ n)) v (v + (2 ^ 64 - 2 ^ n))

abbrev pub read_sb : Order → List ℕ → ℕ → ℕ → Num
read_sb o b p n = map_num (sign_extend n) (read_ub o b p n)

-- ---- A width is UB[5] plus 1, everywhere: 1 to 32.
abbrev pub read_width : Order → List ℕ → ℕ → Num
read_width o b p = map_num suc (read_ub o b p 5)

-- (C-24; source 000, chapter 6) dashLength = UB[3] + 1: 1 to 8.
abbrev pub read_dash_length : Order → List ℕ → ℕ → Num
read_dash_length o b p = map_num suc (read_ub o b p 3)

-- ---- A byte item starts at the next whole byte; skipped bits are zero (15), also at a body's end (`read_body` of Bodies). Bit places and byte
-- places are counted apart, and only this rule turns one into the other.
abbrev pub skipped : ℕ → ℕ
skipped p = (8 - p % 8) % 8

-- the byte place of a whole byte, from its bit place
abbrev pub to_byte : ℕ → ℕ
to_byte p = p / 8

abbrev pub read_align : Order → List ℕ → ℕ → Reading
read_align o b p = pick (eqb (ub o b p (skipped p)) 0) (shows [] (p + skipped p)) (stop 15)

-- ---- Ratio: I32, U32. Color: three bytes. Point (source 000): two Floats, x and y.
abbrev pub ratio : Format
ratio = i32 ▸ u32

abbrev pub color : Format
color = times 3 byte

abbrev pub point : Format
point = float ▸ float

-- ---- Path: verb count (U32), UB[3] per verb, width, SB[width] per coordinate, with nothing skipped between. The width stands even
-- without coordinates. Coordinates by verb 0 to 7: 0, 2, 2, 1, 1, 4, 4, 6.

-- a count from lo to hi (else 17)
abbrev pub count : ℕ → ℕ → Format
count lo hi = only (λ ns. leb lo (the ns) and leb (the ns) hi) 17 u32

abbrev pub by_verb : List ℕ
by_verb = 0 ∷ 2 ∷ 2 ∷ 1 ∷ 1 ∷ 4 ∷ 4 ∷ 6 ∷ []

abbrev pub coordinates_of : ℕ → ℕ
coordinates_of verb = get_or by_verb verb 0

abbrev pub coordinates : List ℕ → ℕ
coordinates [] = 0
coordinates (verb ∷ verbs) = coordinates_of verb + coordinates verbs

-- a width, which stands always, and n signed fields of it
abbrev pub scaled : ℕ → Format
scaled n = item Item.width ▹ λ w. times n (item (Item.SB (the w)))

abbrev pub path : Format
path =
    count 0 4096 ▹ λ n.
    times (the n) (item (Item.UB 3)) ▹ λ verbs.
    scaled (coordinates verbs)

-- ---- (C-24; source 000, chapter 1) AlphaStop: position and midpoint, two bytes each, and an opacity byte. ColorStop: position, midpoint, Color. GradientColor: how many
-- there are of each, at most 4,096, then the alpha stops and the color stops.
abbrev pub uint16 : Format
uint16 = byte_item (Item.Le 2)

abbrev pub alpha_stop : Format
alpha_stop = uint16 ▸ uint16 ▸ byte

abbrev pub color_stop : Format
color_stop = uint16 ▸ uint16 ▸ color

abbrev pub gradient_color : Format
gradient_color =
    count 0 4096 ▹ λ alphas.
    count 0 4096 ▹ λ colors.
    times (the alphas) alpha_stop ▸ times (the colors) color_stop

-- ---- Reading. For an item: skipped bits (15) by the `align` before it, its bytes (13), its spelling (14), its range (16, 17) by `only`.

-- an attribute's flag bits (Bodies): a zero bit ends them. Shown as exist + 2 × animatable + 4 × hasSpatial: 0, 1, 3 or 7
abbrev pub exist : Num → Num
exist (num v p) = num (1 + 2 * v) p
exist (bad e) = bad e

unfoldable pub read_flag : Order → List ℕ → ℕ → ℕ → Num
read_flag o b p zero = num 0 p
read_flag o b p (suc n) = pick (room b p 1) (pick (eqb (ub o b p 1) 0) (num 0 (p + 1)) (exist (read_flag o b (p + 1) n))) (bad 13)

abbrev pub show_num : Num → Reading
show_num (num v p) = shows (v ∷ []) p
show_num (bad e) = stop e

unfoldable pub read_item : Order → List ℕ → Item → ℕ → Reading
read_item o b Item.U32 p = show_num (read_u32 o b p)
read_item o b Item.U64 p = show_num (read_u64 o b p)
read_item o b Item.I32 p = show_num (map_num sign (not_one (read_u32 o b p)))
read_item o b (Item.Le n) p = show_num (read_le o b p n)
read_item o b Item.string p = show_text (read_text o b p (length b))
read_item o b (Item.UB n) p = show_num (read_ub o b p n)
read_item o b (Item.SB n) p = show_num (read_sb o b p n)
read_item o b Item.width p = show_num (read_width o b p)
read_item o b Item.dash_length p = show_num (read_dash_length o b p)
read_item o b Item.align p = read_align o b p
read_item o b (Item.flag n) p = show_num (read_flag o b p n)
read_item o b (Item.echo n) p = shows (n ∷ []) p

-- numbers that fail their test are not shown
abbrev pub judge : (List ℕ → Bool) → ℕ → List ℕ → Ending → Reading
judge t e xs (At p) = pick (t xs) (shows xs p) (stop e)
judge t e xs (Fault e') = record { shown = xs; ended = Fault e' }

-- what reading a format at p gives
unfoldable pub run : Order → List ℕ → Format → ℕ → Reading
run o b nothing p = shows [] p
run o b (item i) p = read_item o b i p
run o b (only t e f) p = judge t e (run o b f p).shown (run o b f p).ended
run o b (f ▹ g) p = follow (run o b f p).shown (run o b f p).ended (λ xs q. run o b (g xs) q)
