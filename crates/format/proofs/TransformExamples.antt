-- Transforms and points (C-12): bodies of 13 and 10, and of a Spatial attribute by itself, as one table that the definitions compute.
-- Below, bits stand in the order in which they are read, those of one field together; a body's fields by hand from chapters 4 and 5 of source 000.
use Prim.Native.Nat.{ℕ}
use mathlib.Core.List.{List, [], ◌∷◌, ◌++◌, map}
use mathlib.Core.Path.{◌≡◌, refl}
use Rattle.format.specs.Bits.{bit_at, ub}
use Rattle.format.specs.Formats.{times}
use Rattle.format.specs.Items.{read_item, read_var, read_le, read_flag, run}
use Rattle.format.specs.Bodies.{Spatial, Points, ◌of◌, text_more_option, transform_2d, read_block, all_flags, rows, Body, attributes, read_part, read_body}
use Rattle.format.specs.Reasons.{gives, refuses}
use Rattle.format.proofs.Examples.{body, read, Example}

-- a body, and what it gives
abbrev pub shows : Body → List ℕ → List ℕ → Example
shows y b ns = record { given = body y b; gives = gives ns }

abbrev pub stops : Body → List ℕ → ℕ → Example
stops y b e = record { given = body y b; gives = refuses e 0 }

-- ---- 13: seven flags, of Values. Points are two Floats
abbrev transform : Body
transform = attributes transform_2d

abbrev transforms : List Example
transforms =
    shows transform (0x00 ∷ []) (0 ∷ 0 ∷ 0 ∷ 0 ∷ 0 ∷ 0 ∷ 0 ∷ [])
    -- scale and opacity: 0 0 0 0 1 0 1
    ∷ shows transform (0x0A ∷ 0x00 ∷ 0x00 ∷ 0x80 ∷ 0x3F ∷ 0x02 ∷ 0x01 ∷ 0x00 ∷ 0x00 ∷ 0xFF ∷ []) (0 ∷ 0 ∷ 0 ∷ 0 ∷ 1 ∷ 1065353216 ∷ 258 ∷ 0 ∷ 1 ∷ 255 ∷ [])
    -- the y of a Point is cut
    ∷ stops transform (0x80 ∷ 0x00 ∷ 0x00 ∷ 0x80 ∷ 0x3F ∷ 0x02 ∷ 0x01 ∷ 0x00 ∷ []) 13
    ∷ []

-- ---- 10: the flag of anchorPointGrouping, and up to two of groupingAlignment
abbrev option : Body
option = attributes text_more_option

abbrev options : List Example
options =
    -- 1 0: the grouping 6; 7 is no grouping
    shows option (0x80 ∷ 0x06 ∷ []) (1 ∷ 6 ∷ 0 ∷ [])
    ∷ stops option (0x80 ∷ 0x07 ∷ []) 16
    -- 0 1 0: one Point
    ∷ shows option (0x40 ∷ 0x01 ∷ 0x00 ∷ 0x00 ∷ 0x00 ∷ 0x02 ∷ 0x00 ∷ 0x00 ∷ 0x00 ∷ []) (0 ∷ 1 ∷ 1 ∷ 2 ∷ [])
    -- 0 1 1: two frames, both Bezier, 10 10; times 0, 1, 2; three Points; a width of 1 and, for each frame, four SB[1] for x and four for y:
    -- 00000 1 0 0 0 0 1 0 0 0 0 1 0 0 0 0 1
    ∷ shows option
    (0x60 ∷ 0x02 ∷ 0xA0 ∷ 0x00 ∷ 0x01 ∷ 0x02 ∷ 0x01 ∷ 0x00 ∷ 0x00 ∷ 0x00 ∷ 0x02 ∷ 0x00 ∷ 0x00 ∷ 0x00 ∷ 0x03 ∷ 0x00 ∷ 0x00 ∷ 0x00 ∷ 0x04 ∷ 0x00 ∷ 0x00 ∷ 0x00 ∷ 0x05 ∷ 0x00 ∷ 0x00 ∷ 0x00 ∷ 0x06 ∷ 0x00 ∷ 0x00 ∷ 0x00
    ∷ 0x04 ∷ 0x21 ∷ 0x08 ∷ [])
    (0 ∷ 3 ∷ 2 ∷ 2 ∷ 2 ∷ 0 ∷ 1 ∷ 2 ∷ 1 ∷ 2 ∷ 3 ∷ 4 ∷ 5 ∷ 6 ∷ 1
    ∷ minus1 ∷ 0 ∷ 0 ∷ 0 ∷ 0 ∷ minus1 ∷ 0 ∷ 0 ∷ 0 ∷ 0 ∷ minus1 ∷ 0 ∷ 0 ∷ 0 ∷ 0 ∷ minus1 ∷ [])
    ∷ []
  where
    minus1 : ℕ
    minus1 = 18446744073709551615

-- ---- a Spatial Point: flags exist, animatable, hasSpatial
abbrev spatial_point : Body
spatial_point = attributes (Spatial of Points ∷ [])

-- one linear frame, 01; times 0, 24; a width of 4 and four UB[4]: 00011 1000 1111 0000 1001; an easing width of 1, 00000. The flags before, and what comes behind
abbrev framed : ℕ → List ℕ → List ℕ
framed flags last = flags ∷ 0x01 ∷ 0x40 ∷ 0x00 ∷ 0x18 ∷ 0x1C ∷ 0x78 ∷ 0x48 ∷ 0x00 ∷ last

abbrev shown : ℕ → List ℕ → List ℕ
shown φ last = φ ∷ 1 ∷ 1 ∷ 0 ∷ 24 ∷ 4 ∷ 8 ∷ 15 ∷ 0 ∷ 9 ∷ 1 ∷ last

abbrev spatials : List Example
spatials =
    -- 1 1 0: without hasSpatial, there is no sixth part
    shows spatial_point (framed 0xC0 []) (shown 3 [])
    -- 1 1 1, and no flag set: 0 0, and right after them a width of 2, 00001, which stands
    ∷ shows spatial_point (framed 0xE0 (0x02 ∷ [])) (shown 7 (0 ∷ 0 ∷ 2 ∷ []))
    -- in only: 1 0 00011 1000 0111. Out only: 0 1. Both: 1 1 00011 0001 0010 0011 1111
    ∷ shows spatial_point (framed 0xE0 (0x87 ∷ 0x0E ∷ [])) (shown 7 (1 ∷ 0 ∷ 4 ∷ 18446744073709551608 ∷ 7 ∷ []))
    ∷ shows spatial_point (framed 0xE0 (0x47 ∷ 0x0E ∷ [])) (shown 7 (0 ∷ 1 ∷ 4 ∷ 18446744073709551608 ∷ 7 ∷ []))
    ∷ shows spatial_point (framed 0xE0 (0xC6 ∷ 0x24 ∷ 0x7E ∷ [])) (shown 7 (1 ∷ 1 ∷ 4 ∷ 1 ∷ 2 ∷ 3 ∷ 18446744073709551615 ∷ []))
    -- two frames, 10 11: the first is Bezier. Times 0, 1, 2; values of one bit, 00000 1 0 1 0 1 1; easing, one curve: 00001 01 10 11 00; the in of the first
    -- frame and the out of the second: 1 0 0 1 00010 001 010 100 011
    ∷ shows spatial_point (0xE0 ∷ 0x02 ∷ 0xB0 ∷ 0x00 ∷ 0x01 ∷ 0x02 ∷ 0x05 ∷ 0x60 ∷ 0x0B ∷ 0x60 ∷ 0x91 ∷ 0x15 ∷ 0x18 ∷ [])
    (7 ∷ 2 ∷ 2 ∷ 3 ∷ 0 ∷ 1 ∷ 2 ∷ 1 ∷ 1 ∷ 0 ∷ 1 ∷ 0 ∷ 1 ∷ 1 ∷ 2 ∷ 1 ∷ 18446744073709551614 ∷ 18446744073709551615 ∷ 0
    ∷ 1 ∷ 0 ∷ 0 ∷ 1 ∷ 3 ∷ 1 ∷ 2 ∷ 18446744073709551612 ∷ 3 ∷ [])
    -- the exist bit alone, 1 0: a Point; no bit at all
    ∷ shows spatial_point (0x80 ∷ 0x01 ∷ 0x00 ∷ 0x00 ∷ 0x00 ∷ 0x02 ∷ 0x00 ∷ 0x00 ∷ 0x00 ∷ []) (1 ∷ 1 ∷ 2 ∷ [])
    ∷ shows spatial_point (0x00 ∷ []) (0 ∷ [])
    -- a bit set between two parts, or behind the last: after the flags, the interpolations, the values, the easing, the sixth part
    ∷ stops spatial_point (framed 0xE1 (0x02 ∷ [])) 15
    ∷ stops spatial_point (0xE0 ∷ 0x01 ∷ 0x41 ∷ 0x00 ∷ 0x18 ∷ 0x1C ∷ 0x78 ∷ 0x48 ∷ 0x00 ∷ 0x02 ∷ []) 15
    ∷ stops spatial_point (0xE0 ∷ 0x01 ∷ 0x40 ∷ 0x00 ∷ 0x18 ∷ 0x1C ∷ 0x78 ∷ 0x4C ∷ 0x00 ∷ 0x02 ∷ []) 15
    ∷ stops spatial_point (0xE0 ∷ 0x01 ∷ 0x40 ∷ 0x00 ∷ 0x18 ∷ 0x1C ∷ 0x78 ∷ 0x48 ∷ 0x04 ∷ 0x02 ∷ []) 15
    ∷ stops spatial_point (framed 0xE0 (0x03 ∷ [])) 15
    -- the sixth part is not there, or cut; an interpolation of 0; a byte too many
    ∷ stops spatial_point (framed 0xE0 []) 13
    ∷ stops spatial_point (framed 0xE0 (0x87 ∷ [])) 13
    ∷ stops spatial_point (0xE0 ∷ 0x01 ∷ 0x00 ∷ []) 16
    ∷ stops spatial_point (framed 0xC0 (0x02 ∷ [])) 18
    ∷ []

abbrev pub transform_examples : List Example
transform_examples = transforms ++ options ++ spatials

pub transform_examples_lem : map (λ (x : Example). read 0 x.given) transform_examples ≡ map (λ (x : Example). x.gives) transform_examples
unfolding read_body read_part read_block all_flags rows run times read_item read_var read_le read_flag ub bit_at
transform_examples_lem = refl

-- ---- low first: both, as above. Flags 1 1 1: 7; one linear frame: 1; values 3 + 8 × 2 ^ 5 + 15 × 2 ^ 9 + 9 × 2 ^ 17 = 121F03; the sixth part
-- 1 + 2 + 3 × 2 ^ 2 + 1 × 2 ^ 7 + 2 × 2 ^ 11 + 3 × 2 ^ 15 + 15 × 2 ^ 19 = 79908F
abbrev pub low_transforms : List Example
low_transforms =
    shows spatial_point (0x07 ∷ 0x01 ∷ 0x01 ∷ 0x00 ∷ 0x18 ∷ 0x03 ∷ 0x1F ∷ 0x12 ∷ 0x00 ∷ 0x8F ∷ 0x90 ∷ 0x79 ∷ []) (shown 7 (1 ∷ 1 ∷ 4 ∷ 1 ∷ 2 ∷ 3 ∷ 18446744073709551615 ∷ []))
    ∷ []

pub low_transforms_lem : map (λ (x : Example). read 1 x.given) low_transforms ≡ map (λ (x : Example). x.gives) low_transforms
unfolding read_body read_part read_block all_flags rows run times read_item read_var read_le read_flag ub bit_at
low_transforms_lem = refl
