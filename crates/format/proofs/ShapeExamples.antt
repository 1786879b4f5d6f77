-- Shapes (C-24): bodies of 15 to 27, and files with groups, as one table that the definitions compute. Below, bits stand in the order in which they are read,
-- those of one field together; fields by hand from chapters 1, 2, 4, 5 and 6 of source 000.
use Prim.Native.Nat.{ℕ, zero, suc, ◌+◌}
use mathlib.Core.List.{List, [], ◌∷◌, ◌++◌, map}
use mathlib.Core.Path.{◌≡◌, refl}
use lib.ListN.{length}
use Rattle.format.specs.Bits.{bit_at, ub}
use Rattle.format.specs.Formats.{times}
use Rattle.format.specs.Items.{read_item, read_var, read_le, read_flag, run}
use Rattle.format.specs.Bodies.{Attribute, shape_group, rectangle, ellipse, poly_star, shape_path, fill_block, stroke, gradient_fill, gradient_stroke, merge_paths, trim_paths, repeater, round_corners, read_block, all_flags, rows, attributes, read_part, read_body}
use Rattle.format.specs.FileAndTags.{class_of, eights, walk}
use Rattle.format.specs.Reasons.{start_fault, walk_file, gives, refuses, read_file}
use Rattle.format.proofs.Examples.{file, read, zeros, Example}
use Rattle.format.proofs.TransformExamples.{shows, stops}

-- ---- no flag set: a bit and a number for each row
abbrev empty : List Attribute → List ℕ → ℕ → Example
empty attrs b n = shows (attributes attrs) b (zeros n)

abbrev empties : List Example
empties =
    empty shape_group (0x00 ∷ 0x00 ∷ []) 9
    ∷ empty rectangle (0x00 ∷ []) 4
    ∷ empty ellipse (0x00 ∷ []) 3
    ∷ empty poly_star (0x00 ∷ 0x00 ∷ []) 9
    ∷ empty shape_path (0x00 ∷ []) 1
    ∷ empty fill_block (0x00 ∷ []) 5
    ∷ empty stroke (0x00 ∷ []) 8
    ∷ empty gradient_fill (0x00 ∷ []) 8
    ∷ empty gradient_stroke (0x00 ∷ 0x00 ∷ []) 12
    ∷ empty merge_paths (0x00 ∷ []) 1
    ∷ empty trim_paths (0x00 ∷ []) 4
    ∷ empty repeater (0x00 ∷ 0x00 ∷ []) 9
    ∷ empty round_corners (0x00 ∷ []) 1
    ∷ []

-- ---- kinds, and both sides of each enum's range
abbrev kinds : List Example
kinds =
    -- 16: 1, 1 0, 0, 1 0: reversed, a size of 1 by 2, a roundness
    shows (attributes rectangle) (0xC8 ∷ 0x00 ∷ 0x00 ∷ 0x80 ∷ 0x3F ∷ 0x00 ∷ 0x00 ∷ 0x00 ∷ 0x40 ∷ 0x01 ∷ 0x00 ∷ 0x00 ∷ 0x00 ∷ []) (1 ∷ 1 ∷ 1065353216 ∷ 1073741824 ∷ 0 ∷ 1 ∷ 1 ∷ [])
    -- 18: 0, 1, and seven that are not set
    ∷ shows (attributes poly_star) (0x40 ∷ 0x00 ∷ 0x01 ∷ []) (0 ∷ 1 ∷ 1 ∷ zeros 7)
    ∷ stops (attributes poly_star) (0x40 ∷ 0x00 ∷ 0x02 ∷ []) 16
    -- 20: blendMode 26, composite 1, fillRule 1; then each one more
    ∷ shows (attributes fill_block) (0xE0 ∷ 0x1A ∷ 0x01 ∷ 0x01 ∷ []) (1 ∷ 26 ∷ 1 ∷ 1 ∷ 1 ∷ 1 ∷ 0 ∷ 0 ∷ [])
    ∷ stops (attributes fill_block) (0x80 ∷ 0x1B ∷ []) 16
    ∷ stops (attributes fill_block) (0x40 ∷ 0x02 ∷ []) 16
    ∷ stops (attributes fill_block) (0x20 ∷ 0x02 ∷ []) 16
    -- 21: lineCap 2, lineJoin 2; then 3
    ∷ shows (attributes stroke) (0x30 ∷ 0x02 ∷ 0x02 ∷ []) (0 ∷ 0 ∷ 1 ∷ 2 ∷ 1 ∷ 2 ∷ 0 ∷ 0 ∷ 0 ∷ 0 ∷ [])
    ∷ stops (attributes stroke) (0x20 ∷ 0x03 ∷ []) 16
    ∷ stops (attributes stroke) (0x10 ∷ 0x03 ∷ []) 16
    -- 22: fillType 1, 2
    ∷ shows (attributes gradient_fill) (0x10 ∷ 0x01 ∷ []) (0 ∷ 0 ∷ 0 ∷ 1 ∷ 1 ∷ 0 ∷ 0 ∷ 0 ∷ 0 ∷ [])
    ∷ stops (attributes gradient_fill) (0x10 ∷ 0x02 ∷ []) 16
    -- 24: mode 4, 5. 25: 0, 0, 0, 1: trimType 1, 2
    ∷ shows (attributes merge_paths) (0x80 ∷ 0x04 ∷ []) (1 ∷ 4 ∷ [])
    ∷ stops (attributes merge_paths) (0x80 ∷ 0x05 ∷ []) 16
    ∷ shows (attributes trim_paths) (0x10 ∷ 0x01 ∷ []) (0 ∷ 0 ∷ 0 ∷ 1 ∷ 1 ∷ [])
    ∷ stops (attributes trim_paths) (0x10 ∷ 0x02 ∷ []) 16
    ∷ []

-- ---- Colors and GradientColors, single and keyframed
abbrev gradient : List ℕ → List ℕ
gradient b = 0x02 ∷ 0x00 ∷ b

abbrev colors : List Example
colors =
    -- 20: 0, 0, 0, 1 0, 0; and 1 1: one Bezier frame, 10; times 0, 1; two Colors; one curve: 00000 1 0 0 1
    shows (attributes fill_block) (0x10 ∷ 0x01 ∷ 0x02 ∷ 0x03 ∷ []) (0 ∷ 0 ∷ 0 ∷ 1 ∷ 1 ∷ 2 ∷ 3 ∷ 0 ∷ [])
    ∷ shows (attributes fill_block) (0x18 ∷ 0x01 ∷ 0x80 ∷ 0x00 ∷ 0x01 ∷ 0x01 ∷ 0x02 ∷ 0x03 ∷ 0x04 ∷ 0x05 ∷ 0x06 ∷ 0x04 ∷ 0x80 ∷ [])
    (0 ∷ 0 ∷ 0 ∷ 3 ∷ 1 ∷ 2 ∷ 0 ∷ 1 ∷ 1 ∷ 2 ∷ 3 ∷ 4 ∷ 5 ∷ 6 ∷ 1 ∷ 18446744073709551615 ∷ 0 ∷ 0 ∷ 18446744073709551615 ∷ 0 ∷ [])
    -- 22: six that are not set, 1 0, 0. Two alpha stops and one color stop: both counts, then the alpha stops
    ∷ shows (attributes gradient_fill)
    (gradient (0x02 ∷ 0x01 ∷ 0x01 ∷ 0x00 ∷ 0x02 ∷ 0x00 ∷ 0x03 ∷ 0x00 ∷ 0x01 ∷ 0xFF ∷ 0xFF ∷ 0xFF ∷ 0x05 ∷ 0x00 ∷ 0x06 ∷ 0x00 ∷ 0x07 ∷ 0x08 ∷ 0x09 ∷ []))
    (zeros 6 ++ 1 ∷ 2 ∷ 1 ∷ 1 ∷ 2 ∷ 3 ∷ 256 ∷ 65535 ∷ 255 ∷ 5 ∷ 6 ∷ 7 ∷ 8 ∷ 9 ∷ 0 ∷ [])
    -- no stops at all; 4,096 alpha stops may be (13: they are not there), 4,097 may not, and no more color stops
    ∷ shows (attributes gradient_fill) (gradient (0x00 ∷ 0x00 ∷ [])) (zeros 6 ++ 1 ∷ 0 ∷ 0 ∷ 0 ∷ [])
    ∷ stops (attributes gradient_fill) (gradient (0x80 ∷ 0x20 ∷ 0x00 ∷ [])) 13
    ∷ stops (attributes gradient_fill) (gradient (0x81 ∷ 0x20 ∷ [])) 17
    ∷ stops (attributes gradient_fill) (gradient (0x00 ∷ 0x80 ∷ 0x20 ∷ [])) 13
    ∷ stops (attributes gradient_fill) (gradient (0x00 ∷ 0x81 ∷ 0x20 ∷ [])) 17
    -- 1 1: one linear frame, 01; times 0, 1; a GradientColor without stops, and one with an alpha stop; the easing's width
    ∷ shows (attributes gradient_fill) (0x03 ∷ 0x00 ∷ 0x01 ∷ 0x40 ∷ 0x00 ∷ 0x01 ∷ 0x00 ∷ 0x00 ∷ 0x01 ∷ 0x00 ∷ 0x01 ∷ 0x00 ∷ 0x02 ∷ 0x00 ∷ 0x03 ∷ 0x00 ∷ [])
    (zeros 6 ++ 3 ∷ 1 ∷ 1 ∷ 0 ∷ 1 ∷ 0 ∷ 0 ∷ 1 ∷ 0 ∷ 1 ∷ 2 ∷ 3 ∷ 1 ∷ 0 ∷ [])
    ∷ []

-- ---- 23: eleven that are not set, and the Custom one: dashLength, exist, and animatable if exist is 1
abbrev dashed : List Example
dashed =
    -- 111 0; 000 1 0; 000 1 1
    shows (attributes gradient_stroke) (0x00 ∷ 0x10 ∷ 0xE0 ∷ []) (zeros 11 ++ 1 ∷ 8 ∷ 0 ∷ [])
    ∷ shows (attributes gradient_stroke) (0x00 ∷ 0x10 ∷ 0x10 ∷ []) (zeros 11 ++ 1 ∷ 1 ∷ 1 ∷ 0 ∷ [])
    ∷ shows (attributes gradient_stroke) (0x00 ∷ 0x10 ∷ 0x18 ∷ []) (zeros 11 ++ 1 ∷ 1 ∷ 1 ∷ 1 ∷ [])
    -- without exist there is no animatable: 111 0, and a skipped bit; nothing is there; the flag is not set, and something is
    ∷ stops (attributes gradient_stroke) (0x00 ∷ 0x10 ∷ 0xE8 ∷ []) 15
    ∷ stops (attributes gradient_stroke) (0x00 ∷ 0x10 ∷ []) 13
    ∷ stops (attributes gradient_stroke) (0x00 ∷ 0x00 ∷ 0xE0 ∷ []) 18
    ∷ []

-- ---- groups, as tags of a file. The header of 15 is 03C0 and the length
abbrev pag : List ℕ → List ℕ
pag b = 0x50 ∷ 0x41 ∷ 0x47 ∷ 0x01 ∷ (9 + length b) ∷ 0x00 ∷ 0x00 ∷ 0x00 ∷ 0x00 ∷ b

abbrev reads : ℕ → List ℕ → List ℕ → Example
reads level b ns = record { given = file level (pag b); gives = gives (0 ∷ ns) }

abbrev refused : List ℕ → ℕ → ℕ → Example
refused b e n = record { given = file 1023 (pag b); gives = refuses e n }

-- a group with an opacity of 128, whose list has a MergePaths (24, header 0600 and the length) with mode 4: seven that are not set, 1 0, 1
abbrev merging : List ℕ
merging = 0xC9 ∷ 0x03 ∷ 0x01 ∷ 0x40 ∷ 0x80 ∷ 0x02 ∷ 0x06 ∷ 0x80 ∷ 0x04 ∷ 0x00 ∷ 0x00 ∷ 0x00 ∷ 0x00 ∷ []

-- n groups inside each other, each the only tag of its list, around a group without a list; and their numbers
abbrev groups : ℕ → List ℕ
groups zero = 0xC2 ∷ 0x03 ∷ 0x00 ∷ 0x00 ∷ []
groups (suc n) = (0xC4 + length (groups n)) ∷ 0x03 ∷ 0x00 ∷ 0x80 ∷ (groups n ++ 0x00 ∷ 0x00 ∷ [])

abbrev grouped : ℕ → List ℕ
grouped zero = 15 ∷ 1 ∷ 9 ∷ zeros 9
grouped (suc n) = 15 ∷ 1 ∷ 9 ∷ (zeros 8 ++ 1 ∷ (grouped n ++ 0 ∷ 1 ∷ 0 ∷ []))

abbrev lists : List Example
lists =
    -- no list; one that is End alone; a list where the flag denies it (18); none where the flag promises it (7); a byte after End (11); a skipped bit (15), with and without a list
    reads 1023 (0xC2 ∷ 0x03 ∷ 0x00 ∷ 0x00 ∷ 0x00 ∷ 0x00 ∷ []) (15 ∷ 1 ∷ 9 ∷ (zeros 9 ++ 0 ∷ 1 ∷ 0 ∷ []))
    ∷ reads 1023 (0xC4 ∷ 0x03 ∷ 0x00 ∷ 0x80 ∷ 0x00 ∷ 0x00 ∷ 0x00 ∷ 0x00 ∷ []) (15 ∷ 1 ∷ 9 ∷ (zeros 8 ++ 1 ∷ 0 ∷ 1 ∷ 0 ∷ 0 ∷ 1 ∷ 0 ∷ []))
    ∷ refused (0xC4 ∷ 0x03 ∷ 0x00 ∷ 0x00 ∷ 0x00 ∷ 0x00 ∷ 0x00 ∷ 0x00 ∷ []) 18 9
    ∷ refused (0xC2 ∷ 0x03 ∷ 0x00 ∷ 0x80 ∷ 0x00 ∷ 0x00 ∷ []) 7 9
    ∷ refused (0xC5 ∷ 0x03 ∷ 0x00 ∷ 0x80 ∷ 0x00 ∷ 0x00 ∷ 0x07 ∷ 0x00 ∷ 0x00 ∷ []) 11 9
    ∷ refused (0xC2 ∷ 0x03 ∷ 0x00 ∷ 0x01 ∷ 0x00 ∷ 0x00 ∷ []) 15 9
    ∷ refused (0xC4 ∷ 0x03 ∷ 0x00 ∷ 0x81 ∷ 0x00 ∷ 0x00 ∷ 0x00 ∷ 0x00 ∷ []) 15 9
    -- the listed tags come last; at level 15 the MergePaths is opaque (80 04), at level 14 the group with all that is in it
    ∷ reads 1023 merging (15 ∷ 1 ∷ 10 ∷ (zeros 7 ++ 1 ∷ 128 ∷ 1 ∷ 24 ∷ 1 ∷ 2 ∷ 1 ∷ 4 ∷ 0 ∷ 1 ∷ 0 ∷ 0 ∷ 1 ∷ 0 ∷ []))
    ∷ reads 15 merging (15 ∷ 1 ∷ 10 ∷ (zeros 7 ++ 1 ∷ 128 ∷ 1 ∷ 24 ∷ 0 ∷ 2 ∷ 2 ∷ 0x0480 ∷ 0 ∷ 1 ∷ 0 ∷ 0 ∷ 1 ∷ 0 ∷ []))
    ∷ reads 14 merging (15 ∷ 0 ∷ 3 ∷ 9 ∷ 0x0004800602804001 ∷ 0 ∷ 0 ∷ 1 ∷ 0 ∷ [])
    -- a group counts in the depth, also without a list: the last of eight is at depth 7, the last of nine at depth 8, at place 9 + 8 × 4
    ∷ reads 1023 (groups 7 ++ 0x00 ∷ 0x00 ∷ []) (grouped 7 ++ 0 ∷ 1 ∷ 0 ∷ [])
    ∷ refused (groups 8 ++ 0x00 ∷ 0x00 ∷ []) 12 41
    ∷ []

abbrev pub shape_examples : List Example
shape_examples = empties ++ kinds ++ colors ++ dashed ++ lists

pub shape_examples_lem : map (λ (x : Example). read 0 x.given) shape_examples ≡ map (λ (x : Example). x.gives) shape_examples
unfolding read_file walk_file start_fault class_of walk read_body read_part read_block all_flags rows run times read_item read_var read_le read_flag ub bit_at eights
shape_examples_lem = refl

-- ---- low first: the flag of the list is the lowest bit of the second byte; dashes, 1 0 1 1 1: 5 and 1, shown as 6, 1, 1
abbrev pub low_shapes : List Example
low_shapes =
    reads 1023 (0xC4 ∷ 0x03 ∷ 0x00 ∷ 0x01 ∷ 0x00 ∷ 0x00 ∷ 0x00 ∷ 0x00 ∷ []) (15 ∷ 1 ∷ 9 ∷ (zeros 8 ++ 1 ∷ 0 ∷ 1 ∷ 0 ∷ 0 ∷ 1 ∷ 0 ∷ []))
    ∷ shows (attributes gradient_stroke) (0x00 ∷ 0x08 ∷ 0x1D ∷ []) (zeros 11 ++ 1 ∷ 6 ∷ 1 ∷ 1 ∷ [])
    ∷ []

pub low_shapes_lem : map (λ (x : Example). read 1 x.given) low_shapes ≡ map (λ (x : Example). x.gives) low_shapes
unfolding read_file walk_file start_fault class_of walk read_body read_part read_block all_flags rows run times read_item read_var read_le read_flag ub bit_at eights
low_shapes_lem = refl
