-- The opacity of small masks, derived by hand from C-22's sentences, as one table that the definitions compute.
use Prim.Native.Nat.{ℕ}
use mathlib.Core.List.{List, [], ◌∷◌}
use mathlib.Core.Path.{◌≡◌, refl}
use Rattle.format.specs.Bits.{bit_at, ub}
use Rattle.format.specs.Formats.{times}
use Rattle.format.specs.Items.{read_item, read_var, read_le, read_flag, run}
use Rattle.format.specs.Bodies.{all_flags, rows, read_block, read_part, read_body}
use Rattle.opacity.specs.Opacity.{Opacity, fraction, over1, refused_by, earlier, from_opacity, covering, at_frame, any, keyframed_at, shown_at, of_mask, opacity_at}

-- P4, a mask with opacity 128, and one without opacity; P5: one linear keyframe from 0 to 24, of values 255 and 0
abbrev P4 : List ℕ
P4 = 0x10 ∷ 0x01 ∷ 0x80 ∷ []

abbrev none : List ℕ
none = 0x00 ∷ 0x01 ∷ []

abbrev P5 : List ℕ
P5 = 0x18 ∷ 0x01 ∷ 0x01 ∷ 0x40 ∷ 0x00 ∷ 0x18 ∷ 0x3F ∷ 0xF8 ∷ 0x00 ∷ 0x00 ∷ []

-- three keyframes, linear, hold, Bezier (01 11 10 00: 78), with times 2, 5, 9, 12, and values 10, 40, 0, 255 (width 8: 00111, then the four bytes,
-- then 000); the easing width 1 and four bits of 0 (00000 0000, then seven zero bits)
abbrev three : List ℕ
three =
    0x18 ∷ 0x01 ∷ 0x03 ∷ 0x78 ∷ 0x02 ∷ 0x05 ∷ 0x09 ∷ 0x0C ∷ 0x38 ∷ 0x51 ∷ 0x40 ∷ 0x07 ∷ 0xF8 ∷ 0x00 ∷ 0x00 ∷ []

-- its times 2, 5, 5, 12; and 2, 5, 4, 12
abbrev equal : List ℕ
equal =
    0x18 ∷ 0x01 ∷ 0x03 ∷ 0x78 ∷ 0x02 ∷ 0x05 ∷ 0x05 ∷ 0x0C ∷ 0x38 ∷ 0x51 ∷ 0x40 ∷ 0x07 ∷ 0xF8 ∷ 0x00 ∷ 0x00 ∷ []

-- low first: P5 with a hold keyframe (low bits first: exist and animatable at bits 3 and 4 of the flags 0, 0, 0, 1, 1, 0; 11 at the low end; width 8 is 7
-- in the low five bits, then 255 and 0)
abbrev low_p5 : List ℕ
low_p5 = 0x18 ∷ 0x01 ∷ 0x01 ∷ 0x03 ∷ 0x00 ∷ 0x18 ∷ 0xE7 ∷ 0x1F ∷ 0x00 ∷ 0x00 ∷ []

abbrev asked : List Opacity
asked =
    opacity_at 0 none 7 ∷ opacity_at 0 P4 0 ∷ opacity_at 1 none 18446744073709551615 ∷
    opacity_at 0 P5 0 ∷ opacity_at 0 P5 23 ∷ opacity_at 0 P5 24 ∷ opacity_at 0 P5 25 ∷
    opacity_at 0 P5 4294967295 ∷ opacity_at 0 P5 4294967296 ∷
    opacity_at 0 three 0 ∷ opacity_at 0 three 1 ∷ opacity_at 0 three 2 ∷ opacity_at 0 three 3 ∷ opacity_at 0 three 4 ∷ opacity_at 0 three 5 ∷ opacity_at 0 three 8 ∷
    opacity_at 0 three 9 ∷ opacity_at 0 three 11 ∷ opacity_at 0 three 12 ∷ opacity_at 0 three 100 ∷
    opacity_at 0 equal 11 ∷ opacity_at 0 equal 4294967296 ∷
    opacity_at 1 low_p5 23 ∷ opacity_at 1 low_p5 24 ∷
    opacity_at 2 P5 0 ∷ opacity_at 2 [] 0 ∷ opacity_at 0 [] 0 ∷ opacity_at 0 (0x01 ∷ []) 0 ∷ []

abbrev expected : List Opacity
expected =
    over1 255 ∷ over1 128 ∷ over1 255 ∷
    fraction 6120 24 ∷ fraction 255 24 ∷ over1 0 ∷ over1 0 ∷
    over1 0 ∷ refused_by 26 ∷
    over1 10 ∷ over1 10 ∷ fraction 30 3 ∷ fraction 60 3 ∷ fraction 90 3 ∷ over1 40 ∷ over1 40 ∷
    refused_by 28 ∷ refused_by 28 ∷ over1 255 ∷ over1 255 ∷
    refused_by 27 ∷ refused_by 26 ∷
    over1 255 ∷ over1 0 ∷
    refused_by 24 ∷ refused_by 24 ∷ refused_by 13 ∷ refused_by 15 ∷ []

pub opacities : asked ≡ expected
unfolding bit_at ub times read_item read_var read_le read_flag run all_flags rows read_block read_part read_body earlier from_opacity covering at_frame any keyframed_at shown_at of_mask opacity_at
opacities = refl
