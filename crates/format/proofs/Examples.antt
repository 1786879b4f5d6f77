-- Document 01's worked files and items P1 to P11, as one table that the definitions compute; files and items in low order (C-18), files in an order
-- that is neither, long headers on short bodies (C-11), packed bodies (C-17) and blanked ones (C-20), alike.
use Prim.Native.Nat.{ℕ, zero, suc}
use mathlib.Core.List.{List, [], ◌∷◌, ◌++◌, map}
use mathlib.Core.Path.{◌≡◌, refl}
use lib.ListN.{set}
use lib.Dec.{lit≤, lit<}
use Rattle.format.specs.Bits.{order_named, bit_at, ub}
use Rattle.format.specs.Reading.{Ending, At, Fault}
use Rattle.format.specs.Formats.{Item, Format, item, ◌▸◌, times}
use Rattle.format.specs.Items.{read_item, read_var, read_le, read_flag, run, u32, i32, path}
use Rattle.format.specs.Bodies.{text_path_option, mask_block, read_block, all_flags, rows, Body, fixed, attributes, read_part, read_body}
use Rattle.format.specs.FileAndTags.{class_of, eights, packed, walk}
use Rattle.format.specs.TableOfNumbers.{spread, unpacked, changed, pack, unpack}
use Rattle.format.specs.Blanking.{here, Blanked, InPacked, in_this}
use Rattle.format.specs.Reasons.{start_fault, walk_file, Result, gives, refuses, read_file, read_plain, read_tags, accepted, Left, refuses_with, into}
use Rattle.format.proofs.BlankLaws.{blanked_byte}

-- a file at a level; a whole body; a format that need not use up its bytes
pub data Case : Type 0 where
  file : ℕ → List ℕ → Case
  body : Body → List ℕ → Case
  part : Format → List ℕ → Case

-- a body or a part by itself has no place: its refusals have number 0
abbrev pub alone : List ℕ → Ending → Result
alone ns (At p) = gives ns
alone ns (Fault e) = refuses e 0

-- in the order of this number
abbrev pub read : ℕ → Case → Result
read order (file level f) = read_file order level f
read order (body y b) = alone (read_body (order_named order) y b).shown (read_body (order_named order) y b).ended
read order (part f b) = alone (run (order_named order) b f 0).shown (run (order_named order) b f 0).ended

pub record Example : Type 0 where
  pub given : Case
  pub gives : Result

abbrev file1 : List ℕ
file1 = 0x50 ∷ 0x41 ∷ 0x47 ∷ 0x01 ∷ 0x0B ∷ 0x00 ∷ 0x00 ∷ 0x00 ∷ 0x00 ∷ 0x00 ∷ 0x00 ∷ []

abbrev file2 : List ℕ
file2 =
    0x50 ∷ 0x41 ∷ 0x47 ∷ 0x01 ∷ 0x13 ∷ 0x00 ∷ 0x00 ∷ 0x00 ∷ 0x00 ∷ 0xC6 ∷ 0x01 ∷ 0xFF ∷ 0x80 ∷ 0x00 ∷ 0x80 ∷ 0x0A ∷ 0x03 ∷ 0x00 ∷ 0x00 ∷ []

abbrev pub examples : List Example
examples =
    -- P1
    record {
      given = file 1023 file1;
      gives = gives (0 ∷ 0 ∷ 1 ∷ 0 ∷ []);
    }
    -- P2 and P3: its middle, packed (C-17)
    ∷ record {
      given = file 1023 file2;
      gives = gives (0 ∷ 7 ∷ 1 ∷ 5 ∷ 255 ∷ 128 ∷ 0 ∷ 640 ∷ 18446744073709551615 ∷ 0 ∷ 1 ∷ 0 ∷ []);
    }
    ∷ record {
      given = file 6 file2;
      gives = gives (0 ∷ 7 ∷ 0 ∷ 2 ∷ 6 ∷ 3343632072959 ∷ 0 ∷ 1 ∷ 0 ∷ []);
    }
    -- P4 and P5, masks
    ∷ record {
      given = body (attributes mask_block) (0x10 ∷ 0x01 ∷ 0x80 ∷ []);
      gives = gives (1 ∷ 1 ∷ 0 ∷ 0 ∷ 0 ∷ 1 ∷ 128 ∷ 0 ∷ []);
    }
    ∷ record {
      given = body (attributes mask_block) (0x18 ∷ 0x01 ∷ 0x01 ∷ 0x40 ∷ 0x00 ∷ 0x18 ∷ 0x3F ∷ 0xF8 ∷ 0x00 ∷ 0x00 ∷ []);
      gives = gives (1 ∷ 1 ∷ 0 ∷ 0 ∷ 0 ∷ 3 ∷ 1 ∷ 1 ∷ 0 ∷ 24 ∷ 8 ∷ 255 ∷ 0 ∷ 1 ∷ 0 ∷ []);
    }
    -- P6, a path: verbs 1, 3, 4, 3, 0, width 10
    ∷ record {
      given = body (fixed path) (0x05 ∷ 0x2E ∷ 0x30 ∷ 0x91 ∷ 0x90 ∷ 0x00 ∷ 0x4B ∷ 0x19 ∷ 0x01 ∷ 0x90 ∷ []);
      gives = gives (5 ∷ 1 ∷ 3 ∷ 4 ∷ 3 ∷ 0 ∷ 10 ∷ 100 ∷ 0 ∷ 300 ∷ 400 ∷ 100 ∷ []);
    }
    -- P7, UB[6] and UB[5]; P8, SB[1] of bit 1 is -1
    ∷ record { given = part (item (Item.UB 6) ▸ item (Item.UB 5)) (0x5A ∷ 0x92 ∷ []); gives = gives (22 ∷ 20 ∷ []) }
    ∷ record { given = part (item (Item.SB 1)) (0x80 ∷ []); gives = gives (18446744073709551615 ∷ []) }
    -- P9 and P10, U32; P11, I32
    ∷ record { given = body (fixed u32) (0xFF ∷ 0xFF ∷ 0xFF ∷ 0xFF ∷ 0x0F ∷ []); gives = gives (4294967295 ∷ []) }
    ∷ record { given = body (fixed u32) (0x80 ∷ 0x00 ∷ []); gives = refuses 14 0 }
    ∷ record { given = body (fixed u32) (0xFF ∷ 0xFF ∷ 0xFF ∷ 0xFF ∷ 0x10 ∷ []); gives = refuses 14 0 }
    ∷ record { given = body (fixed i32) (0x01 ∷ []); gives = refuses 14 0 }
    ∷ []

pub P1-to-P11 : map (λ (x : Example). read 0 x.given) examples ≡ map (λ (x : Example). x.gives) examples
unfolding read_file walk_file start_fault class_of walk read_body read_part read_block all_flags rows run times read_item read_var read_flag ub bit_at eights
P1-to-P11 = refl

-- ---- Low order. "In low order the first bit read is the low bit of the byte and the lowest of its field; skipped bits are then the high ones."
-- So a body's bits, in the order in which they are read, are those of its bytes as one number, the first byte lowest; and a field of n bits at place p
-- is that number / 2 ^ p % 2 ^ n. Below, bits stand in the order in which they are read, those of one field together.

-- a mask with opacity 128: P4's values. Its header is 14 × 64 + 3; flags as below
abbrev low_mask : List ℕ
low_mask = 0x50 ∷ 0x41 ∷ 0x47 ∷ 0x01 ∷ 0x10 ∷ 0x00 ∷ 0x00 ∷ 0x00 ∷ 0x00 ∷ 0x83 ∷ 0x03 ∷ 0x08 ∷ 0x01 ∷ 0x80 ∷ 0x00 ∷ 0x00 ∷ []

abbrev pub low_examples : List Example
low_examples =
    -- P7's bytes: 5A is 0 1 0 1 1 0 1 0 and 92 is 0 1 0 0 1 0 0 1. UB[6] is 0 1 0 1 1 0: 2 + 8 + 16; UB[5] crosses the bytes, 1 0 0 1 0: 1 + 8
    record { given = part (item (Item.UB 6) ▸ item (Item.UB 5)) (0x5A ∷ 0x92 ∷ []); gives = gives (26 ∷ 9 ∷ []) }
    -- P8's SB[1] is the low bit: of 01 it is 1, so -1; of 80 it is 0
    ∷ record { given = part (item (Item.SB 1)) (0x01 ∷ []); gives = gives (18446744073709551615 ∷ []) }
    ∷ record { given = part (item (Item.SB 1)) (0x80 ∷ []); gives = gives (0 ∷ []) }
    -- two SB[4] of 87, which is 1 1 1 0 and 0 0 0 1: 7; and 8, whose last bit is its top bit, so 8 - 16
    ∷ record { given = part (item (Item.SB 4) ▸ item (Item.SB 4)) (0x87 ∷ []); gives = gives (7 ∷ 18446744073709551608 ∷ []) }
    -- a width: E9 is 1 0 0 1 0 and 1 1 1, which are not the width's: 1 + 8, plus 1
    ∷ record { given = part (item Item.width) (0xE9 ∷ []); gives = gives (10 ∷ []) }
    -- UB[5] and then a U32: 1F is 1 1 1 1 1 and 0 0 0, which are skipped. 3F has the first skipped bit set, 9F the last
    ∷ record { given = part (item (Item.UB 5) ▸ u32) (0x1F ∷ 0x07 ∷ []); gives = gives (31 ∷ 7 ∷ []) }
    ∷ record { given = part (item (Item.UB 5) ▸ u32) (0x3F ∷ 0x07 ∷ []); gives = refuses 15 0 }
    ∷ record { given = part (item (Item.UB 5) ▸ u32) (0x9F ∷ 0x07 ∷ []); gives = refuses 15 0 }
    -- P9: byte items stand on whole bytes, and the eight bits of a byte, the lowest first, are the byte
    ∷ record { given = body (fixed u32) (0xFF ∷ 0xFF ∷ 0xFF ∷ 0xFF ∷ 0x0F ∷ []); gives = gives (4294967295 ∷ []) }
    -- flags. P4's values: inverted 0, maskMode 0, path 0, opacity 1 0 (it is there, and not animatable), expansion 0 are 0 0 0 1 0 0: 8
    ∷ record {
      given = body (attributes mask_block) (0x08 ∷ 0x01 ∷ 0x80 ∷ []);
      gives = gives (1 ∷ 1 ∷ 0 ∷ 0 ∷ 0 ∷ 1 ∷ 128 ∷ 0 ∷ []);
    }
    -- the same with the top bit of the flags' byte set, which is the second of the two skipped
    ∷ record { given = body (attributes mask_block) (0x88 ∷ 0x01 ∷ 0x80 ∷ []); gives = refuses 15 0 }
    -- P4's own bytes: 10 is 0 0 0 0 1 0: expansion, and of its Float one byte is there
    ∷ record { given = body (attributes mask_block) (0x10 ∷ 0x01 ∷ 0x80 ∷ []); gives = refuses 13 0 }
    -- keyframed bytes. P5's values: flags 0 0 0 1 1 0 are 8 + 16; interpolation 1 0 is 1; a width of 8 and 255 and 0 are
    -- 1 1 1 0 0, 1 1 1 1 1 1 1 1, 0 0 0 0 0 0 0 0: E7 is 1 1 1 0 0 and 1 1 1, 1F is 1 1 1 1 1 and 0 0 0
    ∷ record {
      given = body (attributes mask_block) (0x18 ∷ 0x01 ∷ 0x01 ∷ 0x01 ∷ 0x00 ∷ 0x18 ∷ 0xE7 ∷ 0x1F ∷ 0x00 ∷ 0x00 ∷ []);
      gives = gives (1 ∷ 1 ∷ 0 ∷ 0 ∷ 0 ∷ 3 ∷ 1 ∷ 1 ∷ 0 ∷ 24 ∷ 8 ∷ 255 ∷ 0 ∷ 1 ∷ 0 ∷ []);
    }
    -- interpolations 3, 2, 1 are 3 + 2 × 4 + 1 × 16 = 1B. Values of four bits: 3 + 15 × 2 ^ 5 + 0 + 8 × 2 ^ 13 + 1 × 2 ^ 17 = 0301E3. One frame is
    -- Bezier: width 1 is 0 0 0 0 0, and four SB[1], 0 1 1 0: 2 ^ 6 + 2 ^ 7 = C0, and their last bit is the next byte's first
    ∷ record {
      given = body (attributes mask_block) (0x18 ∷ 0x01 ∷ 0x03 ∷ 0x1B ∷ 0x00 ∷ 0x01 ∷ 0x02 ∷ 0x03 ∷ 0xE3 ∷ 0x01 ∷ 0x03 ∷ 0xC0 ∷ 0x00 ∷ []);
      gives =
          gives (1 ∷ 1 ∷ 0 ∷ 0 ∷ 0 ∷ 3 ∷ 3 ∷ 3 ∷ 2 ∷ 1 ∷ 0 ∷ 1 ∷ 2 ∷ 3 ∷ 4 ∷ 15 ∷ 0 ∷ 8 ∷ 1 ∷ 1 ∷ 0 ∷ 18446744073709551615 ∷ 18446744073709551615 ∷ 0 ∷ 0 ∷ []);
    }
    -- keyframed Bools: flags 0 1 1 0 0 0 0 are 2 + 4; two frames, times 0, 12, 24; Bools 1 0 1 are 1 + 4; an easing width of 1
    ∷ record {
      given = body (attributes text_path_option) (0x06 ∷ 0x02 ∷ 0x00 ∷ 0x0C ∷ 0x18 ∷ 0x05 ∷ 0x00 ∷ []);
      gives = gives (0 ∷ 3 ∷ 2 ∷ 0 ∷ 12 ∷ 24 ∷ 1 ∷ 0 ∷ 1 ∷ 1 ∷ 0 ∷ 0 ∷ 0 ∷ 0 ∷ []);
    }
    -- P6's path: verbs 1, 3, 4, 3, 0 at places 0, 3, 6, 9, 12; 9, a width of 10, at 15; steps 100, 0, 300, 400, 100 at 20, 30, 40, 50, 60.
    -- 1 + 3 × 2 ^ 3 + 4 × 2 ^ 6 + 3 × 2 ^ 9 + 9 × 2 ^ 15 + 100 × 2 ^ 20 = 06448719; 300 × 2 ^ 40 is 012C
    -- from byte 5 on, 400 × 2 ^ 50 is 400 × 4 = 0640 from byte 6 on, 100 × 2 ^ 60 is 100 × 16 = 0640 from byte 7 on: 2C, 01 + 40, 06 + 40, 06
    ∷ record {
      given = body (fixed path) (0x05 ∷ 0x19 ∷ 0x87 ∷ 0x44 ∷ 0x06 ∷ 0x00 ∷ 0x2C ∷ 0x41 ∷ 0x46 ∷ 0x06 ∷ []);
      gives = gives (5 ∷ 1 ∷ 3 ∷ 4 ∷ 3 ∷ 0 ∷ 10 ∷ 100 ∷ 0 ∷ 300 ∷ 400 ∷ 100 ∷ []);
    }
    -- the same with the top bit of its last byte set: 70 bits are used, and the last two of the body's 72 are skipped
    ∷ record { given = body (fixed path) (0x05 ∷ 0x19 ∷ 0x87 ∷ 0x44 ∷ 0x06 ∷ 0x00 ∷ 0x2C ∷ 0x41 ∷ 0x46 ∷ 0x86 ∷ []); gives = refuses 15 0 }
    -- steps over five bytes: verbs 3, 3, a width of 32 and the step 1 are 3 + 3 × 2 ^ 3 + 31 × 2 ^ 6 + 1 × 2 ^ 11 = 0FDB; -1 is 32 ones from place 43 on,
    -- bit 3 of byte 5
    ∷ record {
      given = body (fixed path) (0x02 ∷ 0xDB ∷ 0x0F ∷ 0x00 ∷ 0x00 ∷ 0x00 ∷ 0xF8 ∷ 0xFF ∷ 0xFF ∷ 0xFF ∷ 0x07 ∷ []);
      gives = gives (2 ∷ 3 ∷ 3 ∷ 32 ∷ 1 ∷ 18446744073709551615 ∷ []);
    }
    -- files: the mask above; the same at level 13, where it is opaque, and its bytes know no order (8 + 256 × 1 + 65536 × 128); P2, which has no bit fields
    ∷ record {
      given = file 1023 low_mask;
      gives = gives (0 ∷ 14 ∷ 1 ∷ 8 ∷ 1 ∷ 1 ∷ 0 ∷ 0 ∷ 0 ∷ 1 ∷ 128 ∷ 0 ∷ 0 ∷ 1 ∷ 0 ∷ []);
    }
    ∷ record {
      given = file 13 low_mask;
      gives = gives (0 ∷ 14 ∷ 0 ∷ 2 ∷ 3 ∷ 8388872 ∷ 0 ∷ 1 ∷ 0 ∷ []);
    }
    ∷ record {
      given = file 1023 file2;
      gives = gives (0 ∷ 7 ∷ 1 ∷ 5 ∷ 255 ∷ 128 ∷ 0 ∷ 640 ∷ 18446744073709551615 ∷ 0 ∷ 1 ∷ 0 ∷ []);
    }
    ∷ []

pub low_examples_lem : map (λ (x : Example). read 1 x.given) low_examples ≡ map (λ (x : Example). x.gives) low_examples
unfolding read_file walk_file start_fault class_of walk read_body read_part read_block all_flags rows run times read_item read_var read_le read_flag ub bit_at eights
low_examples_lem = refl

-- ---- An order that is neither: "24 for an order that is neither, tried after 1". P1; P1 at level 1024; no bytes, which is 2 in either order
abbrev pub neither_examples : List Example
neither_examples =
    record { given = file 1023 file1; gives = refuses 24 0 }
    ∷ record { given = file 1024 file1; gives = refuses 1 0 }
    ∷ record { given = file 1023 []; gives = refuses 24 0 }
    ∷ []

pub neither_examples_lem : map (λ (x : Example). read 2 x.given) neither_examples ≡ map (λ (x : Example). x.gives) neither_examples
unfolding read_file walk_file start_fault class_of walk
neither_examples_lem = refl

-- ---- Long headers on short bodies (C-11). "The state of a tag gains 2 when a long header carries a body below 63 …; End may come this way with
-- length 0." A long header is code × 64 + 63 in two bytes, and the length in four.

abbrev pub zeros : ℕ → List ℕ
zeros zero = []
zeros (suc n) = 0 ∷ zeros n

-- P1, its End by a long header
abbrev long_end : List ℕ
long_end = 0x50 ∷ 0x41 ∷ 0x47 ∷ 0x01 ∷ 0x0F ∷ 0x00 ∷ 0x00 ∷ 0x00 ∷ 0x00 ∷ 0x3F ∷ 0x00 ∷ 0x00 ∷ 0x00 ∷ 0x00 ∷ 0x00 ∷ []

-- P2, its Solid by a long header: 7 × 64 + 63 is 01FF, and the length 6
abbrev long_solid : List ℕ
long_solid = 0x50 ∷ 0x41 ∷ 0x47 ∷ 0x01 ∷ 0x17 ∷ 0x00 ∷ 0x00 ∷ 0x00 ∷ 0x00 ∷ 0xFF ∷ 0x01 ∷ 0x06 ∷ 0x00 ∷ 0x00 ∷ 0x00 ∷ 0xFF ∷ 0x80 ∷ 0x00 ∷ 0x80 ∷ 0x0A ∷ 0x03 ∷ 0x00 ∷ 0x00 ∷ []

-- a container by a long header: 2 × 64 + 63 is 00BF. Its whole body counts, 7 bytes: the id 5, and a list that is an End by a long header
abbrev long_container : List ℕ
long_container = 0x50 ∷ 0x41 ∷ 0x47 ∷ 0x01 ∷ 0x18 ∷ 0x00 ∷ 0x00 ∷ 0x00 ∷ 0x00 ∷ 0xBF ∷ 0x00 ∷ 0x07 ∷ 0x00 ∷ 0x00 ∷ 0x00 ∷ 0x05 ∷ 0x3F ∷ 0x00 ∷ 0x00 ∷ 0x00 ∷ 0x00 ∷ 0x00 ∷ 0x00 ∷ 0x00 ∷ []

abbrev pub long_examples : List Example
long_examples =
    record { given = file 1023 long_end; gives = gives (0 ∷ 0 ∷ 3 ∷ 0 ∷ []) }
    -- read, and at level 6 opaque: the 2 stays
    ∷ record {
      given = file 1023 long_solid;
      gives = gives (0 ∷ 7 ∷ 3 ∷ 5 ∷ 255 ∷ 128 ∷ 0 ∷ 640 ∷ 18446744073709551615 ∷ 0 ∷ 1 ∷ 0 ∷ []);
    }
    ∷ record {
      given = file 6 long_solid;
      gives = gives (0 ∷ 7 ∷ 2 ∷ 2 ∷ 6 ∷ 3343632072959 ∷ 0 ∷ 1 ∷ 0 ∷ []);
    }
    ∷ record {
      given = file 1023 long_container;
      gives = gives (0 ∷ 2 ∷ 3 ∷ 1 ∷ 5 ∷ 0 ∷ 3 ∷ 0 ∷ 0 ∷ 1 ∷ 0 ∷ []);
    }
    ∷ record {
      given = file 1 long_container;
      gives = gives (0 ∷ 2 ∷ 2 ∷ 2 ∷ 7 ∷ 16133 ∷ 0 ∷ 1 ∷ 0 ∷ []);
    }
    -- the opaque tag 8 with 62 bytes and with 63
    ∷ record {
      given = file 1023 (0x50 ∷ 0x41 ∷ 0x47 ∷ 0x01 ∷ 0x4F ∷ 0x00 ∷ 0x00 ∷ 0x00 ∷ 0x00 ∷ 0x3F ∷ 0x02 ∷ 0x3E ∷ 0x00 ∷ 0x00 ∷ 0x00 ∷ (zeros 62 ++ 0 ∷ 0 ∷ []));
      gives = gives (0 ∷ 8 ∷ 2 ∷ 9 ∷ 62 ∷ (zeros 8 ++ 0 ∷ 1 ∷ 0 ∷ []));
    }
    ∷ record {
      given = file 1023 (0x50 ∷ 0x41 ∷ 0x47 ∷ 0x01 ∷ 0x50 ∷ 0x00 ∷ 0x00 ∷ 0x00 ∷ 0x00 ∷ 0x3F ∷ 0x02 ∷ 0x3F ∷ 0x00 ∷ 0x00 ∷ 0x00 ∷ (zeros 63 ++ 0 ∷ 0 ∷ []));
      gives = gives (0 ∷ 8 ∷ 0 ∷ 9 ∷ 63 ∷ (zeros 8 ++ 0 ∷ 1 ∷ 0 ∷ []));
    }
    -- refusals: a long header that is cut, one with 62 and no body, End by one with 1
    ∷ record { given = file 1023 (0x50 ∷ 0x41 ∷ 0x47 ∷ 0x01 ∷ 0x0E ∷ 0x00 ∷ 0x00 ∷ 0x00 ∷ 0x00 ∷ 0x3F ∷ 0x02 ∷ 0x3E ∷ 0x00 ∷ 0x00 ∷ []); gives = refuses 6 9 }
    ∷ record { given = file 1023 (0x50 ∷ 0x41 ∷ 0x47 ∷ 0x01 ∷ 0x0F ∷ 0x00 ∷ 0x00 ∷ 0x00 ∷ 0x00 ∷ 0x3F ∷ 0x02 ∷ 0x3E ∷ 0x00 ∷ 0x00 ∷ 0x00 ∷ []); gives = refuses 9 9 }
    ∷ record { given = file 1023 (0x50 ∷ 0x41 ∷ 0x47 ∷ 0x01 ∷ 0x10 ∷ 0x00 ∷ 0x00 ∷ 0x00 ∷ 0x00 ∷ 0x3F ∷ 0x00 ∷ 0x01 ∷ 0x00 ∷ 0x00 ∷ 0x00 ∷ 0x00 ∷ []); gives = refuses 10 9 }
    ∷ []

pub long_examples_lem : map (λ (x : Example). read 0 x.given) long_examples ≡ map (λ (x : Example). x.gives) long_examples
unfolding read_file walk_file start_fault class_of walk read_body read_part run times read_item read_var ub bit_at eights
long_examples_lem = refl

-- its row has header size 6
pub long_row : read_tags 0 1023 long_end ≡ gives (0 ∷ 0 ∷ 9 ∷ 6 ∷ 0 ∷ [])
unfolding read_tags walk_file start_fault class_of walk
long_row = refl

-- ---- Packed bodies (C-17). "Hold an opaque body as its byte length and then eight bytes to a number, lowest byte first, the last number filled with
-- zeros." Of no bytes, one, eight and nine: 1 + 2 × 256 + … + 8 × 256 ^ 7 is 0807060504030201

abbrev pub bodies : List (List ℕ)
bodies = [] ∷ (200 ∷ []) ∷ (1 ∷ 2 ∷ 3 ∷ 4 ∷ 5 ∷ 6 ∷ 7 ∷ 8 ∷ []) ∷ (1 ∷ 2 ∷ 3 ∷ 4 ∷ 5 ∷ 6 ∷ 7 ∷ 8 ∷ 255 ∷ []) ∷ []

abbrev pub packed_bodies : List (List ℕ)
packed_bodies = (0 ∷ []) ∷ (1 ∷ 200 ∷ []) ∷ (8 ∷ 0x0807060504030201 ∷ []) ∷ (9 ∷ 0x0807060504030201 ∷ 255 ∷ []) ∷ []

pub packed_examples : (map packed bodies ≡ packed_bodies) × (map unpacked packed_bodies ≡ bodies)
unfolding eights spread
packed_examples = (refl, refl)

-- P3's plain table is document 01's own: 7, 0, 6, and the six bytes; `pack` and `unpack` turn the two into each other
abbrev plain3 : List ℕ
plain3 = 0 ∷ 7 ∷ 0 ∷ 6 ∷ 255 ∷ 128 ∷ 0 ∷ 128 ∷ 10 ∷ 3 ∷ 0 ∷ 1 ∷ 0 ∷ []

abbrev packed3 : List ℕ
packed3 = 0 ∷ 7 ∷ 0 ∷ 2 ∷ 6 ∷ 3343632072959 ∷ 0 ∷ 1 ∷ 0 ∷ []

pub plain_p3 : (read_plain 0 6 file2 ≡ gives plain3) × (pack plain3 ≡ packed3) × (unpack packed3 ≡ plain3)
unfolding read_plain walk_file start_fault class_of walk eights changed spread
plain_p3 = (refl, refl, refl)

-- P3 with a byte of its opaque body changed, 128 at place 12 to 0 (C-20): the same but for the packed number, which stands at index 5
pub blanked_p3 : Blanked 0 6 file2 (set file2 12 0) × InPacked 5 1 (walk_file 0 6 file2).tags × (read_file 0 6 (set file2 12 0) ≡ gives (0 ∷ 7 ∷ 0 ∷ 2 ∷ 6 ∷ 3343632040191 ∷ 0 ∷ 1 ∷ 0 ∷ []))
unfolding read_file walk_file start_fault class_of walk eights
blanked_p3 = (blanked_byte 0 6 file2 12 0 (here refl (lit≤ tt) (lit< tt)), in_this refl (lit≤ tt) (lit< tt), refl)

-- an opaque tag that was passed before the refusal: a body of one byte at place 11, and no End
abbrev passed : ℕ → List ℕ
passed x = 0x50 ∷ 0x41 ∷ 0x47 ∷ 0x01 ∷ 0x0C ∷ 0x00 ∷ 0x00 ∷ 0x00 ∷ 0x00 ∷ 0x01 ∷ 0x01 ∷ x ∷ []

pub blanked_refused : Blanked 0 1023 (passed 5) (passed 6) × (read_file 0 1023 (passed 5) ≡ refuses 7 12) × (read_file 0 1023 (passed 6) ≡ refuses 7 12)
unfolding read_file walk_file start_fault class_of walk eights
blanked_refused = (blanked_byte 0 1023 (passed 5) 11 6 (here refl (lit≤ tt) (lit< tt)), refl, refl)

-- the room: P1 needs four numbers, and its tag table five; what is lent past these stays, and a refusal changes nothing
pub record RoomExample : Type 0 where
  pub lent : List ℕ
  pub table : Left
  pub tag_table : Left

abbrev pub room_examples : List RoomExample
room_examples =
    record { lent = []; table = refuses_with [] 19 4; tag_table = refuses_with [] 19 5 }
    ∷ record { lent = 9 ∷ 9 ∷ 9 ∷ []; table = refuses_with (9 ∷ 9 ∷ 9 ∷ []) 19 4; tag_table = refuses_with (9 ∷ 9 ∷ 9 ∷ []) 19 5 }
    ∷ record {
      lent = 9 ∷ 9 ∷ 9 ∷ 9 ∷ [];
      table = record { answer = accepted 4; lent = 0 ∷ 0 ∷ 1 ∷ 0 ∷ [] };
      tag_table = refuses_with (9 ∷ 9 ∷ 9 ∷ 9 ∷ []) 19 5;
    }
    ∷ record {
      lent = 9 ∷ 9 ∷ 9 ∷ 9 ∷ 9 ∷ 9 ∷ [];
      table = record { answer = accepted 4; lent = 0 ∷ 0 ∷ 1 ∷ 0 ∷ 9 ∷ 9 ∷ [] };
      tag_table = record { answer = accepted 5; lent = 0 ∷ 0 ∷ 9 ∷ 2 ∷ 0 ∷ 9 ∷ [] };
    }
    ∷ []

pub rooms_read : map (λ (x : RoomExample). into x.lent (read_file 0 1023 file1)) room_examples ≡ map (λ (x : RoomExample). x.table) room_examples
unfolding read_file walk_file start_fault class_of walk
rooms_read = refl

pub rooms_tags : map (λ (x : RoomExample). into x.lent (read_tags 0 1023 file1)) room_examples ≡ map (λ (x : RoomExample). x.tag_table) room_examples
unfolding read_tags walk_file start_fault class_of walk
rooms_tags = refl
