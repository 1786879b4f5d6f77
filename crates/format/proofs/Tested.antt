-- Test files that wrong definitions would fail on (must-fail/), with what document 01 makes of them, as one table that the definitions compute.
-- Made by tests/reference/make_tested.py from the lines of tests/cases.txt that are marked as proved. All of its lines are run by programs.
use Prim.Native.Nat.{ℕ}
use mathlib.Core.List.{List, [], ◌∷◌, map}
use mathlib.Core.Path.{◌≡◌, refl}
use Rattle.format.specs.Bits.{bit_at, ub}
use Rattle.format.specs.Formats.{times}
use Rattle.format.specs.Items.{read_var, read_le, read_text, read_flag, read_item, run}
use Rattle.format.specs.Bodies.{all_flags, rows, read_block, read_part, read_body}
use Rattle.format.specs.FileAndTags.{class_of, eights, walk}
use Rattle.format.specs.Reasons.{start_fault, walk_file, Result, gives, refuses, read_file}

-- a file in an order and at a level, and what it gives
pub record Test : Type 0 where
  pub order : ℕ
  pub level : ℕ
  pub file : List ℕ
  pub result : Result

abbrev pub tests : List Test
tests =
    -- bytes_after_end_depth_0: P1 and one byte: "bytes after End", number is the first such byte
    record { order = 0; level = 1023; file = (0x50 ∷ 0x41 ∷ 0x47 ∷ 0x01 ∷ 0x0C ∷ 0x00 ∷ 0x00 ∷ 0x00 ∷ 0x00 ∷ 0x00 ∷ 0x00 ∷ 0xFF ∷ []); result = refuses 11 11 }
    -- bytes_after_end_in_container: tag 2 at place 12, one byte after its End: 11 with the container's place, not 18
    ∷ record { order = 0; level = 1023; file = (0x50 ∷ 0x41 ∷ 0x47 ∷ 0x01 ∷ 0x14 ∷ 0x00 ∷ 0x00 ∷ 0x00 ∷ 0x00 ∷ 0xC1 ∷ 0x02 ∷ 0x00 ∷ 0x84 ∷ 0x00 ∷ 0x05 ∷ 0x00 ∷ 0x00 ∷ 0x00 ∷ 0x00 ∷ 0x00 ∷ []); result = refuses 11 12 }
    -- container_depth_7: eight tags 2 inside each other, the last at depth 7: taken
    ∷ record { order = 0; level = 1023; file = (0x50 ∷ 0x41 ∷ 0x47 ∷ 0x01 ∷ 0x33 ∷ 0x00 ∷ 0x00 ∷ 0x00 ∷ 0x00 ∷ 0xA6 ∷ 0x00 ∷ 0x00 ∷ 0xA1 ∷ 0x00 ∷ 0x01 ∷ 0x9C ∷ 0x00 ∷ 0x02 ∷ 0x97 ∷ 0x00 ∷ 0x03 ∷ 0x92 ∷ 0x00 ∷ 0x04 ∷ 0x8D ∷ 0x00 ∷ 0x05 ∷ 0x88 ∷ 0x00 ∷ 0x06 ∷ 0x83 ∷ 0x00 ∷ 0x07 ∷ 0x00 ∷ 0x00 ∷ 0x00 ∷ 0x00 ∷ 0x00 ∷ 0x00 ∷ 0x00 ∷ 0x00 ∷ 0x00 ∷ 0x00 ∷ 0x00 ∷ 0x00 ∷ 0x00 ∷ 0x00 ∷ 0x00 ∷ 0x00 ∷ 0x00 ∷ 0x00 ∷ []); result = gives (0 ∷ 2 ∷ 1 ∷ 1 ∷ 0 ∷ 2 ∷ 1 ∷ 1 ∷ 1 ∷ 2 ∷ 1 ∷ 1 ∷ 2 ∷ 2 ∷ 1 ∷ 1 ∷ 3 ∷ 2 ∷ 1 ∷ 1 ∷ 4 ∷ 2 ∷ 1 ∷ 1 ∷ 5 ∷ 2 ∷ 1 ∷ 1 ∷ 6 ∷ 2 ∷ 1 ∷ 1 ∷ 7 ∷ 0 ∷ 1 ∷ 0 ∷ 0 ∷ 1 ∷ 0 ∷ 0 ∷ 1 ∷ 0 ∷ 0 ∷ 1 ∷ 0 ∷ 0 ∷ 1 ∷ 0 ∷ 0 ∷ 1 ∷ 0 ∷ 0 ∷ 1 ∷ 0 ∷ 0 ∷ 1 ∷ 0 ∷ 0 ∷ 1 ∷ 0 ∷ []) }
    -- container_depth_8: nine tags 2 inside each other: "A container at depth 8 is refused"
    ∷ record { order = 0; level = 1023; file = (0x50 ∷ 0x41 ∷ 0x47 ∷ 0x01 ∷ 0x38 ∷ 0x00 ∷ 0x00 ∷ 0x00 ∷ 0x00 ∷ 0xAB ∷ 0x00 ∷ 0x00 ∷ 0xA6 ∷ 0x00 ∷ 0x01 ∷ 0xA1 ∷ 0x00 ∷ 0x02 ∷ 0x9C ∷ 0x00 ∷ 0x03 ∷ 0x97 ∷ 0x00 ∷ 0x04 ∷ 0x92 ∷ 0x00 ∷ 0x05 ∷ 0x8D ∷ 0x00 ∷ 0x06 ∷ 0x88 ∷ 0x00 ∷ 0x07 ∷ 0x83 ∷ 0x00 ∷ 0x08 ∷ 0x00 ∷ 0x00 ∷ 0x00 ∷ 0x00 ∷ 0x00 ∷ 0x00 ∷ 0x00 ∷ 0x00 ∷ 0x00 ∷ 0x00 ∷ 0x00 ∷ 0x00 ∷ 0x00 ∷ 0x00 ∷ 0x00 ∷ 0x00 ∷ 0x00 ∷ 0x00 ∷ 0x00 ∷ 0x00 ∷ []); result = refuses 12 33 }
    -- nested_level_5: tag 1; tag 2 holding tag 5 holding tags 6 and 7; level 5: tags 6 and 7 opaque
    ∷ record { order = 0; level = 5; file = (0x50 ∷ 0x41 ∷ 0x47 ∷ 0x01 ∷ 0x25 ∷ 0x00 ∷ 0x00 ∷ 0x00 ∷ 0x00 ∷ 0x41 ∷ 0x00 ∷ 0x00 ∷ 0x95 ∷ 0x00 ∷ 0x01 ∷ 0x50 ∷ 0x01 ∷ 0x02 ∷ 0x03 ∷ 0x82 ∷ 0x01 ∷ 0x00 ∷ 0x18 ∷ 0xC6 ∷ 0x01 ∷ 0xFF ∷ 0x80 ∷ 0x00 ∷ 0x80 ∷ 0x0A ∷ 0x03 ∷ 0x00 ∷ 0x00 ∷ 0x00 ∷ 0x00 ∷ 0x00 ∷ 0x00 ∷ []); result = gives (0 ∷ 1 ∷ 1 ∷ 1 ∷ 0 ∷ 2 ∷ 1 ∷ 1 ∷ 1 ∷ 5 ∷ 1 ∷ 2 ∷ 2 ∷ 3 ∷ 6 ∷ 0 ∷ 2 ∷ 2 ∷ 6144 ∷ 7 ∷ 0 ∷ 2 ∷ 6 ∷ 3343632072959 ∷ 0 ∷ 1 ∷ 0 ∷ 0 ∷ 1 ∷ 0 ∷ 0 ∷ 1 ∷ 0 ∷ []) }
    -- nested_level_6: tag 1; tag 2 holding tag 5 holding tags 6 and 7; level 6: tag 7 opaque; tag 6 with no flag set, "Fixed gives 1"
    ∷ record { order = 0; level = 6; file = (0x50 ∷ 0x41 ∷ 0x47 ∷ 0x01 ∷ 0x25 ∷ 0x00 ∷ 0x00 ∷ 0x00 ∷ 0x00 ∷ 0x41 ∷ 0x00 ∷ 0x00 ∷ 0x95 ∷ 0x00 ∷ 0x01 ∷ 0x50 ∷ 0x01 ∷ 0x02 ∷ 0x03 ∷ 0x82 ∷ 0x01 ∷ 0x00 ∷ 0x18 ∷ 0xC6 ∷ 0x01 ∷ 0xFF ∷ 0x80 ∷ 0x00 ∷ 0x80 ∷ 0x0A ∷ 0x03 ∷ 0x00 ∷ 0x00 ∷ 0x00 ∷ 0x00 ∷ 0x00 ∷ 0x00 ∷ []); result = gives (0 ∷ 1 ∷ 1 ∷ 1 ∷ 0 ∷ 2 ∷ 1 ∷ 1 ∷ 1 ∷ 5 ∷ 1 ∷ 2 ∷ 2 ∷ 3 ∷ 6 ∷ 1 ∷ 10 ∷ 0 ∷ 0 ∷ 0 ∷ 0 ∷ 0 ∷ 0 ∷ 0 ∷ 0 ∷ 1 ∷ 24 ∷ 7 ∷ 0 ∷ 2 ∷ 6 ∷ 3343632072959 ∷ 0 ∷ 1 ∷ 0 ∷ 0 ∷ 1 ∷ 0 ∷ 0 ∷ 1 ∷ 0 ∷ []) }
    -- skipped_after_flags: bool_frames with a bit set between flags and frame count: "skipped bits are zero"
    ∷ record { order = 0; level = 1023; file = (0x50 ∷ 0x41 ∷ 0x47 ∷ 0x01 ∷ 0x14 ∷ 0x00 ∷ 0x00 ∷ 0x00 ∷ 0x00 ∷ 0x47 ∷ 0x02 ∷ 0x61 ∷ 0x02 ∷ 0x00 ∷ 0x0C ∷ 0x18 ∷ 0xA0 ∷ 0x00 ∷ 0x00 ∷ 0x00 ∷ []); result = refuses 15 9 }
    -- skipped_at_body_end: P6 with a bit set after the last coordinate: "also at a body's end"
    ∷ record { order = 0; level = 1023; file = (0x50 ∷ 0x41 ∷ 0x47 ∷ 0x01 ∷ 0x19 ∷ 0x00 ∷ 0x00 ∷ 0x00 ∷ 0x00 ∷ 0x8C ∷ 0x03 ∷ 0x20 ∷ 0x01 ∷ 0x05 ∷ 0x2E ∷ 0x30 ∷ 0x91 ∷ 0x90 ∷ 0x00 ∷ 0x4B ∷ 0x19 ∷ 0x01 ∷ 0x91 ∷ 0x00 ∷ 0x00 ∷ []); result = refuses 15 9 }
    -- low_byte_frames_p5: P5's values: interpolation 1 is 01; 7 in five bits, 255 and 0 in eight are 11100 111, 11111 000, 00000 000, first bit lowest: E7 1F 00
    ∷ record { order = 1; level = 1023; file = (0x50 ∷ 0x41 ∷ 0x47 ∷ 0x01 ∷ 0x17 ∷ 0x00 ∷ 0x00 ∷ 0x00 ∷ 0x00 ∷ 0x8A ∷ 0x03 ∷ 0x18 ∷ 0x01 ∷ 0x01 ∷ 0x01 ∷ 0x00 ∷ 0x18 ∷ 0xE7 ∷ 0x1F ∷ 0x00 ∷ 0x00 ∷ 0x00 ∷ 0x00 ∷ []); result = gives (0 ∷ 14 ∷ 1 ∷ 15 ∷ 1 ∷ 1 ∷ 0 ∷ 0 ∷ 0 ∷ 3 ∷ 1 ∷ 1 ∷ 0 ∷ 24 ∷ 8 ∷ 255 ∷ 0 ∷ 1 ∷ 0 ∷ 0 ∷ 1 ∷ 0 ∷ []) }
    -- level_before_order: P1 at level 1024 in order 2: 1 before 24
    ∷ record { order = 2; level = 1024; file = (0x50 ∷ 0x41 ∷ 0x47 ∷ 0x01 ∷ 0x0B ∷ 0x00 ∷ 0x00 ∷ 0x00 ∷ 0x00 ∷ 0x00 ∷ 0x00 ∷ []); result = refuses 1 0 }
    -- order_before_short: no bytes in order 2: 24 before 2
    ∷ record { order = 2; level = 1023; file = ([]); result = refuses 24 0 }
    ∷ []

pub tested : map (λ (t : Test). read_file t.order t.level t.file) tests ≡ map (λ (t : Test). t.result) tests
unfolding read_file walk_file start_fault class_of walk read_body read_part read_block all_flags rows run times read_item read_var read_le read_text read_flag ub bit_at eights
tested = refl
