-- The definitions compute: canvas sizes of small files, derived by hand from the request.
use Prim.Native.Nat.{ℕ}
use mathlib.Core.List.{List, [], ◌∷◌, ◌++◌, map}
use mathlib.Core.Path.{◌≡◌, refl}
use Rattle.format.specs.Bits.{bit_at, ub}
use Rattle.format.specs.Formats.{times}
use Rattle.format.specs.Items.{read_item, read_var, read_le, run}
use Rattle.format.specs.Bodies.{read_part, read_body}
use Rattle.format.specs.FileAndTags.{class_of, eights, walk}
use Rattle.format.specs.Reasons.{start_fault, walk_file}
use Rattle.canvas.specs.Canvas.{found, none, refused, Canvas, canvas, canvas_in, canvas_file}

-- a file of n bytes, all told, with these tags
abbrev file_of : ℕ → List ℕ → List ℕ
file_of n tags = 0x50 ∷ 0x41 ∷ 0x47 ∷ 1 ∷ n ∷ 0 ∷ 0 ∷ 0 ∷ 0 ∷ tags

-- tag 3, 11 bytes by a short header (3 × 64 + 11): width 640 (d = 1280), height -1 (d = 3), 90 frames, 30 frames a second (the Float 0x41F00000), colour 1, 2, 3
abbrev size : List ℕ
size = 0xCB ∷ 0 ∷ 0x80 ∷ 0x0A ∷ 0x03 ∷ 0x5A ∷ 0 ∷ 0 ∷ 0xF0 ∷ 0x41 ∷ 1 ∷ 2 ∷ 3 ∷ []

abbrev values : List ℕ
values = 640 ∷ 18446744073709551615 ∷ 90 ∷ 1106247680 ∷ 1 ∷ 2 ∷ 3 ∷ []

pub record Example : Type 0 where
  pub level : ℕ
  pub file : List ℕ
  pub gives : Canvas

abbrev examples : List Example
examples =
    -- it stands first, and End behind it
    record { level = 1023; file = file_of 24 (size ++ (0 ∷ 0 ∷ [])); gives = canvas (found values) 1 }
    -- below its level it is opaque: none, and both headers were read
    ∷ record { level = 2; file = file_of 24 (size ++ (0 ∷ 0 ∷ [])); gives = canvas none 2 }
    -- twice: the first one
    ∷ record { level = 1023; file = file_of 37 (size ++ size ++ (0 ∷ 0 ∷ [])); gives = canvas (found values) 1 }
    -- behind it a header whose body is not there (9): it is not judged
    ∷ record { level = 1023; file = file_of 24 (size ++ (1 ∷ 0 ∷ [])); gives = canvas (found values) 1 }
    -- its body has a byte less: 13 at its place, and its header was read
    ∷ record { level = 1023; file = file_of 23 (0xCA ∷ 0 ∷ 0x80 ∷ 0x0A ∷ 0x03 ∷ 0x5A ∷ 0 ∷ 0 ∷ 0xF0 ∷ 0x41 ∷ 1 ∷ 2 ∷ 0 ∷ 0 ∷ []); gives = canvas (refused 13 9) 1 }
    -- in a composition (tag 2, id 7, 16 bytes), behind its header
    ∷ record { level = 1023; file = file_of 29 (0x90 ∷ 0 ∷ 7 ∷ size ++ (0 ∷ 0 ∷ 0 ∷ 0 ∷ [])); gives = canvas (found values) 2 }
    -- a header that is cut: 6, and none was read
    ∷ record { level = 1023; file = file_of 10 (0xCB ∷ []); gives = canvas (refused 6 9) 0 }
    -- a level above 1023, of no file at all
    ∷ record { level = 1024; file = []; gives = canvas (refused 1 0) 0 }
    ∷ []

pub canvas_examples : map (λ (x : Example). canvas_file 0 x.level x.file) examples ≡ map (λ (x : Example). x.gives) examples
unfolding walk_file start_fault class_of walk read_body read_part run times read_item read_var read_le ub bit_at eights canvas_in
canvas_examples = refl
