-- The body of a tag by its code, as this crate's functions take it.
use Rattle.std.specs.Prelude.{ℕ, Bool, List, leb, eqb}
use Rattle.format.specs.Tests.{pick, ◌and◌, ◌or◌}
use Rattle.format.specs.Bits.{Order}
use Rattle.format.specs.Reading.{Reading}
use Rattle.format.specs.Bodies.{Body, fixed, attributes, shape_group, to_end, read_body}
use Rattle.format.specs.FileAndTags.{has_list}
use Rattle.attributes.specs.Rows.{attributes_of}
use Rattle.fixed.specs.Fixed.{fixed_of}

-- 6, 9, 10 and 13 to 27 are attribute blocks
abbrev pub is_block : ℕ → Bool
is_block code = eqb code 6 or eqb code 9 or eqb code 10 or (leb 13 code and leb code 27)

-- the body of a code, read as an attribute block or not; a code that has no body of its own has no items
abbrev pub body_by : Bool → ℕ → Body
body_by block code = pick block (attributes (attributes_of code)) (fixed (fixed_of code))

unfoldable pub leaf_body : ℕ → Body
leaf_body code = body_by (is_block code) code

-- the own part of a container: a ShapeGroup's (15) is an attribute block, and others have items
abbrev pub group : Body
group = attributes shape_group

unfoldable pub container_body : ℕ → Body
container_body code = pick (eqb code 15) group (fixed (fixed_of code))

-- whether it has a list, and what is read of it: up to the whole byte where the list starts, and without one to its end
abbrev pub has_list_in : Order → Body → List ℕ → Bool
has_list_in o y b = has_list y (to_end o b y).shown

abbrev pub own_part : Order → Body → List ℕ → Reading
own_part o y b = pick (has_list_in o y b) (to_end o b y) (read_body o y b)
