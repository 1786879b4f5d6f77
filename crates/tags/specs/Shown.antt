-- What is shown of one tag: its code, its state, the count of its values, and the values.
use Rattle.std.specs.Prelude.{ℕ, Bool, false, List, [], ◌∷◌, length}
use Rattle.format.specs.Bits.{Order}
use Rattle.format.specs.Reading.{Reading, shows}
use Rattle.format.specs.Bodies.{fixed, attributes, read_body}
use Rattle.format.specs.FileAndTags.{packed}
use Rattle.classes.specs.declared.Class.{Class}
use Rattle.classes.specs.declared.Class.TheVariants.{Opaque, End, Container, Fixed, Attributes}
use Rattle.attributes.specs.Rows.{attributes_of}
use Rattle.fixed.specs.Fixed.{fixed_of}
use Rattle.bodies.specs.Leaf.{container_body, has_list_in, own_part}

-- the values, and how their reading ended: an opaque tag's are its body, packed, End has none, a container's are its own part
abbrev pub values_of : Order → Class → ℕ → List ℕ → Reading
values_of o Opaque code body = shows (packed body) 0
values_of o End code body = shows [] 0
values_of o Container code body = own_part o (container_body code) body
values_of o Fixed code body = read_body o (fixed (fixed_of code)) body
values_of o Attributes code body = read_body o (attributes (attributes_of code)) body

-- whether a list follows them
abbrev pub list_of : Order → Class → ℕ → List ℕ → Bool
list_of o Opaque code body = false
list_of o End code body = false
list_of o Container code body = has_list_in o (container_body code) body
list_of o Fixed code body = false
list_of o Attributes code body = false

-- code, state and count before the values
abbrev pub headed : ℕ → ℕ → Reading → Reading
headed code state r = record { shown = code ∷ state ∷ length r.shown ∷ r.shown; ended = r.ended }
