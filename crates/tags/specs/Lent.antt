-- The classes that a walk or the writer goes by, lent, one for each code.
use Rattle.std.specs.Prelude.{ℕ, List, get_or}
use Rattle.format.specs.Bodies.{fixed, attributes}
use Rattle.format.specs.FileAndTags as paper
use Rattle.attributes.specs.Rows.{attributes_of}
use Rattle.fixed.specs.Fixed.{fixed_of}
use Rattle.bodies.specs.Leaf.{container_body}
use Rattle.classes.specs.Classes.{Classed}
use Rattle.classes.specs.declared.Scope.{Scope}
use Rattle.classes.specs.declared.Class.{Class}
use Rattle.classes.specs.declared.Class.TheVariants.{Opaque, End, Container, Fixed, Attributes}

-- the class of this name that a code has
abbrev pub class_with : Class → ℕ → paper.Class
class_with Opaque code = paper.opaque
class_with End code = paper.end
class_with Container code = paper.container (container_body code)
class_with Fixed code = paper.known (fixed (fixed_of code))
class_with Attributes code = paper.known (attributes (attributes_of code))

abbrev pub class_in : List Class → ℕ → Class
class_in cs code = get_or cs code Opaque

abbrev pub classes_in : List Class → ℕ → paper.Class
classes_in cs code = class_with (class_in cs code) code

-- they are those of a level
pub record Tabled (cs : List Class) : Type 0 where
  pub scope : Scope
  pub level : ℕ
  pub classed : Classed scope level cs
