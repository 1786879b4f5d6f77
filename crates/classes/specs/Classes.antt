-- The class of a code at a level, as the program has it.
use Rattle.std.specs.Prelude.{ℕ, List, [], ◌≡◌, length, get_or, Bool}
use Rattle.format.specs.Formats.{nothing}
use Rattle.format.specs.Bodies.{fixed, attributes}
use Rattle.format.specs.FileAndTags as paper
use Rattle.format.specs.FileAndTags.{codes, class_of, is_end, is_container}
use Rattle.classes.specs.Tables.{grid}
use Rattle.classes.specs.declared.Class.{Class}
use Rattle.classes.specs.declared.Class.TheVariants.{Opaque, End, Container, Fixed, Attributes}
use Rattle.classes.specs.declared.Scope.{Scope}
use Rattle.classes.specs.declared.Scope.TheVariants.{All, Lists}

-- opaque, End, container, fixed, attributes
abbrev pub named : paper.Class → Class
named paper.opaque = Opaque
named paper.end = End
named (paper.container y) = Container
named (paper.known (fixed f)) = Fixed
named (paper.known (attributes rows)) = Attributes

abbrev pub class_at : ℕ → ℕ → Class
class_at level code = named (class_of level code)

-- the table: 32 rows of 32 classes, those of the codes in order
unfoldable pub all_classes : List (List Class)
all_classes = grid (λ code. named (get_or codes code paper.opaque)) 32 32

-- a class of this name with nothing in it: enough for a rule that looks at the name alone
abbrev pub bare : Class → paper.Class
bare Opaque = paper.opaque
bare End = paper.end
bare Container = paper.container (fixed nothing)
bare Fixed = paper.known (fixed nothing)
bare Attributes = paper.known (attributes [])

-- the two tests of a header
abbrev pub ends : Class → Bool
ends class = is_end (bare class)

abbrev pub contains : Class → Bool
contains class = is_container (bare class)

-- ---- How much a walk reads: all of a list; or the lists alone, with every other body opaque.

-- the class that a tag is taken for
abbrev pub skimmed : Scope → paper.Class → paper.Class
skimmed All c = c
skimmed Lists paper.opaque = paper.opaque
skimmed Lists paper.end = paper.end
skimmed Lists (paper.container y) = paper.container y
skimmed Lists (paper.known y) = paper.opaque

-- by name
abbrev pub taken_as : Scope → Class → Class
taken_as All class = class
taken_as Lists class = named (skimmed Lists (bare class))

-- the classes that a walk at a level goes by; where it reads all, they are the level's
abbrev pub class_by : Scope → ℕ → ℕ → paper.Class
class_by scope level code = skimmed scope (class_of level code)

-- by name
abbrev pub named_by : Scope → ℕ → ℕ → Class
named_by scope level code = named (class_by scope level code)

-- a table has the classes that a walk goes by
pub record Classed (scope : Scope) (level : ℕ) (cs : List Class) : Type 0 where
  pub size : length cs ≡ 1024
  pub each : (code : ℕ) → get_or cs code Opaque ≡ named_by scope level code
