-- Classes that are lent: they are those of a level.
use Prim.Native.Nat.{ℕ}
use mathlib.Core.List.{List}
use mathlib.Core.Path.{◌≡◌, refl, ap, sym, subst, ◌∙◌}
use Rattle.format.specs.Bits.{Order}
use Rattle.format.specs.Bodies.{Body, fixed, attributes}
use Rattle.format.specs.FileAndTags.{is_end, is_container, is_read}
use Rattle.format.proofs.RoomLaws.{FairClass}
use Rattle.attributes.specs.Rows.{attributes_of}
use Rattle.fixed.specs.Fixed.{fixed_of}
use Rattle.bodies.specs.Leaf.{container_body}
use Rattle.classes.specs.Classes.{bare, ends, contains, class_by, Classed}
use Rattle.classes.specs.declared.Class.{Class}
use Rattle.classes.specs.declared.Class.TheVariants.{Opaque, End, Container, Fixed, Attributes}
use Rattle.classes.specs.declared.Scope.{Scope}
use Rattle.classes.proofs.ClassLaws.{Right, spelt, fair_by, taken_by}
use Rattle.tags.specs.Lent.{class_with, class_in, classes_in, Tabled}

-- the bodies of the codes are the classes'
abbrev pub items_of : ℕ → Body
items_of code = fixed (fixed_of code)

abbrev pub rows_of : ℕ → Body
rows_of code = attributes (attributes_of code)

pub right : Right items_of rows_of container_body
unfolding container_body fixed_of attributes_of
right = refl

-- the classes of a table are those of its level, and no list needs more room by them
with_spelt : (c : Class) (code : ℕ) → class_with c code ≡ spelt items_of rows_of container_body c code
with_spelt Opaque code = refl
with_spelt End code = refl
with_spelt Container code = refl
with_spelt Fixed code = refl
with_spelt Attributes code = refl

pub class_level : (cs : List Class) (scope : Scope) (level : ℕ) → Classed scope level cs → (code : ℕ) → classes_in cs code ≡ class_by scope level code
class_level cs scope level k code =
    with_spelt (class_in cs code) code ∙ ap (λ (c : Class). spelt items_of rows_of container_body c code) (k.each code) ∙ sym (taken_by items_of rows_of container_body right scope level code)

pub fair_in : (o : Order) {cs : List Class} → Tabled cs → (code : ℕ) → FairClass o (classes_in cs code)
fair_in o {cs} k code = subst (FairClass o) (sym (class_level cs k.scope k.level k.classed code)) (fair_by o k.scope k.level code)

-- the rules that look at the name alone
pub with_named : (c : Class) (code : ℕ) → (is_end (class_with c code) ≡ ends c) × (is_container (class_with c code) ≡ contains c) × (is_read (class_with c code) ≡ is_read (bare c))
with_named Opaque code = (refl, refl, refl)
with_named End code = (refl, refl, refl)
with_named Container code = (refl, refl, refl)
with_named Fixed code = (refl, refl, refl)
with_named Attributes code = (refl, refl, refl)
