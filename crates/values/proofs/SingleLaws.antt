-- Values that are one item, and those that are not: what `single_of` tells of their formats.
use mathlib.Core.Path.{◌≡◌, refl}
use Rattle.std.specs.Prelude.{Option, Some, None}
use Rattle.format.specs.Formats.{Format, nothing}
use Rattle.format.specs.Bodies.{value}
use Rattle.items.specs.Kinds.{format_of}
use Rattle.items.specs.declared.Item.{Item}
use Rattle.attributes.specs.Rows.{type_of}
use Rattle.attributes.specs.declared.DataType.{DataType}
use Rattle.attributes.specs.declared.DataType.TheVariants.{U32, Time, Float, Ratio, Bool, Byte, BlendMode, Path, Point, Color, GradientColor, EnumTo1, EnumTo2, EnumTo4, EnumTo6, EnumTo7, Dashes, TagBlock}
use Rattle.values.specs.Single.{single_by, compound_of}

-- a value that is one item has its format
abbrev pub ValueIs : Option Item → Format → Type 0
ValueIs (Some k) f = f ≡ format_of k
ValueIs None f = Unit {0}

pub single_value : (d : DataType) → ValueIs (single_by d) (value (type_of d))
single_value U32 = refl
single_value Time = refl
single_value Float = refl
single_value Ratio = tt
single_value Bool = refl
single_value Byte = refl
single_value BlendMode = refl
single_value Path = tt
single_value Point = tt
single_value Color = tt
single_value GradientColor = tt
single_value EnumTo1 = refl
single_value EnumTo2 = refl
single_value EnumTo4 = refl
single_value EnumTo6 = refl
single_value EnumTo7 = refl
single_value Dashes = tt
single_value TagBlock = tt

-- ---- the others of a `match` on the six data types that are not one item and have something
pub others_nothing : (d : DataType) → (d ≡ Ratio → ⊥) → (d ≡ Path → ⊥) → (d ≡ Point → ⊥) → (d ≡ Color → ⊥) → (d ≡ GradientColor → ⊥) → (d ≡ Dashes → ⊥) → compound_of d ≡ nothing
others_nothing U32 _ _ _ _ _ _ = refl
others_nothing Time _ _ _ _ _ _ = refl
others_nothing Float _ _ _ _ _ _ = refl
others_nothing Ratio h _ _ _ _ _ = absurd (h refl)
others_nothing Bool _ _ _ _ _ _ = refl
others_nothing Byte _ _ _ _ _ _ = refl
others_nothing BlendMode _ _ _ _ _ _ = refl
others_nothing Path _ h _ _ _ _ = absurd (h refl)
others_nothing Point _ _ h _ _ _ = absurd (h refl)
others_nothing Color _ _ _ h _ _ = absurd (h refl)
others_nothing GradientColor _ _ _ _ h _ = absurd (h refl)
others_nothing EnumTo1 _ _ _ _ _ _ = refl
others_nothing EnumTo2 _ _ _ _ _ _ = refl
others_nothing EnumTo4 _ _ _ _ _ _ = refl
others_nothing EnumTo6 _ _ _ _ _ _ = refl
others_nothing EnumTo7 _ _ _ _ _ _ = refl
others_nothing Dashes _ _ _ _ _ h = absurd (h refl)
others_nothing TagBlock _ _ _ _ _ _ = refl
