-- The values that are one item, by data type; and the formats of those that are not.
use Rattle.std.specs.Prelude.{Option, Some, None}
use Rattle.format.specs.Formats.{Format, nothing}
use Rattle.format.specs.Bodies.{value}
use Rattle.items.specs.declared.Item.{Item}
use Rattle.items.specs.declared.Item.TheVariants as item
use Rattle.attributes.specs.Rows.{type_of}
use Rattle.attributes.specs.declared.DataType.{DataType}
use Rattle.attributes.specs.declared.DataType.TheVariants.{U32, Time, Float, Ratio, Bool, Byte, BlendMode, Path, Point, Color, GradientColor, EnumTo1, EnumTo2, EnumTo4, EnumTo6, EnumTo7, Dashes, TagBlock}

-- the kind of a value that is one item
abbrev pub single_by : DataType → Option Item
single_by U32 = Some item.U32
single_by Time = Some item.Time
single_by Float = Some item.Float
single_by Ratio = None
single_by Bool = Some (item.Enum 1)
single_by Byte = Some item.Byte
single_by BlendMode = Some item.BlendMode
single_by Path = None
single_by Point = None
single_by Color = None
single_by GradientColor = None
single_by EnumTo1 = Some (item.Enum 1)
single_by EnumTo2 = Some (item.Enum 2)
single_by EnumTo4 = Some (item.Enum 4)
single_by EnumTo6 = Some (item.Enum 6)
single_by EnumTo7 = Some (item.Enum 7)
single_by Dashes = None
single_by TagBlock = None

-- a format, and nothing in its place for one item, which is read and written elsewhere
abbrev pub unless_single : Option Item → Format → Format
unless_single (Some k) f = nothing
unless_single None f = f

-- a value, if it is not one item
abbrev pub compound_of : DataType → Format
compound_of d = unless_single (single_by d) (value (type_of d))
