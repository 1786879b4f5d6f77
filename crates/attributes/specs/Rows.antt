-- The constant rows of attributes, in the words of the definitions.
use Rattle.std.specs.Prelude.{ℕ, List, [], map, eqb}
use Rattle.format.specs.Tests.{pick}
use Rattle.format.specs.Bodies as bodies
use Rattle.format.specs.Bodies.{layer_attributes, text_path_option, text_more_option, transform_2d, mask_block, shape_group, rectangle, ellipse, poly_star, shape_path, fill_block, stroke, gradient_fill, gradient_stroke, merge_paths, trim_paths, repeater, round_corners}
use Rattle.attributes.specs.declared.Attribute.{Attribute}
use Rattle.attributes.specs.declared.DataType.{DataType}
use Rattle.attributes.specs.declared.DataType.TheVariants.{U32, Time, Float, Ratio, Bool, Byte, BlendMode, Path, Point, Color, GradientColor, EnumTo1, EnumTo2, EnumTo4, EnumTo6, EnumTo7, Dashes, TagBlock}
use Rattle.attributes.specs.declared.Kind.{Kind}
use Rattle.attributes.specs.declared.Kind.TheVariants.{Value, Fixed, BitFlag, Simple, Discrete, MultiDimension, Spatial, Custom}

abbrev pub kind_of : Kind → bodies.Kind
kind_of Value = bodies.Value
kind_of Fixed = bodies.Fixed
kind_of BitFlag = bodies.BitFlag
kind_of Simple = bodies.Simple
kind_of Discrete = bodies.Discrete
kind_of MultiDimension = bodies.MultiDimension
kind_of Spatial = bodies.Spatial
kind_of Custom = bodies.Custom

abbrev pub type_of : DataType → bodies.DataType
type_of U32 = bodies.U32s
type_of Time = bodies.Times
type_of Float = bodies.Floats
type_of Ratio = bodies.Ratios
type_of Bool = bodies.Bools
type_of Byte = bodies.Bytes
type_of BlendMode = bodies.BlendModes
type_of Path = bodies.Paths
type_of Point = bodies.Points
type_of Color = bodies.Colors
type_of GradientColor = bodies.GradientColors
type_of EnumTo1 = bodies.Enums 1
type_of EnumTo2 = bodies.Enums 2
type_of EnumTo4 = bodies.Enums 4
type_of EnumTo6 = bodies.Enums 6
type_of EnumTo7 = bodies.Enums 7
type_of Dashes = bodies.Dashes
type_of TagBlock = bodies.TagBlocks

abbrev pub attribute_of : Attribute → bodies.Attribute
attribute_of row = record { kind = kind_of row.kind; data_type = type_of row.data_type }

-- the attributes in these rows
abbrev pub attributes_in : List Attribute → List bodies.Attribute
attributes_in rows = map attribute_of rows

-- the list of a tag that is a block; the others have none
unfoldable pub attributes_of : ℕ → List bodies.Attribute
attributes_of code =
    pick (eqb code 6) layer_attributes
    (pick (eqb code 9) text_path_option
    (pick (eqb code 10) text_more_option
    (pick (eqb code 13) transform_2d
    (pick (eqb code 14) mask_block
    (pick (eqb code 15) shape_group
    (pick (eqb code 16) rectangle
    (pick (eqb code 17) ellipse
    (pick (eqb code 18) poly_star
    (pick (eqb code 19) shape_path
    (pick (eqb code 20) fill_block
    (pick (eqb code 21) stroke
    (pick (eqb code 22) gradient_fill
    (pick (eqb code 23) gradient_stroke
    (pick (eqb code 24) merge_paths
    (pick (eqb code 25) trim_paths
    (pick (eqb code 26) repeater
    (pick (eqb code 27) round_corners
    [])))))))))))))))))
