-- What a block has of an attribute besides its flags, by its flag number; and what its kind and data type tell of its keyframes.
use Rattle.std.specs.Prelude.{ℕ, ◌*◌, Bool, true, false, leb, eqb}
use Rattle.format.specs.Tests.{pick}
use Rattle.format.specs.Formats.{Item, Format, nothing, item, only, ◌▹◌, times, the}
use Rattle.format.specs.Bodies.{Kind, Value, Fixed, BitFlag, Simple, Discrete, MultiDimension, Spatial, Custom, DataType, U32s, Times, Floats, Ratios, Bools, Bytes, BlendModes, Paths, Points, Colors, GradientColors, Enums, Dashes, TagBlocks, value, keyframed}
use Rattle.attributes.specs.declared.Content.{Content}
use Rattle.attributes.specs.declared.Content.TheVariants.{Nothing, One, Frames}
use Rattle.attributes.specs.declared.Layout.{Layout}
use Rattle.attributes.specs.declared.Layout.TheVariants.{InTurn, Bits, ByteFields, PointFields}

-- 0 none, 1 a value, 3 and 7 keyframed
abbrev pub animatable_by : ℕ → Content
animatable_by φ = pick (eqb φ 0) Nothing (pick (eqb φ 1) One Frames)

-- a Value or a Custom one has one if its bit is set; a Fixed always; a BitFlag never
abbrev pub content_by : Kind → ℕ → Content
content_by Value φ = pick (eqb φ 0) Nothing One
content_by Fixed φ = One
content_by BitFlag φ = Nothing
content_by Simple φ = animatable_by φ
content_by Discrete φ = animatable_by φ
content_by MultiDimension φ = animatable_by φ
content_by Spatial φ = animatable_by φ
content_by Custom φ = pick (eqb φ 0) Nothing One

-- its format
abbrev pub format_by : Kind → DataType → ℕ → Content → Format
format_by k d φ Nothing = nothing
format_by k d φ One = value d
format_by k d φ Frames = keyframed k d φ

-- ---- keyframes

-- frames of this kind have an interpolation
abbrev pub interpolated : Kind → Bool
interpolated Value = false
interpolated Fixed = false
interpolated BitFlag = false
interpolated Simple = true
interpolated Discrete = false
interpolated MultiDimension = true
interpolated Spatial = true
interpolated Custom = false

-- Points in turn, but for those of a Spatial attribute
abbrev pub points_by : Kind → Layout
points_by Value = InTurn
points_by Fixed = InTurn
points_by BitFlag = InTurn
points_by Simple = InTurn
points_by Discrete = InTurn
points_by MultiDimension = InTurn
points_by Spatial = PointFields
points_by Custom = InTurn

abbrev pub layout_by : Kind → DataType → Layout
layout_by k U32s = InTurn
layout_by k Times = InTurn
layout_by k Floats = InTurn
layout_by k Ratios = InTurn
layout_by k Bools = Bits
layout_by k Bytes = ByteFields
layout_by k BlendModes = InTurn
layout_by k Paths = InTurn
layout_by k Points = points_by k
layout_by k Colors = InTurn
layout_by k GradientColors = InTurn
layout_by k (Enums top) = InTurn
layout_by k Dashes = InTurn
layout_by k TagBlocks = InTurn

-- n values so
abbrev pub values_by : DataType → ℕ → Layout → Format
values_by d n InTurn = times n (value d)
values_by d n Bits = times n (item (Item.UB 1))
values_by d n ByteFields = item Item.width ▹ λ w. times n (only (λ ns. leb (the ns) 255) 16 (item (Item.UB (the w))))
values_by d n PointFields = item Item.width ▹ λ w. times (n * 2) (item (Item.UB (the w)))
