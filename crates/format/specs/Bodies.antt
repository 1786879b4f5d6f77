-- Document 01, 'Bodies', sentence by sentence; and document 02's C-12, transforms and points, and C-24, shapes, by the chapters of source 000 that they name.
use Rattle.std.specs.Prelude.{ℕ, suc, ◌*◌, List, [], ◌∷◌, Bool, length, ltb, leb, eqb}
use Rattle.format.specs.Tests.{pick, ◌and◌, ◌or◌}
use Rattle.format.specs.Bits.{Order}
use Rattle.format.specs.Reading.{Ending, At, Fault, Reading, stop, follow}
use Rattle.format.specs.Formats.{Item, Format, nothing, item, only, ◌▹◌, ◌▸◌, times, the}
use Rattle.format.specs.Items.{u32, i32, time, float, byte, enum, bool, string, ratio, color, point, path, gradient_color, count, scaled, read_align, run}

-- ---- 1: count U32, then two Strings each. 3: I32 width, I32 height, Time, Float, Color. 7: Color, I32, I32. 11: U32. 12: U32, Time.
abbrev pub font_tables : Format
font_tables = count 0 4096 ▹ λ n. times (the n) (string ▸ string)

abbrev pub composition_attributes : Format
composition_attributes = i32 ▸ i32 ▸ time ▸ float ▸ color

abbrev pub solid_color : Format
solid_color = color ▸ i32 ▸ i32

abbrev pub image_reference : Format
image_reference = u32

abbrev pub composition_reference : Format
composition_reference = u32 ▸ time

-- ---- Attribute blocks (6, 9, 10, 13 to 27): flags of all attributes in order as bits, then contents in order.
pub data Kind : Type 0 where
  Value Fixed BitFlag Simple Discrete MultiDimension Spatial Custom : Kind

-- Value: 1 bit. Fixed: no bit, and its flag number is 1. BitFlag: 1 bit. Simple, Discrete and MultiDimension: exist bit; if set, an animatable
-- bit. Spatial: if that is set too, a hasSpatial bit (source 000, chapter 4), which adds 4 to the flag number. Custom (C-24): 1 bit.
abbrev pub flags_of : Kind → Item
flags_of Value = Item.flag 1
flags_of Fixed = Item.echo 1
flags_of BitFlag = Item.flag 1
flags_of Simple = Item.flag 2
flags_of Discrete = Item.flag 2
flags_of MultiDimension = Item.flag 2
flags_of Spatial = Item.flag 3
flags_of Custom = Item.flag 1

pub data DataType : Type 0 where
  U32s Times Floats Ratios Bools Bytes BlendModes Paths Points Colors GradientColors : DataType
  -- an enum from 0 to its top
  Enums : ℕ → DataType
  -- what Custom attributes are: the dashes of a stroke, and a tag list
  Dashes TagBlocks : DataType

-- ---- trackMatteType 0 to 4; maskMode 0 to 7; anchorPointGrouping 0 to 6. (Source 000, chapter 2) PolyStarType, CompositeOrder, FillRule, GradientFillType and TrimPathsType
-- 0 to 1; LineCap and LineJoin 0 to 2; MergePathsMode 0 to 4.
abbrev pub TrackMatteTypes : DataType
TrackMatteTypes = Enums 4

abbrev pub MaskModes : DataType
MaskModes = Enums 7

abbrev pub AnchorPointGroupings : DataType
AnchorPointGroupings = Enums 6

abbrev pub PolyStarTypes : DataType
PolyStarTypes = Enums 1

abbrev pub CompositeOrders : DataType
CompositeOrders = Enums 1

abbrev pub FillRules : DataType
FillRules = Enums 1

abbrev pub LineCaps : DataType
LineCaps = Enums 2

abbrev pub LineJoins : DataType
LineJoins = Enums 2

abbrev pub GradientFillTypes : DataType
GradientFillTypes = Enums 1

abbrev pub MergePathsModes : DataType
MergePathsModes = Enums 4

abbrev pub TrimPathsTypes : DataType
TrimPathsTypes = Enums 1

pub record Attribute : Type 0 where
  pub kind : Kind
  pub data_type : DataType

infix 70 ◌of◌
abbrev pub ◌of◌ : Kind → DataType → Attribute
k of d = record { kind = k; data_type = d }

-- ---- 6: isActive BitFlag; autoOrientation BitFlag; parent U32 Value; stretch Ratio Value; startTime Time Value; blendMode byte Value;
-- trackMatteType byte Value; timeRemap Float Simple; duration Time Fixed. (A BitFlag has no content, whatever its data type.)
abbrev pub layer_attributes : List Attribute
layer_attributes =
    BitFlag of Bools
    ∷ BitFlag of Bools
    ∷ Value of U32s
    ∷ Value of Ratios
    ∷ Value of Times
    ∷ Value of BlendModes
    ∷ Value of TrackMatteTypes
    ∷ Simple of Floats
    ∷ Fixed of Times
    ∷ []

-- ---- 9: path U32 Value; reversed, perpendicular, forceAlignment Bool Discrete; firstMargin, lastMargin Float Simple.
abbrev pub text_path_option : List Attribute
text_path_option =
    Value of U32s
    ∷ Discrete of Bools
    ∷ Discrete of Bools
    ∷ Discrete of Bools
    ∷ Simple of Floats
    ∷ Simple of Floats
    ∷ []

-- ---- 10, TextMoreOption (source 000, chapter 6): anchorPointGrouping byte Value; groupingAlignment Point MultiDimension.
abbrev pub text_more_option : List Attribute
text_more_option =
    Value of AnchorPointGroupings
    ∷ MultiDimension of Points
    ∷ []

-- ---- 13, Transform2D (source 000, chapter 6): anchorPoint Point, position Point, xPosition Float, yPosition Float, scale Point, rotation Float,
-- opacity byte, all of them Value.
abbrev pub transform_2d : List Attribute
transform_2d =
    Value of Points
    ∷ Value of Points
    ∷ Value of Floats
    ∷ Value of Floats
    ∷ Value of Points
    ∷ Value of Floats
    ∷ Value of Bytes
    ∷ []

-- ---- 14: id U32 Fixed; inverted BitFlag; maskMode byte Value; path Path Simple; opacity byte Simple; expansion Float Simple.
abbrev pub mask_block : List Attribute
mask_block =
    Fixed of U32s
    ∷ BitFlag of Bools
    ∷ Value of MaskModes
    ∷ Simple of Paths
    ∷ Simple of Bytes
    ∷ Simple of Floats
    ∷ []

-- ---- (C-24) ShapeGroup to RoundCorners (15 to 27) by their tables in chapter 6 of source 000. An attribute without a type here is an enum.
-- 15, ShapeGroup: blendMode Value; anchorPoint, position Point Spatial; scale Point MultiDimension; skew, skewAxis, rotation Float Simple; opacity byte Simple; TagBlock Custom.
abbrev pub shape_group : List Attribute
shape_group =
    Value of BlendModes
    ∷ Spatial of Points
    ∷ Spatial of Points
    ∷ MultiDimension of Points
    ∷ Simple of Floats
    ∷ Simple of Floats
    ∷ Simple of Floats
    ∷ Simple of Bytes
    ∷ Custom of TagBlocks
    ∷ []

-- 16, Rectangle: reversed BitFlag; size Point MultiDimension; position Point Spatial; roundness Float Simple.
abbrev pub rectangle : List Attribute
rectangle =
    BitFlag of Bools
    ∷ MultiDimension of Points
    ∷ Spatial of Points
    ∷ Simple of Floats
    ∷ []

-- 17, Ellipse: reversed BitFlag; size Point MultiDimension; position Point Spatial.
abbrev pub ellipse : List Attribute
ellipse =
    BitFlag of Bools
    ∷ MultiDimension of Points
    ∷ Spatial of Points
    ∷ []

-- 18, PolyStar: reversed BitFlag; polyType Value; points Float Simple; position Point Spatial; rotation, innerRadius, outerRadius, innerRoundness, outerRoundness Float Simple.
abbrev pub poly_star : List Attribute
poly_star =
    BitFlag of Bools
    ∷ Value of PolyStarTypes
    ∷ Simple of Floats
    ∷ Spatial of Points
    ∷ Simple of Floats
    ∷ Simple of Floats
    ∷ Simple of Floats
    ∷ Simple of Floats
    ∷ Simple of Floats
    ∷ []

-- 19, ShapePath: shapePath Path Simple.
abbrev pub shape_path : List Attribute
shape_path =
    Simple of Paths
    ∷ []

-- 20, Fill: blendMode, composite, fillRule Value; color Color Simple; opacity byte Simple.
abbrev pub fill_block : List Attribute
fill_block =
    Value of BlendModes
    ∷ Value of CompositeOrders
    ∷ Value of FillRules
    ∷ Simple of Colors
    ∷ Simple of Bytes
    ∷ []

-- 21, Stroke: blendMode, composite, lineCap, lineJoin Value; miterLimit Float Simple; color Color Simple; opacity byte Simple; strokeWidth Float Simple.
abbrev pub stroke : List Attribute
stroke =
    Value of BlendModes
    ∷ Value of CompositeOrders
    ∷ Value of LineCaps
    ∷ Value of LineJoins
    ∷ Simple of Floats
    ∷ Simple of Colors
    ∷ Simple of Bytes
    ∷ Simple of Floats
    ∷ []

-- 22, GradientFill: blendMode, composite, fillRule, fillType Value; startPoint, endPoint Point Spatial; colors GradientColor Simple; opacity byte Simple.
abbrev pub gradient_fill : List Attribute
gradient_fill =
    Value of BlendModes
    ∷ Value of CompositeOrders
    ∷ Value of FillRules
    ∷ Value of GradientFillTypes
    ∷ Spatial of Points
    ∷ Spatial of Points
    ∷ Simple of GradientColors
    ∷ Simple of Bytes
    ∷ []

-- 23, GradientStroke: blendMode, composite, fillType Value; startPoint, endPoint Point Spatial; color Color Simple; opacity byte Simple; strokeWidth Float Simple;
-- lineCap, lineJoin Value; miterLimit Float Simple; dashLength and dashOffsetFlag Custom.
abbrev pub gradient_stroke : List Attribute
gradient_stroke =
    Value of BlendModes
    ∷ Value of CompositeOrders
    ∷ Value of GradientFillTypes
    ∷ Spatial of Points
    ∷ Spatial of Points
    ∷ Simple of Colors
    ∷ Simple of Bytes
    ∷ Simple of Floats
    ∷ Value of LineCaps
    ∷ Value of LineJoins
    ∷ Simple of Floats
    ∷ Custom of Dashes
    ∷ []

-- 24, MergePaths: mode Value.
abbrev pub merge_paths : List Attribute
merge_paths =
    Value of MergePathsModes
    ∷ []

-- 25, TrimPaths: start, end, offset Float Simple; trimType Value.
abbrev pub trim_paths : List Attribute
trim_paths =
    Simple of Floats
    ∷ Simple of Floats
    ∷ Simple of Floats
    ∷ Value of TrimPathsTypes
    ∷ []

-- 26, Repeater: composite Value; copies, offset Float Simple; anchorPoint, position Point Spatial; scale Point MultiDimension; rotation Float Simple;
-- startOpacity, endOpacity byte Simple.
abbrev pub repeater : List Attribute
repeater =
    Value of CompositeOrders
    ∷ Simple of Floats
    ∷ Simple of Floats
    ∷ Spatial of Points
    ∷ Spatial of Points
    ∷ MultiDimension of Points
    ∷ Simple of Floats
    ∷ Simple of Bytes
    ∷ Simple of Bytes
    ∷ []

-- 27, RoundCorners: radius Float Simple.
abbrev pub round_corners : List Attribute
round_corners =
    Simple of Floats
    ∷ []

-- ---- blendMode 0 to 16, 21 to 26.
abbrev pub blend_mode : Format
blend_mode = only (λ ns. leb (the ns) 16 or (leb 21 (the ns) and leb (the ns) 26)) 16 byte

-- a part starts on a whole byte
abbrev pub aligned : Format
aligned = item Item.align

-- (C-24) dashLength; dashOffsetFlag.exist UB[1]; dashOffsetFlag.animatable UB[1], if exist is 1
abbrev pub dashes : Format
dashes = aligned ▸ item Item.dash_length ▸ item (Item.UB 1) ▹ λ exist. times (the exist) (item (Item.UB 1))

-- one value, not keyframed. A TagBlock has nothing in the block: its list stands behind it (`opened` of FileAndTags)
abbrev pub value : DataType → Format
value U32s = u32
value Times = time
value Floats = float
value Ratios = ratio
value Bools = bool
value Bytes = byte
value BlendModes = blend_mode
value Paths = path
value Points = point
value Colors = color
value GradientColors = gradient_color
value (Enums top) = enum top
value Dashes = dashes
value TagBlocks = nothing

-- ---- Keyframed content, with n frames: n as U32; UB[2] per frame (1 linear, 2 Bezier, 3 hold; not for Discrete); n + 1 times; n + 1 values;
-- a width and four SB[width] per Bezier frame (out x, out y, in x, in y). The width stands always, Discrete included.
-- "The five parts of keyframed content become six: spatial flags, width and list form one part, the last, present only when hasSpatial is set."
-- Each of these parts starts on a whole byte. Frames are 1 to 4,096; verbs and fonts 0 to 4,096.

-- an interpolation of 0 is 16
abbrev pub interpolation : Format
interpolation = only (λ ns. ltb 0 (the ns)) 16 (item (Item.UB 2))

abbrev pub interpolations : Kind → ℕ → Format
interpolations Value n = nothing
interpolations Fixed n = nothing
interpolations BitFlag n = nothing
interpolations Simple n = times n interpolation
interpolations Discrete n = nothing
interpolations MultiDimension n = times n interpolation
interpolations Spatial n = times n interpolation
interpolations Custom n = nothing

-- how many of the numbers are v
abbrev pub how_many : ℕ → List ℕ → ℕ
how_many v [] = 0
how_many v (k ∷ ks) = pick (eqb k v) (suc (how_many v ks)) (how_many v ks)

-- Points in turn; of a Spatial attribute as a width, then UB[width] for each x and y
abbrev pub points : Kind → ℕ → Format
points Value n = times n point
points Fixed n = times n point
points BitFlag n = times n point
points Simple n = times n point
points Discrete n = times n point
points MultiDimension n = times n point
points Custom n = times n point
points Spatial n = item Item.width ▹ λ w. times (n * 2) (item (Item.UB (the w)))

-- Values: Floats in turn; Bools one bit each; bytes as a width, then UB[width] each, at most 255 (16); Paths in turn; Points by the kind; Colors and GradientColors
-- in turn. (Others in turn; no list has them.)
abbrev pub values : Kind → DataType → ℕ → Format
values k U32s n = times n u32
values k Times n = times n time
values k Floats n = times n float
values k Ratios n = times n ratio
values k Bools n = times n (item (Item.UB 1))
values k Bytes n = item Item.width ▹ λ w. times n (only (λ ns. leb (the ns) 255) 16 (item (Item.UB (the w))))
values k BlendModes n = times n blend_mode
values k Paths n = times n path
values k Points n = points k n
values k Colors n = times n color
values k GradientColors n = times n gradient_color
values k (Enums top) n = times n (enum top)
values k Dashes n = times n dashes
values k TagBlocks n = times n nothing

-- Easing: a Bezier frame of a MultiDimension attribute has a curve for each dimension of its values; all others have one.
abbrev pub dimensions : DataType → ℕ
dimensions U32s = 1
dimensions Times = 1
dimensions Floats = 1
dimensions Ratios = 1
dimensions Bools = 1
dimensions Bytes = 1
dimensions BlendModes = 1
dimensions Paths = 1
dimensions Points = 2
dimensions Colors = 1
dimensions GradientColors = 1
dimensions (Enums top) = 1
dimensions Dashes = 1
dimensions TagBlocks = 1

abbrev pub curves : Kind → DataType → ℕ
curves Value d = 1
curves Fixed d = 1
curves BitFlag d = 1
curves Simple d = 1
curves Discrete d = 1
curves MultiDimension d = dimensions d
curves Spatial d = 1
curves Custom d = 1

-- the sixth part: a flag for the in and the out of each frame, and right after them a width and, for each flag that is set, two SB[width] (x, y)
abbrev pub spatial : ℕ → Format
spatial n = aligned ▸ times (n * 2) (item (Item.UB 1)) ▹ λ flags. scaled (how_many 1 flags * 2)

-- hasSpatial is set: the flag number is 7
abbrev pub has_spatial : ℕ → Bool
has_spatial φ = eqb φ 7

abbrev pub keyframed : Kind → DataType → ℕ → Format
keyframed k d φ =
    count 1 4096 ▹ λ n.
    (aligned ▸ interpolations k (the n)) ▹ λ kinds.
    times (suc (the n)) time ▸
    aligned ▸ values k d (suc (the n)) ▸
    aligned ▸ scaled (how_many 2 kinds * 4 * curves k d) ▸
    pick (has_spatial φ) (spatial (the n)) nothing

-- ---- An attribute's content, by its flag number: 0 none, 1 a value, 3 and 7 keyframed. A Value has one if its bit is set; a Fixed always; a BitFlag never. (C-24) "A Custom
-- attribute gives its flag, then its content's numbers."
abbrev pub animated : Kind → DataType → ℕ → Format
animated k d φ = pick (eqb φ 0) nothing (pick (eqb φ 1) (value d) (keyframed k d φ))

abbrev pub content_of : Kind → DataType → ℕ → Format
content_of Value d φ = pick (eqb φ 0) nothing (value d)
content_of Fixed d φ = value d
content_of BitFlag d φ = nothing
content_of Simple d φ = animated Simple d φ
content_of Discrete d φ = animated Discrete d φ
content_of MultiDimension d φ = animated MultiDimension d φ
content_of Spatial d φ = animated Spatial d φ
content_of Custom d φ = pick (eqb φ 0) nothing (value d)

abbrev pub content : Attribute → ℕ → Format
content a φ = content_of a.kind a.data_type φ

-- ---- Reading a block: in the file all flags stand first; in the table each attribute gives its flags and then its content.
unfoldable pub all_flags : List Attribute → Format
all_flags [] = nothing
all_flags (a ∷ rest) = item (flags_of a.kind) ▸ all_flags rest

unfoldable pub rows : List Attribute → List ℕ → Format
rows [] φs = nothing
rows (a ∷ rest) [] = nothing
rows (a ∷ rest) (φ ∷ φs) = item (Item.echo φ) ▸ content a φ ▸ rows rest φs

-- the flags are handed on, and not shown by themselves
abbrev pub hand_on : List ℕ → Ending → (List ℕ → ℕ → Reading) → Reading
hand_on xs (At p) k = k xs p
hand_on xs (Fault e) k = stop e

unfoldable pub read_block : Order → List ℕ → List Attribute → ℕ → Reading
read_block o b attrs p = hand_on (run o b (all_flags attrs) p).shown (run o b (all_flags attrs) p).ended (λ φs q. run o b (rows attrs φs) q)

-- ---- Reading a body: fixed items, or attributes; then the skipped bits at its end (15); then nothing may be left (18).
pub data Body : Type 0 where
  fixed : Format → Body
  attributes : List Attribute → Body

unfoldable pub read_part : Order → List ℕ → Body → ℕ → Reading
read_part o b (fixed f) p = run o b f p
read_part o b (attributes attrs) p = read_block o b attrs p

abbrev pub to_end : Order → List ℕ → Body → Reading
to_end o b y = follow (read_part o b y 0).shown (read_part o b y 0).ended (λ xs p. read_align o b p)

-- all n bits are used up
abbrev pub used_up : ℕ → List ℕ → Ending → Reading
used_up n xs (At p) = record { shown = xs; ended = pick (eqb p n) (At p) (Fault 18) }
used_up n xs (Fault e) = record { shown = xs; ended = Fault e }

unfoldable pub read_body : Order → Body → List ℕ → Reading
read_body o y b = used_up (8 * length b) (to_end o b y).shown (to_end o b y).ended
