-- An attribute's content, by its flag number; and its keyframes, by kind and data type.
use Prim.Native.Nat.{ℕ}
use mathlib.Core.Bool.{Bool, true, false}
use mathlib.Core.Path.{◌≡◌, refl, sym, ap, ◌∙◌}
use lib.Dec.{eqb}
use Rattle.format.specs.Tests.{pick}
use Rattle.format.specs.Formats.{nothing, times}
use Rattle.format.specs.Bodies as bodies
use Rattle.format.specs.Bodies.{DataType, U32s, Times, Floats, Ratios, Bools, Bytes, BlendModes, Paths, Points, Colors, GradientColors, Enums, Dashes, TagBlocks, value, values, interpolation, interpolations, keyframed, content_of}
use Rattle.attributes.specs.Contents.{content_by, format_by, interpolated, points_by, layout_by, values_by}
use Rattle.attributes.specs.declared.Content.{Content}
use Rattle.attributes.specs.declared.Content.TheVariants.{Nothing, One, Frames}
use Rattle.attributes.specs.declared.Layout.{Layout}

-- ---- its format is the definitions'
pub content_format : (k : bodies.Kind) (d : DataType) (φ : ℕ) {c : Content} → c ≡ content_by k φ → content_of k d φ ≡ format_by k d φ c
content_format k d φ e = by k ∙ ap (format_by k d φ) (sym e)
  where
    some : (j : bodies.Kind) (a b : Bool) → pick a nothing (pick b (value d) (keyframed j d φ)) ≡ format_by j d φ (pick a Nothing (pick b One Frames))
    some j true b = refl
    some j false true = refl
    some j false false = refl

    one : (j : bodies.Kind) (a : Bool) → pick a nothing (value d) ≡ format_by j d φ (pick a Nothing One)
    one j true = refl
    one j false = refl

    by : (k : bodies.Kind) → content_of k d φ ≡ format_by k d φ (content_by k φ)
    by bodies.Value = one bodies.Value (eqb φ 0)
    by bodies.Fixed = refl
    by bodies.BitFlag = refl
    by bodies.Simple = some bodies.Simple (eqb φ 0) (eqb φ 1)
    by bodies.Discrete = some bodies.Discrete (eqb φ 0) (eqb φ 1)
    by bodies.MultiDimension = some bodies.MultiDimension (eqb φ 0) (eqb φ 1)
    by bodies.Spatial = some bodies.Spatial (eqb φ 0) (eqb φ 1)
    by bodies.Custom = one bodies.Custom (eqb φ 0)

-- what a `match` on it tells
pub content_told : (k : bodies.Kind) (d : DataType) (φ : ℕ) {c : Content} (told : Content) → c ≡ content_by k φ → c ≡ told → content_of k d φ ≡ format_by k d φ told
content_told k d φ told e h = content_format k d φ e ∙ ap (format_by k d φ) h

-- ---- keyframes: the interpolations and the values are the definitions'
interpolations_are : (k : bodies.Kind) (n : ℕ) → interpolations k n ≡ pick (interpolated k) (times n interpolation) nothing
interpolations_are bodies.Value n = refl
interpolations_are bodies.Fixed n = refl
interpolations_are bodies.BitFlag n = refl
interpolations_are bodies.Simple n = refl
interpolations_are bodies.Discrete n = refl
interpolations_are bodies.MultiDimension n = refl
interpolations_are bodies.Spatial n = refl
interpolations_are bodies.Custom n = refl

pub interpolations_some : (k : bodies.Kind) (n : ℕ) → true ≡ interpolated k → interpolations k n ≡ times n interpolation
interpolations_some k n e = interpolations_are k n ∙ ap (λ (c : Bool). pick c (times n interpolation) nothing) (sym e)

pub interpolations_none : (k : bodies.Kind) (n : ℕ) → false ≡ interpolated k → interpolations k n ≡ nothing
interpolations_none k n e = interpolations_are k n ∙ ap (λ (c : Bool). pick c (times n interpolation) nothing) (sym e)

pub values_are : (k : bodies.Kind) (d : DataType) (n : ℕ) {y : Layout} → y ≡ layout_by k d → values k d n ≡ values_by d n y
values_are k d n e = by d ∙ ap (values_by d n) (sym e)
  where
    points : (k : bodies.Kind) → bodies.points k n ≡ values_by Points n (points_by k)
    points bodies.Value = refl
    points bodies.Fixed = refl
    points bodies.BitFlag = refl
    points bodies.Simple = refl
    points bodies.Discrete = refl
    points bodies.MultiDimension = refl
    points bodies.Spatial = refl
    points bodies.Custom = refl

    by : (d : DataType) → values k d n ≡ values_by d n (layout_by k d)
    by U32s = refl
    by Times = refl
    by Floats = refl
    by Ratios = refl
    by Bools = refl
    by Bytes = refl
    by BlendModes = refl
    by Paths = refl
    by Points = points k
    by Colors = refl
    by GradientColors = refl
    by (Enums top) = refl
    by Dashes = refl
    by TagBlocks = refl

-- what a `match` on the layout tells
pub values_told : (k : bodies.Kind) (d : DataType) (n : ℕ) {y : Layout} (told : Layout) → y ≡ layout_by k d → y ≡ told → values k d n ≡ values_by d n told
values_told k d n told e h = values_are k d n e ∙ ap (values_by d n) h
