-- Parts of the formats that functions of their own read: fields that announce others, and the parts of keyframed content.
use Rattle.std.specs.Prelude.{ℕ, suc, ◌*◌}
use Rattle.format.specs.Tests.{pick}
use Rattle.format.specs.Formats.{Item, Format, nothing, item, ◌▹◌, ◌▸◌, times, the}
use Rattle.format.specs.Items.{byte, uint16, count, scaled, time}
use Rattle.format.specs.Bodies as bodies
use Rattle.format.specs.Bodies.{values, interpolations, how_many, curves, aligned, spatial, has_spatial}
use Rattle.table.specs.Fields.{field_of, announced}
use Rattle.table.specs.declared.fields.Field.{Field}

-- n fields of w bits; then a width, and as many signed fields of it as they announce
abbrev pub announcing : Field → ℕ → ℕ → Format
announcing f w n = times n (field_of f w) ▹ λ xs. scaled (announced f xs)

-- n + 1 times, n + 1 values, the easing, m signed fields, and the spatial part
abbrev pub frames_of : bodies.Kind → bodies.DataType → ℕ → ℕ → ℕ → Format
frames_of k d φ n m = times (suc n) time ▸ aligned ▸ values k d (suc n) ▸ aligned ▸ scaled m ▸ pick (has_spatial φ) (spatial n) nothing

-- keyframed content after its count of n frames
abbrev pub keyframes_of : bodies.Kind → bodies.DataType → ℕ → ℕ → Format
keyframes_of k d φ n = (aligned ▸ interpolations k n) ▹ λ kinds. frames_of k d φ n (how_many 2 kinds * 4 * curves k d)

-- a stop of a gradient, with n bytes behind its position and its midpoint; and the stops, alpha stops first
abbrev pub stop_of : ℕ → Format
stop_of n = (uint16 ▸ uint16) ▸ times n byte

abbrev pub stops_of : ℕ → ℕ → Format
stops_of alphas colors = times alphas (stop_of 1) ▸ times colors (stop_of 3)

-- a GradientColor after its count of alpha stops
abbrev pub after_alphas : ℕ → Format
after_alphas alphas = count 0 4096 ▹ λ colors. stops_of alphas (the colors)

-- dashes after their length
abbrev pub offset_flag : Format
offset_flag = item (Item.UB 1) ▹ λ exist. times (the exist) (item (Item.UB 1))
