-- Values and keyframed content, written: the formats of their parts, and what a `match` tells.
use Prim.Native.Nat.{ℕ, suc, ◌+◌, ◌-◌, ◌*◌, ◌≤◌, ◌<◌}
use mathlib.Core.Bool.{Bool, true, false}
use mathlib.Core.List.{List}
use mathlib.Core.Path.{◌≡◌, refl, sym, ap, ap₂, ◌∙◌}
use native.Mathlib.Numerals.{add-one}
use native.Mathlib.Omega.{arith}
use borrow.Author.Tests.{eq-eqb, ne_eqb, leb-true, leb-false}
use lib.ListN.{length, get_or, take, drop}
use lib.Dec.{leb}
use Rattle.std.specs.Prelude.{Result, Ok, Err}
use Rattle.format.specs.Tests.{pick}
use Rattle.format.specs.Formats.{Item, Format, nothing, item, ◌▹◌, ◌▸◌, times, the}
use Rattle.format.specs.Items.{float, point, path, scaled, time, count, alpha_stop, color_stop}
use Rattle.format.specs.Bodies as bodies
use Rattle.format.specs.Bodies.{value, values, interpolations, how_many, curves, aligned, spatial, has_spatial}
use Rattle.items.specs.Kinds.{format_of}
use Rattle.items.specs.declared.Item.TheVariants.{Count}
use Rattle.table.specs.Fields.{field_of, announced}
use Rattle.table.specs.declared.fields.Field.{Field}
use Rattle.table.specs.declared.fields.Field.TheVariants.{Verb, Interpolation, SpatialFlag, Plain}
use Rattle.table.proofs.EngineLaws.{alike_nothing}
use Rattle.table.proofs.FieldLaws.{announced_frames}
use Rattle.attributes.specs.Contents.{interpolated, layout_by, values_by}
use Rattle.attributes.specs.declared.DataType.{DataType}
use Rattle.attributes.specs.declared.Layout.{Layout}
use Rattle.attributes.proofs.ContentLaws.{interpolations_some, interpolations_none, values_told}
use Rattle.bits.specs.Places.{order_of}
use Rattle.values.specs.Parts.{announcing, frames_of, keyframes_of, after_alphas}
use Rattle.values.specs.Single.{compound_of}
use Rattle.values.proofs.ValueLaws.{path_is, spatial_is, alike_parts, alike_gradient, alike_pairs}
use Rattle.sink.specs.declared.Impossible.{Impossible}
use Rattle.spelling.specs.Writer.{state, Writes, used, done, Announces}
use Rattle.spelling.specs.declared.writer.Writer.{Writer}
use Rattle.spelling.proofs.RunLaws.{one_done, OneDone, the_one}
use Rattle.spelling.proofs.FieldLaws.{field_bits, field_is, field_large}
use Rattle.spelling.proofs.WriteLaws.{writes_then, writes_is, writes_alike, writes_nothing}
use Rattle.write_values.specs.Easing.{Eases}

-- a GradientColor after its count of alpha stops
abbrev pub gradient_after : ℕ → Format
gradient_after n = count 0 4096 ▹ λ colors. times n alpha_stop ▸ times (the colors) color_stop

module _ {T : Type 0} {a b : Writer} {r : Result T Impossible} where
  -- ---- what a `match` tells
  pub compound_told : {what : DataType} (told : DataType) → what ≡ told → Writes a b r (compound_of told) → Writes a b r (compound_of what)
  compound_told told e w = writes_is (ap compound_of (sym e)) w

  pub values_by_layout : (n : ℕ) (kind : bodies.Kind) (d : bodies.DataType) {y : Layout} (told : Layout) → y ≡ layout_by kind d → y ≡ told → Writes a b r (values_by d n told) → Writes a b r (values kind d n)
  values_by_layout n kind d told e h w = writes_is (sym (values_told kind d n told e h)) w

  -- a path; and a GradientColor
  pub path_of : Writes a b r (format_of (Count 0) ▹ λ n. announcing Verb 3 (the n)) → Writes a b r path
  path_of w = writes_is (λ i. format_of (Count 0) ▹ λ n. path_is (the n) i) w

  pub gradient_of : (n : ℕ) → Writes a b r (after_alphas n) → Writes a b r (gradient_after n)
  gradient_of n w = writes_alike (after_alphas n) (gradient_after n) (λ o b p. alike_gradient n o b p) w

  -- a bit is a field
  pub bit_of : Writes a b r (times 1 (field_of Plain 1)) → Writes a b r (item (Item.UB 1))
  unfolding times
  bit_of w = writes_alike (times 1 (field_of Plain 1)) (item (Item.UB 1)) (λ o b p. alike_nothing (item (Item.UB 1)) o b p) w

  -- Points in turn are twice as many Floats
  pub points_are : (n : ℕ) → Writes a b r (times (n * 2) float) → Writes a b r (times n point)
  points_are n w = writes_alike (times (n * 2) float) (times n point) (λ o b p. alike_pairs float n o b p) w

  -- hasSpatial is set
  pub spatial_some : (φ n : ℕ) → φ ≡ 7 → Writes a b r (aligned ▸ announcing SpatialFlag 1 (n * 2)) → Writes a b r (pick (has_spatial φ) (spatial n) nothing)
  spatial_some φ n h w = rw (eq-eqb φ 7 h) (writes_is (spatial_is n) w)

  -- the code counts n + 1, and writes each part with the skip before it
  pub frames_is : (kind : bodies.Kind) (d : bodies.DataType) (φ n m : ℕ) → Writes a b r (times (n + 1) time ▸ (aligned ▸ values kind d (n + 1)) ▸ ((aligned ▸ scaled m) ▸ pick (has_spatial φ) (spatial n) nothing))
      → Writes a b r (frames_of kind d φ n m)
  frames_is kind d φ n m w =
      writes_alike (times (suc n) time ▸ (aligned ▸ values kind d (suc n)) ▸ ((aligned ▸ scaled m) ▸ pick (has_spatial φ) (spatial n) nothing)) (frames_of kind d φ n m)
      (λ o b p. alike_parts (times (suc n) time) (values kind d (suc n)) (scaled m) (pick (has_spatial φ) (spatial n) nothing) o b p)
      (writes_is (ap (λ (i : ℕ). times i time ▸ (aligned ▸ values kind d i) ▸ ((aligned ▸ scaled m) ▸ pick (has_spatial φ) (spatial n) nothing)) (add-one n)) w)

-- hasSpatial is not set
pub spatial_none : {T : Type 0} (a : Writer) (x : T) (φ n : ℕ) → (φ ≡ 7 → ⊥) → Writes a a (Ok x) (pick (has_spatial φ) (spatial n) nothing)
spatial_none a x φ n h = rw (ne_eqb φ 7 h) (writes_nothing a x)

-- ---- one bit that was written
module _ (a b : Writer) (x : ℕ) (w : Writes a b (Ok x) (item (Item.UB 1))) where
  one_bit : OneDone (order_of a.order) (field_of Plain 1) (field_bits (order_of a.order) Plain 1) (field_is (order_of a.order) Plain 1) a.values.now (state a) a.index b.index
  one_bit = one_done (order_of a.order) (field_of Plain 1) (field_bits (order_of a.order) Plain 1) (field_is (order_of a.order) Plain 1) a.values.now (state a) a.index (state b) b.index (sym w.told)

  pub bit_inside : a.index < length a.values.now
  bit_inside = one_bit.inside

  pub bit_counts : (get_or a.values.now a.index 0 ≡ the (used a b)) × (0 ≤ get_or a.values.now a.index 0) × (get_or a.values.now a.index 0 ≤ 1)
  bit_counts = (sym (the_one a.values.now a.index b.index one_bit.next one_bit.inside), omega arith, go (leb (get_or a.values.now a.index 0) 1) refl)
    where
      go : (c : Bool) → leb (get_or a.values.now a.index 0) 1 ≡ c → get_or a.values.now a.index 0 ≤ 1
      go true q = leb-true (get_or a.values.now a.index 0) 1 q
      go false q = absurd (one_bit.spells (field_large (order_of a.order) Plain 1 (state a).place (get_or a.values.now a.index 0) 2 refl refl (omega (arith, leb-false (get_or a.values.now a.index 0) 1 q))))

-- ---- the interpolations of n frames, after the skip to a whole byte: there are none; or they are fields of two bits
module _ {a b : Writer} (n : ℕ) (kind : bodies.Kind) (skip : Writes a b done aligned) where
  pub none_left : false ≡ interpolated kind → Writes {T = ℕ} a b (Ok 0) (aligned ▸ interpolations kind n)
  none_left none = writes_then skip (λ xs. interpolations kind n) refl (writes_is (sym (interpolations_none kind n none)) (writes_nothing {T = ℕ} b 0))

  pub some_left : {c : Writer} {r : Result ℕ Impossible} → true ≡ interpolated kind → Writes b c r (times n (field_of Interpolation 2)) → Writes a c r (aligned ▸ interpolations kind n)
  some_left some w = writes_then skip (λ xs. interpolations kind n) refl (writes_is (sym (interpolations_some kind n some)) w)

-- ---- what follows runs that announce
module _ {T U : Type 0} {a b c : Writer} {r : Result U Impossible} {q : Result T Impossible} {x : U} where
  pub announcing_then : (f : Field) (w n : ℕ) {m : ℕ} → Writes a b r (times n (field_of f w)) → r ≡ Ok x → m ≡ announced f (used a b) → Writes b c q (scaled m) → Writes a c q (announcing f w n)
  announcing_then f w n p e is v = writes_then p (λ xs. scaled (announced f xs)) e (writes_is (ap scaled is) v)

  pub keyframes_then : (kind : bodies.Kind) (d : bodies.DataType) (φ n : ℕ) {m y : ℕ} → Writes a b r (aligned ▸ interpolations kind n) → r ≡ Ok x → m ≡ how_many 2 (used a b) * 4 → y ≡ curves kind d
      → Writes b c q (frames_of kind d φ n (m * y)) → Writes a c q (keyframes_of kind d φ n)
  keyframes_then kind d φ n w e is g v =
      writes_then w (λ kinds. frames_of kind d φ n (how_many 2 kinds * 4 * curves kind d)) e (writes_is (ap (frames_of kind d φ n) (ap₂ (λ (i j : ℕ). i * j) is g)) v)

-- the skip uses up none
module _ (a b : Writer) (placed : b.index ≡ a.index) where
  pub none_eases : (n : ℕ) → (0 ≡ how_many 2 (used a b) * 4) × (0 ≤ 6 * n)
  none_eases n = let z : b.index - a.index ≡ 0 = omega arith in rw z (refl, omega arith)

  pub some_eases : (n : ℕ) (c : Writer) (r : Result ℕ Impossible) → b.values.now ≡ a.values.now → Announces Interpolation b c n r → Eases a c n r
  some_eases n c (Ok m) same h = (h.0 ∙ ap (announced Interpolation) (ap₂ (λ (k : ℕ) (t : List ℕ). take (c.index - k) (drop k t)) placed same) ∙ announced_frames (used a c), h.1)
  some_eases n c (Err e) same h = tt
