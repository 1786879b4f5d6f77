-- The rows of a code are read as document 01's format; and a loop that reads a format part by part.
use Prim.Native.Nat.{ℕ, zero, suc, ◌+◌, ◌*◌, ◌≤◌, ◌<◌}
use mathlib.Core.List.{List, [], ◌∷◌, ◌++◌}
use mathlib.Core.Path.{◌≡◌, refl, ap, ap₂, sym, ◌∙◌}
use mathlib.Core.Bool.{Bool, true, false}
use native.Mathlib.Numerals.{add-one}
use native.Mathlib.Omega.{arith}
use lib.ListN.{length, get_or, drop}
use lib.Seq.{drop-cons}
use Rattle.std.proofs.lemmas.List.{drop_all}
use lib.Dec.{eqb}
use borrow.Author.Tests.{ne_eqb}
use Rattle.std.proofs.Common.{Result, Ok}
use Rattle.format.specs.Tests.{pick}
use Rattle.format.specs.Bits.{Order}
use Rattle.format.specs.Reading.{Ending, shows}
use Rattle.format.specs.Formats.{Format, nothing, ◌▸◌, times}
use Rattle.format.specs.Items.{run, u32, i32, time, byte, color}
use Rattle.format.specs.Bodies.{font_tables, composition_attributes, solid_color, image_reference, composition_reference}
use Rattle.format.specs.FileAndTags.{vector_composition, layer_block, class_of}
use Rattle.format.proofs.SizeLaws.{Fair, fair_nothing}
use Rattle.format.proofs.RoomLaws.{fair_class}
use Rattle.items.specs.Kinds.{format_of}
use Rattle.items.specs.declared.Item.{Item}
use Rattle.items.specs.declared.Item.TheVariants.{U32, I32, Time, Float, Byte, Count}
use Rattle.items.proofs.ItemLaws.{count_range}
use Rattle.reasons.specs.declared.Reason.{Reason}
use Rattle.bits.specs.Places.{order_of}
use Rattle.table.specs.State.{State, shown_over}
use Rattle.table.specs.Readers.{Reads, state_of}
use Rattle.table.specs.declared.reader.Reader.{Reader}
use Rattle.table.proofs.ReaderLaws.{reading}
use Rattle.table.proofs.EngineLaws.{Alike, alike_nothing, alike_assoc, alike_after}
use Rattle.fixed.specs.Fixed.{in_order, kinds_of, fixed_of, RowsOf}

-- ---- every number takes a bit at least

-- the formats are those of the classes, which `fair_class` knows
pub fair_fixed : (o : Order) (code : ℕ) → Fair o 0 (fixed_of code)
unfolding fixed_of class_of
fair_fixed o code =
    or (eqb code 1) font_tables _ (fair_class o 14 1)
    (or (eqb code 2) vector_composition _ (fair_class o 14 2)
    (or (eqb code 3) composition_attributes _ (fair_class o 14 3)
    (or (eqb code 5) layer_block _ (fair_class o 14 5)
    (or (eqb code 7) solid_color _ (fair_class o 14 7)
    (or (eqb code 11) image_reference _ (fair_class o 14 11)
    (or (eqb code 12) composition_reference nothing (fair_class o 14 12) (fair_nothing o)))))))
  where
    or : (c : Bool) (f g : Format) → Fair o 0 f → Fair o 0 g → Fair o 0 (pick c f g)
    or true f g h l = h
    or false f g h l = l

-- ---- the rows of each code

in_order_append : (is js : List Item) → Alike (in_order (is ++ js)) (in_order is ▸ in_order js)
unfolding in_order run
in_order_append [] js o b p = refl
in_order_append (i ∷ is) js o b p = alike_after (format_of i) (in_order (is ++ js)) (in_order is ▸ in_order js) (in_order_append is js) o b p ∙ sym (alike_assoc (format_of i) (in_order is) (in_order js) o b p)

pub items_2 : Alike (in_order (U32 ∷ [])) vector_composition
unfolding in_order
items_2 = alike_nothing u32

pub items_3 : Alike (in_order (I32 ∷ I32 ∷ Time ∷ Float ∷ Byte ∷ Byte ∷ Byte ∷ [])) composition_attributes
unfolding in_order times
items_3 o b p = refl

pub items_5 : Alike (in_order (Byte ∷ U32 ∷ [])) layer_block
unfolding in_order
items_5 = alike_after byte (u32 ▸ nothing) u32 (alike_nothing u32)

pub items_7 : Alike (in_order (Byte ∷ Byte ∷ Byte ∷ I32 ∷ I32 ∷ [])) solid_color
unfolding in_order times
items_7 o b p = in_order_append (Byte ∷ Byte ∷ Byte ∷ []) (I32 ∷ I32 ∷ []) o b p ∙ alike_after color _ _ (alike_after i32 _ _ (alike_nothing i32)) o b p

pub items_11 : Alike (in_order (U32 ∷ [])) image_reference
unfolding in_order
items_11 = alike_nothing u32

pub items_12 : Alike (in_order (U32 ∷ Time ∷ [])) composition_reference
unfolding in_order
items_12 = alike_after u32 (time ▸ nothing) time (alike_nothing time)

-- by the code
abbrev Few : List Item → Format → Type 0
Few is f = (length is ≤ 18) × Alike (in_order is) f

few_none : Few [] nothing
unfolding in_order
few_none = (omega arith, λ o b p. refl)

kinds_are : (code : ℕ) → (code ≡ 1 → ⊥) → Few (kinds_of code) (fixed_of code)
unfolding kinds_of fixed_of
kinds_are code n = rw (ne_eqb code 1 n)
    (or (eqb code 2) (U32 ∷ []) _ vector_composition _ (omega arith, items_2)
    (or (eqb code 3) (I32 ∷ I32 ∷ Time ∷ Float ∷ Byte ∷ Byte ∷ Byte ∷ []) _ composition_attributes _ (omega arith, items_3)
    (or (eqb code 5) (Byte ∷ U32 ∷ []) _ layer_block _ (omega arith, items_5)
    (or (eqb code 7) (Byte ∷ Byte ∷ Byte ∷ I32 ∷ I32 ∷ []) _ solid_color _ (omega arith, items_7)
    (or (eqb code 11) (U32 ∷ []) _ image_reference _ (omega arith, items_11)
    (or (eqb code 12) (U32 ∷ Time ∷ []) [] composition_reference nothing (omega arith, items_12) few_none))))))
  where
    or : (c : Bool) (is js : List Item) (f g : Format) → Few is f → Few js g → Few (pick c is js) (pick c f g)
    or true is js f g h l = h
    or false is js f g h l = l

-- for the arm of a code that was told
pub rows_are : {code : ℕ} {rows : List Item} (told : ℕ) → code ≡ told → (code ≡ 1 → ⊥) → rows ≡ kinds_of told → RowsOf code rows
rows_are told e n h = let k = kinds_are told (rw e at n) in rw (e, h) (record { are = refl; few = k.0; items = k.1 })

-- for the codes that are not told
pub rows_none : {code : ℕ} → (code ≡ 1 → ⊥) → (code ≡ 2 → ⊥) → (code ≡ 3 → ⊥) → (code ≡ 5 → ⊥) → (code ≡ 7 → ⊥) → (code ≡ 11 → ⊥) → (code ≡ 12 → ⊥) → RowsOf code []
unfolding kinds_of
rows_none {code} a b c d e f g = rows_are code refl a (rw (ne_eqb code 2 b, ne_eqb code 3 c, ne_eqb code 5 d, ne_eqb code 7 e, ne_eqb code 11 f, ne_eqb code 12 g))

-- a code as its items or its rows are read
pub fixed_fonts : (code : ℕ) → code ≡ 1 → fixed_of code ≡ font_tables
unfolding fixed_of
fixed_fonts code e = rw e

-- ---- fonts: how many there are is told
pub fonts_few : {a b : Reader} {r : Result ℕ Reason} {n : ℕ} → Reads a b r (format_of (Count 0)) → r ≡ Ok n → (reading a (format_of (Count 0))).shown ≡ n ∷ [] → n ≤ 4096
unfolding shown_over
fonts_few {a} {b} {r} {n} h e shown =
    let z : reading a (format_of (Count 0)) ≡ shows (n ∷ []) b.place.0 = ap₂ (λ (xs : List ℕ) (z : Ending). record { shown = xs; ended = z }) shown (ap (λ (s : State). s.ended) (sym h.left ∙ ap (state_of b) e)) in
    (count_range (order_of a.order) a.body.now a.place.0 0 z).1

-- ---- formats, part by part

-- the items of the rows from here on are the item of the row here and those after it; or none are left
pub items_more : (rows : List Item) (i : ℕ) (d : Item) → i < length rows → in_order (drop i rows) ≡ format_of (get_or rows i d) ▸ in_order (drop (i + 1) rows)
unfolding in_order
items_more rows i d h = rw (add-one i, drop-cons rows i d h)

pub items_over : (rows : List Item) (i : ℕ) → length rows ≤ i → in_order (drop i rows) ≡ nothing
unfolding in_order
items_over rows i h = rw (drop_all i rows h)

-- n times two is twice n
pub pairs : (n : ℕ) (f : Format) → Alike (times n (f ▸ f)) (times (2 * n) f)
unfolding times
pairs zero f o b p = refl
pairs (suc n) f o b p =
    let m : 2 * suc n ≡ suc (suc (2 * n)) = omega arith in
    rw m (alike_assoc f f (times n (f ▸ f)) o b p ∙ alike_after f _ _ (alike_after f _ _ (pairs n f)) o b p)
