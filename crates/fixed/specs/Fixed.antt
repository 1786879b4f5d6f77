-- The constant table of the items of fixed bodies, in the words of the definitions.
use Rattle.std.specs.Prelude.{ℕ, ◌≡◌, ◌≤◌, List, [], ◌∷◌, length, eqb}
use Rattle.format.specs.Tests.{pick}
use Rattle.format.specs.Bits.{Order}
use Rattle.format.specs.Formats.{Format, nothing, ◌▸◌}
use Rattle.format.specs.Items.{run}
use Rattle.format.specs.Bodies.{font_tables, composition_attributes, solid_color, image_reference, composition_reference}
use Rattle.format.specs.FileAndTags.{vector_composition, layer_block}
use Rattle.items.specs.Kinds.{format_of}
use Rattle.items.specs.declared.Item.{Item}
use Rattle.items.specs.declared.Item.TheVariants.{U32, I32, Time, Float, Byte}

-- items in order
unfoldable pub in_order : List Item → Format
in_order [] = nothing
in_order (i ∷ is) = format_of i ▸ in_order is

-- the items of 2, 3, 5, 7, 11 and 12, one after the other
abbrev pub all_items : List Item
all_items = U32 ∷ I32 ∷ I32 ∷ Time ∷ Float ∷ Byte ∷ Byte ∷ Byte ∷ Byte ∷ U32 ∷ Byte ∷ Byte ∷ Byte ∷ I32 ∷ I32 ∷ U32 ∷ U32 ∷ Time ∷ []

-- and by code: the kinds of its items; the other codes have none
unfoldable pub kinds_of : ℕ → List Item
kinds_of code =
    pick (eqb code 2) (U32 ∷ [])
    (pick (eqb code 3) (I32 ∷ I32 ∷ Time ∷ Float ∷ Byte ∷ Byte ∷ Byte ∷ [])
    (pick (eqb code 5) (Byte ∷ U32 ∷ [])
    (pick (eqb code 7) (Byte ∷ Byte ∷ Byte ∷ I32 ∷ I32 ∷ [])
    (pick (eqb code 11) (U32 ∷ [])
    (pick (eqb code 12) (U32 ∷ Time ∷ [])
    [])))))

-- the items of a tag that is no attribute block: of a container those before its list; the others have none
unfoldable pub fixed_of : ℕ → Format
fixed_of code =
    pick (eqb code 1) font_tables
    (pick (eqb code 2) vector_composition
    (pick (eqb code 3) composition_attributes
    (pick (eqb code 5) layer_block
    (pick (eqb code 7) solid_color
    (pick (eqb code 11) image_reference
    (pick (eqb code 12) composition_reference
    nothing))))))

-- these rows are the items of the code, of these kinds, and are read as its format
pub record RowsOf (code : ℕ) (rows : List Item) : Type 0 where
  pub are : rows ≡ kinds_of code
  pub few : length rows ≤ 18
  pub items : (o : Order) (b : List ℕ) (p : ℕ) → run o b (in_order rows) p ≡ run o b (fixed_of code) p
