-- Runs of bit fields: the numbers that fields have, and their bits.
use Rattle.std.specs.Prelude.{◌≡◌, ℕ, ◌%◌, ◌^◌, Bool, true, false, List, [], ◌∷◌, ◌++◌, ◌==◌, nat_lt, Result, Ok, Err}
use Rattle.format.specs.Tests.{pick}
use Rattle.format.specs.Bits.{Order}
use Rattle.format.specs.Items.{sign_extend}
use Rattle.format.specs.WritingItems.{dig, unextend}
use Rattle.sink.specs.declared.Impossible.{Impossible}
use Rattle.table.specs.Fields.{allows, signed, announced}
use Rattle.table.specs.declared.fields.Field.{Field}
use Rattle.table.specs.declared.fields.Field.TheVariants.{Verb, Interpolation, SpatialFlag, Plain, ByteValue, Coordinate}

-- v is a number of UB[w]; and of SB[w]: its field shows it
abbrev pub unsigned_in : ℕ → ℕ → Bool
unsigned_in w v = nat_lt v (2 ^ w)

abbrev pub signed_in : ℕ → ℕ → Bool
signed_in w v = pick (sign_extend w (unextend w v) == v) (nat_lt (unextend w v) (2 ^ w)) false

-- a field of this kind and w bits may have the number v
unfoldable pub is_field : Field → ℕ → ℕ → Bool
is_field f w v = pick (allows f v) (pick (signed f) (signed_in w v) (unsigned_in w v)) false

-- nothing is asked of its number but that its bits can have it, and it announces nothing
abbrev pub bare : Field → Bool
bare Verb = false
bare Interpolation = false
bare SpatialFlag = false
bare Plain = true
bare ByteValue = false
bare Coordinate = true

unfoldable pub all_fields : Field → ℕ → List ℕ → Bool
all_fields f w [] = true
all_fields f w (v ∷ vs) = pick (is_field f w v) (all_fields f w vs) false

-- numbers were judged: all are fields, and announce so many signed fields; or one of them is none
abbrev pub Judges : Field → ℕ → List ℕ → Result ℕ Impossible → Type 0
Judges f w vs (Ok n) = (all_fields f w vs ≡ true) × (n ≡ announced f vs)
Judges f w vs (Err e) = all_fields f w vs ≡ false

-- the lowest w bits of each number
unfoldable pub dig_all : Order → ℕ → List ℕ → List Bool
dig_all o w [] = []
dig_all o w (v ∷ vs) = dig o w (v % 2 ^ w) ++ dig_all o w vs
