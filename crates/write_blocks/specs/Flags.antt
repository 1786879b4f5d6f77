-- Flag numbers as bits: of one attribute, of all, and as the code gathers them.
use Rattle.std.specs.Prelude.{ℕ, ◌+◌, ◌/◌, ◌≤◌, List, [], ◌∷◌, ◌++◌, Bool, true, false, ◌≡◌, eqb, length, Result, Ok, Err}
use Rattle.format.specs.Tests.{pick}
use Rattle.format.specs.Bits.{Order}
use Rattle.format.specs.Items.{skipped}
use Rattle.format.specs.Bodies.{Kind, Value, Fixed, BitFlag, Simple, Discrete, MultiDimension, Spatial, Custom, Attribute}
use Rattle.format.specs.Possible.{Possible, this, cannot}
use Rattle.format.specs.WritingItems.{dig, glue, before, spell_flag}
use Rattle.format.specs.WritingBodies.{bytes_of}
use Rattle.sink.specs.declared.Impossible.{Impossible}
use Rattle.write_blocks.specs.declared.field.Flags.{Flags}

-- the bits of an attribute's flag number
abbrev pub flag_spelling : Order → Kind → ℕ → Possible (List Bool)
flag_spelling o Value v = spell_flag o v 1
flag_spelling o Fixed v = pick (eqb v 1) (this []) cannot
flag_spelling o BitFlag v = spell_flag o v 1
flag_spelling o Simple v = spell_flag o v 2
flag_spelling o Discrete v = spell_flag o v 2
flag_spelling o MultiDimension v = spell_flag o v 2
flag_spelling o Spatial v = spell_flag o v 3
flag_spelling o Custom v = spell_flag o v 1

abbrev pub joined : Possible (List Bool) → Possible (List Bool) → Possible (List Bool)
joined (this bs) b = before bs b
joined cannot b = cannot

-- the bits of all flag numbers, one for each attribute
unfoldable pub flag_bits : Order → List Attribute → List ℕ → Possible (List Bool)
flag_bits o [] [] = this []
flag_bits o [] (φ ∷ φs) = cannot
flag_bits o (a ∷ ks) [] = cannot
flag_bits o (a ∷ ks) (φ ∷ φs) = joined (flag_spelling o a.kind φ) (flag_bits o ks φs)

-- the bytes that flags take, with zero bits up to a whole one
abbrev pub flag_bytes : Order → List Bool → List ℕ
flag_bytes o bs = bytes_of o ((length bs + 7) / 8) (bs ++ dig o (skipped (length bs)) 0)

-- some attribute has a flag bit: not all are Fixed
abbrev pub has_flag : Kind → Bool
has_flag Value = true
has_flag Fixed = false
has_flag BitFlag = true
has_flag Simple = true
has_flag Discrete = true
has_flag MultiDimension = true
has_flag Spatial = true
has_flag Custom = true

unfoldable pub any_flag : List Attribute → Bool
any_flag [] = false
any_flag (a ∷ ks) = pick (has_flag a.kind) true (any_flag ks)

-- the bits that flags take at most
abbrev pub most_bits : Kind → ℕ
most_bits Value = 1
most_bits Fixed = 0
most_bits BitFlag = 1
most_bits Simple = 2
most_bits Discrete = 2
most_bits MultiDimension = 2
most_bits Spatial = 3
most_bits Custom = 1

unfoldable pub most_flags : List Attribute → ℕ
most_flags [] = 0
most_flags (a ∷ ks) = most_bits a.kind + most_flags ks

-- a block has flags, and they are one field
pub record HasFlags (ks : List Attribute) : Type 0 where
  pub any : any_flag ks ≡ true
  pub few : most_flags ks ≤ 32

-- ---- as the code gathers them: one field
abbrev pub bits_of : Order → Flags → List Bool
bits_of o f = dig o f.width f.bits

-- f with n bits more, the field x, behind its own
pub record Longer (o : Order) (f : Flags) (n x : ℕ) (g : Flags) : Type 0 where
  pub glued : g.bits ≡ glue o f.width n f.bits x
  pub longer : g.width ≡ f.width + n

abbrev pub noted : Order → Result Flags Impossible → Possible (List Bool)
noted o (Ok f) = this (bits_of o f)
noted o (Err e) = cannot

-- flags of w bits, with n more at most
abbrev pub Grown : ℕ → ℕ → Result Flags Impossible → Type 0
Grown n w (Ok f) = f.width ≤ w + n
Grown n w (Err e) = Unit {0}
