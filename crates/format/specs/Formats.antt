-- Formats: what stands in a body, written down as data. `run` of Items says what reading a format gives.
use Rattle.std.specs.Prelude.{ℕ, zero, suc, List, Bool, get_or}

-- the smallest things that are read; Items says how, in document 01's order
pub data Item : Type 0 where
  U32 U64 I32 : Item
  -- n bytes, lowest first
  Le : ℕ → Item
  -- a String
  string : Item
  -- UB[n] and SB[n]
  UB SB : ℕ → Item
  width : Item
  -- the length of a list of dashes
  dash_length : Item
  -- the skip to the next whole byte
  align : Item
  -- an attribute's flag bits, at most n of them
  flag : ℕ → Item
  -- no bits at all: n itself is shown
  echo : ℕ → Item

infixr 40 ◌▹◌
infixr 40 ◌▸◌
pub data Format : Type 0 where
  nothing : Format
  item : Item → Format
  -- f, whose numbers have to pass a test; reason e if they do not
  only : (List ℕ → Bool) → ℕ → Format → Format
  -- f, and then what follows, which may depend on the numbers that f showed
  ◌▹◌ : Format → (List ℕ → Format) → Format

-- f, and then g
abbrev pub ◌▸◌ : Format → Format → Format
f ▸ g = f ▹ λ xs. g

-- f, n times
unfoldable pub times : ℕ → Format → Format
times zero f = nothing
times (suc n) f = f ▸ times n f

-- the one number that was shown
abbrev pub the : List ℕ → ℕ
the ns = get_or ns 0 0
