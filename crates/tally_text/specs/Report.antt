-- (C-19) What the program prints of a tally. Text is a list of ASCII bytes; a record is a line, its fields parted by a tab as in the listing.
use Rattle.std.specs.Prelude.{ℕ, suc, List, [], ◌∷◌, ◌++◌, eqb}
use Rattle.format.specs.Tests.{pick}
use Rattle.listing.specs.Decimal.{decimal}
use Rattle.listing.specs.Listing.{line}
use Rattle.tally.specs.declared.Tally.{Tally}

-- ---- At the end it prints `header` and its count,
abbrev pub header_line : ℕ → List ℕ
header_line n = line (0x68 ∷ 0x65 ∷ 0x61 ∷ 0x64 ∷ 0x65 ∷ 0x72 ∷ []) (decimal n ∷ [])

-- ---- then code and count for every count that isn't zero, a record a line.
abbrev pub count_line : ℕ → ℕ → List ℕ
count_line code n = pick (eqb n 0) [] (line (decimal code) (decimal n ∷ []))

-- the counts of this code and of those after it
abbrev pub count_lines : ℕ → List ℕ → List ℕ
count_lines code [] = []
count_lines code (n ∷ ns) = count_line code n ++ count_lines (suc code) ns

unfoldable pub report : Tally → List ℕ
report t = header_line t.headers ++ count_lines 0 t.counts
