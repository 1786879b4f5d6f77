-- The first nine bytes of a file.
use Rattle.std.specs.Prelude.{ℕ, List, [], ◌∷◌, ◌++◌}
use Rattle.format.specs.WritingFiles.{spell32}

-- "PAG", version 1, the length n of the whole file, and the compression byte
abbrev pub start : ℕ → ℕ → List ℕ
start n compression = 0x50 ∷ 0x41 ∷ 0x47 ∷ 1 ∷ (spell32 n ++ compression ∷ [])
