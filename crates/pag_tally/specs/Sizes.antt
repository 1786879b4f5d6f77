-- (C-19) Files that stand one after another on standard input.
use Rattle.std.specs.Prelude.{ℕ, List, drop, ltb}
use Rattle.format.specs.Tests.{pick}
use Rattle.format.specs.FileAndTags.{le32}

-- ---- Each as long as its length field says (9 bytes if that is less). s: its first eight bytes
abbrev pub size_of : List ℕ → ℕ
size_of s = pick (ltb (le32 (drop 4 s)) 9) 9 (le32 (drop 4 s))
