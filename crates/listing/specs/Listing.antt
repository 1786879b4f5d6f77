-- Document 01, the listing program: one record a line, fields parted by tabs. Text is a list of ASCII bytes.
use Rattle.std.specs.Prelude.{ℕ, List, [], ◌∷◌, ◌++◌, map, length, get_or, ltb}
use Rattle.format.specs.Tests.{pick}
use Rattle.format.specs.FileAndTags.{compression, Tag, Walk}
use Rattle.format.specs.TableOfNumbers.{plain_tag}
use Rattle.format.specs.Reasons.{Result, gives, refuses, walk_file, read_file}
use Rattle.listing.specs.Decimal.{decimal}

-- ---- One record a line, fields parted by one tab (9) and ended by one newline (10): the field x, and those that follow it.
abbrev pub line : List ℕ → List (List ℕ) → List ℕ
line x [] = x ++ 10 ∷ []
line x (y ∷ ys) = x ++ 9 ∷ line y ys

-- ---- First `PAG`, version, length, compression.
abbrev pub first_line : List ℕ → List ℕ
first_line f = line (0x50 ∷ 0x41 ∷ 0x47 ∷ []) (map decimal (get_or f 3 0 ∷ length f ∷ compression f ∷ []))

-- ---- Then per tag depth, place, header size, body length, code, state, values.
abbrev pub tag_line : Tag → List ℕ
tag_line t = line (decimal t.depth) (map decimal (t.place ∷ t.header_size ∷ t.body_length ∷ t.code ∷ t.state ∷ t.values))

abbrev pub tag_lines : List Tag → List ℕ
tag_lines [] = []
tag_lines (t ∷ ts) = tag_line t ++ tag_lines ts

-- the listing of the file f, whose walk is w. (C-17) It keeps printing one byte a field: an opaque tag's values are its body bytes (`plain_tag`)
unfoldable pub listing : List ℕ → Walk → List ℕ
listing f w = first_line f ++ tag_lines (map (plain_tag f) w.tags)

-- ---- A refusal is one line: `refused`, reason, number.
unfoldable pub refusal : ℕ → ℕ → List ℕ
refusal e n = line (0x72 ∷ 0x65 ∷ 0x66 ∷ 0x75 ∷ 0x73 ∷ 0x65 ∷ 0x64 ∷ []) (map decimal (e ∷ n ∷ []))

-- ---- Longer input prints `too long`.
abbrev pub too_long : List ℕ
too_long = line (0x74 ∷ 0x6F ∷ 0x6F ∷ 0x20 ∷ 0x6C ∷ 0x6F ∷ 0x6E ∷ 0x67 ∷ []) []

-- ---- The program reads at most 32,768 bytes at level 1023; a file needing more than 8,192 numbers is refused by 19.
-- (C-17) 19 counts packed numbers.
abbrev pub answered : List ℕ → Result → List ℕ
answered f (gives t) = pick (ltb 8192 (length t)) (refusal 19 (length t)) (listing f (walk_file 0 1023 f))
answered f (refuses e n) = refusal e n

-- all that is printed for the input f
abbrev pub printed : List ℕ → List ℕ
printed f = pick (ltb 32768 (length f)) too_long (answered f (read_file 0 1023 f))
