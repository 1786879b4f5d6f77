-- Tag lists and files, written.
use Rattle.std.specs.Prelude.{ℕ, zero, suc, pred, ◌+◌, ◌*◌, ◌/◌, ◌%◌, ◌^◌, List, [], ◌∷◌, ◌++◌, Bool, true, false, length, take, drop, ltb, leb, eqb}
use Rattle.format.specs.Tests.{pick}
use Rattle.format.specs.Bits.{Order, order_named}
use Rattle.format.specs.Formats.{the}
use Rattle.format.specs.TableOfNumbers.{unpacked}
use Rattle.format.specs.FileAndTags.{packed, Class, opaque, end, container, known, class_of, is_end, is_read, has_list}
use Rattle.format.specs.Possible.{Possible, this, cannot}
use Rattle.format.specs.WritingBodies.{write_body}

-- the numbers that were used up, the bytes that they are written as, and the numbers that are left
pub data Made : Type 0 where
  made : List ℕ → List ℕ → List ℕ → Made

abbrev pub spell16 : ℕ → List ℕ
spell16 n = n % 256 ∷ n / 256 ∷ []

abbrev pub spell32 : ℕ → List ℕ
spell32 n = n % 256 ∷ n / 256 % 256 ∷ n / 65536 % 256 ∷ n / 16777216 ∷ []

-- (C-11) a state above 1 claims the long header for a body below 63
abbrev pub claims : ℕ → Bool
claims s = ltb 1 s

-- a state of this class, with or without the 2
abbrev pub fits_state : Class → ℕ → Bool
fits_state class s = eqb s (is_read class + pick (claims s) 2 0)

abbrev pub spell_long : ℕ → ℕ → List ℕ
spell_long code len = spell16 (code * 64 + 63) ++ spell32 len

-- a header: the long form where it is claimed, else the short one below 63
abbrev pub spell_head : Bool → ℕ → ℕ → List ℕ
spell_head claim code len = pick claim (spell_long code len) (pick (ltb len 63) (spell16 (code * 64 + len)) (spell_long code len))

abbrev pub fits_head : Bool → ℕ → ℕ → Bool
fits_head claim code len = pick (ltb code 1024) (ltb len (pick claim 63 (2 ^ 32))) false

abbrev pub same : List ℕ → List ℕ → Bool
same [] [] = true
same [] (y ∷ ys) = false
same (x ∷ xs) [] = false
same (x ∷ xs) (y ∷ ys) = pick (eqb x y) (same xs ys) false

-- (C-17) an opaque body: bytes that are packed as these numbers
unfoldable pub unpacked_as : List ℕ → Possible (List ℕ)
unpacked_as vs = pick (same (packed (unpacked vs)) vs) (this (unpacked vs)) cannot

-- the numbers xs, written as these bytes
abbrev pub body_of : List ℕ → Possible (List ℕ) → List ℕ → Possible Made
body_of xs (this b) ys = this (made xs b ys)
body_of xs cannot ys = cannot

-- and what follows
abbrev pub joined : List ℕ → List ℕ → Possible Made → Possible Made
joined xs b (this (made xs' b' ys)) = this (made (xs ++ xs') (b ++ b') ys)
joined xs b cannot = cannot

abbrev pub fronted : List ℕ → Possible (List ℕ) → Possible Made → Possible Made
fronted xs (this b) m = joined xs b m
fronted xs cannot m = cannot

-- a tag with the state s, which fits, and the n values vs, before the numbers ys; a list is written by W; depths: how many may lie below
abbrev pub fill : Order → (List ℕ → Possible Made) → ℕ → Class → ℕ → ℕ → List ℕ → List ℕ → Possible Made
fill o W depths opaque s n vs ys = body_of (s ∷ n ∷ vs) (unpacked_as vs) ys
fill o W depths end s n vs ys = pick (eqb n 0) (this (made (s ∷ n ∷ vs) [] ys)) cannot
fill o W depths (known y) s n vs ys = body_of (s ∷ n ∷ vs) (write_body o y vs) ys
fill o W depths (container y) s n vs ys =
    pick (eqb depths 0) cannot (pick (has_list y vs) (fronted (s ∷ n ∷ vs) (write_body o y vs) (W ys)) (body_of (s ∷ n ∷ vs) (write_body o y vs) ys))

-- state, count and values of a tag
abbrev pub out_tag : Order → (List ℕ → Possible Made) → ℕ → Class → List ℕ → Possible Made
out_tag o W depths class [] = cannot
out_tag o W depths class (s ∷ []) = cannot
out_tag o W depths class (s ∷ n ∷ ns) = pick (leb n (length ns)) (pick (fits_state class s) (fill o W depths class s n (take n ns) (drop n ns)) cannot) cannot

-- the code and the header before a body; then, unless it is End, the rest of the list
abbrev pub headed : Bool → ℕ → Bool → Possible Made → (List ℕ → Possible Made) → Possible Made
headed claim code e cannot k = cannot
headed claim code true (this (made xs body ys)) k = pick (fits_head claim code (length body)) (this (made (code ∷ xs) (spell_head claim code (length body) ++ body) ys)) cannot
headed claim code false (this (made xs body ys)) k = pick (fits_head claim code (length body)) (joined (code ∷ xs) (spell_head claim code (length body) ++ body) (k ys)) cannot

-- one tag, whose state is the number after its code, and what follows it; lists are written by U
abbrev pub out_one : Order → (ℕ → Class) → (ℕ → List ℕ → Possible Made) → ℕ → List ℕ → Possible Made
out_one o class U depths [] = cannot
out_one o class U depths (code ∷ ns) = headed (claims (the ns)) code (is_end (class code)) (out_tag o (U (pred depths)) depths (class code) ns) (U depths)

-- k bounds the number of tags
unfoldable pub unwalk : Order → (ℕ → Class) → ℕ → ℕ → List ℕ → Possible Made
unwalk o class zero depths ns = cannot
unwalk o class (suc k) depths ns = out_one o class (unwalk o class k) depths ns

abbrev pub unwalk_list : Order → (ℕ → Class) → ℕ → List ℕ → Possible Made
unwalk_list o class depths ns = unwalk o class (length ns) depths ns

-- the whole table is used up, and the file is not too long
abbrev pub whole_file : ℕ → Possible Made → Possible (List ℕ)
whole_file comp (this (made xs body [])) = pick (leb (9 + length body) 16777216) (this (0x50 ∷ 0x41 ∷ 0x47 ∷ 1 ∷ (spell32 (9 + length body) ++ comp ∷ body))) cannot
whole_file comp (this (made xs body (y ∷ ys))) = cannot
whole_file comp cannot = cannot

-- the file of a table in an order and at a level, if there is one
unfoldable pub write_file : ℕ → ℕ → List ℕ → Possible (List ℕ)
write_file order level [] = cannot
write_file order level (comp ∷ ns) =
    pick (ltb 1023 level) cannot
    (pick (ltb 1 order) cannot
    (pick (ltb comp 256) (whole_file comp (unwalk_list (order_named order) (class_of level) 8 ns)) cannot))
