-- The items, written: the bits that a number is spelt with.
use Rattle.std.specs.Prelude.{ℕ, zero, suc, pred, ◌+◌, ◌-◌, ◌*◌, ◌/◌, ◌%◌, ◌^◌, List, [], ◌∷◌, ◌++◌, Bool, false, length, take, drop, ltb, leb, eqb}
use Rattle.format.specs.Tests.{pick}
use Rattle.format.specs.Bits.{Order, high, low}
use Rattle.format.specs.Formats.{Item}
use Rattle.format.specs.Items.{sign_extend, skipped, sign}
use Rattle.format.specs.Possible.{Possible, this, cannot}

-- a field of n + 1 bits taken apart: its first bit, and the field of the other n
abbrev pub first : Order → ℕ → ℕ → ℕ
first high n v = v / 2 ^ n
first low n v = v % 2

abbrev pub rest : Order → ℕ → ℕ → ℕ
rest high n v = v % 2 ^ n
rest low n v = v / 2

-- a field of m + n bits, made of the field x of its first m and the field y of its last n
abbrev pub glue : Order → ℕ → ℕ → ℕ → ℕ → ℕ
glue high m n x y = x * 2 ^ n + y
glue low m n x y = y * 2 ^ m + x

-- of the bits of a number, how many count less than a field in it that has k bits before it and l behind it
abbrev pub below : Order → ℕ → ℕ → ℕ
below high k l = l
below low k l = k

-- the n bits of v, in the order in which they are written
unfoldable pub dig : Order → ℕ → ℕ → List Bool
dig o zero v = []
dig o (suc n) v = eqb (first o n v) 1 ∷ dig o n (rest o n v)

abbrev pub before : List Bool → Possible (List Bool) → Possible (List Bool)
before xs (this bs) = this (xs ++ bs)
before xs cannot = cannot

-- UB[n]
abbrev pub spell_ub : Order → ℕ → ℕ → Possible (List Bool)
spell_ub o n v = pick (ltb v (2 ^ n)) (this (dig o n v)) cannot

-- U32 and U64: at most k + 1 bytes, the last of these at most c
unfoldable pub spell_var : Order → ℕ → ℕ → ℕ → Possible (List Bool)
spell_var o c v zero = pick (leb v c) (this (dig o 8 v)) cannot
spell_var o c v (suc k) = pick (ltb v 128) (this (dig o 8 v)) (before (dig o 8 (128 + v % 128)) (spell_var o c (v / 128) k))

-- g undoes f: v is spelt as g v, if f shows that as v
abbrev pub undo : (ℕ → ℕ) → (ℕ → ℕ) → (ℕ → Possible (List Bool)) → ℕ → Possible (List Bool)
undo f g s v = pick (eqb (f (g v)) v) (s (g v)) cannot

-- SB[n]
abbrev pub unextend : ℕ → ℕ → ℕ
unextend n v = pick (ltb (v * 2) (2 ^ n)) v (v - (2 ^ 64 - 2 ^ n))

-- I32: 2 ^ 63 parts the negative numbers from the others
abbrev pub unsign : ℕ → ℕ
unsign v = pick (ltb v (2 ^ 63)) (v * 2) ((2 ^ 64 - v) * 2 + 1)

abbrev pub spell_i32 : Order → ℕ → Possible (List Bool)
spell_i32 o = undo sign unsign (λ d. pick (eqb d 1) cannot (spell_var o 15 d 4))

-- flags
unfoldable pub spell_flag : Order → ℕ → ℕ → Possible (List Bool)
spell_flag o v zero = pick (eqb v 0) (this []) cannot
spell_flag o v (suc n) = pick (eqb v 0) (this (dig o 1 0)) (pick (eqb (v % 2) 1) (before (dig o 1 1) (spell_flag o (v / 2) n)) cannot)

-- n bytes, lowest first
unfoldable pub spell_le : Order → ℕ → ℕ → Possible (List Bool)
spell_le o v zero = pick (eqb v 0) (this []) cannot
spell_le o v (suc n) = before (dig o 8 (v % 256)) (spell_le o (v / 256) n)

-- a String: its bytes are 1 to 255, and a zero byte ends it
abbrev pub text_byte : ℕ → Bool
text_byte x = pick (eqb x 0) false (ltb x 256)

unfoldable pub spell_txt : Order → List ℕ → Possible (List Bool)
spell_txt o [] = this (dig o 8 0)
spell_txt o (x ∷ xs) = pick (text_byte x) (before (dig o 8 x) (spell_txt o xs)) cannot

-- the numbers that were used up, the bits that they are written as, and the numbers that are left
pub data Written : Type 0 where
  wrote : List ℕ → List Bool → List ℕ → Written

abbrev pub put : List ℕ → Possible (List Bool) → List ℕ → Possible Written
put xs (this bs) ys = this (wrote xs bs ys)
put xs cannot ys = cannot

-- one number
abbrev pub single : (ℕ → Possible (List Bool)) → List ℕ → Possible Written
single f [] = cannot
single f (v ∷ ns) = put (v ∷ []) (f v) ns

-- a length, and that many bytes
abbrev pub take_text : Order → List ℕ → Possible Written
take_text o [] = cannot
take_text o (n ∷ ns) = pick (leb n (length ns)) (put (n ∷ take n ns) (spell_txt o (take n ns)) (drop n ns)) cannot

unfoldable pub write_item : Order → Item → List ℕ → ℕ → Possible Written
write_item o Item.align ns p = this (wrote [] (dig o (skipped p) 0) ns)
write_item o (Item.UB n) ns p = single (spell_ub o n) ns
write_item o (Item.SB n) ns p = single (undo (sign_extend n) (unextend n) (spell_ub o n)) ns
write_item o Item.width ns p = single (undo suc pred (spell_ub o 5)) ns
write_item o Item.dash_length ns p = single (undo suc pred (spell_ub o 3)) ns
write_item o Item.U32 ns p = single (λ v. spell_var o 15 v 4) ns
write_item o Item.U64 ns p = single (λ v. spell_var o 1 v 9) ns
write_item o Item.I32 ns p = single (spell_i32 o) ns
write_item o (Item.flag n) ns p = single (λ v. spell_flag o v n) ns
write_item o (Item.echo n) ns p = single (λ v. pick (eqb v n) (this []) cannot) ns
write_item o (Item.Le n) ns p = single (λ v. spell_le o v n) ns
write_item o Item.string ns p = take_text o ns
