-- Bytes and bits: a field of 8 bits on a whole byte is that byte, in either order.
use Prim.Native.Nat.{ℕ, zero, suc, ◌+◌, ◌-◌, ◌*◌, ◌/◌, ◌%◌, ◌^◌, ◌≤◌, ◌<◌}
use mathlib.Core.List.{List, [], ◌∷◌, ◌++◌}
use mathlib.Core.Path.{◌≡◌, refl, ap, ap₂, sym, ◌∙◌, subst}
use mathlib.Core.Bool.{Bool, true, false}
use lib.ListN.{length, length-append, get_or, take, drop, take-append-drop, length-drop, get_or-append}
use lib.Seq.{length-take-le}
use lib.Arith.{mod-mul}
use lib.Pow.{pow_pos}
use lib.Dec.{lit<, eqb}
use native.Mathlib.Nat.{add-zero, mod-eq_of_lt, pow-suc, mul_comm, mod-one, div-one, div-div-eq-div-mul}
use native.Mathlib.Omega.{arith}
use Rattle.format.specs.Bits.{AllBytes, Order, high, low, weight, bit_at, ub}
use Rattle.format.specs.WritingItems.{dig}
use Rattle.format.specs.WritingBodies.{bit, val, bytes_of}
use Rattle.format.proofs.BitLaws.{Has, join_lt, has_ub, first_join, rest_join}
use Rattle.format.proofs.Trip.{has_le, has_append, has_split}

-- the j-th bit of byte k
bit_in : (o : Order) (b : List ℕ) (k j : ℕ) → j < 8 → bit_at o b (8 * k + j) ≡ get_or b k 0 / 2 ^ weight o j % 2
unfolding bit_at
bit_in o b k j h =
    let d : (8 * k + j) / 8 ≡ k = omega arith in
    let m : (8 * k + j) % 8 ≡ j = omega arith in
    rw (d, m)

-- the last n bits of byte k, high first; and low first
last_high : (b : List ℕ) (k j n : ℕ) → j + n ≡ 8 → ub high b (8 * k + j) n ≡ get_or b k 0 % 2 ^ n
unfolding ub
last_high b k j zero h = sym (mod-one (get_or b k 0))
last_high b k j (suc n) h =
    let w : 7 - j ≡ n = omega arith in
    let s : suc (8 * k + j) ≡ 8 * k + suc j = omega arith in
    let x : ub high b (suc (8 * k + j)) n ≡ get_or b k 0 % 2 ^ n = rw s (last_high b k (suc j) n (omega arith)) in
    rw (bit_in high b k j (omega arith), w, x) (sym (rw (pow-suc, mul_comm (2 ^ n) 2) (mod-mul (get_or b k 0) (lit< tt) (pow_pos n))))

last_low : (b : List ℕ) (k j n : ℕ) → j + n ≡ 8 → ub low b (8 * k + j) n ≡ get_or b k 0 / 2 ^ j % 2 ^ n
unfolding ub
last_low b k j zero h = sym (mod-one (get_or b k 0 / 2 ^ j))
last_low b k j (suc n) h =
    let s : suc (8 * k + j) ≡ 8 * k + suc j = omega arith in
    let x : ub low b (suc (8 * k + j)) n ≡ get_or b k 0 / 2 ^ suc j % 2 ^ n = rw s (last_low b k (suc j) n (omega arith)) in
    let y : get_or b k 0 / 2 ^ suc j ≡ get_or b k 0 / 2 ^ j / 2 = rw (pow-suc) (sym (div-div-eq-div-mul (get_or b k 0) (2 ^ j) 2)) in
    rw (bit_in low b k j (omega arith), x, y) (sym (rw pow-suc (mod-mul (get_or b k 0 / 2 ^ j) (pow_pos n) (lit< tt))))

pub ub_byte : (o : Order) (b : List ℕ) (k : ℕ) → ub o b (8 * k) 8 ≡ get_or b k 0 % 256
ub_byte high b k = rw add-zero at (last_high b k 0 8 refl)
ub_byte low b k = rw (add-zero, div-one) at (last_low b k 0 8 refl)

-- ---- a byte in front
shift_bit : (o : Order) (x : ℕ) (b : List ℕ) (p : ℕ) → bit_at o (x ∷ b) (8 + p) ≡ bit_at o b p
unfolding bit_at
shift_bit o x b p =
    let d : (8 + p) / 8 ≡ suc (p / 8) = omega arith in
    let m : (8 + p) % 8 ≡ p % 8 = omega arith in
    rw (d, m)

shift : (o : Order) (x : ℕ) (b : List ℕ) (p : ℕ) (bs : List Bool) → Has o b p bs → Has o (x ∷ b) (8 + p) bs
shift o x b p [] h = omega arith
shift o x b p (y ∷ bs) h = (shift_bit o x b p ∙ h.0, subst (λ (n : ℕ). Has o (x ∷ b) n bs) (omega arith) (shift o x b (suc p) bs h.1))

unshift : (o : Order) (x : ℕ) (b : List ℕ) (p : ℕ) (bs : List Bool) → Has o (x ∷ b) (8 + p) bs → Has o b p bs
unshift o x b p [] h = omega arith
unshift o x b p (y ∷ bs) h = (sym (shift_bit o x b p) ∙ h.0, unshift o x b (suc p) bs (subst (λ (n : ℕ). Has o (x ∷ b) n bs) (omega arith) h.1))

-- ---- fields of a list of bits
pub val_lt : (o : Order) (n : ℕ) (bs : List Bool) → val o n bs < 2 ^ n
unfolding val
val_lt o zero bs = pow_pos 0
val_lt o (suc n) bs = join_lt o n _ _ (lt_bit (get_or bs 0 false)) (val_lt o n (drop 1 bs))
  where
    lt_bit : (y : Bool) → bit y < 2
    lt_bit true = lit< tt
    lt_bit false = lit< tt

pub dig_val : (o : Order) (n : ℕ) (bs : List Bool) → n ≤ length bs → dig o n (val o n bs) ≡ take n bs
unfolding val dig
dig_val o zero bs h = refl
dig_val o (suc n) [] h = absurd (omega arith)
dig_val o (suc n) (y ∷ bs) h = rw (first_join o n _ _ (lt_bit y) (val_lt o n bs), rest_join o n _ _ (lt_bit y) (val_lt o n bs), dig_val o n bs (omega arith)) (ap (λ (z : Bool). z ∷ take n bs) (bit_eqb y))
  where
    lt_bit : (y : Bool) → bit y < 2
    lt_bit true = lit< tt
    lt_bit false = lit< tt

    bit_eqb : (y : Bool) → eqb (bit y) 1 ≡ y
    bit_eqb true = refl
    bit_eqb false = refl

ub_val : (o : Order) (b : List ℕ) (p n : ℕ) (bs : List Bool) → n ≤ length bs → Has o b p bs → ub o b p n ≡ val o n bs
unfolding val ub
ub_val o b p zero bs h l = refl
ub_val o b p (suc n) [] h l = absurd (omega arith)
ub_val o b p (suc n) (y ∷ bs) h l = rw (l.0, ub_val o b (suc p) n bs (omega arith) l.1)

-- ---- packed bits are there
pub has_bytes_of : (o : Order) (k : ℕ) (bs : List Bool) → length bs ≡ 8 * k → Has o (bytes_of o k bs) 0 bs
unfolding bytes_of
has_bytes_of o zero [] h = omega arith
has_bytes_of o zero (y ∷ bs) h = absurd (omega arith)
has_bytes_of o (suc k) bs h =
    let x : ℕ = val o 8 bs in
    let r : List ℕ = bytes_of o k (drop 8 bs) in
    let e : ub o (x ∷ r) 0 8 ≡ x = ub_byte o (x ∷ r) 0 ∙ mod-eq_of_lt (val_lt o 8 bs) in
    let f : Has o (x ∷ r) 0 (take 8 bs) = rw (e, dig_val o 8 bs (omega arith)) at (has_ub o (x ∷ r) 0 8 (omega arith)) in
    let g : Has o (x ∷ r) 8 (drop 8 bs) = shift o x r 0 (drop 8 bs) (has_bytes_of o k (drop 8 bs) (rw length-drop (omega arith))) in
    subst (λ (l : List Bool). Has o (x ∷ r) 0 l) (take-append-drop 8 bs)
    (has_append o (x ∷ r) 0 (take 8 bs) (drop 8 bs) f (rw (length-take-le 8 bs (omega arith)) g))

pub bytes_of_bytes : (o : Order) (k : ℕ) (bs : List Bool) → AllBytes (bytes_of o k bs)
unfolding bytes_of
bytes_of_bytes o zero bs = tt
bytes_of_bytes o (suc k) bs = (val_lt o 8 bs, bytes_of_bytes o k (drop 8 bs))

pub length_bytes_of : (o : Order) (k : ℕ) (bs : List Bool) → length (bytes_of o k bs) ≡ k
unfolding bytes_of
length_bytes_of o zero bs = refl
length_bytes_of o (suc k) bs = ap suc (length_bytes_of o k (drop 8 bs))

-- and bytes that have these bits are the packed ones
pub bytes_of_has : (o : Order) (b : List ℕ) (bs : List Bool) → AllBytes b → length bs ≡ 8 * length b → Has o b 0 bs → bytes_of o (length b) bs ≡ b
unfolding bytes_of
bytes_of_has o [] bs a h l = refl
bytes_of_has o (x ∷ b) bs a h l =
    let e : val o 8 bs ≡ x = sym (ub_val o (x ∷ b) 0 8 bs (omega arith) l) ∙ ub_byte o (x ∷ b) 0 ∙ mod-eq_of_lt a.0 in
    let s : Has o (x ∷ b) 0 (take 8 bs) × Has o (x ∷ b) (0 + length (take 8 bs)) (drop 8 bs) = has_split o (x ∷ b) 0 (take 8 bs) (drop 8 bs) (subst (λ (k : List Bool). Has o (x ∷ b) 0 k) (sym (take-append-drop 8 bs)) l) in
    let t : Has o (x ∷ b) 8 (drop 8 bs) = rw (length-take-le 8 bs (omega arith)) at s.1 in
    ap₂ (λ (y : ℕ) (c : List ℕ). y ∷ c) e (bytes_of_has o b (drop 8 bs) a.1 (rw length-drop (omega arith)) (unshift o x b 0 (drop 8 bs) t))

-- ---- bytes in front of others
pub bytes_append : (b c : List ℕ) → AllBytes b → AllBytes c → AllBytes (b ++ c)
bytes_append [] c h l = l
bytes_append (x ∷ b) c h l = (h.0, bytes_append b c h.1 l)

pub bytes_take : (n : ℕ) (b : List ℕ) → AllBytes b → AllBytes (take n b)
bytes_take zero b h = tt
bytes_take (suc n) [] h = tt
bytes_take (suc n) (x ∷ b) h = (h.0, bytes_take n b h.1)

pub bytes_drop : (n : ℕ) (b : List ℕ) → AllBytes b → AllBytes (drop n b)
bytes_drop zero b h = h
bytes_drop (suc n) [] h = tt
bytes_drop (suc n) (x ∷ b) h = bytes_drop n b h.1

-- more bytes change no bit that is there
pub has_more : (o : Order) (b c : List ℕ) (p : ℕ) (bs : List Bool) → Has o b p bs → Has o (b ++ c) p bs
unfolding bit_at
has_more o b c p [] h = rw length-append (omega arith)
has_more o b c p (y ∷ bs) h =
    let l : p / 8 < length b = omega (arith, has_le o b (suc p) bs h.1) in
    (rw (get_or-append b c 0 (p / 8) l) h.0, has_more o b c (suc p) bs h.1)

-- the packed bits of a front are its bytes
pub bytes_of_front : (o : Order) (k : ℕ) (b : List ℕ) (bs : List Bool) → AllBytes b → k ≤ length b → length bs ≡ 8 * k → Has o b 0 bs → bytes_of o k bs ≡ take k b
unfolding bytes_of
bytes_of_front o zero b bs a k h l = refl
bytes_of_front o (suc n) [] bs a k h l = absurd (omega arith)
bytes_of_front o (suc n) (x ∷ b) bs a k h l =
    let e : val o 8 bs ≡ x = sym (ub_val o (x ∷ b) 0 8 bs (omega arith) l) ∙ ub_byte o (x ∷ b) 0 ∙ mod-eq_of_lt a.0 in
    let s : Has o (x ∷ b) 0 (take 8 bs) × Has o (x ∷ b) (0 + length (take 8 bs)) (drop 8 bs) = has_split o (x ∷ b) 0 (take 8 bs) (drop 8 bs) (subst (λ (k : List Bool). Has o (x ∷ b) 0 k) (sym (take-append-drop 8 bs)) l) in
    let t : Has o (x ∷ b) 8 (drop 8 bs) = rw (length-take-le 8 bs (omega arith)) at s.1 in
    ap₂ (λ (y : ℕ) (c : List ℕ). y ∷ c) e (bytes_of_front o n b (drop 8 bs) a.1 (omega arith) (rw length-drop (omega arith)) (unshift o x b 0 (drop 8 bs) t))
