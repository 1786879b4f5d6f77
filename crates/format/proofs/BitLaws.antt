-- The facts of bit fields: those that differ by the order first, and then the rest, once over the order.
use Prim.Native.Nat.{ℕ, zero, suc, ◌+◌, ◌*◌, ◌/◌, ◌%◌, ◌^◌, ◌≤◌, ◌<◌}
use mathlib.Core.List.{List, [], ◌∷◌, ◌++◌}
use mathlib.Core.Path.{◌≡◌, refl, ap, sym, ◌∙◌, subst}
use mathlib.Core.Bool.{Bool, true, false}
use lib.ListN.{length}
use lib.Arith.{digits_lt, digits_div, digits_mod}
use lib.Pow.{pow_pos, pow-add}
use lib.Dec.{lit<, eqb}
use borrow.Author.Tests.{eqb-true, eqb-false}
use native.Mathlib.Nat.{add-zero, zero-add, add-suc, suc-add, add_assoc, add-mul, zero-mul, mul-one, mod-lt, div-add-mod', div-lt_iff_lt-mul, pow-suc, pow-zero, mul_comm, mul_assoc}
use native.Mathlib.Omega.{arith}
use Rattle.format.specs.Bits.{Order, high, low, bit_at, ub, join}
use Rattle.format.specs.WritingItems.{dig, first, rest, glue, below}
use Rattle.format.specs.WritingBodies.{bit}

-- bits p to p + length bs of b are bs, and b has them
abbrev pub Has : Order → List ℕ → ℕ → List Bool → Type 0
Has o b p [] = p ≤ 8 * length b
Has o b p (x ∷ bs) = (bit_at o b p ≡ bit x) × Has o b (suc p) bs

pub join_lt : (o : Order) (n x v : ℕ) → x < 2 → v < 2 ^ n → join o n x v < 2 ^ suc n
join_lt high n x v h l = rw (pow-suc, mul_comm (2 ^ n) 2) (digits_lt h l)
join_lt low n x v h l = rw pow-suc (omega arith)

pub first_join : (o : Order) (n x v : ℕ) → x < 2 → v < 2 ^ n → first o n (join o n x v) ≡ x
first_join high n x v h l = digits_div x l
first_join low n x v h l = digits_mod v h

pub rest_join : (o : Order) (n x v : ℕ) → x < 2 → v < 2 ^ n → rest o n (join o n x v) ≡ v
rest_join high n x v h l = digits_mod x l
rest_join low n x v h l = digits_div v h

pub join_rest : (o : Order) (n v : ℕ) → join o n (first o n v) (rest o n v) ≡ v
join_rest high n v = div-add-mod' v (2 ^ n)
join_rest low n v = div-add-mod' v 2

pub rest_lt : (o : Order) (n v : ℕ) → v < 2 ^ suc n → rest o n v < 2 ^ n
rest_lt high n v h = mod-lt v (pow_pos n)
rest_lt low n v h = omega (arith, rw pow-suc at h)

pub first_lt : (o : Order) (n v : ℕ) → v < 2 ^ suc n → first o n v < 2
first_lt high n v h = (div-lt_iff_lt-mul (pow_pos n)).1 (subst (λ (x : ℕ). v < x) (pow-suc 2 n ∙ mul_comm (2 ^ n) 2) h)
first_lt low n v h = mod-lt v (lit< tt)

pub bit_of_lem : (x : ℕ) → x < 2 → bit (eqb x 1) ≡ x
bit_of_lem x h = go (eqb x 1) refl
  where
    go : (c : Bool) → eqb x 1 ≡ c → bit (eqb x 1) ≡ x
    go true e = rw e (sym (eqb-true x 1 e))
    go false e = rw e (omega (arith, eqb-false x 1 e))

pub bit_lt : (o : Order) (b : List ℕ) (p : ℕ) → bit_at o b p < 2
unfolding bit_at
bit_lt o b p = mod-lt _ (lit< tt)

pub ub_lt : (o : Order) (b : List ℕ) (p n : ℕ) → ub o b p n < 2 ^ n
unfolding ub
ub_lt o b p zero = pow_pos 0
ub_lt o b p (suc n) = join_lt o n _ _ (bit_lt o b p) (ub_lt o b (suc p) n)

pub length_dig : (o : Order) (n v : ℕ) → length (dig o n v) ≡ n
unfolding dig
length_dig o zero v = refl
length_dig o (suc n) v = ap suc (length_dig o n (rest o n v))

-- the bits that are there are those of the field's value
pub has_ub : (o : Order) (b : List ℕ) (p n : ℕ) → p + n ≤ 8 * length b → Has o b p (dig o n (ub o b p n))
unfolding ub dig
has_ub o b p zero h = omega arith
has_ub o b p (suc n) h =
    rw (first_join o n _ _ (bit_lt o b p) (ub_lt o b (suc p) n), bit_of_lem (bit_at o b p) (bit_lt o b p), rest_join o n _ _ (bit_lt o b p) (ub_lt o b (suc p) n))
    (refl, has_ub o b (suc p) n (omega arith))

-- where the bits of v are, the field's value is v
pub ub_has : (o : Order) (b : List ℕ) (p n v : ℕ) → v < 2 ^ n → Has o b p (dig o n v) → ub o b p n ≡ v
unfolding ub dig
ub_has o b p zero v l h = omega (arith, rw (pow-zero) at l)
ub_has o b p (suc n) v l h = rw (h.0, bit_of_lem (first o n v) (first_lt o n v l), ub_has o b (suc p) n (rest o n v) (rest_lt o n v l) h.1) (join_rest o n v)

-- ---- two fields are one; these two unfold the order, and whoever cites them need not

-- one bit more at the end
ub_snoc : (o : Order) (b : List ℕ) (p n : ℕ) → ub o b p (suc n) ≡ glue o n 1 (ub o b p n) (bit_at o b (p + n))
unfolding ub
ub_snoc high b p zero = rw (add-zero p, pow-zero) (omega arith)
ub_snoc high b p (suc n) =
    let i : ub high b (suc p) (suc n) ≡ ub high b (suc p) n * 2 + bit_at high b (suc p + n) = ub_snoc high b (suc p) n in
    let e : bit_at high b p * 2 ^ suc n ≡ bit_at high b p * 2 ^ n * 2 = rw (pow-suc, mul_assoc) in
    let q : suc p + n ≡ p + suc n = omega arith in
    let j : ub high b (suc p) (suc n) ≡ ub high b (suc p) n * 2 + bit_at high b (p + suc n) = rw q at i in
    omega (arith, e, j)
ub_snoc low b p zero = rw (add-zero p, pow-zero) (omega arith)
ub_snoc low b p (suc n) =
    let i : ub low b (suc p) (suc n) ≡ bit_at low b (suc p + n) * 2 ^ n + ub low b (suc p) n = ub_snoc low b (suc p) n in
    let e : bit_at low b (p + suc n) * 2 ^ suc n ≡ bit_at low b (p + suc n) * 2 ^ n * 2 = rw (pow-suc, mul_assoc) in
    let q : suc p + n ≡ p + suc n = omega arith in
    let j : ub low b (suc p) (suc n) ≡ bit_at low b (p + suc n) * 2 ^ n + ub low b (suc p) n = rw q at i in
    omega (arith, e, j)

-- gluing one bit more to the second field
glue_snoc : (o : Order) (m n x y z : ℕ) → glue o (m + n) 1 (glue o m n x y) z ≡ glue o m (suc n) x (glue o n 1 y z)
glue_snoc high m n x y z = rw (pow-suc 2 n, ← mul_assoc x (2 ^ n) 2) (omega arith)
glue_snoc low m n x y z = rw (pow-add 2 m n, mul_comm (2 ^ m) (2 ^ n), ← mul_assoc z (2 ^ n) (2 ^ m), add-mul (z * 2 ^ n) y (2 ^ m)) (omega arith)

glue_zero : (o : Order) (m x : ℕ) → glue o m 0 x 0 ≡ x
glue_zero high m x = rw pow-zero (omega arith)
glue_zero low m x = omega arith

ub_none : (o : Order) (b : List ℕ) (p : ℕ) → ub o b p 0 ≡ 0
unfolding ub
ub_none o b p = refl

-- a field is its first m bits and then its last n
pub ub_split : (o : Order) (b : List ℕ) (p m n : ℕ) → ub o b p (m + n) ≡ glue o m n (ub o b p m) (ub o b (p + m) n)
ub_split o b p m zero = rw (add-zero, ub_none o b (p + m)) (sym (glue_zero o m (ub o b p m)))
ub_split o b p m (suc n) =
    rw (add-suc, ub_snoc o b p (m + n), ub_snoc o b (p + m) n, ub_split o b p m n, add_assoc p m n)
    (glue_snoc o m n (ub o b p m) (ub o b (p + m) n) (bit_at o b (p + (m + n))))

pub glue_lt : (o : Order) (m n x y : ℕ) → x < 2 ^ m → y < 2 ^ n → glue o m n x y < 2 ^ (m + n)
glue_lt high m n x y h l = rw (pow-add 2 m n) (digits_lt h l)
glue_lt low m n x y h l = rw (pow-add 2 m n, mul_comm (2 ^ m) (2 ^ n)) (digits_lt l h)

-- cut out of a longer field: k bits stand before it, and l behind it
pub ub_within : (o : Order) (b : List ℕ) (p k n l : ℕ) → ub o b p (k + n + l) / 2 ^ below o k l % 2 ^ n ≡ ub o b (p + k) n
ub_within high b p k n l =
    rw (ub_split high b p (k + n) l, digits_div (ub high b p (k + n)) (ub_lt high b (p + (k + n)) l), ub_split high b p k n)
    (digits_mod (ub high b p k) (ub_lt high b (p + k) n))
ub_within low b p k n l =
    rw (add_assoc k n l, ub_split low b p k (n + l), digits_div (ub low b (p + k) (n + l)) (ub_lt low b p k), ub_split low b (p + k) n l)
    (digits_mod (ub low b (p + k + n) l) (ub_lt low b (p + k) n))

-- the first bit of the first field is that of both
glue_join : (o : Order) (m n x v y : ℕ) → glue o (suc m) n (join o m x v) y ≡ join o (m + n) x (glue o m n v y)
glue_join high m n x v y = rw (pow-add 2 m n, ← mul_assoc x (2 ^ m) (2 ^ n), add-mul (x * 2 ^ m) v (2 ^ n)) (omega arith)
glue_join low m n x v y = rw (pow-suc 2 m, ← mul_assoc y (2 ^ m) 2) (omega arith)

pub dig_append : (o : Order) (m n x y : ℕ) → x < 2 ^ m → y < 2 ^ n → dig o (m + n) (glue o m n x y) ≡ dig o m x ++ dig o n y
unfolding dig
dig_append high zero n x y h l =
    let z : x ≡ 0 = omega (arith, rw pow-zero at h) in
    rw (zero-add, z, zero-mul, zero-add)
dig_append low zero n x y h l =
    let z : x ≡ 0 = omega (arith, rw pow-zero at h) in
    rw (zero-add, z, pow-zero, mul-one, add-zero)
dig_append o (suc m) n x y h l =
    let r : rest o m x < 2 ^ m = rest_lt o m x h in
    let g : glue o m n (rest o m x) y < 2 ^ (m + n) = glue_lt o m n (rest o m x) y r l in
    let f : first o m x < 2 = first_lt o m x h in
    let e : glue o (suc m) n x y ≡ join o (m + n) (first o m x) (glue o m n (rest o m x) y) =
    ap (λ (z : ℕ). glue o (suc m) n z y) (sym (join_rest o m x)) ∙ glue_join o m n (first o m x) (rest o m x) y in
    rw (suc-add, e, first_join o (m + n) (first o m x) (glue o m n (rest o m x) y) f g, rest_join o (m + n) (first o m x) (glue o m n (rest o m x) y) f g)
    (ap (λ (z : List Bool). eqb (first o m x) 1 ∷ z) (dig_append o m n (rest o m x) y r l))
