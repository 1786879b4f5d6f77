-- Laws of rounding, for the proof of the code: the digits behind the first 24, and the nearest whole number of units.
use Prim.Native.Nat.{ℕ, zero, suc, ◌+◌, ◌-◌, ◌*◌, ◌/◌, ◌%◌, ◌^◌, ◌≤◌, ◌<◌}
use mathlib.Core.Bool.{Bool, true, false}
use mathlib.Core.Path.{◌≡◌, refl, ap, sym, ◌∙◌}
use native.Mathlib.Nat.{div-lt_iff_lt-mul}
use native.Mathlib.Omega.{arith}
use lib.Pow.{pow_pos, pow_mono, pow-add}
use lib.Dec.{leb, ltb}
use lib.Count.{count_leading_zeros}
use Rattle.std.proofs.lemmas.Nat.{leading_length}
use lib.IntN.{ℤ, pos, negsuc}
use mir.Syntax.{w64}
use mir.Val.{SFits, of_z}
use borrow.Author.Tests.{le-leb, lt-leb, lt-ltb, le-ltb, leb-true, leb-false}
use Rattle.format.specs.Tests.{pick}
use Rattle.singles.specs.Single.{behind, nearest, magnitude, of_step, single, of_number}

-- e digits of the product x stand behind its first 24, and these are 24 at most
pub record Digits (x e : ℕ) : Type 0 where
  pub few : e ≤ 24
  pub first : 8388608 * 2 ^ e ≤ x
  pub last : x < 16777216 * 2 ^ e

-- the code finds e by the leading zeros of the product's 64 digits
pub digits : (x : ℕ) → 8388608 ≤ x → x < 281474976710656 → (count_leading_zeros 64 x ≤ 40) × Digits x (40 - count_leading_zeros 64 x)
digits x h l =
    let t = leading_length 64 x (omega arith) in
    go (count_leading_zeros 64 x) t.0 t.1 t.2 t.3
  where
    go : (z m : ℕ) → z + m ≡ 64 → x < 2 ^ m → 2 ^ m ≤ 2 * x + 1 → (z ≤ 40) × Digits x (40 - z)
    go z m s b t = at (leb 24 m) refl (leb m 48) refl
      where
        at : (p : Bool) → leb 24 m ≡ p → (q : Bool) → leb m 48 ≡ q → (z ≤ 40) × Digits x (40 - z)
        at true p true q =
            let f : 24 ≤ m = leb-true 24 m p in
            let g : m ≤ 48 = leb-true m 48 q in
            let e : 24 + (40 - z) ≡ m = omega arith in
            let w : 2 ^ m ≡ 16777216 * 2 ^ (40 - z) = ap (λ (i : ℕ). 2 ^ i) (sym e) ∙ pow-add 2 24 (40 - z) in
            (omega arith, record { few = omega arith; first = omega (arith, w); last = omega (arith, w) })
        at true p false q = absurd (omega (arith, pow_mono {i = 49} {j = m} (leb-false m 48 q)))
        at false p q u = absurd (omega (arith, pow_mono {i = m} {j = 23} (omega (arith, leb-false 24 m p))))

pub behind_is : (k e : ℕ) {x u : ℕ} → u ≡ 2 ^ e → e ≤ k → 8388608 * u ≤ x → x < 16777216 * u → behind k x ≡ e
unfolding behind
behind_is zero e p h l g = omega arith
behind_is (suc k) e {x} {u} p h l g = go (λ d. behind_is k e p d l g) (leb e k) refl
  where
    go : (e ≤ k → behind k x ≡ e) → (b : Bool) → leb e k ≡ b → pick (leb (2 ^ (24 + k)) x) (suc k) (behind k x) ≡ e
    go less true t =
        let a : 2 ^ e ≤ 2 ^ k = pow_mono (leb-true e k t) in
        rw (lt-leb (2 ^ (24 + k)) x (omega (arith, pow-add 2 24 k))) (less (leb-true e k t))
    go less false t =
        let a : suc k ≡ e = omega (arith, leb-false e k t) in
        let b : 2 ^ (24 + k) ≤ x = omega (arith, pow-add 2 24 k, ap (λ (i : ℕ). 2 ^ i) a) in
        rw (le-leb (2 ^ (24 + k)) x b) a

-- a product of 24 digits and e more, as the code has them: its bits, and these are no sign
pub magnitude_is : (n e : ℕ) {x u q : ℕ} → 0 < n → x ≡ n * 13421773 → u ≡ 2 ^ e → e ≤ 24 → 8388608 * u ≤ x → x < 16777216 * u → q ≡ nearest x u
    → (121 + e) * 8388608 + q ≡ magnitude n
unfolding magnitude
magnitude_is zero e h p s f l g t = absurd (omega arith)
magnitude_is (suc m) e h p s f l g t = rw (sym p, behind_is 24 e s f l g, sym s) (omega arith)

-- at most one more than the quotient
pub nearest_le : (x u : ℕ) → 0 < u → nearest x u ≤ x / u + 1
nearest_le x u h = go (ltb (x % u * 2) u) (ltb u (x % u * 2))
  where
    go : (a b : Bool) → pick a (x / u) (pick b (x / u + 1) (x / u + x / u % 2)) ≤ x / u + 1
    go true b = omega arith
    go false true = omega arith
    go false false = omega arith

pub nearest_few : (x u : ℕ) {q : ℕ} → 0 < u → x < 16777216 * u → q ≡ nearest x u → q ≤ 16777216
nearest_few x u h l p = let d : x / u < 16777216 = (div-lt_iff_lt-mul h).1 l in omega (arith, nearest_le x u h)

-- a step of 0 has no digits, and any other has 24 at least
pub nothing_at : (n : ℕ) → n ≡ 0 → 0 ≡ magnitude n
unfolding magnitude
nothing_at n h = rw h

module _ (n : ℕ) {x : ℕ} (some : n ≡ 0 → ⊥) (h : n ≤ 16777216) (low : n * 8388608 ≤ x) (high : x ≤ n * 16777215) where
  some_digits : (count_leading_zeros 64 x ≤ 40) × Digits x (40 - count_leading_zeros 64 x)
  some_digits = digits x (omega arith) (omega arith)

  pub zeros_few : count_leading_zeros 64 x ≤ 40
  zeros_few = some_digits.0

  -- the code's unit
  unit_of : 1 * 2 ^ (40 - count_leading_zeros 64 x) % 18446744073709551616 ≡ 2 ^ (40 - count_leading_zeros 64 x)
  unit_of = let l : 2 ^ (40 - count_leading_zeros 64 x) ≤ 2 ^ 24 = pow_mono (some_digits.1).few in omega arith

  pub unit_fits : (0 < 1 * 2 ^ (40 - count_leading_zeros 64 x) % 18446744073709551616) × (x < 281474976710656) × (1 * 2 ^ (40 - count_leading_zeros 64 x) % 18446744073709551616 < 281474976710656)
  unit_fits =
      let l : 2 ^ (40 - count_leading_zeros 64 x) ≤ 2 ^ 24 = pow_mono (some_digits.1).few in
      (omega (arith, unit_of, pow_pos (40 - count_leading_zeros 64 x)), omega arith, omega (arith, unit_of))

  pub rounded_is : {e q : ℕ} → x ≡ n * 13421773 → e ≡ 40 - count_leading_zeros 64 x → q ≡ nearest x (1 * 2 ^ (40 - count_leading_zeros 64 x) % 18446744073709551616)
      → ((121 + e) * 8388608 + q ≡ magnitude n) × ((121 + e) * 8388608 + q < 2147483648)
  rounded_is {e} {q} p r t =
      let d = some_digits.1 in
      rw r (
        magnitude_is n (40 - count_leading_zeros 64 x) (omega arith) p unit_of d.few (omega (arith, d.first, unit_of)) (omega (arith, d.last, unit_of)) t,
        omega (arith, d.few, nearest_few x (1 * 2 ^ (40 - count_leading_zeros 64 x) % 18446744073709551616) (unit_fits.0) (omega (arith, d.last, unit_of)) t),
      )

-- a signed step and its number have the same single
pub number_single : (z : ℤ) → SFits w64 z → of_number (of_z w64 z) ≡ single z
number_single (pos n) f = rw (lt-ltb n 9223372036854775808 f.sfits)
number_single (negsuc n) f =
    let l : n < 9223372036854775808 = f.sfits in
    let d : 18446744073709551616 - (18446744073709551616 - suc n) ≡ suc n = omega arith in
    rw (le-ltb (18446744073709551616 - suc n) 9223372036854775808 (omega arith)) (ap (of_step true) d)
