-- What the bits of a step mean: 24 digits, no more than half a unit off, the even one at half a unit; and there is no second such number.
use Prim.Native.Nat.{ℕ, zero, suc, ◌+◌, ◌*◌, ◌/◌, ◌%◌, ◌^◌, ◌≤◌, ◌<◌}
use mathlib.Core.Bool.{Bool, true, false}
use mathlib.Core.Path.{◌≡◌, refl, ◌∙◌}
use native.Mathlib.Nat.{div-add-mod', add-mul, mod-lt, mul-le-mul_right}
use native.Mathlib.Omega.{arith}
use lib.Pow.{pow_pos, pow-add}
use lib.Dec.{ltb, leb}
use borrow.Author.Tests.{ltb-true, ltb-false, leb-true, leb-false}
use Rattle.format.specs.Tests.{pick}
use Rattle.singles.specs.Single.{product, behind, nearest, magnitude}

-- q units are x, to half a unit; at half a unit q is even
pub record Near (x u q : ℕ) : Type 0 where
  pub below : 2 * x ≤ 2 * (q * u) + u
  pub above : 2 * (q * u) ≤ 2 * x + u
  pub even_below : 2 * x ≡ 2 * (q * u) + u → q % 2 ≡ 0
  pub even_above : 2 * (q * u) ≡ 2 * x + u → q % 2 ≡ 0

pub near : (x u : ℕ) → 0 < u → Near x u (nearest x u)
near x u h = go (ltb (x % u * 2) u) refl (ltb u (x % u * 2)) refl
  where
    d : x / u * u + x % u ≡ x
    d = div-add-mod' x u

    l : x % u < u
    l = mod-lt x h

    one : (x / u + 1) * u ≡ x / u * u + u
    one = add-mul (x / u) 1 u ∙ omega arith

    go : (a : Bool) → ltb (x % u * 2) u ≡ a → (b : Bool) → ltb u (x % u * 2) ≡ b → Near x u (pick a (x / u) (pick b (x / u + 1) (x / u + x / u % 2)))
    go true s b t = let r : x % u * 2 < u = ltb-true _ _ s in record { below = omega (arith, d); above = omega (arith, d); even_below = λ e. absurd (omega (arith, d)); even_above = λ e. absurd (omega (arith, d)) }
    go false s true t = let r : u < x % u * 2 = ltb-true _ _ t in record { below = omega (arith, d, one, l); above = omega (arith, d, one, l); even_below = λ e. absurd (omega (arith, d, one, l)); even_above = λ e. absurd (omega (arith, d, one, l)) }
    go false s false t = tie (ltb (x / u % 2) 1) refl
      where
        r : x % u * 2 ≡ u
        r = omega (arith, ltb-false (x % u * 2) u s, ltb-false u (x % u * 2) t)

        tie : (a : Bool) → ltb (x / u % 2) 1 ≡ a → Near x u (x / u + x / u % 2)
        tie true w =
            let z : x / u % 2 ≡ 0 = omega (arith, ltb-true (x / u % 2) 1 w) in
            let e : x / u + x / u % 2 ≡ x / u = omega arith in
            rw e (record { below = omega (arith, d, r); above = omega (arith, d, r); even_below = λ i. z; even_above = λ i. z })
        tie false w =
            let z : x / u % 2 ≡ 1 = omega (arith, ltb-false (x / u % 2) 1 w) in
            let e : x / u + x / u % 2 ≡ x / u + 1 = omega arith in
            let v : (x / u + 1) % 2 ≡ 0 = omega arith in
            rw e (record { below = omega (arith, d, r, one); above = omega (arith, d, r, one); even_below = λ i. v; even_above = λ i. v })

-- no second number of units
pub near_one : (x u p q : ℕ) → 0 < u → Near x u p → Near x u q → p ≡ q
near_one x u p q h a b = go (ltb p q) refl (ltb q p) refl
  where
    -- p units and one more are no more than q
    apart : (p q : ℕ) → Near x u p → Near x u q → p < q → ⊥
    apart p q a b l =
        let m : (p + 1) * u ≤ q * u = mul-le-mul_right u (omega arith) in
        let s : (p + 1) * u ≡ p * u + u = add-mul p 1 u ∙ omega arith in
        let e : 2 * x ≡ 2 * (p * u) + u = omega (arith, a.below, b.above) in
        let f : 2 * (q * u) ≡ 2 * x + u = omega (arith, a.below, b.above) in
        next p q l (omega (arith, m, s, e, f)) (a.even_below e) (b.even_above f)
      where
        next : (p q : ℕ) → p < q → q * u ≡ p * u + u → p % 2 ≡ 0 → q % 2 ≡ 0 → ⊥
        next p q l e i j =
            let m : p + 2 ≤ q = omega arith in
            let n : (p + 2) * u ≤ q * u = mul-le-mul_right u m in
            let s : (p + 2) * u ≡ p * u + 2 * u = add-mul p 2 u in
            omega (arith, n, s)

    go : (c : Bool) → ltb p q ≡ c → (d : Bool) → ltb q p ≡ d → p ≡ q
    go true s d t = absurd (apart p q a b (ltb-true p q s))
    go false s true t = absurd (apart q p b a (ltb-true q p t))
    go false s false t = omega (arith, ltb-false p q s, ltb-false q p t)

-- THE theorem: a step of magnitude n in the range, but 0, has the exponent 122 + e and q units of 2^e, in 24 digits (or 2^24, which is the next exponent and the
-- fraction 0): no other number of these units is as near to the product
pub record Rounded (n e q : ℕ) : Type 0 where
  pub bits : magnitude n ≡ (121 + e) * 8388608 + q
  pub first : 8388608 * 2 ^ e ≤ product n
  pub last : product n < 16777216 * 2 ^ e
  pub near : Near (product n) (2 ^ e) q

behind_first : (k x : ℕ) → 8388608 ≤ x → 8388608 * 2 ^ behind k x ≤ x
unfolding behind
behind_first zero x h = omega arith
behind_first (suc k) x h = go (behind_first k x h) (leb (2 ^ (24 + k)) x) refl
  where
    go : 8388608 * 2 ^ behind k x ≤ x → (b : Bool) → leb (2 ^ (24 + k)) x ≡ b → 8388608 * 2 ^ pick b (suc k) (behind k x) ≤ x
    go less true t = let e : 8388608 * 2 ^ suc k ≤ x = omega (arith, leb-true (2 ^ (24 + k)) x t, pow-add 2 24 k) in e
    go less false t = less

behind_last : (k x : ℕ) → x < 16777216 * 2 ^ k → x < 16777216 * 2 ^ behind k x
unfolding behind
behind_last zero x h = h
behind_last (suc k) x h = go (behind_last k x) (leb (2 ^ (24 + k)) x) refl
  where
    go : (x < 16777216 * 2 ^ k → x < 16777216 * 2 ^ behind k x) → (b : Bool) → leb (2 ^ (24 + k)) x ≡ b → x < 16777216 * 2 ^ pick b (suc k) (behind k x)
    go less true t = h
    go less false t = less (omega (arith, leb-false (2 ^ (24 + k)) x t, pow-add 2 24 k))

pub rounded : (n : ℕ) → 0 < n → n ≤ 16777216 → (e : ℕ) × (q : ℕ) × Rounded n e q
unfolding magnitude
rounded zero h l = absurd (omega arith)
rounded (suc m) h l =
    let x : ℕ = product (suc m) in
    let e : ℕ = behind 24 x in (
      e,
      nearest x (2 ^ e),
      record {
        bits = refl;
        first = behind_first 24 x (omega arith);
        last = behind_last 24 x (omega arith);
        near = near x (2 ^ e) (pow_pos e);
      },
    )
