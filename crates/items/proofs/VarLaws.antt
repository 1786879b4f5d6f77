-- Variable-length numbers, over the number of bytes and the largest last byte. Assumes nothing.
use Rattle.std.proofs.Common.{◌≡◌, ℕ, zero, suc, ◌+◌, ◌-◌, ◌*◌, ◌%◌, ◌^◌, ◌<◌, ◌≤◌, Bool, true, false, ltb, leb, List, length, get_or, sym, refl, ap, ◌∙◌, le_refl, mul_assoc, mul_comm, mul-le-mul_left, arith, ltb-true, le-ltb, lt-ltb, le-leb, leb-true}
use mathlib.Core.Bool.{false≢true}
use lib.Arith.{digits_lt}
use borrow.Author.Tests.{lt-leb}
use Rattle.format.specs.Tests.{pick, ◌and◌}
use Rattle.format.specs.Bits.{Order, ub}
use Rattle.format.specs.Items.{Num, num, bad, room, carry, read_var}
use Rattle.format.proofs.EngineLaws.{wrap, wrap_carry}
use Rattle.bits.proofs.FieldLaws.{ub_first}
use Rattle.items.specs.Kinds.{can_end, cap}

-- ---- the byte x at index i, which is the bit place p
abbrev pub IsByte : List ℕ → ℕ → ℕ → Type 0
IsByte s i x = (x ≡ get_or s i 0) × (x < 256)

module _ (s : List ℕ) (i p : ℕ) (at : p ≡ 8 * i) where
  pub room_is : i < length s → room s p 8 ≡ true
  room_is h = le-leb (p + 8) (8 * length s) (omega arith)

  pub room_not : length s ≤ i → room s p 8 ≡ false
  room_not h = lt-leb (p + 8) (8 * length s) (omega arith)

pub byte_is : (o : Order) (s : List ℕ) (i p : ℕ) → p ≡ 8 * i → {x : ℕ} → IsByte s i x → ub o s p 8 ≡ x
byte_is o s i p at y = rw at (sym (ub_first o s i y))

-- a number's place may be any that is equal
-- a number and a place that were made so
pub num_is : {v p x q : ℕ} {w : Num} → (x ≡ v) × (q ≡ p) → num v p ≡ w → num x q ≡ w
num_is e h = rw (e.0, e.1) h

pub num_at : {v p q : ℕ} {w : Num} → q ≡ p → num v p ≡ w → num v q ≡ w
num_at e h = rw e h

-- ---- what a spelling of at most k + 1 bytes stays below
cap_two : (k top : ℕ) → 1 ≤ top → 2 ≤ cap k top
cap_two zero top t = omega arith
cap_two (suc k) top t = omega (arith, cap_two k top t)

cap_next : (k top : ℕ) → (k ≡ 0 → ⊥) → cap k top ≡ 128 * cap (k - 1) top
cap_next zero top h = absurd (h refl)
cap_next (suc k) top h = let e : suc k - 1 ≡ k = omega arith in rw e

-- a number that was read is below n
abbrev pub Below : ℕ → Num → Type 0
Below n (num v q) = v < n
Below n (bad e) = Unit {0}

pub var_below : (o : Order) (s : List ℕ) (top p k : ℕ) → 1 ≤ top → Below (cap k top) (read_var o s top p k)
unfolding read_var
var_below o s top p zero t = go (room s p 8) (leb (ub o s p 8) top) refl
  where
    go : (x y : Bool) → leb (ub o s p 8) top ≡ y → Below (top + 1) (pick x (pick y (num (ub o s p 8) (p + 8)) (bad 14)) (bad 13))
    go true true e = omega (arith, leb-true (ub o s p 8) top e)
    go true false e = tt
    go false y e = tt
var_below o s top p (suc k) t = go (room s p 8) (ltb (ub o s p 8) 128) refl (read_var o s top (p + 8) k) (var_below o s top (p + 8) k t)
  where
    go : (x y : Bool) → ltb (ub o s p 8) 128 ≡ y → (r : Num) → Below (cap k top) r → Below (128 * cap k top) (pick x (pick y (num (ub o s p 8) (p + 8)) (carry (ub o s p 8) r)) (bad 13))
    go false y e r h = tt
    go true true e r h = omega (arith, ltb-true (ub o s p 8) 128 e, cap_two k top t)
    go true false e (num zero q) h = tt
    go true false e (num (suc v) q) h = omega arith
    go true false e (bad z) h = tt

-- ---- the first byte, and at most k more
more_is : (o : Order) (s : List ℕ) (top p k : ℕ) → (k ≡ 0 → ⊥)
    → read_var o s top p k ≡ pick (room s p 8) (pick (ltb (ub o s p 8) 128) (num (ub o s p 8) (p + 8)) (carry (ub o s p 8) (read_var o s top (p + 8) (k - 1)))) (bad 13)
unfolding read_var
more_is o s top p zero h = absurd (h refl)
more_is o s top p (suc k) h = let e : suc k - 1 ≡ k = omega arith in rw e

-- a byte that is not there
pub var_past : (o : Order) (s : List ℕ) (top i p k : ℕ) → p ≡ 8 * i → length s ≤ i → read_var o s top p k ≡ bad 13
unfolding read_var
var_past o s top i p zero at h = rw (room_not s i p at h)
var_past o s top i p (suc k) at h = rw (room_not s i p at h)

-- what the loop knows: the whole is w, a is the sum so far, m is the weight of the next byte, and at most k + 1 bytes from i on are left
pub record Rest (o : Order) (s : List ℕ) (top : ℕ) (w : Num) (i p k m a : ℕ) : Type 0 where
  pub at : p ≡ 8 * i
  pub sum : a < m
  pub fits : m * cap k top ≤ 2 ^ 64
  pub whole : w ≡ wrap m a (read_var o s top p k)

module _ (o : Order) (s : List ℕ) (top i p k : ℕ) (at : p ≡ 8 * i) (some : 1 ≤ k) {x : ℕ} (here : i < length s) (y : IsByte s i x) where
  pub first_last : x < 128 → num x (p + 8) ≡ read_var o s top p k
  first_last l = sym (rw (more_is o s top p k (omega arith), room_is s i p at here, byte_is o s i p at y, lt-ltb x 128 l))

  pub first_more : 128 ≤ x → 128 * cap (k - 1) top ≤ 2 ^ 64 → Rest o s top (read_var o s top p k) (i + 1) (p + 8) (k - 1) 128 (x - 128)
  first_more l f = record {
    at = omega arith;
    sum = omega arith;
    fits = f;
    whole = rw (more_is o s top p k (omega arith), room_is s i p at here, byte_is o s i p at y, le-ltb x 128 l) (go (read_var o s top (p + 8) (k - 1)));
  }
    where
      go : (r : Num) → carry x r ≡ wrap 128 (x - 128) r
      go (num zero q) = refl
      go (num (suc v) q) = let e : x % 128 ≡ x - 128 = omega arith in rw e
      go (bad e) = refl

-- ---- a byte after the first
ended : (m a x q : ℕ) (t : Bool) → wrap m a (pick t (num x q) (bad 14)) ≡ pick (ltb 0 x and t) (num (a + x * m) q) (bad 14)
ended m a zero q true = refl
ended m a zero q false = refl
ended m a (suc x) q true = rw (lt-ltb 0 (suc x) (omega arith), mul_comm m (suc x))
ended m a (suc x) q false = rw (lt-ltb 0 (suc x) (omega arith))

-- a digit x of weight m, on top of a sum below m
digit_lt : {a m x y n : ℕ} → a < m → x < y → m * y ≤ n → a + x * m < n
digit_lt {a} {m} {x} {y} h k l = omega (arith, digits_lt k h, mul_comm m y)

end_lt : (k top b : ℕ) → b < 128 → 1 ≤ top → can_end k top b ≡ true → b < cap k top
unfolding can_end
end_lt zero top b h t e = go (ltb 0 b) (leb b top) refl e
  where
    go : (x y : Bool) → leb b top ≡ y → (x and y) ≡ true → b < top + 1
    go true true f g = omega (arith, leb-true b top f)
    go true false f g = absurd (false≢true g)
    go false y f g = absurd (false≢true g)
end_lt (suc k) top b h t e = omega (arith, cap_two k top t)

module _ (o : Order) {s : List ℕ} {top : ℕ} {w : Num} {i p k m a : ℕ} (u : Rest o s top w i p k m a) where
  pub more_past : length s ≤ i → bad 13 ≡ w
  more_past h = sym (u.whole ∙ ap (wrap m a) (var_past o s top i p k u.at h))

  -- the last digit fits, and so does the next one with the weight after it
  pub last_fits : {x : ℕ} → 1 ≤ top → x < 128 → can_end k top x ≡ true → a + x * m < 2 ^ 64
  last_fits {x} t l e = digit_lt u.sum (end_lt k top x l t e) u.fits

  pub next_fits : {x : ℕ} → 1 ≤ top → x < 256 → (k ≡ 0 → ⊥) → (a + (x - 128) * m < m * 128) × (m * 128 * cap (k - 1) top ≤ 2 ^ 64) × (m * 128 < 2 ^ 64)
  next_fits {x} t l n =
      let d : x - 128 < 128 = omega arith in
      let f : m * 128 * cap (k - 1) top ≤ 2 ^ 64 = rw (mul_assoc, ← cap_next k top n) u.fits in
      let g : m * 128 * 2 ≤ m * 128 * cap (k - 1) top = mul-le-mul_left (m * 128) (cap_two (k - 1) top t) in
      (digit_lt u.sum d (le_refl (m * 128)), f, omega (arith, u.sum))

  module _ {x : ℕ} (here : i < length s) (y : IsByte s i x) where
    pub more_last : {t : Bool} → x < 128 → t ≡ can_end k top x → pick t (num (a + x * m) (p + 8)) (bad 14) ≡ w
    unfolding read_var can_end
    more_last l e = rw e (sym (u.whole ∙ go k))
      where
        go : (k : ℕ) → wrap m a (read_var o s top p k) ≡ pick (can_end k top x) (num (a + x * m) (p + 8)) (bad 14)
        go zero = rw (room_is s i p u.at here, byte_is o s i p u.at y) (ended m a x (p + 8) (leb x top))
        go (suc k) = rw (room_is s i p u.at here, byte_is o s i p u.at y, lt-ltb x 128 l, lt-ltb 0 (suc k) (omega arith)) (ended m a x (p + 8) true)

    -- no byte may follow, and one does
    pub more_full : top < 128 → 128 ≤ x → k ≡ 0 → bad 14 ≡ w
    unfolding read_var
    more_full t l e = sym (u.whole ∙ rw (e, room_is s i p u.at here, byte_is o s i p u.at y, lt-leb x top (omega arith)))

    pub more_next : 1 ≤ top → 128 ≤ x → (k ≡ 0 → ⊥) → Rest o s top w (i + 1) (p + 8) (k - 1) (m * 128) (a + (x - 128) * m)
    more_next t l n =
        let e : x % 128 ≡ x - 128 = omega arith in
        let f = next_fits t y.1 n in
        record {
          at = omega (arith, u.at);
          sum = f.0;
          fits = f.1;
          whole = u.whole ∙ rw (more_is o s top p k n, room_is s i p u.at here, byte_is o s i p u.at y, le-ltb x 128 l, wrap_carry m a x (read_var o s top (p + 8) (k - 1)), e, mul_comm m (x - 128));
        }
