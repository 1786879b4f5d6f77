-- The laws of bit fields, over the order, every place and width; what the readings are, case by case; and what an answer tells.
-- Each number that code computes is a variable, tied by an equation: omega proves the equation, and what a callee ensures fits as it stands.
use Rattle.std.proofs.Common.{◌≡◌, ℕ, zero, suc, ◌+◌, ◌-◌, ◌*◌, ◌/◌, ◌%◌, ◌^◌, ◌<◌, ◌≤◌, Bool, true, false, eqb, ltb, leb, List, [], ◌∷◌, length, get_or, drop, sym, refl, ap, ◌∙◌, subst, ap₂, add-zero, mod-eq_of_lt, one-mul, pow-suc, div-one, arith, length-drop, get_or-drop, drop-cons, pow_mono, ltb-false, ltb-true, le-ltb, lt-ltb, ne_eqb, le-leb, leb-true}
use native.Mathlib.Nat.{mod-eq-sub-mod, zero-div}
use lib.ListN.{get_or-eq_default}
use lib.Seq.{drop-length}
use lib.Pow.{pow-lt}
use borrow.Author.Tests.{lt-leb}
use mir.Syntax.{w8}
use mir.Val.{Fits}
use Rattle.format.specs.Bits.{Order, high, low, bit_at, ub, order_named}
use Rattle.format.specs.FileAndTags.{le64}
use Rattle.format.specs.WritingItems.{below}
use Rattle.format.specs.Items.{Num, num, bad, map_num, read_ub, sign_extend, skipped, read_align}
use Rattle.format.specs.Reading.{Reading, Ending, At, shows, stop}
use Rattle.format.proofs.BitLaws.{ub_lt, ub_split, ub_within}
use Rattle.format.proofs.ByteLaws.{ub_byte}
use Rattle.format.proofs.Absurd.{clash}
use Rattle.bits.specs.Places.{aligned_as, order_by, order_of, num_of, turned_of, ordered_by, bit_of, with_sign}
use Rattle.bits.specs.declared.BitPlace.{BitPlace}
use Rattle.bits.specs.declared.BytePlace.{BytePlace}
use Rattle.bits.specs.declared.Number.{Number}
use Rattle.bits.specs.declared.Order.{Order as Code}
use Rattle.bits.specs.declared.whole.Whole.{Whole}
use Rattle.reasons.specs.declared.Reason.{Reason}
use Rattle.reasons.specs.declared.Reason.TheVariants.{OrderUnknown, SkippedBitNotZero}
use Rattle.reasons.specs.Numbers.{number_of}
use Rattle.reasons.proofs.NumberLaws.{number_one}
use Rattle.std.specs.Prelude.{Result, Ok, Err}

-- no bits
pub skips_none : (o : Order) (b : List ℕ) (p : ℕ) → ub o b p 0 ≡ 0
unfolding ub
skips_none o b p = refl

-- ---- fields in fields: a field that code gathered as x, m bits at q, and one that it cut out of x
ub_cut : (o : Order) (b : List ℕ) (q m k n l : ℕ) {p x r : ℕ} → x ≡ ub o b q m → q + k ≡ p → k + n + l ≡ m → r ≡ x / 2 ^ below o k l % 2 ^ n → ub o b p n ≡ r
ub_cut o b q m k n l e f g h = sym (h ∙ rw (e, ← g, ← f) (ub_within o b q k n l))

pub below_lt : (o : Order) (k l m : ℕ) {s : ℕ} → s ≡ below o k l → k < m → l < m → s < m
below_lt high k l m e h g = rw e g
below_lt low k l m e h g = rw e h

-- ---- bytes gathered into a field: the first, and one more that counts less. High first it stands behind them, low first before them

abbrev pub IsByte : List ℕ → ℕ → ℕ → Type 0
IsByte b i x = (x ≡ get_or b i 0) × (x < 256)

-- the numbers of a slice of bytes are bytes
pub is_byte : (b : List ℕ) (i : ℕ) {x : ℕ} → ((k : ℕ) → Fits w8 (get_or b k 0)) → x ≡ get_or b i 0 → IsByte b i x
is_byte b i h e = (e, omega (arith, e, h i))

pub ub_first : (o : Order) (b : List ℕ) (i : ℕ) {x : ℕ} → (x ≡ get_or b i 0) × (x < 256) → x ≡ ub o b (8 * i) 8
ub_first o b i h = h.0 ∙ sym (ub_byte o b i ∙ mod-eq_of_lt (rw h.0 at h.1))

byte_more : (b : List ℕ) (q m i : ℕ) {x y : ℕ} → x ≡ ub high b q m → q + m ≡ 8 * i → y ≡ ub high b (8 * i) 8 → x * 256 + y ≡ ub high b q (m + 8)
byte_more b q m i e f h = rw (ub_split high b q m 8, f, ← e, ← h)

ub_less : (b : List ℕ) (q m i : ℕ) {x y : ℕ} → x ≡ ub low b q m → q ≡ 8 * i + 8 → (y ≡ get_or b i 0) × (y < 256) → x * 256 + y ≡ ub low b (8 * i) (8 + m)
ub_less b q m i e f h = rw (ub_split low b (8 * i) 8 m, ← f, ← e, ← ub_first low b i h)

-- low first, the bytes from j on are x so far, down from the last one
pub bytes_more : (b : List ℕ) (i j n : ℕ) {x y : ℕ} → i + 1 ≡ j → j ≤ n → x ≡ ub low b (8 * j) (8 * (n - j)) → (y ≡ get_or b i 0) × (y < 256) → x * 256 + y ≡ ub low b (8 * i) (8 * (n - i))
bytes_more b i j n s l e h =
    let q : 8 + 8 * (n - j) ≡ 8 * (n - i) = omega arith in
    ub_less b (8 * j) (8 * (n - j)) i e (omega arith) h ∙ ap (ub low b (8 * i)) q

-- seven of them leave room for one more in 64 bits
pub bytes_bound : (b : List ℕ) (q n : ℕ) {x : ℕ} → n ≤ 56 → x ≡ ub low b q n → x < 2 ^ 56
bytes_bound b q n l e = omega (arith, e, ub_lt low b q n, pow_mono l)

pub bytes_none : (b : List ℕ) (n : ℕ) → 0 ≡ ub low b (8 * n) (8 * (n - n))
bytes_none b n = let z : 8 * (n - n) ≡ 0 = omega arith in sym (ap (ub low b (8 * n)) z ∙ skips_none low b (8 * n))

-- past the end of the bytes stand zeros
ub_zero : (o : Order) (b : List ℕ) (p n : ℕ) → 8 * length b ≤ p → ub o b p n ≡ 0
unfolding ub bit_at
ub_zero o b p zero h = refl
ub_zero high b p (suc n) h =
    let z : get_or b (p / 8) 0 ≡ 0 = get_or-eq_default b 0 (omega arith) in
    rw (z, ub_zero high b (suc p) n (omega arith), zero-div) (omega arith)
ub_zero low b p (suc n) h =
    let z : get_or b (p / 8) 0 ≡ 0 = get_or-eq_default b 0 (omega arith) in
    rw (z, ub_zero low b (suc p) n (omega arith), zero-div) (omega arith)

pub bytes_all : (b : List ℕ) (i n : ℕ) {x : ℕ} → i ≡ 0 → n ≡ length b → n < 8 → x ≡ ub low b (8 * i) (8 * (n - i)) → x ≡ ub low b 0 64
bytes_all b i n z l h e =
    let p : 8 * i ≡ 0 = omega arith in
    let q : 8 * (n - i) ≡ 8 * n = omega arith in
    let s : 8 * n + (64 - 8 * n) ≡ 64 = omega arith in
    let u : ub low b (0 + 8 * n) (64 - 8 * n) ≡ 0 = ub_zero low b (0 + 8 * n) (64 - 8 * n) (omega arith) in
    e ∙ ap₂ (λ (k m : ℕ). ub low b k m) p q ∙ sym (ap (ub low b 0) (sym s) ∙ ub_split low b 0 (8 * n) (64 - 8 * n) ∙ rw u (omega arith))

-- eight bytes low first, from the last one down
pub eight_low : (b : List ℕ) (i : ℕ) {b0 b1 b2 b3 b4 b5 b6 b7 : ℕ} → IsByte b i b0 → IsByte b (i + 1) b1 → IsByte b (i + 2) b2 → IsByte b (i + 3) b3 → IsByte b (i + 4) b4 → IsByte b (i + 5) b5 → IsByte b (i + 6) b6 → IsByte b (i + 7) b7
    → ((((((b7 * 256 + b6) * 256 + b5) * 256 + b4) * 256 + b3) * 256 + b2) * 256 + b1) * 256 + b0 ≡ ub low b (8 * i) 64
eight_low b i h0 h1 h2 h3 h4 h5 h6 h7 =
    let e0 = ub_first low b (i + 7) h7 in
    let e1 = ub_less b (8 * (i + 7)) 8 (i + 6) e0 (omega arith) h6 in
    let e2 = ub_less b (8 * (i + 6)) 16 (i + 5) e1 (omega arith) h5 in
    let e3 = ub_less b (8 * (i + 5)) 24 (i + 4) e2 (omega arith) h4 in
    let e4 = ub_less b (8 * (i + 4)) 32 (i + 3) e3 (omega arith) h3 in
    let e5 = ub_less b (8 * (i + 3)) 40 (i + 2) e4 (omega arith) h2 in
    let e6 = ub_less b (8 * (i + 2)) 48 (i + 1) e5 (omega arith) h1 in
    ub_less b (8 * (i + 1)) 56 i e6 (omega arith) h0

-- and as the little-endian number of the definitions
pub eight_little : (b : List ℕ) (i : ℕ) {b0 b1 b2 b3 b4 b5 b6 b7 : ℕ} → IsByte b i b0 → IsByte b (i + 1) b1 → IsByte b (i + 2) b2 → IsByte b (i + 3) b3 → IsByte b (i + 4) b4 → IsByte b (i + 5) b5 → IsByte b (i + 6) b6 → IsByte b (i + 7) b7
    → ((((((b7 * 256 + b6) * 256 + b5) * 256 + b4) * 256 + b3) * 256 + b2) * 256 + b1) * 256 + b0 ≡ le64 (drop i b)
eight_little b i h0 h1 h2 h3 h4 h5 h6 h7 =
    rw (
      get_or-drop 4 (drop i b) 0 0,
      get_or-drop 4 (drop i b) 1 0,
      get_or-drop 4 (drop i b) 2 0,
      get_or-drop 4 (drop i b) 3 0,
      get_or-drop i b 0 0,
      get_or-drop i b 1 0,
      get_or-drop i b 2 0,
      get_or-drop i b 3 0,
      get_or-drop i b 4 0,
      get_or-drop i b 5 0,
      get_or-drop i b 6 0,
      get_or-drop i b 7 0,
      add-zero i,
      ← h0.0,
      ← h1.0,
      ← h2.0,
      ← h3.0,
      ← h4.0,
      ← h5.0,
      ← h6.0,
      ← h7.0,
    )
    (omega arith)

-- fewer than eight, down from the last one: one more before the r so far
little_more : (x : ℕ) (r : List ℕ) → length r < 8 → le64 r * 256 + x ≡ le64 (x ∷ r)
little_more x r h =
    let z : get_or r 7 0 ≡ 0 = get_or-eq_default r 0 (omega arith) in
    rw (get_or-drop 4 r 0 0, get_or-drop 4 r 1 0, get_or-drop 4 r 2 0, get_or-drop 4 r 3 0, get_or-drop 3 r 0 0, get_or-drop 3 r 1 0, get_or-drop 3 r 2 0, get_or-drop 3 r 3 0, z) (omega arith)

pub few_little : (b : List ℕ) (i j : ℕ) {x y : ℕ} → i + 1 ≡ j → j ≤ length b → length b < 8 → x ≡ le64 (drop j b) → y ≡ get_or b i 0 → x * 256 + y ≡ le64 (drop i b)
few_little b i j s l h e f =
    let one : i + 1 ≡ suc i = omega arith in
    let d : drop i b ≡ get_or b i 0 ∷ drop (suc i) b = drop-cons b i 0 (omega arith) in
    ap₂ (λ (v w : ℕ). v * 256 + w) (e ∙ ap (λ (k : ℕ). le64 (drop k b)) (sym s ∙ one)) f ∙ little_more (get_or b i 0) (drop (suc i) b) (rw length-drop (omega arith)) ∙ ap le64 (sym d)

pub few_none : (b : List ℕ) → 0 ≡ le64 (drop (length b) b)
few_none b = sym (ap le64 (drop-length b))

-- each of them is cut out of their number; turned, the first counts most
byte_of : (b : List ℕ) (i k l : ℕ) {x : ℕ} → x ≡ ub low b (8 * i) 64 → 8 * k + 8 + l ≡ 64 → x / 2 ^ (8 * k) % 2 ^ 8 ≡ ub high b (8 * (i + k)) 8
byte_of b i k l e s =
    let p : 8 * i + 8 * k ≡ 8 * (i + k) = omega arith in
    rw (e, ← s, ub_within low b (8 * i) (8 * k) 8 l, p, ub_byte low b (i + k), ub_byte high b (i + k))

turned_high : (b : List ℕ) (i : ℕ) {x : ℕ} → x ≡ ub low b (8 * i) 64 → turned_of x ≡ ub high b (8 * i) 64
turned_high b i {x} e =
    let z : i + 0 ≡ i = omega arith in
    let one : x / 2 ^ (8 * 0) ≡ x = div-one x in
    let e0 : x % 256 ≡ ub high b (8 * i) 8 = rw (one, z) at (byte_of b i 0 56 e refl) in
    let e1 = byte_more b (8 * i) 8 (i + 1) e0 (omega arith) (byte_of b i 1 48 e refl) in
    let e2 = byte_more b (8 * i) 16 (i + 2) e1 (omega arith) (byte_of b i 2 40 e refl) in
    let e3 = byte_more b (8 * i) 24 (i + 3) e2 (omega arith) (byte_of b i 3 32 e refl) in
    let e4 = byte_more b (8 * i) 32 (i + 4) e3 (omega arith) (byte_of b i 4 24 e refl) in
    let e5 = byte_more b (8 * i) 40 (i + 5) e4 (omega arith) (byte_of b i 5 16 e refl) in
    let e6 = byte_more b (8 * i) 48 (i + 6) e5 (omega arith) (byte_of b i 6 8 e refl) in
    byte_more b (8 * i) 56 (i + 7) e6 (omega arith) (byte_of b i 7 0 e refl)

-- so eight bytes in their order are a field of that order
ordered_is : (o : Order) (b : List ℕ) (i : ℕ) {x : ℕ} → x ≡ ub low b (8 * i) 64 → ordered_by o x ≡ ub o b (8 * i) 64
ordered_is high b i e = turned_high b i e
ordered_is low b i e = e

-- and a field is cut out of them
pub field_cut : (o : Order) (b : List ℕ) (i k n : ℕ) {p x r : ℕ} → x ≡ ub low b (8 * i) 64 → 8 * i + k ≡ p → k + n ≤ 64 → r ≡ ordered_by o x / 2 ^ below o k (64 - k - n) % 2 ^ n → r ≡ ub o b p n
field_cut o b i k n e f g h = sym (ub_cut o b (8 * i) 64 k n (64 - k - n) (ordered_is o b i e) f (omega arith) h)

-- ---- the first five bytes, in their order, and a bit of them
pub first_high : (b : List ℕ) {b0 b1 b2 b3 b4 : ℕ} → IsByte b 0 b0 → IsByte b 1 b1 → IsByte b 2 b2 → IsByte b 3 b3 → IsByte b 4 b4
    → (((b0 * 256 + b1) * 256 + b2) * 256 + b3) * 256 + b4 ≡ ub high b 0 40
first_high b h0 h1 h2 h3 h4 =
    let e0 = ub_first high b 0 h0 in
    let e1 = byte_more b 0 8 1 e0 (omega arith) (ub_first high b 1 h1) in
    let e2 = byte_more b 0 16 2 e1 (omega arith) (ub_first high b 2 h2) in
    let e3 = byte_more b 0 24 3 e2 (omega arith) (ub_first high b 3 h3) in
    byte_more b 0 32 4 e3 (omega arith) (ub_first high b 4 h4)

pub first_low : (b : List ℕ) {b0 b1 b2 b3 b4 : ℕ} → IsByte b 0 b0 → IsByte b 1 b1 → IsByte b 2 b2 → IsByte b 3 b3 → IsByte b 4 b4
    → (((b4 * 256 + b3) * 256 + b2) * 256 + b1) * 256 + b0 ≡ ub low b 0 40
first_low b h0 h1 h2 h3 h4 =
    let e0 = ub_first low b 4 h4 in
    let e1 = ub_less b 32 8 3 e0 (omega arith) h3 in
    let e2 = ub_less b 24 16 2 e1 (omega arith) h2 in
    let e3 = ub_less b 16 24 1 e2 (omega arith) h1 in
    ub_less b 8 32 0 e3 (omega arith) h0

pub bit_cut : (o : Order) (x p : ℕ) {s r : ℕ} → s ≡ below o p (39 - p) → (r ≡ x / 2 ^ s % 2 ^ 1) × (r < 2 ^ 1) → (r ≡ bit_of o x p) × (r < 2)
bit_cut o x p e h = (h.0 ∙ ap (λ (s : ℕ). x / 2 ^ s % 2) e, h.1)

pub bit_in : (o : Order) (b : List ℕ) (p : ℕ) {x : ℕ} → x ≡ ub o b 0 40 → p < 40 → bit_of o x p ≡ ub o b p 1
bit_in o b p e h = sym (ub_cut o b 0 40 p 1 (39 - p) e (omega arith) (omega arith) refl)

-- a field that is not 0 starts in the bytes
pub set_inside : (o : Order) (b : List ℕ) (p n : ℕ) → (ub o b p n ≡ 0 → ⊥) → p < 8 * length b
set_inside o b p n h = go (ltb p (8 * length b)) refl
  where
    go : (t : Bool) → ltb p (8 * length b) ≡ t → p < 8 * length b
    go true t = ltb-true _ _ t
    go false t = absurd (h (ub_zero o b p n (ltb-false _ _ t)))

-- n bits that stand in one byte x, with l bits of it behind them
pub ub_in_byte : (o : Order) (b : List ℕ) (p n l : ℕ) {x s r : ℕ} → (x ≡ get_or b (p / 8) 0) × (x < 256) → p % 8 + n + l ≡ 8 → s ≡ below o (p % 8) l → r ≡ x / 2 ^ s % 2 ^ n → ub o b p n ≡ r
ub_in_byte o b p n l {x} h e s f = ub_cut o b (8 * (p / 8)) 8 (p % 8) n l (ub_first o b (p / 8) h) (omega arith) e (f ∙ ap (λ (m : ℕ). x / 2 ^ m % 2 ^ n) s)

-- `1 << n` in 64 bits
pub one_shl : (n : ℕ) → n < 64 → 1 * 2 ^ n % 2 ^ 64 ≡ 2 ^ n
one_shl n h = rw one-mul (mod-eq_of_lt (pow-lt h))

-- ---- UB, and what is made of one: SB and a width are `map_num f` of a UB

pub ub_in : (o : Order) (b : List ℕ) (p n : ℕ) {v : ℕ} → p + n ≤ 8 * length b → ub o b p n ≡ v → num v (p + n) ≡ read_ub o b p n
ub_in o b p n h e = rw (le-leb _ _ h, e)

pub ub_past : (o : Order) (b : List ℕ) (p n : ℕ) → 8 * length b < p + n → bad 13 ≡ read_ub o b p n
ub_past o b p n h = rw (lt-leb _ _ h)

pub map_num_lem : (f : ℕ → ℕ) {w : Num} {v r q : ℕ} → num v q ≡ w → r ≡ f v → num r q ≡ map_num f w
map_num_lem f {q = q} e g = ap (λ (x : ℕ). num x q) g ∙ ap (map_num f) e

pub map_bad : (f : ℕ → ℕ) {w : Num} {e : ℕ} → bad e ≡ w → bad e ≡ map_num f w
map_bad f h = ap (map_num f) h

-- an answer that is a number, as what was told of the answer; and one that is a reason
pub ok_of : {a : Result Number Reason} {n : Number} {w : Num} → a ≡ Ok n → num_of a ≡ w → num n.value n.next.0 ≡ w
ok_of e h = ap num_of (sym e) ∙ h

pub err_of : {a : Result Number Reason} {e : Reason} {w : Num} → a ≡ Err e → num_of a ≡ w → bad (number_of e) ≡ w
err_of e h = ap num_of (sym e) ∙ h

-- what an accepted field tells
pub record IsField (o : Order) (f : ℕ → ℕ) (b : List ℕ) (p n v q : ℕ) : Type 0 where
  pub value : v ≡ f (ub o b p n)
  pub below : ub o b p n < 2 ^ n
  pub next : q ≡ p + n
  pub inside : q ≤ 8 * length b

pub map_got : (o : Order) (f : ℕ → ℕ) (b : List ℕ) (p n : ℕ) {v q : ℕ} → num v q ≡ map_num f (read_ub o b p n) → IsField o f b p n v q
map_got o f b p n {v} {q} e = go (leb (p + n) (8 * length b)) refl
  where
    go : (t : Bool) → leb (p + n) (8 * length b) ≡ t → IsField o f b p n v q
    go true t =
        let h : num v q ≡ num (f (ub o b p n)) (p + n) = rw t at e in
        let k : q ≡ p + n = cc in
        record { value = cc; below = ub_lt o b p n; next = k; inside = rw k (leb-true _ _ t) }
    go false t =
        let h : num v q ≡ bad 13 = rw t at e in
        clash cc

pub ub_got : (o : Order) (b : List ℕ) (p n : ℕ) {v q : ℕ} → num v q ≡ read_ub o b p n → IsField o (λ x. x) b p n v q
ub_got o b p n e = map_got o (λ x. x) b p n (ap (map_num (λ x. x)) e)

-- ---- signs: of the numbers below z the last h are negative ones

-- as many, added before and taken away after by a difference that wraps, make them so
pub signed_by : (v z h : ℕ) {r : ℕ} → v < z → h ≤ z → z ≤ 2 ^ 32 → r < 2 ^ 64 → (r + h) % 2 ^ 64 ≡ (v + h) % z → r ≡ with_sign z h v
signed_by v z h {r} l m top n w = go (ltb (v + h) z) refl
  where
    go : (t : Bool) → ltb (v + h) z ≡ t → r ≡ with_sign z h v
    go true t =
        let k : v + h < z = ltb-true _ _ t in
        let y : (v + h) % z ≡ v + h = mod-eq_of_lt k in
        rw t (omega (arith, y))
    go false t =
        let k : z ≤ v + h = ltb-false _ _ t in
        let y : (v + h) % z ≡ v + h - z = mod-eq-sub-mod k ∙ mod-eq_of_lt (omega arith) in
        rw t (omega (arith, y))

even_pow : (n : ℕ) → 1 ≤ n → 2 * (2 ^ n / 2) ≡ 2 ^ n
even_pow zero h = absurd (omega arith)
even_pow (suc n) h = let e : 2 ^ suc n ≡ 2 ^ n * 2 = pow-suc 2 n in omega (arith, e)

-- the code's size z is 2 ^ n: of a signed field's numbers half are negative, and of an unsigned one's none
pub extended : (n v : ℕ) {z r : ℕ} → z ≡ 2 ^ n → 1 ≤ n → v < 2 ^ n → r ≡ with_sign z (z / 2) v → r ≡ sign_extend n v
extended n v {z} {r} e o l w = go (ltb (v * 2) (2 ^ n)) refl
  where
    even : 2 * (z / 2) ≡ z
    even = rw e (even_pow n o)

    go : (t : Bool) → ltb (v * 2) (2 ^ n) ≡ t → r ≡ sign_extend n v
    go true t =
        let k : v * 2 < 2 ^ n = ltb-true _ _ t in
        let y : ltb (v + z / 2) z ≡ true = lt-ltb (v + z / 2) z (omega (arith, e, even)) in
        w ∙ rw (y, t)
    go false t =
        let k : 2 ^ n ≤ v * 2 = ltb-false _ _ t in
        let y : ltb (v + z / 2) z ≡ false = le-ltb (v + z / 2) z (omega (arith, e, even)) in
        w ∙ rw (y, t, e)

pub unsigned : (v z : ℕ) {r : ℕ} → v < z → r ≡ with_sign z 0 v → r ≡ v
unsigned v z l w = let y : ltb (v + 0) z ≡ true = lt-ltb (v + 0) z (omega arith) in w ∙ rw y

-- ---- the next whole byte, where n bits are skipped

pub aligned_clean : (o : Order) (b : List ℕ) (p n : ℕ) {q : ℕ} → skipped p ≡ n → ub o b p n ≡ 0 → p + n ≡ q → shows [] q ≡ read_align o b p
aligned_clean o b p n s e f = rw (s, e, f)

pub aligned_unclean : (o : Order) (b : List ℕ) (p n : ℕ) → skipped p ≡ n → (ub o b p n ≡ 0 → ⊥) → stop 15 ≡ read_align o b p
aligned_unclean o b p n s e = rw (s, ne_eqb (ub o b p n) 0 e)

-- and what it tells. A place in the bytes stays in them: omega has that from the last two.
abbrev pub AlignsTo : Order → List ℕ → ℕ → Result Whole Reason → Type 0
AlignsTo o b p (Ok w) = (read_align o b p ≡ shows [] w.bit.0) × (p ≤ w.bit.0) × (w.bit.0 < p + 8)
AlignsTo o b p (Err e) = (e ≡ SkippedBitNotZero) × (read_align o b p ≡ stop 15)

pub align_told : (o : Order) (b : List ℕ) (p : ℕ) (a : Result Whole Reason) → aligned_as a ≡ read_align o b p → AlignsTo o b p a
align_told o b p (Err e) h = go (eqb (ub o b p (skipped p)) 0) refl
  where
    go : (t : Bool) → eqb (ub o b p (skipped p)) 0 ≡ t → AlignsTo o b p (Err e)
    go true t = let z : Ending.Fault (number_of e) ≡ At (p + skipped p) = ap (λ (r : Reading). r.ended) (rw t at h) in clash cc
    go false t =
        let z : Ending.Fault (number_of e) ≡ Ending.Fault 15 = ap (λ (r : Reading). r.ended) (rw t at h) in
        let n : number_of e ≡ 15 = cc in
        (number_one e SkippedBitNotZero n, rw t)
align_told o b p (Ok w) h = go (eqb (ub o b p (skipped p)) 0) refl
  where
    go : (t : Bool) → eqb (ub o b p (skipped p)) 0 ≡ t → AlignsTo o b p (Ok w)
    go true t = let k : w.bit.0 ≡ p + skipped p = let z : At w.bit.0 ≡ At (p + skipped p) = ap (λ (r : Reading). r.ended) (rw t at h) in cc in (sym h, omega arith, omega arith)
    go false t = let z : At w.bit.0 ≡ Ending.Fault 15 = ap (λ (r : Reading). r.ended) (rw t at h) in clash cc

-- the two cases, the first with what the type says of both counts
pub align_clean : (o : Order) (b : List ℕ) (p : ℕ) (w : Whole) → aligned_as (Ok w) ≡ read_align o b p → (read_align o b p ≡ shows [] w.bit.0) × (w.bit.0 ≡ 8 * w.byte.0) × (p ≤ w.bit.0) × (w.bit.0 < p + 8)
align_clean o b p w h = let f = align_told o b p (Ok w) h in (f.0, w.same, f.1, f.2)

pub align_unclean : (o : Order) (b : List ℕ) (p : ℕ) (e : Reason) → aligned_as (Err e) ≡ read_align o b p → (e ≡ SkippedBitNotZero) × (read_align o b p ≡ stop 15)
align_unclean o b p e h = align_told o b p (Err e) h

-- ---- the order that a number names: that of the definitions; any other number is above 1
abbrev pub Named : ℕ → Result Code Reason → Type 0
Named n (Ok o) = (order_of o ≡ order_named n) × (n ≤ 1)
Named n (Err e) = (e ≡ OrderUnknown) × (1 < n)

named_by : (n : ℕ) → Named n (order_by n)
named_by zero = (refl, omega arith)
named_by (suc zero) = (refl, omega arith)
named_by (suc (suc n)) = rw (ne_eqb (suc (suc n)) 0 (λ z. omega arith), ne_eqb (suc (suc n)) 1 (λ z. omega arith)) (refl, omega arith)

pub order_told : (n : ℕ) {a : Result Code Reason} → a ≡ order_by n → Named n a
order_told n e = subst (Named n) (sym e) (named_by n)

-- ---- no second answer fits
pub num_one : (a b : Result Number Reason) → num_of a ≡ num_of b → a ≡ b
num_one (Ok n) (Ok m) e =
    let f : n.value ≡ m.value = cc in
    let g : n.next.0 ≡ m.next.0 = cc in
    ap₂ (λ (x y : ℕ). Ok (record { value = x; next = record { 0 = y } })) f g
num_one (Ok n) (Err s) e = clash cc
num_one (Err s) (Ok n) e = clash cc
num_one (Err s) (Err t) e = let f : number_of s ≡ number_of t = cc in ap Err (number_one s t f)
