-- Opaque bodies, packed and unpacked (C-17).
use Prim.Native.Nat.{ℕ, zero, suc, ◌+◌, ◌-◌, ◌*◌, ◌/◌, ◌%◌, ◌^◌, ◌≤◌, ◌<◌}
use mathlib.Core.List.{List, [], ◌∷◌, ◌++◌, append-nil}
use mathlib.Core.Path.{◌≡◌, refl, ap, ap₂, sym, ◌∙◌}
use mathlib.Core.Bool.{Bool, true, false}
use lib.ListN.{length, get_or, take, drop, length-drop, drop_of_length-le}
use lib.Seq.{get_or-drop, drop-drop, length-take-le}
use lib.Dec.{ltb, eqb}
use borrow.Author.Tests.{ltb-true, ltb-false, eqb-true, eq-eqb}
use native.Mathlib.Omega.{arith}
use Rattle.format.specs.Tests.{pick}
use Rattle.format.specs.Bits.{AllBytes}
use Rattle.format.specs.FileAndTags.{le64, eights, packed}
use Rattle.format.specs.TableOfNumbers.{eight_of, spread, unpacked}
use Rattle.format.specs.Possible.{Possible, this, cannot}
use Rattle.format.specs.WritingFiles.{same, unpacked_as}
use Rattle.format.proofs.ByteLaws.{bytes_append, bytes_take, bytes_drop}
use Rattle.format.proofs.Absurd.{clash}

pub length_eights : (k : ℕ) (b : List ℕ) → length (eights k b) ≡ k
unfolding eights
length_eights zero b = refl
length_eights (suc k) b = ap suc (length_eights k (drop 8 b))

eights_none : (b : List ℕ) → eights zero b ≡ []
unfolding eights
eights_none b = refl

-- the i-th of them
pub eights_at : (k : ℕ) (b : List ℕ) (i : ℕ) → i < k → get_or (eights k b) i 0 ≡ le64 (drop (8 * i) b)
unfolding eights
eights_at zero b i h = absurd (omega arith)
eights_at (suc k) b zero h = refl
eights_at (suc k) b (suc i) h =
    let n : 8 + 8 * i ≡ 8 * suc i = omega arith in
    eights_at k (drop 8 b) i (omega arith) ∙ ap le64 (drop-drop (8 * i) 8 b ∙ ap (λ (m : ℕ). drop m b) n)

-- ---- eight bytes and their number
lowest : (x y : ℕ) → x < 256 → (x + 256 * y) % 256 ≡ x
lowest x y h = omega arith

alone : (x : ℕ) → x < 256 → x % 256 ≡ x
alone x h = omega arith

pub eight_back : (a b c d e f g h : ℕ) → a < 256 → b < 256 → c < 256 → d < 256 → e < 256 → f < 256 → g < 256 → h < 256
    → eight_of (a + 256 * b + 65536 * (c + 256 * d) + 4294967296 * (e + 256 * f + 65536 * (g + 256 * h))) ≡ a ∷ b ∷ c ∷ d ∷ e ∷ f ∷ g ∷ h ∷ []
eight_back a b c d e f g h ha hb hc hd he hf hg hh =
    let w : ℕ = a + 256 * b + 65536 * (c + 256 * d) + 4294967296 * (e + 256 * f + 65536 * (g + 256 * h)) in
    let m1 : w / 256 ≡ b + 256 * (c + 256 * (d + 256 * (e + 256 * (f + 256 * (g + 256 * h))))) = omega arith in
    let m2 : w / 65536 ≡ c + 256 * (d + 256 * (e + 256 * (f + 256 * (g + 256 * h)))) = omega arith in
    let m3 : w / 16777216 ≡ d + 256 * (e + 256 * (f + 256 * (g + 256 * h))) = omega arith in
    let m4 : w / 4294967296 ≡ e + 256 * (f + 256 * (g + 256 * h)) = omega arith in
    let m5 : w / 1099511627776 ≡ f + 256 * (g + 256 * h) = omega arith in
    let m6 : w / 281474976710656 ≡ g + 256 * h = omega arith in
    let m7 : w / 72057594037927936 ≡ h = omega arith in
    let l0 : w % 256 ≡ a = omega arith in
    let l1 : w / 256 % 256 ≡ b = rw m1 (lowest b _ hb) in
    let l2 : w / 65536 % 256 ≡ c = rw m2 (lowest c _ hc) in
    let l3 : w / 16777216 % 256 ≡ d = rw m3 (lowest d _ hd) in
    let l4 : w / 4294967296 % 256 ≡ e = rw m4 (lowest e _ he) in
    let l5 : w / 1099511627776 % 256 ≡ f = rw m5 (lowest f _ hf) in
    let l6 : w / 281474976710656 % 256 ≡ g = rw m6 (lowest g _ hg) in
    let l7 : w / 72057594037927936 % 256 ≡ h = rw m7 (alone h hh) in
    λ i. l0 i ∷ l1 i ∷ l2 i ∷ l3 i ∷ l4 i ∷ l5 i ∷ l6 i ∷ l7 i ∷ []

byte_at : (b : List ℕ) → AllBytes b → (i : ℕ) → get_or b i 0 < 256
byte_at [] h i = omega arith
byte_at (x ∷ b) h zero = h.0
byte_at (x ∷ b) h (suc i) = byte_at b h.1 i

-- the first eight bytes, zeros past the end
abbrev first_eight : List ℕ → List ℕ
first_eight b = get_or b 0 0 ∷ get_or b 1 0 ∷ get_or b 2 0 ∷ get_or b 3 0 ∷ get_or b 4 0 ∷ get_or b 5 0 ∷ get_or b 6 0 ∷ get_or b 7 0 ∷ []

first_eight_lem : (b : List ℕ) → AllBytes b → eight_of (le64 b) ≡ first_eight b
first_eight_lem b h =
    eight_back (get_or b 0 0) (get_or b 1 0) (get_or b 2 0) (get_or b 3 0) (get_or (drop 4 b) 0 0) (get_or (drop 4 b) 1 0) (get_or (drop 4 b) 2 0) (get_or (drop 4 b) 3 0)
    (byte_at b h 0) (byte_at b h 1) (byte_at b h 2) (byte_at b h 3) (byte_at (drop 4 b) (bytes_drop 4 b h) 0) (byte_at (drop 4 b) (bytes_drop 4 b h) 1)
    (byte_at (drop 4 b) (bytes_drop 4 b h) 2) (byte_at (drop 4 b) (bytes_drop 4 b h) 3)
    ∙ rw (get_or-drop 4 b 0 0, get_or-drop 4 b 1 0, get_or-drop 4 b 2 0, get_or-drop 4 b 3 0)

-- a body of at most 8 × k bytes
unpack_eights : (k : ℕ) (b : List ℕ) → AllBytes b → length b ≤ 8 * k → take (length b) (spread (eights k b)) ≡ b
unfolding spread eights
unpack_eights zero [] h l = refl
unpack_eights zero (x ∷ b) h l = absurd (omega arith)
unpack_eights (suc k) b h l = ap (λ (e : List ℕ). take (length b) (e ++ spread (eights k (drop 8 b)))) (first_eight_lem b h) ∙ go (unpack_eights k) b h l
  where
    go : ((b : List ℕ) → AllBytes b → length b ≤ 8 * k → take (length b) (spread (eights k b)) ≡ b)
        → (b : List ℕ) → AllBytes b → length b ≤ 8 * suc k → take (length b) (first_eight b ++ spread (eights k (drop 8 b))) ≡ b
    go u [] h l = refl
    go u (x₀ ∷ []) h l = refl
    go u (x₀ ∷ x₁ ∷ []) h l = refl
    go u (x₀ ∷ x₁ ∷ x₂ ∷ []) h l = refl
    go u (x₀ ∷ x₁ ∷ x₂ ∷ x₃ ∷ []) h l = refl
    go u (x₀ ∷ x₁ ∷ x₂ ∷ x₃ ∷ x₄ ∷ []) h l = refl
    go u (x₀ ∷ x₁ ∷ x₂ ∷ x₃ ∷ x₄ ∷ x₅ ∷ []) h l = refl
    go u (x₀ ∷ x₁ ∷ x₂ ∷ x₃ ∷ x₄ ∷ x₅ ∷ x₆ ∷ []) h l = refl
    go u (x₀ ∷ x₁ ∷ x₂ ∷ x₃ ∷ x₄ ∷ x₅ ∷ x₆ ∷ x₇ ∷ b) h l =
        ap (λ (r : List ℕ). x₀ ∷ x₁ ∷ x₂ ∷ x₃ ∷ x₄ ∷ x₅ ∷ x₆ ∷ x₇ ∷ r) (u b h.1.1.1.1.1.1.1.1 (omega arith))

-- a body that was packed is unpacked
pub unpack_packed : (b : List ℕ) → AllBytes b → unpacked (packed b) ≡ b
unpack_packed b h = unpack_eights ((length b + 7) / 8) b h (omega arith)

-- what is unpacked is bytes
spread_bytes : (ws : List ℕ) → AllBytes (spread ws)
unfolding spread
spread_bytes [] = tt
spread_bytes (w ∷ ws) = bytes_append (eight_of w) (spread ws) (omega arith, (omega arith, (omega arith, (omega arith, (omega arith, (omega arith, (omega arith, (omega arith, tt)))))))) (spread_bytes ws)

pub unpacked_bytes : (vs : List ℕ) → AllBytes (unpacked vs)
unpacked_bytes [] = tt
unpacked_bytes (n ∷ ws) = bytes_take n (spread ws) (spread_bytes ws)

-- ---- lists that are the same
pub same_self : (xs : List ℕ) → same xs xs ≡ true
same_self [] = refl
same_self (x ∷ xs) = rw (eq-eqb x x refl) (same_self xs)

pub same_true : (xs ys : List ℕ) → same xs ys ≡ true → xs ≡ ys
same_true [] [] h = refl
same_true [] (y ∷ ys) h = clash cc
same_true (x ∷ xs) [] h = clash cc
same_true (x ∷ xs) (y ∷ ys) h = go (λ q. same_true xs ys q) (eqb x y) refl h
  where
    go : (same xs ys ≡ true → xs ≡ ys) → (c : Bool) → eqb x y ≡ c → pick c (same xs ys) false ≡ true → x ∷ xs ≡ y ∷ ys
    go u true e h = ap₂ (λ (z : ℕ) (zs : List ℕ). z ∷ zs) (eqb-true x y e) (u h)
    go u false e h = clash cc

-- ---- the writer's body: what is packed is unpacked, and the other way round
pub unpacked_there : (b : List ℕ) → AllBytes b → unpacked_as (packed b) ≡ this b
unfolding unpacked_as
unpacked_there b h = rw (unpack_packed b h, same_self (packed b))

abbrev pub PackedIf : List ℕ → Possible (List ℕ) → Type 0
PackedIf vs (this b) = AllBytes b × (packed b ≡ vs)
PackedIf vs cannot = Unit {0}

pub unpacked_back : (vs : List ℕ) → PackedIf vs (unpacked_as vs)
unfolding unpacked_as
unpacked_back vs = go (same (packed (unpacked vs)) vs) refl
  where
    go : (c : Bool) → same (packed (unpacked vs)) vs ≡ c → PackedIf vs (pick c (this (unpacked vs)) cannot)
    go true e = (unpacked_bytes vs, same_true (packed (unpacked vs)) vs e)
    go false e = tt

-- ---- what the writer judges: the count of the numbers, and the filling of the last one

pub length_spread : (ws : List ℕ) → length (spread ws) ≡ 8 * length ws
unfolding spread
length_spread [] = refl
length_spread (w ∷ ws) = omega (arith, length_spread ws)

-- the digits of a number, each over what follows it
linear : (w d₀ d₁ d₂ d₃ d₄ d₅ d₆ d₇ q₁ q₂ q₃ q₄ q₅ q₆ q₇ : ℕ) → w ≡ d₀ + 256 * q₁ → q₁ ≡ d₁ + 256 * q₂ → q₂ ≡ d₂ + 256 * q₃ → q₃ ≡ d₃ + 256 * q₄ → q₄ ≡ d₄ + 256 * q₅ → q₅ ≡ d₅ + 256 * q₆ → q₆ ≡ d₆ + 256 * q₇ → q₇ ≡ d₇
    → d₀ + 256 * d₁ + 65536 * (d₂ + 256 * d₃) + 4294967296 * (d₄ + 256 * d₅ + 65536 * (d₆ + 256 * d₇)) ≡ w
linear w d₀ d₁ d₂ d₃ d₄ d₅ d₆ d₇ q₁ q₂ q₃ q₄ q₅ q₆ q₇ e₀ e₁ e₂ e₃ e₄ e₅ e₆ e₇ = omega arith

over : (q r : ℕ) → r ≡ q / 256 → q ≡ q % 256 + 256 * r
over q r e = omega arith

-- all eight
pub eight_there : (w : ℕ) (r : List ℕ) → w < 2 ^ 64 → le64 (eight_of w ++ r) ≡ w
eight_there w r h =
    linear w _ _ _ _ _ _ _ _ _ _ _ _ _ _ _
    (over (w) (w / 256) (omega arith)) (over (w / 256) (w / 65536) (omega arith)) (over (w / 65536) (w / 16777216) (omega arith)) (over (w / 16777216) (w / 4294967296) (omega arith)) (over (w / 4294967296) (w / 1099511627776) (omega arith)) (over (w / 1099511627776) (w / 281474976710656) (omega arith)) (over (w / 281474976710656) (w / 72057594037927936) (omega arith)) (omega arith)

-- the first n of them, where the others are zero
few_back : (w n : ℕ) → n ≤ 8 → w < 2 ^ (8 * n) → le64 (take n (eight_of w)) ≡ w
few_back w zero l h = omega arith
few_back w (suc zero) l h = linear w (w % 256) 0 0 0 0 0 0 0 0 0 0 0 0 0 0 (omega arith) refl refl refl refl refl refl refl
few_back w (suc (suc zero)) l h = linear w (w % 256) (w / 256 % 256) 0 0 0 0 0 0 (w / 256) 0 0 0 0 0 0 (over (w) (w / 256) (omega arith)) (omega arith) refl refl refl refl refl refl
few_back w (suc (suc (suc zero))) l h = linear w (w % 256) (w / 256 % 256) (w / 65536 % 256) 0 0 0 0 0 (w / 256) (w / 65536) 0 0 0 0 0 (over (w) (w / 256) (omega arith)) (over (w / 256) (w / 65536) (omega arith)) (omega arith) refl refl refl refl refl
few_back w (suc (suc (suc (suc zero)))) l h = linear w (w % 256) (w / 256 % 256) (w / 65536 % 256) (w / 16777216 % 256) 0 0 0 0 (w / 256) (w / 65536) (w / 16777216) 0 0 0 0 (over (w) (w / 256) (omega arith)) (over (w / 256) (w / 65536) (omega arith)) (over (w / 65536) (w / 16777216) (omega arith)) (omega arith) refl refl refl refl
few_back w (suc (suc (suc (suc (suc zero))))) l h = linear w (w % 256) (w / 256 % 256) (w / 65536 % 256) (w / 16777216 % 256) (w / 4294967296 % 256) 0 0 0 (w / 256) (w / 65536) (w / 16777216) (w / 4294967296) 0 0 0 (over (w) (w / 256) (omega arith)) (over (w / 256) (w / 65536) (omega arith)) (over (w / 65536) (w / 16777216) (omega arith)) (over (w / 16777216) (w / 4294967296) (omega arith)) (omega arith) refl refl refl
few_back w (suc (suc (suc (suc (suc (suc zero)))))) l h = linear w (w % 256) (w / 256 % 256) (w / 65536 % 256) (w / 16777216 % 256) (w / 4294967296 % 256) (w / 1099511627776 % 256) 0 0 (w / 256) (w / 65536) (w / 16777216) (w / 4294967296) (w / 1099511627776) 0 0 (over (w) (w / 256) (omega arith)) (over (w / 256) (w / 65536) (omega arith)) (over (w / 65536) (w / 16777216) (omega arith)) (over (w / 16777216) (w / 4294967296) (omega arith)) (over (w / 4294967296) (w / 1099511627776) (omega arith)) (omega arith) refl refl
few_back w (suc (suc (suc (suc (suc (suc (suc zero))))))) l h = linear w (w % 256) (w / 256 % 256) (w / 65536 % 256) (w / 16777216 % 256) (w / 4294967296 % 256) (w / 1099511627776 % 256) (w / 281474976710656 % 256) 0 (w / 256) (w / 65536) (w / 16777216) (w / 4294967296) (w / 1099511627776) (w / 281474976710656) 0 (over (w) (w / 256) (omega arith)) (over (w / 256) (w / 65536) (omega arith)) (over (w / 65536) (w / 16777216) (omega arith)) (over (w / 16777216) (w / 4294967296) (omega arith)) (over (w / 4294967296) (w / 1099511627776) (omega arith)) (over (w / 1099511627776) (w / 281474976710656) (omega arith)) (omega arith) refl
few_back w (suc (suc (suc (suc (suc (suc (suc (suc zero)))))))) l h = linear w (w % 256) (w / 256 % 256) (w / 65536 % 256) (w / 16777216 % 256) (w / 4294967296 % 256) (w / 1099511627776 % 256) (w / 281474976710656 % 256) (w / 72057594037927936 % 256) (w / 256) (w / 65536) (w / 16777216) (w / 4294967296) (w / 1099511627776) (w / 281474976710656) (w / 72057594037927936) (over (w) (w / 256) (omega arith)) (over (w / 256) (w / 65536) (omega arith)) (over (w / 65536) (w / 16777216) (omega arith)) (over (w / 16777216) (w / 4294967296) (omega arith)) (over (w / 4294967296) (w / 1099511627776) (omega arith)) (over (w / 1099511627776) (w / 281474976710656) (omega arith)) (over (w / 281474976710656) (w / 72057594037927936) (omega arith)) (omega arith)
few_back w (suc (suc (suc (suc (suc (suc (suc (suc (suc n))))))))) l h = absurd (omega arith)

-- and some bytes as a number
few_lt : (b : List ℕ) → AllBytes b → length b ≤ 8 → le64 b < 2 ^ (8 * length b)
few_lt [] h l = omega arith
few_lt (a ∷ []) h l = omega (arith, h.0)
few_lt (a ∷ b ∷ []) h l = omega (arith, h.0, h.1.0)
few_lt (a ∷ b ∷ c ∷ []) h l = omega (arith, h.0, h.1.0, h.1.1.0)
few_lt (a ∷ b ∷ c ∷ d ∷ []) h l = omega (arith, h.0, h.1.0, h.1.1.0, h.1.1.1.0)
few_lt (a ∷ b ∷ c ∷ d ∷ e ∷ []) h l = omega (arith, h.0, h.1.0, h.1.1.0, h.1.1.1.0, h.1.1.1.1.0)
few_lt (a ∷ b ∷ c ∷ d ∷ e ∷ f ∷ []) h l = omega (arith, h.0, h.1.0, h.1.1.0, h.1.1.1.0, h.1.1.1.1.0, h.1.1.1.1.1.0)
few_lt (a ∷ b ∷ c ∷ d ∷ e ∷ f ∷ g ∷ []) h l = omega (arith, h.0, h.1.0, h.1.1.0, h.1.1.1.0, h.1.1.1.1.0, h.1.1.1.1.1.0, h.1.1.1.1.1.1.0)
few_lt (a ∷ b ∷ c ∷ d ∷ e ∷ f ∷ g ∷ i ∷ []) h l =
    omega (arith, h.0, h.1.0, h.1.1.0, h.1.1.1.0, h.1.1.1.1.0, h.1.1.1.1.1.0, h.1.1.1.1.1.1.0, h.1.1.1.1.1.1.1.0)
few_lt (a ∷ b ∷ c ∷ d ∷ e ∷ f ∷ g ∷ i ∷ j ∷ r) h l = absurd (omega arith)

-- k + 1 numbers of 64 bits, the last of which fills no more than the rest of the n bytes
eights_back : (k : ℕ) (ws : List ℕ) (n : ℕ) → length ws ≡ suc k → ((i : ℕ) → get_or ws i 0 < 2 ^ 64) → 8 * k < n → n ≤ 8 * suc k → get_or ws k 0 < 2 ^ (8 * (n - 8 * k))
    → eights (suc k) (take n (spread ws)) ≡ ws
unfolding eights spread
eights_back k [] n e f l m h = absurd (omega arith)
eights_back zero (w ∷ v ∷ ws) n e f l m h = absurd (omega arith)
eights_back zero (w ∷ []) n e f l m h =
    let z : n - 8 * 0 ≡ n = omega arith in
    ap (λ (x : ℕ). x ∷ []) (ap (λ (r : List ℕ). le64 (take n r)) (append-nil (eight_of w)) ∙ few_back w n (omega arith) (rw z at h))
eights_back (suc k) (w ∷ ws) n e f l m h =
    let z : n - 8 * suc k ≡ n - 8 - 8 * k = omega arith in
    let q : n ≡ suc (suc (suc (suc (suc (suc (suc (suc (n - 8)))))))) = omega arith in
    let u : le64 (eight_of w ++ take (n - 8) (spread ws)) ≡ w = eight_there w (take (n - 8) (spread ws)) (f 0) in
    ap (λ (j : ℕ). eights (suc (suc k)) (take j (eight_of w ++ spread ws))) q
    ∙ ap₂ (λ (x : ℕ) (r : List ℕ). x ∷ r) u (eights_back k ws (n - 8) (omega arith) (λ i. f (suc i)) (omega arith) (omega arith) (rw z at h))

module _ (n : ℕ) (ws : List ℕ) where
  abbrev bytes : List ℕ
  bytes = unpacked (n ∷ ws)

  -- a count that does not fit
  unpacked_length : n ≤ 8 * length ws → length bytes ≡ n
  unpacked_length l = length-take-le n (spread ws) (rw length_spread l)

  same_lengths : packed bytes ≡ n ∷ ws → (length bytes ≡ n) × (length ws ≡ (n + 7) / 8)
  same_lengths e =
      let a : length bytes ≡ n = ap (λ (l : List ℕ). get_or l 0 0) e in
      let c : length (eights ((length bytes + 7) / 8) bytes) ≡ length ws = ap (λ (l : List ℕ). length (drop 1 l)) e in
      (a, sym c ∙ length_eights ((length bytes + 7) / 8) bytes ∙ ap (λ (m : ℕ). (m + 7) / 8) a)

  unpacked_not : (packed bytes ≡ n ∷ ws → ⊥) → unpacked_as (n ∷ ws) ≡ cannot
  unfolding unpacked_as
  unpacked_not h = go (same (packed bytes) (n ∷ ws)) refl
    where
      go : (c : Bool) → same (packed bytes) (n ∷ ws) ≡ c → pick (same (packed bytes) (n ∷ ws)) (this bytes) cannot ≡ cannot
      go true e = absurd (h (same_true (packed bytes) (n ∷ ws) e))
      go false e = rw e

  pub unpacked_count : (length ws ≡ (n + 7) / 8 → ⊥) → unpacked_as (n ∷ ws) ≡ cannot
  unpacked_count h = unpacked_not (λ e. h (same_lengths e).1)

  -- a filling that is not zero; the last number is the k-th, and m bytes of it are the body's
  pub unpacked_filling : (k m : ℕ) → length ws ≡ suc k → n ≡ 8 * k + m → 0 < m → m < 8 → (get_or ws k 0 < 2 ^ (8 * m) → ⊥) → unpacked_as (n ∷ ws) ≡ cannot
  unpacked_filling k m e q p l h = unpacked_not (λ s. h (last s))
    where
      last : packed bytes ≡ n ∷ ws → get_or ws k 0 < 2 ^ (8 * m)
      last s =
          let a : length bytes ≡ n = (same_lengths s).0 in
          let c : (length bytes + 7) / 8 ≡ suc k = ap (λ (j : ℕ). (j + 7) / 8) a ∙ omega arith in
          let d : length (drop (8 * k) bytes) ≡ m = length-drop (8 * k) bytes ∙ omega arith in
          let g : get_or ws k 0 ≡ le64 (drop (8 * k) bytes) = ap (λ (l : List ℕ). get_or l (suc k) 0) (sym s) ∙ eights_at ((length bytes + 7) / 8) bytes k (omega arith) in
          rw (g, ← d) (few_lt (drop (8 * k) bytes) (bytes_drop (8 * k) bytes (unpacked_bytes (n ∷ ws))) (omega arith))

  -- and what fits
  unpacked_same : packed bytes ≡ n ∷ ws → unpacked_as (n ∷ ws) ≡ this bytes
  unfolding unpacked_as
  unpacked_same e = rw (ap (λ (l : List ℕ). same l (n ∷ ws)) e ∙ same_self (n ∷ ws))

  pub unpacked_this : length ws ≡ (n + 7) / 8 → ((i : ℕ) → get_or ws i 0 < 2 ^ 64) → ((k m : ℕ) → n ≡ 8 * k + m → 0 < m → m < 8 → get_or ws k 0 < 2 ^ (8 * m))
      → (unpacked_as (n ∷ ws) ≡ this bytes) × (length bytes ≡ n)
  unpacked_this e f h =
      let a : length bytes ≡ n = unpacked_length (omega arith) in
      (unpacked_same (ap₂ (λ (x : ℕ) (r : List ℕ). x ∷ r) a (ap (λ (j : ℕ). eights j bytes) (ap (λ (j : ℕ). (j + 7) / 8) a ∙ sym e) ∙ go (length ws) refl)), a)
    where
      last : (k : ℕ) → length ws ≡ suc k → (m : ℕ) → n ≡ 8 * k + m → m ≤ 8 → get_or ws k 0 < 2 ^ (8 * (n - 8 * k))
      last k q m z l = go (ltb m 8) refl
        where
          size : n - 8 * k ≡ m
          size = omega arith

          go : (c : Bool) → ltb m 8 ≡ c → get_or ws k 0 < 2 ^ (8 * (n - 8 * k))
          go true u = rw size (h k m z (omega arith) (ltb-true m 8 u))
          go false u = let eight : 8 * (n - 8 * k) ≡ 64 = omega (arith, ltb-false m 8 u) in rw eight (f k)

      go : (j : ℕ) → length ws ≡ j → eights j bytes ≡ ws
      go zero q = eights_none bytes ∙ sym (drop_of_length-le ws {i = 0} (omega arith))
      go (suc k) q = eights_back k ws n q f (omega arith) (omega arith) (last k q (n - 8 * k) (omega arith) (omega arith))
