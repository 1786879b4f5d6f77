-- The round trip of headers.
use Prim.Native.Nat.{ℕ, suc, ◌+◌, ◌*◌, ◌/◌, ◌%◌, ◌^◌, ◌≤◌, ◌<◌}
use mathlib.Core.List.{List, [], ◌∷◌, ◌++◌}
use mathlib.Core.Path.{◌≡◌, refl, ap, sym}
use mathlib.Core.Bool.{Bool, true, false}
use lib.ListN.{length, drop}
use lib.Dec.{ltb, eqb}
use borrow.Author.Tests.{ltb-true, eqb-true, eqb-false, lt-ltb, le-ltb, ne_eqb}
use native.Mathlib.Omega.{arith}
use Rattle.format.specs.Bits.{AllBytes}
use Rattle.format.specs.Tests.{pick}
use Rattle.format.specs.FileAndTags.{Head, head, no_head, le32, raw_head, long_on_short}
use Rattle.format.specs.WritingFiles.{spell16, spell_long, spell_head}

-- a length that a header with this claim can have: below 63 where the long header is claimed
abbrev pub Lengths : Bool → ℕ → Type 0
Lengths claim len = len < pick claim 63 (2 ^ 32)

long_back : (code len : ℕ) (r : List ℕ) → code < 1024 → len < 2 ^ 32 → raw_head (spell_long code len ++ r) ≡ head code len 6
long_back code len r h l =
    let n : (code * 64 + 63) % 256 + 256 * ((code * 64 + 63) / 256) ≡ code * 64 + 63 = omega arith in
    let m : (code * 64 + 63) % 64 ≡ 63 = omega arith in
    let q : (code * 64 + 63) / 64 ≡ code = omega arith in
    let w : len % 256 + 256 * (len / 256 % 256) + 65536 * (len / 65536 % 256 + 256 * (len / 16777216)) ≡ len = omega arith in
    rw (le-ltb (suc (suc (suc (suc (suc (suc (length r))))))) 2 (omega arith), le-ltb (suc (suc (suc (suc (suc (suc (length r))))))) 6 (omega arith), n, m, q, w)

-- a header that was spelt is read
pub head_back : (claim : Bool) (code len : ℕ) (r : List ℕ) → code < 1024 → Lengths claim len
    → raw_head (spell_head claim code len ++ r) ≡ head code len (length (spell_head claim code len))
head_back true code len r h l = long_back code len r h (omega arith)
head_back false code len r h l = go (ltb len 63) refl
  where
    go : (c : Bool) → ltb len 63 ≡ c → raw_head (spell_head false code len ++ r) ≡ head code len (length (spell_head false code len))
    go true e =
        let s : len < 63 = ltb-true len 63 e in
        let n : (code * 64 + len) % 256 + 256 * ((code * 64 + len) / 256) ≡ code * 64 + len = omega arith in
        let m : (code * 64 + len) % 64 ≡ len = omega arith in
        let q : (code * 64 + len) / 64 ≡ code = omega arith in
        rw (e, le-ltb (suc (suc (length r))) 2 (omega arith), n, m, q, ne_eqb len 63 (omega arith))
    go false e = rw e (long_back code len r h l)

-- and its claim is seen in its size
pub claim_back : (claim : Bool) (code len : ℕ) → Lengths claim len → long_on_short (length (spell_head claim code len)) len ≡ claim
claim_back true code len l = lt-ltb len 63 l
claim_back false code len l = go (ltb len 63) refl
  where
    go : (c : Bool) → ltb len 63 ≡ c → long_on_short (length (spell_head false code len)) len ≡ false
    go true e = rw e refl
    go false e = rw e refl

-- a header that is read was spelt so, with the claim that its size and its length show
pub record Spelling (r : List ℕ) (claim : Bool) (code len size : ℕ) : Type 0 where
  pub coded : code < 1024
  pub lengths : Lengths claim len
  pub room : r ≡ spell_head claim code len ++ drop size r
  pub sized : size ≡ length (spell_head claim code len)

abbrev pub HeadIf : List ℕ → Head → Type 0
HeadIf r (head code len size) = Spelling r (long_on_short size len) code len size
HeadIf r (no_head e) = Unit {0}

short_there : (x y : ℕ) (r : List ℕ) → x < 256 → y < 256 → eqb ((x + 256 * y) % 64) 63 ≡ false → HeadIf (x ∷ y ∷ r) (head ((x + 256 * y) / 64) ((x + 256 * y) % 64) 2)
short_there x y r hx hy e =
    let d : (x + 256 * y) % 64 < 63 = omega (arith, eqb-false ((x + 256 * y) % 64) 63 e) in
    let n : (x + 256 * y) / 64 * 64 + (x + 256 * y) % 64 ≡ x + 256 * y = omega arith in
    let lo : (x + 256 * y) % 256 ≡ x = omega arith in
    let hi : (x + 256 * y) / 256 ≡ y = omega arith in
    record { coded = omega arith; lengths = omega arith; room = rw (lt-ltb ((x + 256 * y) % 64) 63 d, n, lo, hi); sized = rw (lt-ltb ((x + 256 * y) % 64) 63 d) }

module _ (x y a b c d : ℕ) (r : List ℕ) (hx : x < 256) (hy : y < 256) (ha : a < 256) (hb : b < 256) (hc : c < 256) (hd : d < 256) where
  abbrev len₄ : ℕ
  len₄ = a + 256 * b + 65536 * (c + 256 * d)

  long_spelt : eqb ((x + 256 * y) % 64) 63 ≡ true → spell_long ((x + 256 * y) / 64) len₄ ≡ x ∷ y ∷ a ∷ b ∷ c ∷ d ∷ []
  long_spelt e =
      let n : (x + 256 * y) / 64 * 64 + 63 ≡ x + 256 * y = omega (arith, eqb-true ((x + 256 * y) % 64) 63 e) in
      let lo : (x + 256 * y) % 256 ≡ x = omega arith in
      let hi : (x + 256 * y) / 256 ≡ y = omega arith in
      let l0 : len₄ % 256 ≡ a = omega arith in
      let m1 : len₄ / 256 ≡ b + 256 * (c + 256 * d) = omega arith in
      let m2 : len₄ / 65536 ≡ c + 256 * d = omega arith in
      let l1 : len₄ / 256 % 256 ≡ b = rw m1 (omega (arith)) in
      let l2 : len₄ / 65536 % 256 ≡ c = rw m2 (omega (arith)) in
      let l3 : len₄ / 16777216 ≡ d = omega arith in
      rw (n, lo, hi, l0, l1, l2, l3)

  long_there : eqb ((x + 256 * y) % 64) 63 ≡ true → HeadIf (x ∷ y ∷ a ∷ b ∷ c ∷ d ∷ r) (head ((x + 256 * y) / 64) len₄ 6)
  long_there e = go (ltb len₄ 63) refl
    where
      stands : x ∷ y ∷ a ∷ b ∷ c ∷ d ∷ r ≡ spell_long ((x + 256 * y) / 64) len₄ ++ r
      stands = ap (λ (l : List ℕ). l ++ r) (sym (long_spelt e))

      go : (z : Bool) → ltb len₄ 63 ≡ z → Spelling (x ∷ y ∷ a ∷ b ∷ c ∷ d ∷ r) (ltb len₄ 63) ((x + 256 * y) / 64) len₄ 6
      go true f = rw f (record { coded = omega arith; lengths = ltb-true len₄ 63 f; room = stands; sized = refl })
      go false f = rw f (record { coded = omega arith; lengths = omega arith; room = rw f stands; sized = rw f })

pub head_there : (r : List ℕ) → AllBytes r → HeadIf r (raw_head r)
head_there [] h = tt
head_there (x ∷ []) h = tt
head_there (x ∷ y ∷ r) h = rw (le-ltb (suc (suc (length r))) 2 (omega arith)) (go (eqb ((x + 256 * y) % 64) 63) refl)
  where
    long : (r : List ℕ) → AllBytes (x ∷ y ∷ r) → eqb ((x + 256 * y) % 64) 63 ≡ true
        → HeadIf (x ∷ y ∷ r) (pick (ltb (suc (suc (length r))) 6) (no_head 6) (head ((x + 256 * y) / 64) (le32 r) 6))
    long [] h e = tt
    long (a ∷ []) h e = tt
    long (a ∷ b ∷ []) h e = tt
    long (a ∷ b ∷ c ∷ []) h e = tt
    long (a ∷ b ∷ c ∷ d ∷ r) h e = rw (le-ltb (suc (suc (suc (suc (suc (suc (length r))))))) 6 (omega arith))
        (long_there x y a b c d r h.0 h.1.0 h.1.1.0 h.1.1.1.0 h.1.1.1.1.0 h.1.1.1.1.1.0 e)

    go : (z : Bool) → eqb ((x + 256 * y) % 64) 63 ≡ z → HeadIf (x ∷ y ∷ r) (pick (eqb ((x + 256 * y) % 64) 63)
        (pick (ltb (suc (suc (length r))) 6) (no_head 6) (head ((x + 256 * y) / 64) (le32 r) 6))
        (head ((x + 256 * y) / 64) ((x + 256 * y) % 64) 2))
    go true e = rw e (long r h e)
    go false e = rw e (short_there x y r h.0 h.1.0 e)

-- two bytes at least
pub spell_two : (claim : Bool) (code len : ℕ) → 2 ≤ length (spell_head claim code len)
spell_two true code len = omega arith
spell_two false code len = go (ltb len 63)
  where
    go : (c : Bool) → 2 ≤ length (pick c (spell16 (code * 64 + len)) (spell_long code len))
    go true = omega arith
    go false = omega arith

long_bytes : (code len : ℕ) → code < 1024 → len < 2 ^ 32 → AllBytes (spell_long code len)
long_bytes code len h l = (omega arith, (omega arith, (omega arith, (omega arith, (omega arith, (omega arith, tt))))))

pub spell_bytes : (claim : Bool) (code len : ℕ) → code < 1024 → Lengths claim len → AllBytes (spell_head claim code len)
spell_bytes true code len h l = long_bytes code len h (omega arith)
spell_bytes false code len h l = go (ltb len 63) refl
  where
    go : (c : Bool) → ltb len 63 ≡ c → AllBytes (spell_head false code len)
    go true e = rw e (omega arith, (omega (arith, ltb-true len 63 e), tt))
    go false e = rw e (long_bytes code len h l)
