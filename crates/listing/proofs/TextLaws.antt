-- Numbers as text, and text laid over lent bytes piece by piece.
use Prim.Native.Nat.{ℕ, zero, suc, ◌+◌, ◌/◌, ◌%◌, ◌^◌, ◌≤◌, ◌<◌}
use mathlib.Core.Bool.{Bool, true, false}
use mathlib.Core.List.{List, [], ◌∷◌, ◌++◌, append_assoc}
use mathlib.Core.Path.{◌≡◌, refl, ap, sym, ◌∙◌}
use native.Mathlib.Nat.{suc-add, pow-suc}
use native.Mathlib.Numerals.{add-one}
use native.Mathlib.Omega.{arith}
use lib.ListN.{length, set, take, drop, get_or, length-append}
use lib.Seq.{drop-cons, drop-drop, length-sets}
use borrow.Rule.Slice.PartMut.{put_mid}
use Rattle.std.proofs.lemmas.List.Edits.{sets, sets-eq}
use lib.Dec.{ltb}
use borrow.Author.Tests.{ltb-false, lt-ltb, le-ltb}
use Rattle.listing.specs.Decimal.{digits, decimal}
use Rattle.listing.specs.Steps.{laid, lays, field, tabbed}
use Rattle.listing.specs.declared.fields.Text.{Text}
use Rattle.listing.specs.Texts.{Adds}

-- ---- a number's digits

digits_one : (k n : ℕ) → digits k true n ≡ (48 + n) ∷ []
digits_one zero n = refl
digits_one (suc k) n = refl

-- the bound does not matter if it is large enough
digits_bound : (k j n : ℕ) → n ≤ k → n ≤ j → digits k (ltb n 10) n ≡ digits j (ltb n 10) n
digits_bound zero zero n h i = refl
digits_bound zero (suc j) n h i = rw (lt-ltb n 10 (omega arith))
digits_bound (suc k) zero n h i = rw (lt-ltb n 10 (omega arith))
digits_bound (suc k) (suc j) n h i = go (ltb n 10) refl (λ d. digits_bound k j (n / 10) (omega arith) (omega arith))
  where
    go : (b : Bool) → ltb n 10 ≡ b → (10 ≤ n → digits k (ltb (n / 10) 10) (n / 10) ≡ digits j (ltb (n / 10) 10) (n / 10)) → digits (suc k) b n ≡ digits (suc j) b n
    go true e f = refl
    go false e f = rw (f (ltb-false n 10 e))

pub decimal_one : (n : ℕ) → n < 10 → decimal n ≡ (48 + n % 10) ∷ []
unfolding decimal
decimal_one n h = let e : n % 10 ≡ n = omega arith in rw (lt-ltb n 10 h, e) (digits_one n n)

pub decimal_more : (n : ℕ) → 10 ≤ n → decimal n ≡ decimal (n / 10) ++ (48 + n % 10) ∷ []
unfolding decimal
decimal_more zero h = absurd (omega arith)
decimal_more (suc n) h = rw (le-ltb (suc n) 10 h, digits_bound n (suc n / 10) (suc n / 10) (omega arith) (omega arith))

-- a number below 10 ^ (m + 1) has at most m + 1 digits
digits_most : (m k n : ℕ) → n < 10 ^ (m + 1) → length (digits k (ltb n 10) n) ≤ m + 1
digits_most m zero n h = omega arith
digits_most zero (suc k) n h = rw (lt-ltb n 10 h) (omega arith)
digits_most (suc m) (suc k) n h = go (ltb n 10) (digits_most m k (n / 10) (omega (arith, rw (suc-add, pow-suc) at h)))
  where
    go : (b : Bool) → length (digits k (ltb (n / 10) 10) (n / 10)) ≤ m + 1 → length (digits (suc k) b n) ≤ suc m + 1
    go true l = omega arith
    go false l = rw length-append (omega arith)

pub decimal_most : (n : ℕ) → n < 2 ^ 64 → length (decimal n) ≤ 20
unfolding decimal
decimal_most n h = digits_most 19 n n (omega arith)

decimal_byte : (n : ℕ) → n < 256 → length (decimal n) ≤ 3
unfolding decimal
decimal_byte n h = digits_most 2 n n (omega arith)

-- ---- text laid over lent bytes

pub laid_eq : {b c : List ℕ} {j k : ℕ} → b ≡ c → j ≡ k → laid b j ≡ laid c k
laid_eq p q = λ i. record { lent = p i; next = q i }

-- one text and then another
pub sets_then : (x y b : List ℕ) (k j : ℕ) → j ≡ k + length x → sets b k (x ++ y) ≡ sets (sets b k x) j y
sets_then [] y b k j e = let q : j ≡ k = omega arith in rw q
sets_then (a ∷ x) y b k j e = sets_then x y (set b k a) (suc k) j (omega arith)

-- a part of the bytes is written
pub part_written : (b v w : List ℕ) (k n : ℕ) → v ≡ w → n ≡ length w → k + length w ≤ length b → put_mid k n b v ≡ sets b k w
part_written b v w k n e q h = rw (e, q, drop-drop (length w) k b) (sym (sets-eq w b k h ∙ append_assoc (take k b) w (drop (k + length w) b)))

pub adds_none : (a : Text) → Adds a a []
adds_none a = record { lent = refl; size = refl; bytes = refl; used = omega arith }

pub adds_then : {a b c : Text} (x y : List ℕ) → Adds a b x → Adds b c y → Adds a c (x ++ y)
adds_then {a} {b} {c} x y p q = record {
  lent = q.lent ∙ p.lent;
  size = q.size ∙ p.size;
  bytes = q.bytes ∙ ap (λ (l : List ℕ). sets l b.used y) p.bytes ∙ sym (sets_then x y a.out.now a.used b.used p.used);
  used = omega (arith, p.used, q.used, length-append x y);
}

pub adds_word : (a b : Text) (v w : List ℕ) (k n : ℕ) → b.out.ghost_name ≡ a.out.ghost_name → k ≡ a.used → v ≡ w → n ≡ length w → a.used + length w ≤ length a.out.now → b.out.now ≡ put_mid k n a.out.now v
    → b.used ≡ a.used + length w → Adds a b w
adds_word a b v w k n l d e q h f g =
    let z : b.out.now ≡ sets a.out.now a.used w = f ∙ ap (λ (i : ℕ). put_mid i n a.out.now v) d ∙ part_written a.out.now v w a.used n e q h in
    record { lent = l; size = ap length z ∙ length-sets a.out.now a.used w; bytes = z; used = g }

-- ---- what is still to come of a text while it is laid
pub record Left (old new : Text) (text rest : List ℕ) : Type 0 where
  pub lent : new.out.ghost_name ≡ old.out.ghost_name
  pub size : length new.out.now ≡ length old.out.now
  pub bytes : sets new.out.now new.used rest ≡ sets old.out.now old.used text
  pub used : new.used + length rest ≡ old.used + length text

pub left_next : {a b c : Text} {t : List ℕ} (x y : List ℕ) → Left a b t (x ++ y) → Adds b c x → Left a c t y
left_next {a} {b} {c} x y p q = record {
  lent = q.lent ∙ p.lent;
  size = q.size ∙ p.size;
  bytes = ap (λ (l : List ℕ). sets l c.used y) q.bytes ∙ sym (sets_then x y b.out.now b.used c.used q.used) ∙ p.bytes;
  used = omega (arith, p.used, q.used, length-append x y);
}

pub left_none : {a b : Text} {t : List ℕ} → Left a b t [] → Adds a b t
left_none {a} {b} {t} p = record { lent = p.lent; size = p.size; bytes = p.bytes; used = omega (arith, p.used) }

-- ---- a number's digits, and a field
module _ (n : ℕ) {a b : Text} where
  pub digits_only : n < 10 → Adds a b ((48 + n % 10) ∷ []) → Adds a b (decimal n)
  digits_only h p = rw (decimal_one n h) p

  pub digits_last : {c : Text} → 10 ≤ n → Adds a b (decimal (n / 10)) → Adds b c ((48 + n % 10) ∷ []) → Adds a c (decimal n)
  digits_last h p q = rw (decimal_more n h) (adds_then (decimal (n / 10)) ((48 + n % 10) ∷ []) p q)

pub decimal_length : (n : ℕ) → 10 ≤ n → length (decimal n) ≡ length (decimal (n / 10)) + 1
decimal_length n h = ap length (decimal_more n h) ∙ length-append (decimal (n / 10)) ((48 + n % 10) ∷ [])

-- a byte's field has 4 bytes at most
pub byte_field : (n end : ℕ) → n < 256 → length (field n end) ≤ 4
unfolding field
byte_field n end h = omega (arith, decimal_byte n h, length-append (decimal n) (end ∷ []))

-- numbers that a tab ends each, from index i on
pub tabbed_at : (ns : List ℕ) (i : ℕ) → i < length ns → tabbed (drop i ns) ≡ field (get_or ns i 0) 9 ++ tabbed (drop (i + 1) ns)
tabbed_at ns i h = rw (add-one i, drop-cons ns i 0 h)

pub tabbed_next : {a b c : Text} (ns : List ℕ) (i : ℕ) → i < length ns → Left a b (tabbed ns) (tabbed (drop i ns)) → Adds b c (field (get_or ns i 0) 9) → Left a c (tabbed ns) (tabbed (drop (i + 1) ns))
tabbed_next ns i h p q = left_next (field (get_or ns i 0) 9) (tabbed (drop (i + 1) ns)) (rw (tabbed_at ns i h) at p) q

pub field_added : {a b c : Text} (n end : ℕ) → n < 2 ^ 64 → Adds a b (decimal n) → Adds b c (end ∷ []) → Adds a c (field n end) × (c.used ≤ a.used + 21)
unfolding field
field_added n end h p q = let r = adds_then (decimal n) (end ∷ []) p q in (r, omega (arith, r.used, decimal_most n h, length-append (decimal n) (end ∷ [])))

-- the promise of the public functions, of text laid from the start
pub laid_so : {a b : Text} {t : List ℕ} → Adds a b t → laid b.out.now b.used ≡ lays a.out.now a.used t
unfolding lays
laid_so p = laid_eq p.bytes p.used
