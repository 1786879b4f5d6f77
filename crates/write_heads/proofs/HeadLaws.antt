-- Numbers stored byte by byte, bytes moved up, and the header before a body.
use Prim.Native.Nat.{ℕ, suc, ◌+◌, ◌-◌, ◌*◌, ◌^◌, ◌≤◌, ◌<◌, min}
use mathlib.Core.Bool.{Bool, true, false}
use mathlib.Core.List.{List, [], ◌∷◌, ◌++◌}
use mathlib.Core.Path.{◌≡◌, refl, ap, ap₂, sym, ◌∙◌}
use native.Mathlib.Numerals.{add-one}
use native.Mathlib.Nat.{add-zero}
use native.Mathlib.Omega.{arith}
use lib.Dec.{ltb}
use borrow.Author.Tests.{lt-ltb, le-ltb, ltb-true, ltb-false}
use lib.ListN.{length, set, get_or, take, drop, length-take, length-drop, drop_of_length-le}
use lib.Seq.{sets, get_or-take, get_or-drop, drop-cons}
use Rattle.format.specs.Tests.{pick}
use Rattle.format.specs.WritingFiles.{spell16, spell32, spell_long, spell_head, fits_head}
use Rattle.format.proofs.Absurd.{clash}
use Rattle.table.proofs.EngineLaws.{sets_append}
use Rattle.table.proofs.TextLaws.{set_sets}
use Rattle.bits.proofs.StoreLaws.{sets_out}
use Rattle.sink.specs.Lain.{longest}
use Rattle.write_heads.specs.Heads.{kept_bytes, Closed, Headed}
use Rattle.write_heads.proofs.StoreLaws.{at_low, sets_same, drop_sets, sets_comm}

pub two_stored : (l : List ℕ) (a x y : ℕ) {u w : List ℕ} → u ≡ set l a x → w ≡ set u (a + 1) y → w ≡ sets l a (x ∷ y ∷ [])
two_stored l a x y e d = d ∙ rw (e, add-one a)

pub four_stored : (l : List ℕ) (a x y z v : ℕ) {u w s t : List ℕ} → u ≡ set l a x → w ≡ set u (a + 1) y → s ≡ set w (a + 2) z → t ≡ set s (a + 3) v → t ≡ sets l a (x ∷ y ∷ z ∷ v ∷ [])
four_stored l a x y z v e d f g =
    let p : a + 1 ≡ suc a = omega arith in
    let q : a + 2 ≡ suc (suc a) = omega arith in
    let r : a + 3 ≡ suc (suc (suc a)) = omega arith in
    g ∙ rw (f, d, e, p, q, r)

-- ---- n bytes at a, moved up by d from the last one on: those from the i-th on have been moved
abbrev pub moved_from : List ℕ → ℕ → ℕ → ℕ → ℕ → List ℕ
moved_from l a n d i = sets l (a + d + i) (drop i (take n (drop a l)))

module _ (l : List ℕ) (a n d : ℕ) where
  pub move_none : (i : ℕ) → i ≡ min n (length l - (a + d)) → l ≡ moved_from l a n d i
  move_none i e = go (ltb i n) refl
    where
      go : (c : Bool) → ltb i n ≡ c → l ≡ moved_from l a n d i
      go true q = sym (sets_out l (a + d + i) (drop i (take n (drop a l))) (omega (arith, ltb-true i n q)))
      go false q = rw (drop_of_length-le (take n (drop a l)) {i = i} (rw length-take (omega (arith, ltb-false i n q))))

  pub move_next : (i : ℕ) (u : List ℕ) → 0 < i → i ≤ min n (length l - (a + d)) → u ≡ moved_from l a n d i
      → set u (a + (i - 1) + d) (get_or u (a + (i - 1)) 0) ≡ moved_from l a n d (i - 1)
  move_next i u h g e =
      let v : get_or u (a + (i - 1)) 0 ≡ get_or (take n (drop a l)) (i - 1) 0 =
      ap (λ (s : List ℕ). get_or s (a + (i - 1)) 0) e ∙ at_low l (a + d + i) (drop i (take n (drop a l))) (a + (i - 1)) (omega arith)
      ∙ sym (get_or-take n (drop a l) (i - 1) 0 (omega arith) ∙ get_or-drop a l (i - 1) 0) in
      let p : a + (i - 1) + d ≡ a + d + (i - 1) = omega arith in
      let q : a + d + i ≡ suc (a + d + (i - 1)) = omega arith in
      let r : i ≡ suc (i - 1) = omega arith in
      let long : i - 1 < length (take n (drop a l)) = rw (length-take, length-drop) (omega arith) in
      let e' : u ≡ sets l (suc (a + d + (i - 1))) (drop (suc (i - 1)) (take n (drop a l))) = e ∙ ap₂ (λ (x y : ℕ). sets l x (drop y (take n (drop a l)))) q r in
      ap₂ (λ (x y : ℕ). set u x y) p v ∙ ap (λ (s : List ℕ). set s (a + d + (i - 1)) (get_or (take n (drop a l)) (i - 1) 0)) e'
      ∙ set_sets l (a + d + (i - 1)) (suc (a + d + (i - 1))) (get_or (take n (drop a l)) (i - 1) 0) (drop (suc (i - 1)) (take n (drop a l))) (omega arith)
      ∙ ap (sets l (a + d + (i - 1))) (sym (drop-cons (take n (drop a l)) (i - 1) 0 long))

  pub move_nowhere : d ≡ 0 → l ≡ sets l (a + d) (take n (drop a l))
  move_nowhere z = let e : a + d ≡ a = omega arith in rw e (sym (sets_same n l a))

  pub move_all : (i : ℕ) (u : List ℕ) → i ≡ 0 → u ≡ moved_from l a n d i → u ≡ sets l (a + d) (take n (drop a l))
  move_all i u z e = e ∙ rw z (ap (λ (k : ℕ). sets l k (take n (drop a l))) (add-zero (a + d)))

-- ---- the header before a body of n bytes

-- the long one, by its two numbers
pub long_stored : (l : List ℕ) (a code n : ℕ) {u w : List ℕ} → u ≡ sets l a (spell16 (code * 64 + 63)) → w ≡ sets u (a + 2) (spell32 n) → w ≡ sets l a (spell_long code n)
long_stored l a code n e d = d ∙ rw e (sym (sets_append l a (spell16 (code * 64 + 63)) (spell32 n)))

-- h was put before n bytes that stand right behind it already
before_same : (l : List ℕ) (a : ℕ) (h : List ℕ) (n k : ℕ) → length h ≡ k → sets l a h ≡ sets l a (h ++ take n (drop (a + k) l))
before_same l a h n k e = sym (
    sets_append l a h (take n (drop (a + k) l))
    ∙ ap (λ (m : ℕ). sets (sets l a h) (a + m) (take n (drop (a + k) l))) e
    ∙ ap (λ (x : List ℕ). sets (sets l a h) (a + k) (take n x)) (sym (drop_sets l a h (a + k) (omega arith)))
    ∙ sets_same n (sets l a h) (a + k)
    )

-- k bytes were kept for it, and the body ends at stop
module _ (l : List ℕ) (a code stop k : ℕ) where
  abbrev len : ℕ
  len = stop - (a + k)

  short : len < 63 → spell_head false code len ≡ spell16 (code * 64 + len)
  short h = rw (lt-ltb len 63 h)

  long : 63 ≤ len → spell_head false code len ≡ spell_long code len
  long h = rw (le-ltb len 63 h)

  pub close_claimed : (claim : Bool) {u : List ℕ} → k ≡ kept_bytes claim → a + kept_bytes claim ≤ stop → claim ≡ true → u ≡ sets l a (spell_long code len)
      → Closed l a claim code (stop - (a + kept_bytes claim)) u stop
  close_claimed false e f c d = clash cc
  close_claimed true e f c d = rw (← e) (record { put = d ∙ rw (← e) (before_same l a (spell_long code len) len k (sym e)); place = omega arith })

  pub close_short : (claim : Bool) {u : List ℕ} → k ≡ kept_bytes claim → a + kept_bytes claim ≤ stop → claim ≡ false → len < 63 → u ≡ sets l a (spell16 (code * 64 + len))
      → Closed l a claim code (stop - (a + kept_bytes claim)) u stop
  close_short true e f c h d = clash cc
  close_short false e f c h d = rw (← e) (record { put = d ∙ rw (short h, ← e) (before_same l a (spell16 (code * 64 + len)) len k (sym e)); place = rw (short h) (omega arith) })

  pub close_long : (claim : Bool) {u w : List ℕ} {next : ℕ} → k ≡ kept_bytes claim → a + kept_bytes claim ≤ stop → claim ≡ false → 63 ≤ len → stop + 4 ≡ next
      → u ≡ sets l (a + k + 4) (take len (drop (a + k) l)) → w ≡ sets u a (spell_long code len) → Closed l a claim code (stop - (a + kept_bytes claim)) w next
  close_long true e f c h q d g = clash cc
  close_long false {w = w} e f c h q d g =
      let six : a + k + 4 ≡ a + 6 = omega arith in
      let moved : w ≡ sets l a (spell_long code len ++ take len (drop (a + k) l)) =
      g ∙ rw (d, six) (sets_comm l (a + 6) (take len (drop (a + k) l)) a (spell_long code len) (omega arith)) ∙ sym (sets_append l a (spell_long code len) (take len (drop (a + k) l))) in
      rw (← e) (record { put = moved ∙ rw (long h, ← e) refl; place = rw (long h) (omega arith) })

-- ---- the header before a body that follows it
module _ (l : List ℕ) (a code n : ℕ) where
  pub headed_claimed : (claim : Bool) {u : List ℕ} → claim ≡ true → u ≡ sets l a (spell_long code n) → Headed l a claim code n u (a + 6)
  headed_claimed false c d = clash cc
  headed_claimed true c d = record { put = d; place = refl }

  pub headed_short : (claim : Bool) {u : List ℕ} → claim ≡ false → n < 63 → u ≡ sets l a (spell16 (code * 64 + n)) → Headed l a claim code n u (a + 2)
  headed_short true c h d = clash cc
  headed_short false c h d = let s : spell_head false code n ≡ spell16 (code * 64 + n) = rw (lt-ltb n 63 h) in record { put = d ∙ ap (sets l a) (sym s); place = ap (λ (x : List ℕ). a + length x) (sym s) }

  pub headed_long : (claim : Bool) {u : List ℕ} → claim ≡ false → 63 ≤ n → u ≡ sets l a (spell_long code n) → Headed l a claim code n u (a + 6)
  headed_long true c h d = clash cc
  headed_long false c h d = let s : spell_head false code n ≡ spell_long code n = rw (le-ltb n 63 h) in record { put = d ∙ ap (sets l a) (sym s); place = ap (λ (x : List ℕ). a + length x) (sym s) }

-- ---- whether a header can have a length
pub head_fits : (claim : Bool) (code n : ℕ) → code < 1024 → n ≤ longest → (claim ≡ true → n < 63) → fits_head claim code n ≡ true
head_fits true code n low small short = rw (lt-ltb code 1024 low, lt-ltb n 63 (short refl)) refl
head_fits false code n low small short =
    let f : ltb n (2 ^ 32) ≡ true = lt-ltb n (2 ^ 32) (omega arith) in
    rw (lt-ltb code 1024 low) f

pub head_long : (claim : Bool) (code n : ℕ) → claim ≡ true → 62 < n → fits_head claim code n ≡ false
head_long false code n c h = clash cc
head_long true code n c h = rw (le-ltb n 63 (omega arith)) (go (ltb code 1024))
  where
    go : (z : Bool) → pick {A = Bool} z false false ≡ false
    go true = refl
    go false = refl
