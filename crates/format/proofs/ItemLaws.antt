-- The round trip of each item.
use Prim.Native.Nat.{ℕ, zero, suc, pred, ◌+◌, ◌-◌, ◌*◌, ◌/◌, ◌%◌, ◌^◌, ◌≤◌, ◌<◌}
use mathlib.Core.List.{List, [], ◌∷◌, ◌++◌}
use mathlib.Core.Path.{◌≡◌, refl, ap, sym, subst}
use mathlib.Core.Bool.{Bool, true, false}
use lib.ListN.{length, length-append, take, drop, take-append-drop}
use lib.Seq.{take-append_seam, drop-append_seam, length-take-le}
use lib.Dec.{ltb, leb, eqb, lit<}
use lib.Pow.{pow_pos}
use borrow.Author.Tests.{ltb-true, ltb-false, leb-true, eqb-true, eqb-false, lt-ltb, le-ltb, le-leb, eq-eqb, ne_eqb}
use native.Mathlib.Nat.{add-zero, pow-suc, mul_assoc, mul-pos, zero-lt-suc, one-le-pow}
use native.Mathlib.Omega.{arith}
use Rattle.format.specs.Tests.{pick}
use Rattle.format.specs.Bits.{Order, ub}
use Rattle.format.specs.Reading.{shows, stop}
use Rattle.format.specs.Formats.{Item, Format}
use Rattle.format.specs.Items.{sign_extend, skipped, room, Num, num, bad, show_num, map_num, read_ub, carry, read_var, read_item, sign, not_one, read_le, above, read_flag, exist, Text, text, cut, show_text, add_text, read_text, run}
use Rattle.format.specs.Possible.{Possible, this, cannot}
use Rattle.format.specs.WritingItems.{dig, unextend, wrote, before, spell_var, undo, put, single, spell_ub, write_item, unsign, spell_i32, spell_le, spell_flag, text_byte, spell_txt, take_text}
use Rattle.format.specs.WritingFormats.{unrun}
use Rattle.format.proofs.BitLaws.{Has, ub_lt, length_dig, has_ub, ub_has}
use Rattle.format.proofs.Trip.{Trip, ThereIf, BackIf, has_le, has_append, has_split, trip_fmt}

-- a number that was read, and the bits that it is spelt with
pub record NumThere (o : Order) (b : List ℕ) (p v q : ℕ) (S : ℕ → Possible (List Bool)) : Type 0 where
  pub bits : List Bool
  pub has : Has o b p bits
  pub ends : q ≡ p + length bits
  pub again : S v ≡ this bits

abbrev pub NumThereIf : (o : Order) (b : List ℕ) (p : ℕ) (S : ℕ → Possible (List Bool)) → Num → Type 0
NumThereIf o b p S (num v q) = NumThere o b p v q S
NumThereIf o b p S (bad e) = Unit {0}

abbrev pub NumBackIf : (o : Order) (v p : ℕ) (N : List ℕ → ℕ → Num) → Possible (List Bool) → Type 0
NumBackIf o v p N (this bs) = (b : List ℕ) → Has o b p bs → N b p ≡ num v (p + length bs)
NumBackIf o v p N cannot = Unit {0}

pub record NumTrip (o : Order) (N : List ℕ → ℕ → Num) (S : ℕ → Possible (List Bool)) : Type 0 where
  pub there : (b : List ℕ) (p : ℕ) → p ≤ 8 * length b → NumThereIf o b p S (N b p)
  pub back : (v p : ℕ) → NumBackIf o v p N (S v)

module _ (o : Order) (N : List ℕ → ℕ → Num) (S : ℕ → Possible (List Bool)) (t : NumTrip o N S) where
  num_there : (b : List ℕ) (p : ℕ) → p ≤ 8 * length b → ThereIf o b p (show_num (N b p)).shown (λ ns p. single S ns) (show_num (N b p)).ended
  num_there b p l = go (N b p) refl
    where
      go : (n : Num) → N b p ≡ n → ThereIf o b p (show_num (N b p)).shown (λ ns p. single S ns) (show_num (N b p)).ended
      go (bad e) eq = rw eq tt
      go (num v q) eq =
          let u : NumThere o b p v q S = rw eq at (t.there b p l) in
          rw eq (record { bits = u.bits; has = u.has; ends = u.ends; again = λ ys. rw u.again })

  num_back : (ns : List ℕ) (p : ℕ) → BackIf o ns p (λ b p. show_num (N b p)) (single S ns)
  num_back [] p = tt
  num_back (v ∷ ns) p = go (S v) refl
    where
      go : (s : Possible (List Bool)) → S v ≡ s → BackIf o (v ∷ ns) p (λ b p. show_num (N b p)) (put (v ∷ []) (S v) ns)
      go cannot eq = rw eq tt
      go (this bs) eq =
          let u : (b : List ℕ) → Has o b p bs → N b p ≡ num v (p + length bs) = rw eq at (t.back v p) in
          rw eq (record { parts = refl; reads = λ b h. rw (u b h) })

  pub trip_num : Trip o (λ b p. show_num (N b p)) (λ ns p. single S ns)
  trip_num = record { there = num_there; back = num_back }

-- what a number is shown as: g undoes f at the numbers that are read
module _ (o : Order) (N : List ℕ → ℕ → Num) (S : ℕ → Possible (List Bool)) (f g : ℕ → ℕ) (inv : (b : List ℕ) (p v q : ℕ) → N b p ≡ num v q → g (f v) ≡ v) (t : NumTrip o N S) where
  map_there : (b : List ℕ) (p : ℕ) → p ≤ 8 * length b → NumThereIf o b p (undo f g S) (map_num f (N b p))
  map_there b p l = go (N b p) refl
    where
      go : (n : Num) → N b p ≡ n → NumThereIf o b p (undo f g S) (map_num f (N b p))
      go (bad e) eq = rw eq tt
      go (num v q) eq =
          let u : NumThere o b p v q S = rw eq at (t.there b p l) in
          rw eq (record { bits = u.bits; has = u.has; ends = u.ends; again = rw (inv b p v q eq, eq-eqb (f v) (f v) refl, u.again) })

  map_back : (v p : ℕ) → NumBackIf o v p (λ b p. map_num f (N b p)) (undo f g S v)
  map_back v p = go (eqb (f (g v)) v) refl (S (g v)) refl
    where
      go : (c : Bool) → eqb (f (g v)) v ≡ c → (s : Possible (List Bool)) → S (g v) ≡ s → NumBackIf o v p (λ b p. map_num f (N b p)) (undo f g S v)
      go false e s eq = rw e tt
      go true e cannot eq = rw (e, eq) tt
      go true e (this bs) eq =
          let u : (b : List ℕ) → Has o b p bs → N b p ≡ num (g v) (p + length bs) = rw eq at (t.back (g v) p) in
          rw (e, eq) (λ b h. rw (u b h, eqb-true (f (g v)) v e))

  pub num_map : NumTrip o (λ b p. map_num f (N b p)) (undo f g S)
  num_map = record { there = map_there; back = map_back }

-- a field
module _ (o : Order) (n : ℕ) where
  ub_there : (b : List ℕ) (p : ℕ) → p ≤ 8 * length b → NumThereIf o b p (spell_ub o n) (read_ub o b p n)
  ub_there b p l = go (room b p n) refl
    where
      go : (c : Bool) → room b p n ≡ c → NumThereIf o b p (spell_ub o n) (read_ub o b p n)
      go false e = rw e tt
      go true e = rw e (record {
        bits = dig o n (ub o b p n);
        has = has_ub o b p n (leb-true _ _ e);
        ends = rw length_dig;
        again = rw (lt-ltb _ _ (ub_lt o b p n));
      })

  ub_back : (v p : ℕ) → NumBackIf o v p (λ b p. read_ub o b p n) (spell_ub o n v)
  ub_back v p = go (ltb v (2 ^ n)) refl
    where
      go : (c : Bool) → ltb v (2 ^ n) ≡ c → NumBackIf o v p (λ b p. read_ub o b p n) (spell_ub o n v)
      go false e = rw e tt
      go true e = rw e (λ b h.
          rw (ub_has o b p n v (ltb-true _ _ e) h, length_dig, le-leb (p + n) (8 * length b) (rw length_dig at (has_le o b p (dig o n v) h))))

  pub num_ub : NumTrip o (λ b p. read_ub o b p n) (spell_ub o n)
  num_ub = record { there = ub_there; back = ub_back }

-- SB: for every width
unextend_extend : (n u : ℕ) → unextend n (sign_extend n u) ≡ u
unextend_extend n u = go (ltb (u * 2) (2 ^ n)) refl
  where
    go : (c : Bool) → ltb (u * 2) (2 ^ n) ≡ c → unextend n (sign_extend n u) ≡ u
    go true e = rw (e, e)
    go false e = rw (e, le-ltb ((u + (2 ^ 64 - 2 ^ n)) * 2) (2 ^ n) (omega (arith, ltb-false (u * 2) (2 ^ n) e))) (omega arith)

pub num_sb : (o : Order) (n : ℕ) → NumTrip o (λ b p. map_num (sign_extend n) (read_ub o b p n)) (undo (sign_extend n) (unextend n) (spell_ub o n))
num_sb o n = num_map o _ _ (sign_extend n) (unextend n) (λ b p v q e. unextend_extend n v) (num_ub o n)

pub num_suc : (o : Order) (n : ℕ) → NumTrip o (λ b p. map_num suc (read_ub o b p n)) (undo suc pred (spell_ub o n))
num_suc o n = num_map o _ _ suc pred (λ b p v q e. refl) (num_ub o n)

-- a field, and what is read after it
has_field : (o : Order) (b : List ℕ) (p n v : ℕ) (bs : List Bool) → v < 2 ^ n → Has o b p (dig o n v ++ bs)
    → (room b p n ≡ true) × (ub o b p n ≡ v) × Has o b (p + n) bs
has_field o b p n v bs l h =
    let s : Has o b p (dig o n v) × Has o b (p + length (dig o n v)) bs = has_split o b p (dig o n v) bs h in
    (le-leb _ _ (rw length_dig at (has_le o b p (dig o n v) s.0)), ub_has o b p n v l s.0, rw length_dig at s.1)

carry_pos : (x v p : ℕ) → 0 < v → carry x (num v p) ≡ num (x % 128 + 128 * v) p
carry_pos x zero p h = absurd (omega arith)
carry_pos x (suc v) p h = refl

module _ (o : Order) (c : ℕ) (small : c < 256) where
  -- the byte x, with more after it, and its number
  var_more : (b : List ℕ) (p k x : ℕ) → ub o b p 8 ≡ x → room b p 8 ≡ true → ltb x 128 ≡ false
      → (r : Num) → NumThereIf o b (p + 8) (λ v. spell_var o c v k) r → NumThereIf o b p (λ v. spell_var o c v (suc k)) (carry x r)
  unfolding spell_var
  var_more b p k x y e f (bad z) u = tt
  var_more b p k x y e f (num zero q) u = tt
  var_more b p k x y e f (num (suc v) q) u =
      let big : 128 ≤ x = ltb-false x 128 f in
      let fits : x < 256 = subst (λ (z : ℕ). z < 256) y (ub_lt o b p 8) in
      record {
        bits = dig o 8 x ++ u.bits;
        has = has_append o b p (dig o 8 x) u.bits (rw y at (has_ub o b p 8 (leb-true _ _ e))) (rw length_dig u.has);
        ends = rw (length-append, length_dig) (omega (arith, u.ends));
        again =
            let low : 128 + (x % 128 + 128 * suc v) % 128 ≡ x = omega arith in
            let up : (x % 128 + 128 * suc v) / 128 ≡ suc v = omega arith in
            rw (le-ltb (x % 128 + 128 * suc v) 128 (omega arith), low, up, u.again);
      }

  var_there : (b : List ℕ) (p k : ℕ) → NumThereIf o b p (λ v. spell_var o c v k) (read_var o b c p k)
  unfolding read_var spell_var
  var_there b p zero = go (room b p 8) refl (leb (ub o b p 8) c) refl
    where
      go : (r : Bool) → room b p 8 ≡ r → (d : Bool) → leb (ub o b p 8) c ≡ d → NumThereIf o b p (λ v. spell_var o c v 0) (read_var o b c p 0)
      go false e d e' = rw e tt
      go true e false e' = rw (e, e') tt
      go true e true e' = rw (e, e') (record {
        bits = dig o 8 (ub o b p 8);
        has = has_ub o b p 8 (leb-true _ _ e);
        ends = rw length_dig;
        again = rw e';
      })
  var_there b p (suc k) = go (room b p 8) refl (ltb (ub o b p 8) 128) refl (var_there b (p + 8) k)
    where
      go : (r : Bool) → room b p 8 ≡ r → (d : Bool) → ltb (ub o b p 8) 128 ≡ d → NumThereIf o b (p + 8) (λ v. spell_var o c v k) (read_var o b c (p + 8) k)
          → NumThereIf o b p (λ v. spell_var o c v (suc k)) (read_var o b c p (suc k))
      go false e d e' u = rw e tt
      go true e true e' u = rw (e, e') (record {
        bits = dig o 8 (ub o b p 8);
        has = has_ub o b p 8 (leb-true _ _ e);
        ends = rw length_dig;
        again = rw e';
      })
      go true e false e' u = rw (e, e') (var_more b p k (ub o b p 8) refl e e' (read_var o b c (p + 8) k) u)

  -- one byte alone
  var_byte : (b : List ℕ) (p v : ℕ) → v < 256 → Has o b p (dig o 8 v) → (room b p 8 ≡ true) × (ub o b p 8 ≡ v)
  var_byte b p v l h = (le-leb _ _ (rw length_dig at (has_le o b p (dig o 8 v) h)), ub_has o b p 8 v l h)

  var_back : (v p k : ℕ) → NumBackIf o v p (λ b p. read_var o b c p k) (spell_var o c v k)
  unfolding read_var spell_var
  var_back v p zero = go (leb v c) refl
    where
      go : (d : Bool) → leb v c ≡ d → NumBackIf o v p (λ b p. read_var o b c p 0) (spell_var o c v 0)
      go false e = rw e tt
      go true e = rw e (λ b h.
          let y : (room b p 8 ≡ true) × (ub o b p 8 ≡ v) = var_byte b p v (omega (arith, leb-true v c e)) h in
          rw (y.0, y.1, e, length_dig))
  var_back v p (suc k) = go (ltb v 128) refl (spell_var o c (v / 128) k) (var_back (v / 128) (p + 8) k)
    where
      go : (d : Bool) → ltb v 128 ≡ d → (s : Possible (List Bool)) → NumBackIf o (v / 128) (p + 8) (λ b p. read_var o b c p k) s
          → NumBackIf o v p (λ b p. read_var o b c p (suc k)) (pick (ltb v 128) (this (dig o 8 v)) (before (dig o 8 (128 + v % 128)) s))
      go true e s u = rw e (λ b h.
          let y : (room b p 8 ≡ true) × (ub o b p 8 ≡ v) = var_byte b p v (omega (arith, ltb-true v 128 e)) h in
          rw (y.0, y.1, e, length_dig))
      go false e cannot u = rw e tt
      go false e (this bs) u = rw e (λ b h.
          let l : 128 + v % 128 < 256 = omega arith in
          let y : (room b p 8 ≡ true) × (ub o b p 8 ≡ 128 + v % 128) × Has o b (p + 8) bs = has_field o b p 8 (128 + v % 128) bs l h in
          let n : (128 + v % 128) % 128 + 128 * (v / 128) ≡ v = omega arith in
          let z : p + 8 + length bs ≡ p + (8 + length bs) = omega arith in
          rw (y.0, y.1, le-ltb (128 + v % 128) 128 (omega arith), u b y.2, carry_pos (128 + v % 128) (v / 128) (p + 8 + length bs) (omega (arith, ltb-false v 128 e)), n, length-append, length_dig, z))

  pub num_var : (k : ℕ) → NumTrip o (λ b p. read_var o b c p k) (λ v. spell_var o c v k)
  num_var k = record { there = λ b p l. var_there b p k; back = λ v p. var_back v p k }

  -- and how large such a number is
  abbrev VarLt : ℕ → Num → Type 0
  VarLt k (num v q) = v < suc c * 128 ^ k
  VarLt k (bad e) = Unit {0}

  var_lt : (b : List ℕ) (p k : ℕ) → VarLt k (read_var o b c p k)
  unfolding read_var
  var_lt b p zero = go (room b p 8) refl (leb (ub o b p 8) c) refl
    where
      go : (r : Bool) → room b p 8 ≡ r → (d : Bool) → leb (ub o b p 8) c ≡ d → VarLt 0 (read_var o b c p 0)
      go false e d e' = rw e tt
      go true e false e' = rw (e, e') tt
      go true e true e' = rw (e, e') (omega (arith, leb-true (ub o b p 8) c e'))
  var_lt b p (suc k) = go (room b p 8) refl (ltb (ub o b p 8) 128) refl (read_var o b c (p + 8) k) (var_lt b (p + 8) k)
    where
      size : suc c * 128 ^ suc k ≡ suc c * 128 ^ k * 128
      size = rw (pow-suc, mul_assoc)

      pos : 0 < suc c * 128 ^ k
      pos = mul-pos (zero-lt-suc c) (one-le-pow k 128 (lit< tt))

      go : (r : Bool) → room b p 8 ≡ r → (d : Bool) → ltb (ub o b p 8) 128 ≡ d → (n : Num) → VarLt k n
          → VarLt (suc k) (pick (room b p 8) (pick (ltb (ub o b p 8) 128) (num (ub o b p 8) (p + 8)) (carry (ub o b p 8) n)) (bad 13))
      go false e d e' n u = rw e tt
      go true e true e' n u = rw (e, e', size) (omega (arith, ltb-true (ub o b p 8) 128 e', pos))
      go true e false e' (bad z) u = rw (e, e') tt
      go true e false e' (num zero q) u = rw (e, e') tt
      go true e false e' (num (suc v) q) u = rw (e, e', size) (omega (arith, u))

-- ---- I32
module _ (o : Order) (N : List ℕ → ℕ → Num) (S : ℕ → Possible (List Bool)) (t : NumTrip o N S) where
  abbrev S₁ : ℕ → Possible (List Bool)
  S₁ d = pick (eqb d 1) cannot (S d)

  not_one_there : (b : List ℕ) (p : ℕ) → p ≤ 8 * length b → NumThereIf o b p S₁ (not_one (N b p))
  not_one_there b p l = go (N b p) (t.there b p l)
    where
      go : (n : Num) → NumThereIf o b p S n → NumThereIf o b p S₁ (not_one n)
      go (bad e) u = tt
      go (num d q) u = at (eqb d 1) refl
        where
          at : (c : Bool) → eqb d 1 ≡ c → NumThereIf o b p S₁ (not_one (num d q))
          at true e = rw e tt
          at false e = rw e (record { bits = u.bits; has = u.has; ends = u.ends; again = rw (e, u.again) })

  not_one_back : (v p : ℕ) → NumBackIf o v p (λ b p. not_one (N b p)) (S₁ v)
  not_one_back v p = go (eqb v 1) refl (S v) (t.back v p)
    where
      go : (c : Bool) → eqb v 1 ≡ c → (s : Possible (List Bool)) → NumBackIf o v p N s → NumBackIf o v p (λ b p. not_one (N b p)) (pick (eqb v 1) cannot s)
      go true e s u = rw e tt
      go false e cannot u = rw e tt
      go false e (this bs) u = rw e (λ b h. rw (u b h, e))

  num_not_one : NumTrip o (λ b p. not_one (N b p)) S₁
  num_not_one = record { there = not_one_there; back = not_one_back }

unsign_sign : (d : ℕ) → d < 2 ^ 32 → unsign (sign d) ≡ d
unsign_sign d l = go (eqb (d % 2) 0) refl
  where
    go : (c : Bool) → eqb (d % 2) 0 ≡ c → unsign (sign d) ≡ d
    go true e = rw (e, lt-ltb (d / 2) (2 ^ 63) (omega arith)) (omega (arith, eqb-true (d % 2) 0 e))
    go false e = rw (e, le-ltb (2 ^ 64 - d / 2) (2 ^ 63) (omega arith)) (omega (arith, eqb-false (d % 2) 0 e))

pub num_i32 : (o : Order) → NumTrip o (λ b p. map_num sign (not_one (read_var o b 15 p 4))) (spell_i32 o)
num_i32 o = num_map o _ _ sign unsign inv (num_not_one o _ _ (num_var o 15 (lit< tt) 4))
  where
    keep : (n : Num) → VarLt o 15 (lit< tt) 4 n → VarLt o 15 (lit< tt) 4 (not_one n)
    keep (bad e) u = tt
    keep (num d q) u = go (eqb d 1) refl
      where
        go : (c : Bool) → eqb d 1 ≡ c → VarLt o 15 (lit< tt) 4 (not_one (num d q))
        go true e = rw e tt
        go false e = rw e u

    below : (n : Num) → VarLt o 15 (lit< tt) 4 n → (v q : ℕ) → not_one n ≡ num v q → v < 2 ^ 32
    below n u v q e = subst (VarLt o 15 (lit< tt) 4) e (keep n u)

    inv : (b : List ℕ) (p v q : ℕ) → not_one (read_var o b 15 p 4) ≡ num v q → unsign (sign v) ≡ v
    inv b p v q e = unsign_sign v (below (read_var o b 15 p 4) (var_lt o 15 (lit< tt) b p 4) v q e)

-- ---- the skip
pub trip_align : (o : Order) → Trip o (λ b p. pick (eqb (ub o b p (skipped p)) 0) (shows [] (p + skipped p)) (stop 15)) (λ ns p. this (wrote [] (dig o (skipped p) 0) ns))
trip_align o = record { there = there; back = back }
  where
    there : (b : List ℕ) (p : ℕ) → p ≤ 8 * length b
        → ThereIf o b p (pick (eqb (ub o b p (skipped p)) 0) (shows [] (p + skipped p)) (stop 15)).shown (λ ns p. this (wrote [] (dig o (skipped p) 0) ns)) (pick (eqb (ub o b p (skipped p)) 0) (shows [] (p + skipped p)) (stop 15)).ended
    there b p l = go (eqb (ub o b p (skipped p)) 0) refl
      where
        go : (c : Bool) → eqb (ub o b p (skipped p)) 0 ≡ c
            → ThereIf o b p (pick (eqb (ub o b p (skipped p)) 0) (shows [] (p + skipped p)) (stop 15)).shown (λ ns p. this (wrote [] (dig o (skipped p) 0) ns)) (pick (eqb (ub o b p (skipped p)) 0) (shows [] (p + skipped p)) (stop 15)).ended
        go false e = rw e tt
        go true e = rw e (record {
          bits = dig o (skipped p) 0;
          has = rw (eqb-true (ub o b p (skipped p)) 0 e) at (has_ub o b p (skipped p) (omega arith));
          ends = rw length_dig;
          again = λ ys. refl;
        })

    back : (ns : List ℕ) (p : ℕ) → BackIf o ns p (λ b p. pick (eqb (ub o b p (skipped p)) 0) (shows [] (p + skipped p)) (stop 15)) (this (wrote [] (dig o (skipped p) 0) ns))
    back ns p = record { parts = refl; reads = λ b h. rw (ub_has o b p (skipped p) 0 (pow_pos (skipped p)) h, length_dig) }

-- ---- no bits
pub num_echo : (o : Order) (n : ℕ) → NumTrip o (λ b p. num n p) (λ v. pick (eqb v n) (this []) cannot)
num_echo o n = record { there = λ b p l. record { bits = []; has = l; ends = sym (add-zero p); again = rw (eq-eqb n n refl) }; back = λ v p. go v p (eqb v n) refl }
  where
    go : (v p : ℕ) (c : Bool) → eqb v n ≡ c → NumBackIf o v p (λ b p. num n p) (pick (eqb v n) (this []) cannot)
    go v p false e = rw e tt
    go v p true e = rw e (λ b h. rw (add-zero, eqb-true v n e))

-- ---- bytes, the lowest first
module _ (o : Order) where
  le_there : (b : List ℕ) (p n : ℕ) → p ≤ 8 * length b → NumThereIf o b p (λ v. spell_le o v n) (read_le o b p n)
  unfolding read_le spell_le
  le_there b p zero l = record { bits = []; has = l; ends = sym (add-zero p); again = refl }
  le_there b p (suc n) l = go (room b p 8) refl (λ l'. le_there b (p + 8) n l')
    where
      step : room b p 8 ≡ true → (r : Num) → NumThereIf o b (p + 8) (λ v. spell_le o v n) r → NumThereIf o b p (λ v. spell_le o v (suc n)) (above (ub o b p 8) r)
      step e (bad z) u = tt
      step e (num v q) u =
          let fits : ub o b p 8 < 256 = ub_lt o b p 8 in
          record {
            bits = dig o 8 (ub o b p 8) ++ u.bits;
            has = has_append o b p (dig o 8 (ub o b p 8)) u.bits (has_ub o b p 8 (leb-true _ _ e)) (rw length_dig u.has);
            ends = rw (length-append, length_dig) (omega (arith, u.ends));
            again =
                let low : (ub o b p 8 + 256 * v) % 256 ≡ ub o b p 8 = omega arith in
                let up : (ub o b p 8 + 256 * v) / 256 ≡ v = omega arith in
                rw (low, up, u.again);
          }

      go : (r : Bool) → room b p 8 ≡ r → (p + 8 ≤ 8 * length b → NumThereIf o b (p + 8) (λ v. spell_le o v n) (read_le o b (p + 8) n))
          → NumThereIf o b p (λ v. spell_le o v (suc n)) (read_le o b p (suc n))
      go false e u = rw e tt
      go true e u = rw e (step e (read_le o b (p + 8) n) (u (leb-true _ _ e)))

  le_back : (v p n : ℕ) → NumBackIf o v p (λ b p. read_le o b p n) (spell_le o v n)
  unfolding read_le spell_le
  le_back v p zero = go (eqb v 0) refl
    where
      go : (c : Bool) → eqb v 0 ≡ c → NumBackIf o v p (λ b p. read_le o b p 0) (spell_le o v 0)
      go false e = rw e tt
      go true e = rw e (λ b h. rw (add-zero, eqb-true v 0 e))
  le_back v p (suc n) = go (spell_le o (v / 256) n) (le_back (v / 256) (p + 8) n)
    where
      go : (s : Possible (List Bool)) → NumBackIf o (v / 256) (p + 8) (λ b p. read_le o b p n) s → NumBackIf o v p (λ b p. read_le o b p (suc n)) (before (dig o 8 (v % 256)) s)
      go cannot u = tt
      go (this bs) u = λ b h.
          let y : (room b p 8 ≡ true) × (ub o b p 8 ≡ v % 256) × Has o b (p + 8) bs = has_field o b p 8 (v % 256) bs (omega arith) h in
          let n : v % 256 + 256 * (v / 256) ≡ v = omega arith in
          let z : p + 8 + length bs ≡ p + (8 + length bs) = omega arith in
          rw (y.0, y.1, u b y.2, n, length-append, length_dig, z)

  pub num_le : (n : ℕ) → NumTrip o (λ b p. read_le o b p n) (λ v. spell_le o v n)
  num_le n = record { there = λ b p l. le_there b p n l; back = λ v p. le_back v p n }

module _ (o : Order) where
  flag_there : (b : List ℕ) (p n : ℕ) → p ≤ 8 * length b → NumThereIf o b p (λ v. spell_flag o v n) (read_flag o b p n)
  unfolding read_flag spell_flag
  flag_there b p zero l = record { bits = []; has = l; ends = sym (add-zero p); again = refl }
  flag_there b p (suc n) l = go (room b p 1) refl (eqb (ub o b p 1) 0) refl (λ l'. flag_there b (p + 1) n l')
    where
      step : room b p 1 ≡ true → ub o b p 1 ≡ 1 → (r : Num) → NumThereIf o b (p + 1) (λ v. spell_flag o v n) r → NumThereIf o b p (λ v. spell_flag o v (suc n)) (exist r)
      step e y (bad z) u = tt
      step e y (num v q) u = record {
        bits = dig o 1 1 ++ u.bits;
        has = has_append o b p (dig o 1 1) u.bits (rw y at (has_ub o b p 1 (leb-true _ _ e))) (rw length_dig u.has);
        ends = rw (length-append, length_dig) (omega (arith, u.ends));
        again =
            let low : (1 + 2 * v) % 2 ≡ 1 = omega arith in
            let up : (1 + 2 * v) / 2 ≡ v = omega arith in
            rw (ne_eqb (1 + 2 * v) 0 (omega arith), low, up, u.again);
      }

      go : (r : Bool) → room b p 1 ≡ r → (d : Bool) → eqb (ub o b p 1) 0 ≡ d → (p + 1 ≤ 8 * length b → NumThereIf o b (p + 1) (λ v. spell_flag o v n) (read_flag o b (p + 1) n))
          → NumThereIf o b p (λ v. spell_flag o v (suc n)) (read_flag o b p (suc n))
      go false e d e' u = rw e tt
      go true e true e' u = rw (e, e') (record {
        bits = dig o 1 0;
        has = rw (eqb-true (ub o b p 1) 0 e') at (has_ub o b p 1 (leb-true _ _ e));
        ends = rw length_dig;
        again = refl;
      })
      go true e false e' u = rw (e, e') (step e (omega (arith, ub_lt o b p 1, eqb-false (ub o b p 1) 0 e')) (read_flag o b (p + 1) n) (u (leb-true _ _ e)))

  flag_back : (v p n : ℕ) → NumBackIf o v p (λ b p. read_flag o b p n) (spell_flag o v n)
  unfolding read_flag spell_flag
  flag_back v p zero = go (eqb v 0) refl
    where
      go : (c : Bool) → eqb v 0 ≡ c → NumBackIf o v p (λ b p. read_flag o b p 0) (spell_flag o v 0)
      go false e = rw e tt
      go true e = rw e (λ b h. rw (add-zero, eqb-true v 0 e))
  flag_back v p (suc n) = go (eqb v 0) refl (eqb (v % 2) 1) refl (spell_flag o (v / 2) n) (flag_back (v / 2) (p + 1) n)
    where
      go : (c : Bool) → eqb v 0 ≡ c → (d : Bool) → eqb (v % 2) 1 ≡ d → (s : Possible (List Bool)) → NumBackIf o (v / 2) (p + 1) (λ b p. read_flag o b p n) s
          → NumBackIf o v p (λ b p. read_flag o b p (suc n)) (pick (eqb v 0) (this (dig o 1 0)) (pick (eqb (v % 2) 1) (before (dig o 1 1) s) cannot))
      go true e d e' s u = rw e (λ b h.
          let y : (room b p 1 ≡ true) × (ub o b p 1 ≡ 0) = (le-leb _ _ (rw length_dig at (has_le o b p (dig o 1 0) h)), ub_has o b p 1 0 (lit< tt) h) in
          rw (y.0, y.1, eqb-true v 0 e, length_dig))
      go false e false e' s u = rw (e, e') tt
      go false e true e' cannot u = rw (e, e') tt
      go false e true e' (this bs) u = rw (e, e') (λ b h.
          let y : (room b p 1 ≡ true) × (ub o b p 1 ≡ 1) × Has o b (p + 1) bs = has_field o b p 1 1 bs (lit< tt) h in
          let n : 1 + 2 * (v / 2) ≡ v = omega (arith, eqb-true (v % 2) 1 e') in
          let z : p + 1 + length bs ≡ p + (1 + length bs) = omega arith in
          rw (y.0, y.1, u b y.2, n, length-append, length_dig, z))

  pub num_flag : (n : ℕ) → NumTrip o (λ b p. read_flag o b p n) (λ v. spell_flag o v n)
  num_flag n = record { there = λ b p l. flag_there b p n l; back = λ v p. flag_back v p n }

-- ---- text
pub record TxtThere (o : Order) (b : List ℕ) (p q : ℕ) (xs : List ℕ) : Type 0 where
  pub bits : List Bool
  pub has : Has o b p bits
  pub ends : q ≡ p + length bits
  pub again : spell_txt o xs ≡ this bits

abbrev pub TxtThereIf : (o : Order) (b : List ℕ) (p : ℕ) → Text → Type 0
TxtThereIf o b p (text xs q) = TxtThere o b p q xs
TxtThereIf o b p (cut xs) = Unit {0}

module _ (o : Order) where
  txt_there : (b : List ℕ) (p k : ℕ) → TxtThereIf o b p (read_text o b p k)
  unfolding read_text spell_txt
  txt_there b p zero = tt
  txt_there b p (suc k) = go (room b p 8) refl (eqb (ub o b p 8) 0) refl (read_text o b (p + 8) k) (txt_there b (p + 8) k)
    where
      go : (r : Bool) → room b p 8 ≡ r → (d : Bool) → eqb (ub o b p 8) 0 ≡ d → (t : Text) → TxtThereIf o b (p + 8) t
          → TxtThereIf o b p (pick (room b p 8) (pick (eqb (ub o b p 8) 0) (text [] (p + 8)) (add_text (ub o b p 8) t)) (cut []))
      go false e d e' t u = rw e tt
      go true e true e' t u = rw (e, e') (record {
        bits = dig o 8 0;
        has = rw (eqb-true (ub o b p 8) 0 e') at (has_ub o b p 8 (leb-true _ _ e));
        ends = rw length_dig;
        again = refl;
      })
      go true e false e' (cut xs) u = rw (e, e') tt
      go true e false e' (text xs q) u = rw (e, e') (record {
        bits = dig o 8 (ub o b p 8) ++ u.bits;
        has = has_append o b p (dig o 8 (ub o b p 8)) u.bits (has_ub o b p 8 (leb-true _ _ e)) (rw length_dig u.has);
        ends = rw (length-append, length_dig) (omega (arith, u.ends));
        again = rw (e', lt-ltb (ub o b p 8) 256 (ub_lt o b p 8), u.again);
      })

  abbrev TxtBackIf : List ℕ → ℕ → Possible (List Bool) → Type 0
  TxtBackIf xs p (this bs) = (length bs ≡ 8 + 8 * length xs) × ((b : List ℕ) (k : ℕ) → length xs < k → Has o b p bs → read_text o b p k ≡ text xs (p + length bs))
  TxtBackIf xs p cannot = Unit {0}

  txt_back : (xs : List ℕ) (p : ℕ) → TxtBackIf xs p (spell_txt o xs)
  unfolding read_text spell_txt
  txt_back [] p = (length_dig o 8 0, at)
    where
      at : (b : List ℕ) (k : ℕ) → 0 < k → Has o b p (dig o 8 0) → read_text o b p k ≡ text [] (p + length (dig o 8 0))
      at b zero l h = absurd (omega arith)
      at b (suc k) l h =
          let y : (room b p 8 ≡ true) × (ub o b p 8 ≡ 0) = (le-leb _ _ (rw length_dig at (has_le o b p (dig o 8 0) h)), ub_has o b p 8 0 (lit< tt) h) in
          rw (y.0, y.1, length_dig)
  txt_back (x ∷ xs) p = go (eqb x 0) refl (ltb x 256) refl (spell_txt o xs) (txt_back xs (p + 8))
    where
      go : (c : Bool) → eqb x 0 ≡ c → (d : Bool) → ltb x 256 ≡ d → (s : Possible (List Bool)) → TxtBackIf xs (p + 8) s
          → TxtBackIf (x ∷ xs) p (pick (text_byte x) (before (dig o 8 x) s) cannot)
      go true e d e' s u = rw e tt
      go false e false e' s u = rw (e, e') tt
      go false e true e' cannot u = rw (e, e') tt
      go false e true e' (this bs) u = rw (e, e') (rw (length-append, length_dig) (omega (arith, u.0)), at)
        where
          at : (b : List ℕ) (k : ℕ) → suc (length xs) < k → Has o b p (dig o 8 x ++ bs) → read_text o b p k ≡ text (x ∷ xs) (p + length (dig o 8 x ++ bs))
          at b zero l h = absurd (omega arith)
          at b (suc k) l h =
              let y : (room b p 8 ≡ true) × (ub o b p 8 ≡ x) × Has o b (p + 8) bs = has_field o b p 8 x bs (ltb-true x 256 e') h in
              let z : p + 8 + length bs ≡ p + (8 + length bs) = omega arith in
              rw (y.0, y.1, e, u.1 b k (omega arith) y.2, length-append, length_dig, z)

  txt_trip_there : (b : List ℕ) (p : ℕ) → p ≤ 8 * length b
      → ThereIf o b p (show_text (read_text o b p (length b))).shown (λ ns p. take_text o ns) (show_text (read_text o b p (length b))).ended
  txt_trip_there b p l = go (read_text o b p (length b)) (txt_there b p (length b))
    where
      go : (t : Text) → TxtThereIf o b p t → ThereIf o b p (show_text t).shown (λ ns p. take_text o ns) (show_text t).ended
      go (cut xs) u = tt
      go (text xs q) u = record {
        bits = u.bits;
        has = u.has;
        ends = u.ends;
        again = λ ys. rw (le-leb (length xs) (length (xs ++ ys)) (rw length-append (omega arith)), take-append_seam xs ys, drop-append_seam xs ys, u.again);
      }

  txt_trip_back : (ns : List ℕ) (p : ℕ) → BackIf o ns p (λ b p. show_text (read_text o b p (length b))) (take_text o ns)
  txt_trip_back [] p = tt
  txt_trip_back (n ∷ ns) p = go (leb n (length ns)) refl (spell_txt o (take n ns)) (txt_back (take n ns) p)
    where
      go : (c : Bool) → leb n (length ns) ≡ c → (s : Possible (List Bool)) → TxtBackIf (take n ns) p s
          → BackIf o (n ∷ ns) p (λ b p. show_text (read_text o b p (length b))) (pick (leb n (length ns)) (put (n ∷ take n ns) s (drop n ns)) cannot)
      go false e s u = rw e tt
      go true e cannot u = rw e tt
      go true e (this bs) u =
          let m : length (take n ns) ≡ n = length-take-le n ns (leb-true n (length ns) e) in
          rw e (record {
            parts = ap (λ (l : List ℕ). n ∷ l) (sym (take-append-drop n ns));
            reads = λ b h. rw (u.1 b (length b) (omega (arith, u.0, has_le o b p bs h)) h, m);
          })

  pub trip_text : Trip o (λ b p. show_text (read_text o b p (length b))) (λ ns p. take_text o ns)
  trip_text = record { there = txt_trip_there; back = txt_trip_back }

-- ---- every item
pub trip_item : (o : Order) (i : Item) → Trip o (λ b p. read_item o b i p) (λ ns p. write_item o i ns p)
unfolding read_item write_item
trip_item o Item.align = trip_align o
trip_item o (Item.UB n) = trip_num o _ _ (num_ub o n)
trip_item o (Item.SB n) = trip_num o _ _ (num_sb o n)
trip_item o Item.width = trip_num o _ _ (num_suc o 5)
trip_item o Item.dash_length = trip_num o _ _ (num_suc o 3)
trip_item o Item.U32 = trip_num o _ _ (num_var o 15 (lit< tt) 4)
trip_item o Item.U64 = trip_num o _ _ (num_var o 1 (lit< tt) 9)
trip_item o Item.I32 = trip_num o _ _ (num_i32 o)
trip_item o (Item.flag n) = trip_num o _ _ (num_flag o n)
trip_item o (Item.echo n) = trip_num o _ _ (num_echo o n)
trip_item o (Item.Le n) = trip_num o _ _ (num_le o n)
trip_item o Item.string = trip_text o

pub round_trip : (o : Order) (f : Format) → Trip o (λ b p. run o b f p) (λ ns p. unrun o f ns p)
round_trip o f = trip_fmt o (trip_item o) f
