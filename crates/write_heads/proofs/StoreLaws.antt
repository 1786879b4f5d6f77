-- Runs of stores: what they leave at each place, and runs that meet.
use Prim.Native.Nat.{ℕ, zero, suc, ◌+◌, ◌-◌, ◌≤◌, ◌<◌}
use mathlib.Core.Bool.{Bool, true, false}
use mathlib.Core.List.{List, [], ◌∷◌}
use mathlib.Core.Path.{◌≡◌, refl, ap, sym, ◌∙◌}
use native.Mathlib.Nat.{add-zero}
use native.Mathlib.Omega.{arith}
use lib.Dec.{ltb}
use borrow.Author.Tests.{ltb-true, ltb-false}
use lib.ListN.{length, set, get_or, take, drop, length-set, drop_of_length-le}
use lib.Seq.{sets, length-sets, get_or-set_same, get_or-set_other, set-get_or, drop-set-lt, drop-cons, ext_get_or}
use Rattle.table.proofs.TextLaws.{set_sets}
use Rattle.bits.proofs.StoreLaws.{sets_out}

-- ---- one number of a run
pub at_low : (l : List ℕ) (i : ℕ) (xs : List ℕ) (j : ℕ) → j < i → get_or (sets l i xs) j 0 ≡ get_or l j 0
at_low l i [] j h = refl
at_low l i (x ∷ xs) j h = at_low (set l i x) (suc i) xs j (omega arith) ∙ get_or-set_other l i j x 0 (λ e. omega arith)

pub at_high : (l : List ℕ) (i : ℕ) (xs : List ℕ) (j : ℕ) → i + length xs ≤ j → get_or (sets l i xs) j 0 ≡ get_or l j 0
at_high l i [] j h = refl
at_high l i (x ∷ xs) j h = at_high (set l i x) (suc i) xs j (omega arith) ∙ get_or-set_other l i j x 0 (λ e. omega arith)

pub at_in : (l : List ℕ) (i : ℕ) (xs : List ℕ) (j m : ℕ) → i + m ≡ j → m < length xs → j < length l → get_or (sets l i xs) j 0 ≡ get_or xs m 0
at_in l i [] j m e h g = absurd (omega arith)
at_in l i (x ∷ xs) j zero e h g =
    let q : i ≡ j = omega arith in
    rw q (at_low (set l j x) (suc j) xs j (omega arith) ∙ get_or-set_same l j x 0 g)
at_in l i (x ∷ xs) j (suc m) e h g = at_in (set l i x) (suc i) xs j m (omega arith) (omega arith) (rw (length-set l i x) g)

-- ---- nothing changes where the same is stored
pub sets_same : (n : ℕ) (l : List ℕ) (i : ℕ) → sets l i (take n (drop i l)) ≡ l
sets_same zero l i = refl
sets_same (suc n) l i = go (ltb i (length l)) refl (sets_same n l (suc i))
  where
    go : (c : Bool) → ltb i (length l) ≡ c → sets l (suc i) (take n (drop (suc i) l)) ≡ l → sets l i (take (suc n) (drop i l)) ≡ l
    go true e more =
        ap (λ (x : List ℕ). sets l i (take (suc n) x)) (drop-cons l i 0 (ltb-true i (length l) e))
        ∙ ap (λ (x : List ℕ). sets x (suc i) (take n (drop (suc i) l))) (set-get_or l i 0)
        ∙ more
    go false e more = rw (drop_of_length-le l (ltb-false i (length l) e))

-- ---- two runs
pub drop_sets : (l : List ℕ) (i : ℕ) (xs : List ℕ) (j : ℕ) → i + length xs ≤ j → drop j (sets l i xs) ≡ drop j l
drop_sets l i [] j h = refl
drop_sets l i (x ∷ xs) j h = drop_sets (set l i x) (suc i) xs j (omega arith) ∙ drop-set-lt j l i x (omega arith)

-- runs that do not meet, in the other order
pub sets_comm : (l : List ℕ) (j : ℕ) (xs : List ℕ) (i : ℕ) (ys : List ℕ) → i + length ys ≤ j → sets (sets l j xs) i ys ≡ sets (sets l i ys) j xs
sets_comm l j xs i [] h = refl
sets_comm l j xs i (y ∷ ys) h = rw (set_sets l i j y xs (omega arith)) (sets_comm (set l i y) j xs (suc i) ys (omega arith))

-- a run that covers an earlier one
pub sets_cover : (l : List ℕ) (j : ℕ) (xs : List ℕ) (i : ℕ) (ys : List ℕ) → i ≤ j → j + length xs ≤ i + length ys → sets (sets l j xs) i ys ≡ sets l i ys
sets_cover l j xs i ys h g =
    ext_get_or 0 (sets (sets l j xs) i ys) (sets l i ys) (length-sets (sets l j xs) i ys ∙ length-sets l j xs ∙ sym (length-sets l i ys))
    (λ m k. go m (rw (length-sets, length-sets) at k) (ltb m i) refl (ltb m (i + length ys)) refl)
  where
    go : (m : ℕ) → m < length l → (x : Bool) → ltb m i ≡ x → (y : Bool) → ltb m (i + length ys) ≡ y → get_or (sets (sets l j xs) i ys) m 0 ≡ get_or (sets l i ys) m 0
    go m k true e y d =
        let b : m < i = ltb-true m i e in
        at_low (sets l j xs) i ys m b ∙ at_low l j xs m (omega arith) ∙ sym (at_low l i ys m b)
    go m k false e true d =
        let b : i ≤ m = ltb-false m i e in
        let c : m < i + length ys = ltb-true m (i + length ys) d in
        at_in (sets l j xs) i ys m (m - i) (omega arith) (omega arith) (rw length-sets k) ∙ sym (at_in l i ys m (m - i) (omega arith) (omega arith) k)
    go m k false e false d =
        let c : i + length ys ≤ m = ltb-false m (i + length ys) d in
        at_high (sets l j xs) i ys m c ∙ at_high l j xs m (omega arith) ∙ sym (at_high l i ys m c)

-- what stands of a run xs, taken off and put at the same place or further on: as if it were xs
pub sets_taken : (xs l : List ℕ) (i : ℕ) (u : List ℕ) (j n : ℕ) → length xs ≡ n → length u ≡ length l → i ≤ j → sets u j (take n (drop i (sets l i xs))) ≡ sets u j xs
sets_taken [] l i u j zero e d h = refl
sets_taken [] l i u j (suc n) e d h = absurd (omega arith)
sets_taken (x ∷ xs) l i u j zero e d h = absurd (omega arith)
sets_taken (x ∷ xs) l i u j (suc n) e d h =
    go (ltb i (length l)) refl
    (sets_taken xs (set l i x) (suc i) (set u j x) (suc j) n (omega arith) (length-set u j x ∙ d ∙ sym (length-set l i x)) (omega arith))
  where
    whole : List ℕ
    whole = sets l i (x ∷ xs)

    go : (c : Bool) → ltb i (length l) ≡ c → sets (set u j x) (suc j) (take n (drop (suc i) (sets (set l i x) (suc i) xs))) ≡ sets (set u j x) (suc j) xs
        → sets u j (take (suc n) (drop i whole)) ≡ sets u j (x ∷ xs)
    go true q more =
        let k : i < length l = ltb-true i (length l) q in
        rw (drop-cons whole i 0 (rw length-sets k), at_in l i (x ∷ xs) i 0 (add-zero i) (omega arith) k) more
    go false q more =
        let k : length l ≤ i = ltb-false i (length l) q in
        rw (drop_of_length-le whole {i = i} (rw length-sets k)) (sym (sets_out u j (x ∷ xs) (omega arith)))
