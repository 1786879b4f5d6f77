-- Counts: where one is set, how large they are, and what they are together.
use Prim.Native.Nat.{ℕ, zero, suc, ◌+◌, ◌≤◌, ◌<◌}
use mathlib.Core.List.{List, [], ◌∷◌}
use mathlib.Core.Path.{◌≡◌, refl, ◌∙◌}
use mathlib.Core.Bool.{Bool, true, false}
use native.Mathlib.Omega.{arith}
use lib.ListN.{length, get_or, set, replicate, length-set}
use lib.Dec.{ltb, leb}
use borrow.Author.Tests.{ltb-false, le-ltb, le-leb, lt-leb, leb-false}
use Rattle.std.specs.Prelude.{◌||◌, nat_lt}
use Rattle.std.specs.List.{list_any}
use Rattle.format.specs.Tests.{pick, ◌or◌}
use Rattle.format.specs.FileAndTags.{Tag}
use Rattle.format.proofs.Absurd.{clash}
use Rattle.tally.specs.OwnBytes.{own_bytes}
use Rattle.tally.specs.Adding.{adds, some_above, is_full}
use Rattle.tally.specs.Files.{sum}
use Rattle.tally.specs.Places.{NoneAbove}
use Rattle.tally.specs.declared.Tally.{Tally}

-- ---- one count set
pub none_above_set : (most : ℕ) (ns : List ℕ) (k v : ℕ) → v ≤ most → NoneAbove most ns → NoneAbove most (set ns k v)
none_above_set most [] k v l h i = h i
none_above_set most (n ∷ ns) zero v l h zero = l
none_above_set most (n ∷ ns) zero v l h (suc i) = h (suc i)
none_above_set most (n ∷ ns) (suc k) v l h zero = h zero
none_above_set most (n ∷ ns) (suc k) v l h (suc i) = none_above_set most ns k v l (λ j. h (suc j)) i

pub none_above_more : (most more : ℕ) (ns : List ℕ) → most ≤ more → NoneAbove most ns → NoneAbove more ns
none_above_more most more ns l h i = omega (arith, h i)

pub sum_set : (ns : List ℕ) (k d : ℕ) → k < length ns → sum (set ns k (get_or ns k 0 + d)) ≡ sum ns + d
sum_set [] k d h = absurd (omega arith)
sum_set (n ∷ ns) zero d h = omega arith
sum_set (n ∷ ns) (suc k) d h = omega (arith, sum_set ns k d (omega arith))

pub count_in_sum : (ns : List ℕ) (i : ℕ) → get_or ns i 0 ≤ sum ns
count_in_sum [] i = omega arith
count_in_sum (n ∷ ns) zero = omega arith
count_in_sum (n ∷ ns) (suc i) = omega (arith, count_in_sum ns i)

pub sum_zeros : (n : ℕ) → sum (replicate n 0) ≡ 0
sum_zeros zero = refl
sum_zeros (suc n) = omega (arith, sum_zeros n)

pub length_adds : (counts : List ℕ) (ts : List Tag) → length (adds counts ts) ≡ length counts
unfolding adds
length_adds counts [] = refl
length_adds counts (t ∷ ts) = length_adds (set counts t.code (get_or counts t.code 0 + own_bytes t ts)) ts ∙ length-set counts t.code (get_or counts t.code 0 + own_bytes t ts)

-- ---- a count above the limit
pub above_none : (most : ℕ) (ns : List ℕ) → some_above most ns ≡ false → NoneAbove most ns
above_none most [] h = λ i. omega arith
above_none most (n ∷ ns) h = go (λ e. above_none most ns e) (ltb most n) refl h
  where
    go : (some_above most ns ≡ false → NoneAbove most ns) → (c : Bool) → ltb most n ≡ c → pick c true (some_above most ns) ≡ false → NoneAbove most (n ∷ ns)
    go u true e h = clash cc
    go u false e h = λ i. by (u h) i
      where
        by : NoneAbove most ns → (i : ℕ) → get_or (n ∷ ns) i 0 ≤ most
        by v zero = ltb-false most n e
        by v (suc i) = v i

pub none_above : (most : ℕ) (ns : List ℕ) → NoneAbove most ns → some_above most ns ≡ false
none_above most [] h = refl
none_above most (n ∷ ns) h = rw (le-ltb most n (h 0)) (none_above most ns (λ i. h (suc i)))

-- as std looks for it
pub above_any : (most : ℕ) (ns : List ℕ) → list_any (λ n. nat_lt most n) ns ≡ some_above most ns
above_any most [] = refl
above_any most (n ∷ ns) = go (ltb most n) (above_any most ns)
  where
    go : (c : Bool) → list_any (λ n. nat_lt most n) ns ≡ some_above most ns → (c || list_any (λ n. nat_lt most n) ns) ≡ (c or some_above most ns)
    go true e = refl
    go false e = e

-- ---- whether a tally is full
module _ (t : Tally) where
  pub full_files : 9000000 ≤ t.headers → true ≡ is_full t
  unfolding is_full
  full_files h = rw (le-leb 9000000 t.headers h)

  pub full_counts : {c : Bool} → t.headers < 9000000 → c ≡ some_above 16777216000000 t.counts → c ≡ is_full t
  unfolding is_full
  full_counts h e = rw (lt-leb 9000000 t.headers h) e

  -- one that is not has room for a file
  pub not_full : is_full t ≡ false → (t.headers < 9000000) × NoneAbove 16777216000000 t.counts
  unfolding is_full
  not_full h = go (leb 9000000 t.headers) refl h
    where
      go : (c : Bool) → leb 9000000 t.headers ≡ c → pick c true (some_above 16777216000000 t.counts) ≡ false → (t.headers < 9000000) × NoneAbove 16777216000000 t.counts
      go true e h = clash cc
      go false e h = (leb-false 9000000 t.headers e, above_none 16777216000000 t.counts h)
