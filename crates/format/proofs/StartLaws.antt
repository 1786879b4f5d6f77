-- A good start: what is known of a file that none of the reasons 1 to 5 and 24 refuses.
use Prim.Native.Nat.{ℕ, ◌≤◌, ◌<◌}
use mathlib.Core.List.{List}
use mathlib.Core.Path.{◌≡◌, refl}
use mathlib.Core.Bool.{Bool, true, false}
use native.Mathlib.Omega.{arith}
use lib.ListN.{length, get_or, drop}
use lib.Dec.{ltb, leb, eqb, lit<}
use borrow.Author.Tests.{ltb-false, leb-true, eqb-true, le-ltb, le-leb, eq-eqb}
use Rattle.format.specs.Tests.{pick, ◌and◌}
use Rattle.format.specs.Bits.{order_named}
use Rattle.format.specs.FileAndTags.{le32, signature_right, version_right, length_right, class_of, whole, broken, file, walk_list}
use Rattle.format.specs.Reasons.{start_fault, walk_file}
use Rattle.format.proofs.Absurd.{clash}

pub record GoodStart (order level : ℕ) (f : List ℕ) : Type 0 where
  pub known : level ≤ 1023
  pub ordered : order ≤ 1
  pub long : 9 ≤ length f
  pub signed : (get_or f 0 0 ≡ 0x50) × (get_or f 1 0 ≡ 0x41) × (get_or f 2 0 ≡ 0x47)
  pub version : get_or f 3 0 ≡ 1
  pub lengths : le32 (drop 4 f) ≡ length f
  pub limit : length f ≤ 16777216

-- ---- tests in a row
both : (a b : Bool) → (a and b) ≡ true → (a ≡ true) × (b ≡ true)
both true b e = (refl, e)
both false b e = clash cc

-- a test that gives a reason did not hold
fails : (c : Bool) {k n : ℕ} → 0 < k → pick c k n ≡ 0 → (c ≡ false) × (n ≡ 0)
fails true h e = absurd (omega arith)
fails false h e = (refl, e)

-- a test without which there is a reason held
holds : (c : Bool) {k n : ℕ} → 0 < k → pick c n k ≡ 0 → (c ≡ true) × (n ≡ 0)
holds true h e = (refl, e)
holds false h e = absurd (omega arith)

module _ (f : List ℕ) where
  -- the three bytes of the signature
  signature_is : signature_right f ≡ true → (get_or f 0 0 ≡ 0x50) × (get_or f 1 0 ≡ 0x41) × (get_or f 2 0 ≡ 0x47)
  signature_is e =
      let a : (eqb (get_or f 0 0) 0x50 ≡ true) × ((eqb (get_or f 1 0) 0x41 and eqb (get_or f 2 0) 0x47) ≡ true) = both (eqb (get_or f 0 0) 0x50) _ e in
      let b : (eqb (get_or f 1 0) 0x41 ≡ true) × (eqb (get_or f 2 0) 0x47 ≡ true) = both (eqb (get_or f 1 0) 0x41) _ a.1 in
      (eqb-true (get_or f 0 0) 0x50 a.0, eqb-true (get_or f 1 0) 0x41 b.0, eqb-true (get_or f 2 0) 0x47 b.1)

-- ---- it is what the reasons 1 to 5 and 24 leave
module _ (order level : ℕ) (f : List ℕ) where
  pub good_start : start_fault order level f ≡ 0 → GoodStart order level f
  unfolding start_fault
  good_start e =
      let one = fails (ltb 1023 level) (lit< tt) e in
      let other = fails (ltb 1 order) (lit< tt) one.1 in
      let two = fails (ltb (length f) 9) (lit< tt) other.1 in
      let three = holds (signature_right f) (lit< tt) two.1 in
      let four = holds (version_right f) (lit< tt) three.1 in
      let five = holds (length_right f) (lit< tt) four.1 in
      let both-lengths = both (eqb (le32 (drop 4 f)) (length f)) (leb (length f) 16777216) five.0 in
      record {
        known = omega (arith, ltb-false 1023 level one.0);
        ordered = omega (arith, ltb-false 1 order other.0);
        long = ltb-false (length f) 9 two.0;
        signed = signature_is f three.0;
        version = eqb-true (get_or f 3 0) 1 four.0;
        lengths = eqb-true (le32 (drop 4 f)) (length f) both-lengths.0;
        limit = leb-true (length f) 16777216 both-lengths.1;
      }

  pub start_good : GoodStart order level f → start_fault order level f ≡ 0
  unfolding start_fault
  start_good s =
      rw (
        le-ltb 1023 level (omega (arith, s.known)),
        le-ltb 1 order (omega (arith, s.ordered)),
        le-ltb (length f) 9 s.long,
        eq-eqb (get_or f 0 0) 0x50 s.signed.0,
        eq-eqb (get_or f 1 0) 0x41 s.signed.1,
        eq-eqb (get_or f 2 0) 0x47 s.signed.2,
        eq-eqb (get_or f 3 0) 1 s.version,
        eq-eqb (le32 (drop 4 f)) (length f) s.lengths,
        le-leb (length f) 16777216 s.limit,
      )

  -- a file whose walk is whole has one
  pub whole_start : (walk_file order level f).ended ≡ whole → start_fault order level f ≡ 0
  unfolding walk_file
  whole_start = go (eqb (start_fault order level f) 0) refl
    where
      go : (c : Bool) → eqb (start_fault order level f) 0 ≡ c → (pick c (walk_list (order_named order) (class_of level) 8 file 9 (drop 9 f)) (broken (start_fault order level f) 0)).ended ≡ whole → start_fault order level f ≡ 0
      go true e h = eqb-true (start_fault order level f) 0 e
      go false e h = clash cc
