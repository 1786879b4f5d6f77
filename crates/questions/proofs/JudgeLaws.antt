-- Lent numbers that pass the judgement are the index, and the index passes it.
use Prim.Native.Nat.{ℕ, zero, suc, ◌+◌, ◌*◌, ◌≤◌, ◌<◌}
use mathlib.Core.List.{List, [], ◌∷◌}
use mathlib.Core.Path.{◌≡◌, refl, ap, sym, ◌∙◌}
use mathlib.Core.Bool.{Bool, true, false}
use native.Mathlib.Omega.{arith}
use lib.ListN.{length, get_or}
use lib.Dec.{eqb, ltb}
use borrow.Author.Tests.{lt-ltb, ltb-true, ltb-false, eq-eqb, eqb-true}
use Rattle.format.specs.Tests.{pick, ◌and◌}
use Rattle.format.proofs.Absurd.{clash}
use Rattle.tag_index.specs.Index.{tag_count, code_of, place_of, index, same, is_index}
use Rattle.tag_index.specs.Steps.{lower, slot, Laid}
use Rattle.tag_index.proofs.WalkLaws.{just, chosen_none, lower_le}
use Rattle.tag_index.proofs.SlotLaws.{slot_lt, slot_over, slot_under, slot_rises, slot_before, slot_one, slot_found, At, counted_up}
use Rattle.tag_index.proofs.IndexLaws.{length_index, index_laid, laid_index}
use Rattle.questions.specs.Judged.{tag_at, Rising, start_of, Parts, Started, Says}

-- ---- two lists that are the same
same_true : (x y : List ℕ) → same x y ≡ true → x ≡ y
same_true [] [] e = refl
same_true [] (b ∷ y) e = cc
same_true (a ∷ x) [] e = cc
same_true (a ∷ x) (b ∷ y) e = go (eqb a b) refl e (λ h. same_true x y h)
  where
    go : (d : Bool) → eqb a b ≡ d → d and same x y ≡ true → (same x y ≡ true → x ≡ y) → a ∷ x ≡ b ∷ y
    go true q h u = let r : a ≡ b = eqb-true a b q in let s : x ≡ y = u h in cc
    go false q h u = cc

same_self : (x : List ℕ) → same x x ≡ true
same_self [] = refl
same_self (a ∷ x) = rw (eq-eqb a a refl) (same_self x)

-- what `is_index` tests
pub record Is (g x : List ℕ) : Type 0 where
  pub fives : length g ≡ 5 * tag_count g
  pub all : lower g 1024 (tag_count g) ≡ tag_count g
  pub index_is : x ≡ index g

both : (a b : Bool) → a and b ≡ true → (a ≡ true) × (b ≡ true)
both true b h = (refl, h)
both false b h = clash cc

pub is_true : (g x : List ℕ) → is_index g x ≡ true → Is g x
unfolding is_index
is_true g x h =
    let u = both (eqb (length g) (5 * tag_count g)) (eqb (lower g 1024 (tag_count g)) (tag_count g) and same x (index g)) h in
    let v = both (eqb (lower g 1024 (tag_count g)) (tag_count g)) (same x (index g)) u.1 in
    record { fives = eqb-true (length g) (5 * tag_count g) u.0; all = eqb-true (lower g 1024 (tag_count g)) (tag_count g) v.0; index_is = same_true x (index g) v.1 }

pub true_is : (g x : List ℕ) → Is g x → is_index g x ≡ true
unfolding is_index
true_is g x u = rw (eq-eqb (length g) (5 * tag_count g) u.fives, eq-eqb (lower g 1024 (tag_count g)) (tag_count g) u.all, u.index_is) (same_self (index g))

-- where something that each index has is not there, it is none
is_false : (g x : List ℕ) → (Is g x → ⊥) → is_index g x ≡ false
is_false g x n = go (is_index g x) refl
  where
    go : (b : Bool) → is_index g x ≡ b → b ≡ false
    go true e = absurd (n (is_true g x e))
    go false e = refl

-- ---- the index passes
module _ (g x : List ℕ) (is : Is g x) where
  abbrev n : ℕ
  n = tag_count g

  pub its_length : length x ≡ 1024 + 2 * n
  its_length = ap (length {A = ℕ}) is.index_is ∙ omega (arith, length_index g, is.all)

  pub its_numbers : Laid g 0 x
  its_numbers = rw is.index_is (index_laid g is.all)

  -- a start is how many tags have a lower code
  pub its_start : (c : ℕ) → c ≤ 1024 → start_of g x c ≡ lower g c n
  its_start c h = go (ltb c 1024) refl
    where
      go : (b : Bool) → ltb c 1024 ≡ b → pick b (get_or x c 0) n ≡ lower g c n
      go true e = omega (arith, its_numbers.starts c (ltb-true c 1024 e), chosen_none (just c) g)
      go false e = let q : c ≡ 1024 = omega (arith, ltb-false c 1024 e) in rw q (sym is.all)

  -- the k-th pair is that of the tag whose slot is k
  pub record Its (k : ℕ) : Type 0 where
    pub known : tag_at x k < n
    pub at : slot g (tag_at x k) ≡ k
    pub place : get_or x (1025 + 2 * k) 0 ≡ place_of g (tag_at x k)

  pub its_tag : (k : ℕ) → k < n → Its k
  its_tag k h =
      let a : At g 1024 k = slot_found g 1024 k (omega (arith, is.all)) in
      let q : tag_at x k ≡ a.tag = ap (λ (i : ℕ). get_or x (1024 + 2 * i) 0) (sym a.there) ∙ its_numbers.numbers a.tag (omega arith) a.below in
      record {
        known = omega (arith, q, a.below);
        at = ap (slot g) q ∙ a.there;
        place = ap (λ (i : ℕ). get_or x (1025 + 2 * i) 0) (sym a.there) ∙ its_numbers.places a.tag (omega arith) a.below ∙ ap (place_of g) (sym q);
      }

  pub its_rising : Rising g x n
  its_rising = record {
    pairs = λ k h. let u : Its k = its_tag k h in record { known = u.known; placed = u.place };
    rises = λ k h. slot_before g (tag_at x k) (tag_at x (k + 1)) (its_tag (k + 1) h).known (omega (arith, (its_tag k (omega arith)).at, (its_tag (k + 1) h).at));
  }

  its_parts : (c s : ℕ) → s ≡ lower g c n → Parts g x c s
  its_parts c s e = record { inside = omega (arith, lower_le g c n); before = λ k q. before k q (ltb (code_of g (tag_at x k)) c) refl; above = record { after = λ h. after h (ltb (code_of g (tag_at x s)) c) refl } }
    where
      before : (k : ℕ) → k + 1 ≡ s → (b : Bool) → ltb (code_of g (tag_at x k)) c ≡ b → code_of g (tag_at x k) < c
      before k q true l = ltb-true (code_of g (tag_at x k)) c l
      before k q false l = absurd (omega (arith, lower_le g c n, (its_tag k (omega (arith, lower_le g c n))).at, slot_under g (tag_at x k) c (ltb-false (code_of g (tag_at x k)) c l)))

      after : s < n → (b : Bool) → ltb (code_of g (tag_at x s)) c ≡ b → c ≤ code_of g (tag_at x s)
      after h true l = let u : Its s = its_tag s h in absurd (omega (arith, u.at, slot_over g (tag_at x s) c u.known (ltb-true (code_of g (tag_at x s)) c l)))
      after h false l = ltb-false (code_of g (tag_at x s)) c l

  pub its_starts : Started g x 1025
  its_starts = record { each = λ c h. its_parts c (start_of g x c) (its_start c (omega arith)) }

-- ---- what passes is the index
module _ (g x : List ℕ) (fives : length g ≡ 5 * tag_count g) (size : length x ≡ 1024 + 2 * tag_count g) (rising : Rising g x (tag_count g)) (started : Started g x 1025) where
  abbrev m : ℕ
  m = tag_count g

  -- the slots of the pairs' tags rise strictly, m of them below m: so they are 0 to m - 1
  slots : (k : ℕ) → k < m → slot g (tag_at x k) ≡ k
  slots =
      counted_up (λ (k : ℕ). slot g (tag_at x k)) m (λ k h. slot_lt g (tag_at x k) (rising.pairs k h).known)
      (λ k h. slot_rises g (tag_at x k) (tag_at x (k + 1)) (rising.pairs k (omega arith)).known (rising.rises k h))

  start_is : (c s : ℕ) → Parts g x c s → s ≡ lower g c m
  start_is c s u = meet (low s refl) (high (ltb s m) refl)
    where
      low : (k : ℕ) → s ≡ k → s ≤ lower g c m
      low zero e = omega arith
      low (suc k) e = omega (arith, slots k (omega (arith, u.inside)), slot_over g (tag_at x k) c (rising.pairs k (omega (arith, u.inside))).known (u.before k (omega arith)))

      high : (b : Bool) → ltb s m ≡ b → lower g c m ≤ s
      high true l = let h : s < m = ltb-true s m l in omega (arith, slots s h, slot_under g (tag_at x s) c (u.above.after h))
      high false l = omega (arith, ltb-false s m l, lower_le g c m)

      meet : s ≤ lower g c m → lower g c m ≤ s → s ≡ lower g c m
      meet a b = omega arith

  all_coded : lower g 1024 m ≡ m
  all_coded = sym (start_is 1024 m (started.each 1024 (omega arith)))

  numbers : Laid g 0 x
  numbers = record {
    starts = λ c h. start_is c (get_or x c 0) (rw (lt-ltb c 1024 h) at (started.each c (omega arith))) ∙ omega (arith, chosen_none (just c) g);
    numbers = λ t z h. tag t h;
    places = λ t z h. (rising.pairs (slot g t) (slot_lt g t h)).placed ∙ ap (place_of g) (tag t h);
  }
    where
      tag : (t : ℕ) → t < m → tag_at x (slot g t) ≡ t
      tag t h = let l : slot g t < m = slot_lt g t h in slot_one g (tag_at x (slot g t)) t (rising.pairs (slot g t) l).known h (slots (slot g t) l)

  pub passes : is_index g x ≡ true
  passes = true_is g x (record { fives = fives; all = all_coded; index_is = laid_index g all_coded x size numbers })

-- ---- a test that answers false says so
pub no : {A : Type 0} (r : Bool) → r ≡ false → Says r A → A → ⊥
no true e h = clash cc
no false e h = h

-- ---- what does not pass is none
module _ (g x : List ℕ) where
  pub no_fives : (length g ≡ 5 * tag_count g → ⊥) → is_index g x ≡ false
  no_fives h = is_false g x (λ u. h u.fives)

  pub no_length : (length x ≡ 1024 + 2 * tag_count g → ⊥) → is_index g x ≡ false
  no_length h = is_false g x (λ u. h (its_length g x u))

  pub no_rising : (Rising g x (tag_count g) → ⊥) → is_index g x ≡ false
  no_rising h = is_false g x (λ u. h (its_rising g x u))

  pub no_starts : (Started g x 1025 → ⊥) → is_index g x ≡ false
  no_starts h = is_false g x (λ u. h (its_starts g x u))
