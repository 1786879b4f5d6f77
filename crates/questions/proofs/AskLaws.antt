-- What is answered from the starts is the plain walk's answer.
use Prim.Native.Nat.{ℕ, suc, ◌+◌, ◌*◌, ◌≤◌, ◌<◌}
use mathlib.Core.List.{List}
use mathlib.Core.Path.{◌≡◌, refl, ap, sym, ◌∙◌}
use mathlib.Core.Bool.{Bool, true, false}
use native.Mathlib.Omega.{arith}
use lib.ListN.{length, get_or}
use lib.Dec.{ltb}
use borrow.Author.Tests.{ltb-true, ltb-false, eqb-true}
use Rattle.tag_index.specs.Index.{tag_count, code_of, place_of, with_code, how_many, where_is, is_index}
use Rattle.tag_index.specs.Steps.{lower, slot}
use Rattle.tag_index.proofs.WalkLaws.{just, chosen_at, chosen_found, Found, lower_more, lower_mono, lower_le}
use Rattle.tag_index.proofs.SlotLaws.{slot_is, slot_lt}
use Rattle.questions.specs.Judged.{start_of}
use Rattle.questions.proofs.JudgeLaws.{Is, is_true, its_length, its_start, its_numbers}

module _ (g x : List ℕ) (h : is_index g x ≡ true) where
  is : Is g x
  is = is_true g x h

  pub index_size : length x ≡ 1024 + 2 * tag_count g
  index_size = its_length g x is

  -- how many: from its start to the next
  pub count_is : (c d : ℕ) → c ≤ 1023 → d ≡ c + 1 → start_of g x d ≡ start_of g x c + how_many g c
  count_is c d l e =
      let q : d ≡ suc c = omega arith in
      its_start g x is d (omega arith) ∙ ap (λ (i : ℕ). lower g i (tag_count g)) q ∙ lower_more g c (tag_count g) ∙ ap (λ (i : ℕ). i + how_many g c) (sym (its_start g x is c (omega arith)))

  pub count_none : (c : ℕ) → 1023 < c → 0 ≡ how_many g c
  count_none c l = omega (arith, is.all, lower_mono g 1024 c (tag_count g) (omega arith), lower_more g c (tag_count g), lower_le g (suc c) (tag_count g))

  -- where: at the start and k further
  pub place_is : (c k i : ℕ) → k < how_many g c → i ≡ 1025 + 2 * (start_of g x c + k) → (i < length x) × (get_or x i 0 ≡ where_is g c k)
  place_is c k i l e =
      let f : Found (just c) g (tag_count g) k = chosen_found (just c) g (tag_count g) k l in
      let q : code_of g f.tag ≡ c = eqb-true (code_of g f.tag) c f.passes in
      let s : slot g f.tag ≡ start_of g x c + k = slot_is g f.tag c q ∙ omega (arith, its_start g x is c (code_le c k l), f.before) in (
        omega (arith, slot_lt g f.tag f.below, index_size, s),
        ap (λ (j : ℕ). get_or x j 0) (omega (arith, e, s)) ∙ (its_numbers g x is).places f.tag (omega arith) f.below
            ∙ ap (place_of g) (sym (ap (λ (j : ℕ). get_or (with_code c g) j 0) (sym f.before) ∙ chosen_at (just c) g f.tag (tag_count g) f.below f.passes)),
      )
    where
      code_le : (c k : ℕ) → k < how_many g c → c ≤ 1024
      code_le c k l = go (ltb 1023 c) refl
        where
          go : (b : Bool) → ltb 1023 c ≡ b → c ≤ 1024
          go true e = absurd (omega (arith, count_none c (ltb-true 1023 c e)))
          go false e = omega (arith, ltb-false 1023 c e)

-- so the k-th place of the code is inside, and is that of the k-th tag
pub pair_inside : (g x : List ℕ) (c k s : ℕ) → s ≡ start_of g x c → is_index g x ≡ true → k < how_many g c → 1025 + 2 * (s + k) < length x
pair_inside g x c k s e h l = (place_is g x h c k (1025 + 2 * (s + k)) l (ap (λ (i : ℕ). 1025 + 2 * (i + k)) e)).0

pub pair_place : (g x : List ℕ) (c k s : ℕ) → s ≡ start_of g x c → is_index g x ≡ true → k < how_many g c → get_or x (1025 + 2 * (s + k)) 0 ≡ where_is g c k
pair_place g x c k s e h l = (place_is g x h c k (1025 + 2 * (s + k)) l (ap (λ (i : ℕ). 1025 + 2 * (i + k)) e)).1
