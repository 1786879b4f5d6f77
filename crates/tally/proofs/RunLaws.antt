-- (C-19) The theorems of the tally.
use Prim.Native.Nat.{ℕ, ◌+◌, ◌-◌, ◌*◌, ◌≤◌, ◌<◌}
use mathlib.Core.List.{List, [], ◌∷◌}
use mathlib.Core.Path.{◌≡◌, refl, ap, sym, subst, ◌∙◌}
use mathlib.Core.Bool.{Bool, true, false}
use native.Mathlib.Omega.{arith}
use lib.ListN.{length, get_or, set, length-set, length-replicate}
use Rattle.format.specs.Tests.{pick}
use Rattle.format.specs.Bits.{AllBytes, Order}
use Rattle.format.specs.FileAndTags.{Class, Tag, Outcome, whole, fault}
use Rattle.format.specs.Reasons.{walk_file, accepted, refused}
use Rattle.format.proofs.Absurd.{clash}
use Rattle.reasons.specs.Numbers.{number_of}
use Rattle.answers.specs.declared.Answer.{Answer}
use Rattle.answers.specs.declared.Answer.TheVariants.{Accepted, Refused}
use Rattle.answers.specs.Answers.{answer_of}
use Rattle.answers.proofs.AnswerLaws.{answer_one}
use Rattle.tally.specs.OwnBytes.{own_bytes}
use Rattle.tally.specs.Adding.{at_zero, adds, with_file, is_full, Left, by_outcome, adding, leaves}
use Rattle.tally.specs.Files.{File, adding_file, after, sum, together, if_accepted, accepted_bytes, accepted_files}
use Rattle.tally.specs.Places.{NoneAbove}
use Rattle.tally.specs.declared.Tally.{Tally}
use Rattle.tally.specs.declared.Added.{Added}
use Rattle.tally.proofs.WalkLaws.{Flat, over, here, flat_le}
use Rattle.tally.proofs.PlaceLaws.{file_start, file_flat, code_below}
use Rattle.tally.proofs.CountLaws.{sum_set, count_in_sum, sum_zeros, length_adds, none_above, not_full, full_counts}

-- ---- no second answer, and no second tally, fits
pub one : (a b : Added) → leaves a ≡ leaves b → a ≡ b
one a b e =
    let t : a.tally ≡ b.tally = ap (λ (l : Left). l.tally) e in
    let r : a.answer ≡ b.answer = answer_one a.answer b.answer (ap (λ (l : Left). l.answer) e) in
    λ i. record { tally = t i; answer = r i }

-- ---- by the answer: a refusal leaves all counts; an acceptance has the file's length, and adds one file
pub record Refusing (t : Tally) (a : Added) : Type 0 where
  pub keeps : a.tally ≡ t

pub record Accepting (order level : ℕ) (t : Tally) (f : List ℕ) (n : ℕ) (a : Added) : Type 0 where
  pub room : is_full t ≡ false
  pub good : (walk_file order level f).ended ≡ whole
  pub long : n ≡ length f
  pub adds : a.tally ≡ with_file t (walk_file order level f).tags

abbrev pub ByAnswer : ℕ → ℕ → Tally → List ℕ → Added → Answer → Type 0
ByAnswer order level t f a (Accepted n) = Accepting order level t f n a
ByAnswer order level t f a (Refused e n) = Refusing t a

pub by_answer : (order level : ℕ) (t : Tally) (f : List ℕ) (a : Added) (r : Answer) → a.answer ≡ r → leaves a ≡ adding order level t f → ByAnswer order level t f a r
unfolding adding
by_answer order level t f a r q e = go (is_full t) refl (walk_file order level f).ended refl r q e
  where
    go : (c : Bool) → is_full t ≡ c → (z : Outcome) → (walk_file order level f).ended ≡ z → (r : Answer) → a.answer ≡ r
        → leaves a ≡ pick c (record { tally = t; answer = refused 25 0 }) (by_outcome t f (walk_file order level f).tags z) → ByAnswer order level t f a r
    go true h z w (Accepted n) q e = let m : accepted n ≡ refused 25 0 = sym (ap answer_of q) ∙ ap (λ (l : Left). l.answer) e in clash cc
    go true h z w (Refused x n) q e = record { keeps = ap (λ (l : Left). l.tally) e }
    go false h whole w (Accepted n) q e =
        let m : accepted n ≡ accepted (length f) = sym (ap answer_of q) ∙ ap (λ (l : Left). l.answer) e in
        record { room = h; good = w; long = cc; adds = ap (λ (l : Left). l.tally) e }
    go false h whole w (Refused x n) q e = let m : refused (number_of x) n ≡ accepted (length f) = sym (ap answer_of q) ∙ ap (λ (l : Left). l.answer) e in clash cc
    go false h (fault x y) w (Accepted n) q e = let m : accepted n ≡ refused x y = sym (ap answer_of q) ∙ ap (λ (l : Left). l.answer) e in clash cc
    go false h (fault x y) w (Refused x' n) q e = record { keeps = ap (λ (l : Left). l.tally) e }

-- so there is an end of files
pub one_more : (order level : ℕ) (t : Tally) (f : List ℕ) (a : Added) {n : ℕ} → a.answer ≡ Accepted n → leaves a ≡ adding order level t f
    → (t.headers < 9000000) × (a.tally.headers ≡ t.headers + 9)
one_more order level t f a {n} q e =
    let u : Accepting order level t f n a = by_answer order level t f a (Accepted n) q e in
    ((not_full t u.room).0, ap (λ (x : Tally). x.headers) u.adds)

-- ---- a tag's own bytes are those from its place to the next tag's place, or to the file's end
abbrev pub next_place : ℕ → List Tag → ℕ
next_place end [] = end
next_place end (t ∷ ts) = t.place

abbrev pub Spaced : ℕ → List Tag → Type 0
Spaced end [] = Unit {0}
Spaced end (t ∷ ts) = (t.place + own_bytes t ts ≡ next_place end ts) × Spaced end ts

flat_place : (o : Order) (class : ℕ → Class) (f : List ℕ) {a : ℕ} {ts : List Tag} → Flat o class f a ts → next_place (length f) ts ≡ a
flat_place o class f over = refl
flat_place o class f (here x y) = x.place

flat_spaced : (o : Order) (class : ℕ → Class) (f : List ℕ) {a : ℕ} {ts : List Tag} → Flat o class f a ts → Spaced (length f) ts
flat_spaced o class f over = tt
flat_spaced o class f (here x y) = (omega (arith, x.place, x.own, x.later, flat_place o class f y), flat_spaced o class f y)

module _ (order level : ℕ) (f : List ℕ) (ended : (walk_file order level f).ended ≡ whole) where
  pub spaced : Spaced (length f) (walk_file order level f).tags
  spaced = flat_spaced _ _ f (file_flat order level f ended)

  -- the first tag stands behind the file's header
  pub first : next_place (length f) (walk_file order level f).tags ≡ 9
  first = flat_place _ _ f (file_flat order level f ended)

-- ---- what an accepted file adds: all of its bytes
sum_flat : (o : Order) (class : ℕ → Class) (f : List ℕ) → AllBytes f → {a : ℕ} {ts : List Tag} (counts : List ℕ) → length counts ≡ 1024 → Flat o class f a ts
    → sum (adds counts ts) ≡ sum counts + (length f - a)
unfolding adds
sum_flat o class f h counts l over = omega arith
sum_flat o class f h counts l (here {a = a} {t = t} {ts = ts} x y) =
    let n : sum (set counts t.code (get_or counts t.code 0 + own_bytes t ts)) ≡ sum counts + own_bytes t ts
    = sum_set counts t.code (own_bytes t ts) (omega (arith, code_below f a h x.header)) in
    omega (
      arith,
      n,
      x.own,
      x.later,
      flat_le o class f y,
      sum_flat o class f h (set counts t.code (get_or counts t.code 0 + own_bytes t ts)) (length-set counts t.code (get_or counts t.code 0 + own_bytes t ts) ∙ l) y,
    )

-- ---- the tally after k accepted files: no more than the longest file in each
pub record Fair (k : ℕ) (t : Tally) : Type 0 where
  pub long : length t.counts ≡ 1024
  pub files : t.headers ≡ 9 * k
  pub low : sum t.counts ≤ 16777216 * k

pub fair_zero : Fair 0 at_zero
fair_zero = record { long = length-replicate {A = ℕ} 1024 0; files = refl; low = omega (arith, sum_zeros 1024) }

-- what one call gives
pub record Step (k : ℕ) (t : Tally) (x : File) : Type 0 where
  pub fair : Fair (k + if_accepted 1 (adding_file t x).answer) (adding_file t x).tally
  pub sum : together (adding_file t x).tally ≡ together t + if_accepted (length x.bytes) (adding_file t x).answer
  pub limit : k ≤ 1000000 → k + if_accepted 1 (adding_file t x).answer ≤ 1000000

-- the same of what such a call leaves
abbrev Claim : ℕ → Tally → File → Left → Type 0
Claim k t x l =
    Fair (k + if_accepted 1 l.answer) l.tally × (together l.tally ≡ together t + if_accepted (length x.bytes) l.answer)
    × (k ≤ 1000000 → k + if_accepted 1 l.answer ≤ 1000000)

module _ (k : ℕ) (t : Tally) (x : File) (h : Fair k t) where
  abbrev f : List ℕ
  f = x.bytes

  abbrev ts : List Tag
  ts = (walk_file x.order x.level x.bytes).tags

  kept : Fair (k + 0) t × (together t ≡ together t + 0) × (k ≤ 1000000 → k + 0 ≤ 1000000)
  kept = (record { long = h.long; files = omega (arith, h.files); low = omega (arith, h.low) }, omega arith, λ l. omega arith)

  taken : is_full t ≡ false → (walk_file x.order x.level f).ended ≡ whole → Claim k t x (by_outcome t f ts whole)
  taken e q =
      let l : (9 ≤ length f) × (length f ≤ 16777216) = ((file_start x.order x.level f q).long, (file_start x.order x.level f q).limit) in
      let s : sum (adds t.counts ts) ≡ sum t.counts + (length f - 9) = sum_flat _ _ f x.is_file t.counts h.long (file_flat x.order x.level f q) in
      (record { long = length_adds t.counts ts ∙ h.long; files = omega (arith, h.files); low = omega (arith, h.low, l.1) }, omega (arith, l.0), λ m. omega (arith, h.files, (not_full t e).0))

  claim : (c : Bool) → is_full t ≡ c → (z : Outcome) → (walk_file x.order x.level f).ended ≡ z
      → Claim k t x (pick c (record { tally = t; answer = refused 25 0 }) (by_outcome t f ts z))
  claim true e z q = kept
  claim false e whole q = taken e q
  claim false e (fault n m) q = kept

  step : Step k t x
  unfolding adding
  step = let u = claim (is_full t) refl (walk_file x.order x.level f).ended refl in record { fair = u.0; sum = u.1; limit = u.2 }

-- ---- over any run of files the counts together equal the summed lengths of the accepted files
pub record Ran (k : ℕ) (t : Tally) (xs : List File) : Type 0 where
  pub fair : Fair (k + accepted_files t xs) (after t xs)
  pub sum : together (after t xs) ≡ together t + accepted_bytes t xs
  pub limit : k ≤ 1000000 → k + accepted_files t xs ≤ 1000000

ran : (k : ℕ) (t : Tally) (xs : List File) → Fair k t → Ran k t xs
unfolding after accepted_bytes accepted_files
ran k t [] h = record { fair = subst (λ (n : ℕ). Fair n t) (omega arith) h; sum = omega arith; limit = λ l. omega arith }
ran k t (x ∷ xs) h = go (step k t x h) (ran (k + if_accepted 1 (adding_file t x).answer) (adding_file t x).tally xs (step k t x h).fair)
  where
    a : ℕ
    a = if_accepted 1 (adding_file t x).answer

    b : ℕ
    b = accepted_files (adding_file t x).tally xs

    go : Step k t x → Ran (k + a) (adding_file t x).tally xs → Ran k t (x ∷ xs)
    go s r = record {
      fair = subst (λ (n : ℕ). Fair n (after (adding_file t x).tally xs)) (omega arith) r.fair;
      sum = omega (arith, s.sum, r.sum);
      limit = λ l. omega (arith, r.limit (s.limit l));
    }

module _ (xs : List File) where
  pub counts_together : together (after at_zero xs) ≡ accepted_bytes at_zero xs
  counts_together = omega (arith, (ran 0 at_zero xs fair_zero).sum, sum_zeros 1024)

  -- 9 bytes of each are its header
  pub headers_together : (after at_zero xs).headers ≡ 9 * accepted_files at_zero xs
  headers_together = omega (arith, (ran 0 at_zero xs fair_zero).fair.files)

  -- ---- at most 1,000,000 files go in
  pub at_most : accepted_files at_zero xs ≤ 1000000
  at_most = omega (arith, (ran 0 at_zero xs fair_zero).limit (omega arith))

  -- ---- no count wraps: none is above the limit
  pub counts_below : NoneAbove 16777216000000 (after at_zero xs).counts
  counts_below i = omega (arith, count_in_sum (after at_zero xs).counts i, (ran 0 at_zero xs fair_zero).fair.low, at_most)

  -- ---- a tally made by fewer than 1,000,000 accepted files is never refused by 25
  pub not_yet_full : accepted_files at_zero xs < 1000000 → is_full (after at_zero xs) ≡ false
  not_yet_full h = sym (full_counts (after at_zero xs) (omega (arith, headers_together)) (sym (none_above 16777216000000 (after at_zero xs).counts counts_below)))
