-- Whole files: the reasons 1 to 5 and 24, the run that counts, and what the two public calls leave.
use Prim.Native.Nat.{ℕ, ◌+◌, ◌≤◌, ◌<◌}
use mathlib.Core.List.{List, [], ◌∷◌, ◌++◌}
use mathlib.Core.Bool.{Bool, true, false, ◌&&◌}
use mathlib.Core.Path.{◌≡◌, refl, ap, sym, ◌∙◌}
use native.Mathlib.Nat.{zero-add}
use native.Mathlib.Omega.{arith}
use lib.ListN.{length, get_or, drop, set}
use lib.Seq.{sets, sets-eq}
use lib.Dec.{leb, eqb}
use borrow.Author.Tests.{lt-ltb, le-ltb, lt-leb, le-leb, eq-eqb, ne_eqb, eqb-true, eqb-false}
use Rattle.std.specs.List.{starts_with}
use Rattle.format.specs.Tests.{pick, ◌and◌}
use Rattle.format.specs.Bits.{Order, order_named}
use Rattle.format.specs.FileAndTags as paper
use Rattle.format.specs.FileAndTags.{le32, signature_right, version_right, length_right, class_of, Outcome, whole, fault, Walk, file, walk_list}
use Rattle.format.specs.TableOfNumbers.{numbers, table, tag_table}
use Rattle.format.specs.Reasons.{start_fault, walk_file, gives, refuses, result, read_file, read_tags, into}
use Rattle.format.proofs.StartLaws.{good_start, whole_start}
use Rattle.format.proofs.Absurd.{clash}
use Rattle.answers.specs.Answers.{leaves}
use Rattle.answers.specs.declared.Answer.TheVariants.{Accepted, Refused}
use Rattle.classes.specs.Classes.{class_by, Classed}
use Rattle.classes.specs.declared.Scope.{Scope}
use Rattle.classes.specs.declared.Scope.TheVariants.{Lists}
use Rattle.bits.specs.declared.BytePlace.{BytePlace}
use Rattle.lists.specs.Lists.{byte_at, Listed, listed, walked_of, walk_over, Bounds}
use Rattle.tags.specs.Lent.{classes_in}
use Rattle.reasons.specs.declared.Reason.{Reason}
use Rattle.reasons.specs.declared.Reason.TheVariants.{TableTooShort}
use Rattle.reasons.specs.Numbers.{number_of}
use Rattle.classes.specs.declared.Class.{Class}
use Rattle.lists.specs.Walks.{Walked, Next, Fault}
use Rattle.lists.proofs.ListLaws.{piece, piece_rest, length_piece}
use Rattle.tags.proofs.LentLaws.{class_level}
use Rattle.reader.specs.Survey.{surveyed}
use Rattle.reader.proofs.SkimLaws.{skim_rows}

-- the signature, as the code asks for it
turned : (a b : ℕ) → eqb a b ≡ eqb b a
turned a b = go (eqb b a) refl
  where
    go : (c : Bool) → eqb b a ≡ c → eqb a b ≡ c
    go true e = eq-eqb a b (sym (eqb-true b a e))
    go false e = ne_eqb a b (λ z. eqb-false b a e (sym z))

pub signature_is : (f : List ℕ) → 9 ≤ length f → starts_with eqb f (0x50 ∷ 0x41 ∷ 0x47 ∷ []) ≡ signature_right f
signature_is [] h = absurd (omega arith)
signature_is (a ∷ []) h = absurd (omega arith)
signature_is (a ∷ b ∷ []) h = absurd (omega arith)
signature_is (a ∷ b ∷ c ∷ f) h = rw (turned 0x50 a, turned 0x41 b, turned 0x47 c) (go (eqb a 0x50) (eqb b 0x41) (eqb c 0x47))
  where
    go : (x y z : Bool) → x && (y && (z && true)) ≡ x and y and z
    go true true true = refl
    go true true false = refl
    go true false z = refl
    go false y z = refl

-- ---- 1 to 5, in this order, and 24 after 1
module _ (order level : ℕ) (f : List ℕ) where
  pub start_1 : 1023 < level → 1 ≡ start_fault order level f
  unfolding start_fault
  start_1 h = rw (lt-ltb 1023 level h)

  pub start_24 : level ≤ 1023 → 1 < order → 24 ≡ start_fault order level f
  unfolding start_fault
  start_24 known h = rw (le-ltb 1023 level known, lt-ltb 1 order h)

  module _ (known : level ≤ 1023) (ordered : order ≤ 1) where
    pub start_2 : length f < 9 → 2 ≡ start_fault order level f
    unfolding start_fault
    start_2 h = rw (le-ltb 1023 level known, le-ltb 1 order ordered, lt-ltb (length f) 9 h)

    module _ (long : 9 ≤ length f) where
      pub start_3 : signature_right f ≡ false → 3 ≡ start_fault order level f
      unfolding start_fault
      start_3 h = rw (le-ltb 1023 level known, le-ltb 1 order ordered, le-ltb (length f) 9 long, h)

      module _ (named : signature_right f ≡ true) where
        -- the signature is judged
        signed : pick (version_right f) (pick (length_right f) 0 5) 4 ≡ start_fault order level f
        unfolding start_fault
        signed = rw (le-ltb 1023 level known, le-ltb 1 order ordered, le-ltb (length f) 9 long, named)

        -- the numbers that the code looks at, one after the other
        module _ {v : ℕ} (v_is : v ≡ get_or f 3 0) where
          pub start_4 : (v ≡ 1 → ⊥) → 4 ≡ start_fault order level f
          start_4 h = rw (← v_is, ne_eqb v 1 h) at signed

          module _ (first : v ≡ 1) {n : ℕ} (n_is : n ≡ le32 (drop 4 f)) where
            start_5_or_0 : pick (eqb n (length f) and leb (length f) 16777216) 0 5 ≡ start_fault order level f
            start_5_or_0 = rw (← v_is, eq-eqb v 1 first, ← n_is) at signed

            pub start_5 : (n ≡ length f → ⊥) → 5 ≡ start_fault order level f
            start_5 h = rw (ne_eqb n (length f) h) at start_5_or_0

            pub start_5_long : n ≡ length f → 16777216 < length f → 5 ≡ start_fault order level f
            start_5_long e h = rw (eq-eqb n (length f) e, lt-leb (length f) 16777216 h) at start_5_or_0

            pub start_0 : n ≡ length f → length f ≤ 16777216 → 0 ≡ start_fault order level f
            start_0 e h = rw (eq-eqb n (length f) e, le-leb (length f) 16777216 h) at start_5_or_0

  -- a file that passes them: what `read_tags` requires of it
  pub fair_file : start_fault order level f ≡ 0 → (9 ≤ length f) × (length f ≤ 16777216)
  fair_file e = let s = good_start order level f e in (s.long, s.limit)

  walk_is : start_fault order level f ≡ 0 → walk_file order level f ≡ walk_list (order_named order) (class_of level) 8 file 9 (drop 9 f)
  unfolding walk_file
  walk_is e = rw (eq-eqb (start_fault order level f) 0 e)

  -- ---- the run that counts
  pub survey_start : {e : ℕ} → e ≡ start_fault order level f → (e ≡ 0 → ⊥) → Fault e (byte_at 0) ≡ surveyed (walk_file order level f)
  unfolding walk_file
  survey_start {e} q h = rw (← q, ne_eqb e 0 h)

  pub tags_bounds : 9 ≤ length f → length f ≤ 16777216 → Bounds 8 9 (length (piece 9 (length f) f)) 1 0
  tags_bounds l h = record { depth = omega arith; place = omega (arith, length_piece 9 (length f) f (omega arith)); index = omega arith; row = omega arith }

  -- what was left, field by field
  pub left_is : {t t' g g' : List ℕ} {x x' : Walked} {l : Listed} → t ≡ t' → g ≡ g' → x ≡ x' → listed t' g' x' ≡ l → listed t g x ≡ l
  left_is p q r h = (λ i. record { table = p i; rows = q i; answer = r i }) ∙ h

  -- by the classes that were lent
  pub tags_read : (o : Order) (scope : Scope) (t g : List ℕ) (cs : List Class) → Classed scope level cs → {x : Listed} → x ≡ walk_over t 1 g 0 (walk_list o (classes_in cs) 8 file 9 (piece 9 (length f) f)) → x ≡ walk_over t 1 g 0 (walk_list o (class_by scope level) 8 file 9 (drop 9 f))
  tags_read o scope t g cs k e = e ∙ ap (λ (class : ℕ → paper.Class). walk_over t 1 g 0 (walk_list o class 8 file 9 (piece 9 (length f) f))) (λ i. λ code. class_level cs scope level k code i) ∙ ap (λ (r : List ℕ). walk_over t 1 g 0 (walk_list o (class_by scope level) 8 file 9 r)) (piece_rest 9 f)

  pub survey_walk : (o : Order) (t g : List ℕ) {t' g' : List ℕ} {x : Walked} → o ≡ order_named order → start_fault order level f ≡ 0 → listed t' g' x ≡ walk_over t 1 g 0 (walk_list o (class_of level) 8 file 9 (drop 9 f)) → x ≡ surveyed (walk_file order level f)
  survey_walk o t g q z e = ap (λ (l : Listed). l.answer) e ∙ rw (zero-add, q, walk_is z)

  -- ---- what it tells
  abbrev w : Walk
  w = walk_file order level f

  -- it found a refusal
  pub survey_refused : {e : ℕ} {n : BytePlace} → Fault e n ≡ surveyed w → (ns : List ℕ) → refuses e n.0 ≡ result ns w.ended
  survey_refused {e} {n} q ns = go w.ended q
    where
      go : (z : Outcome) → Fault e n ≡ walked_of (1 + length (numbers w.tags)) (length (tag_table w.tags)) z → refuses e n.0 ≡ result ns z
      go whole q = cc
      go (fault e' n') q = cc

  -- it found none, and the two counts
  pub record Found (k m : ℕ) : Type 0 where
    pub ended : w.ended ≡ whole
    pub numbers_are : k ≡ length (table f w)
    pub rows_are : m ≡ length (tag_table w.tags)
    pub start : start_fault order level f ≡ 0

  pub survey_found : {k m : ℕ} → Next k m ≡ surveyed w → Found k m
  survey_found {k} {m} q =
      let u : (w.ended ≡ whole) × (k ≡ length (table f w)) × (m ≡ length (tag_table w.tags)) = go w.ended q in
      record { ended = u.0; numbers_are = u.1; rows_are = u.2; start = whole_start order level f u.0 }
    where
      go : (z : Outcome) → Next k m ≡ walked_of (1 + length (numbers w.tags)) (length (tag_table w.tags)) z → (z ≡ whole) × (k ≡ length (table f w)) × (m ≡ length (tag_table w.tags))
      go whole q = (refl, (let z : k ≡ 1 + length (numbers w.tags) = cc in omega arith), cc)
      go (fault e n) q = clash cc

-- ---- what a call leaves: the lent memory m, and the numbers ns for it
module _ (m ns : List ℕ) where
  -- it has no room for them
  short_of : {k : ℕ} → k ≡ length ns → length m < k → leaves m (Refused TableTooShort k) ≡ into m (gives ns)
  short_of {k} e h = rw (e, lt-leb (length ns) (length m) (omega arith))

  -- they are laid over its start
  laid_in : {k : ℕ} {t : List ℕ} → k ≡ length ns → k ≤ length m → t ≡ sets m 0 ns → leaves t (Accepted k) ≡ into m (gives ns)
  laid_in {k} {t} e h d =
      let s : sets m 0 ns ≡ ns ++ drop (length ns) m = sets-eq ns m 0 (omega arith) ∙ ap (λ (i : ℕ). ns ++ drop i m) (zero-add (length ns)) in
      rw (e, le-leb (length ns) (length m) (omega arith), d, s)

module _ (order level : ℕ) (f m : List ℕ) where
  -- ---- `read`
  pub read_refused : (e : Reason) {n : BytePlace} → Fault (number_of e) n ≡ surveyed (walk_file order level f) → leaves m (Refused e n.0) ≡ into m (read_file order level f)
  unfolding read_file
  read_refused e q = ap (into m) (survey_refused order level f q (table f (walk_file order level f)))

  read_is : {k j : ℕ} → Found order level f k j → read_file order level f ≡ gives (table f (walk_file order level f))
  unfolding read_file
  read_is u = ap (result (table f (walk_file order level f))) u.ended

  pub read_short : {k j : ℕ} → Next k j ≡ surveyed (walk_file order level f) → length m < k → leaves m (Refused TableTooShort k) ≡ into m (read_file order level f)
  read_short q h = short_of m (table f (walk_file order level f)) (survey_found order level f q).numbers_are h ∙ ap (into m) (sym (read_is (survey_found order level f q)))

  -- the compression byte c was stored first
  pub read_done : {k j c : ℕ} (o : Order) (g : List ℕ) {t g' : List ℕ} {x : Walked} → o ≡ order_named order → Next k j ≡ surveyed (walk_file order level f) → k ≤ length m → c ≡ get_or f 8 0
      → listed t g' x ≡ walk_over (set m 0 c) 1 g 0 (walk_list o (class_of level) 8 file 9 (drop 9 f)) → leaves t (Accepted k) ≡ into m (read_file order level f)
  read_done o g n q h e d =
      let u : Found order level f _ _ = survey_found order level f q in
      laid_in m (table f (walk_file order level f)) u.numbers_are h (ap (λ (l : Listed). l.table) d ∙ rw (e, n, walk_is order level f u.start)) ∙ ap (into m) (sym (read_is u))

  -- ---- `tags`
  pub tags_refused : (e : Reason) {n : BytePlace} → Fault (number_of e) n ≡ surveyed (walk_file order level f) → leaves m (Refused e n.0) ≡ into m (read_tags order level f)
  unfolding read_tags
  tags_refused e q = ap (into m) (survey_refused order level f q (tag_table (walk_file order level f).tags))

  tags_are : {k j : ℕ} → Found order level f k j → read_tags order level f ≡ gives (tag_table (walk_file order level f).tags)
  unfolding read_tags
  tags_are u = ap (result (tag_table (walk_file order level f).tags)) u.ended

  pub tags_short : {k j : ℕ} → Next k j ≡ surveyed (walk_file order level f) → length m < j → leaves m (Refused TableTooShort j) ≡ into m (read_tags order level f)
  tags_short q h = short_of m (tag_table (walk_file order level f).tags) (survey_found order level f q).rows_are h ∙ ap (into m) (sym (tags_are (survey_found order level f q)))

  -- the run that fills read the lists alone
  pub tags_done : {k j : ℕ} (o : Order) (t : List ℕ) {t' g : List ℕ} {x : Walked} → o ≡ order_named order → Next k j ≡ surveyed (walk_file order level f) → j ≤ length m
      → listed t' g x ≡ walk_over t 1 m 0 (walk_list o (class_by Lists level) 8 file 9 (drop 9 f)) → leaves g (Accepted j) ≡ into m (read_tags order level f)
  tags_done o t n q h d =
      let u : Found order level f _ _ = survey_found order level f q in
      let e : (walk_list (order_named order) (class_of level) 8 file 9 (drop 9 f)).ended ≡ whole = ap (λ (w : Walk). w.ended) (sym (walk_is order level f u.start)) ∙ u.ended in
      laid_in m (tag_table (walk_file order level f).tags) u.rows_are h
      (ap (λ (l : Listed). l.rows) d ∙ ap (λ (p : Order). sets m 0 (tag_table (walk_list p (class_by Lists level) 8 file 9 (drop 9 f)).tags)) n ∙ ap (sets m 0) (skim_rows (order_named order) level 8 file 9 (drop 9 f) e).1 ∙ rw (walk_is order level f u.start)) ∙ ap (into m) (sym (tags_are u))
