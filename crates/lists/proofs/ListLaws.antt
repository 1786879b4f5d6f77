-- A list, read tag by tag: the tags that were passed, laid over the two tables, and the walk of what is left.
use Prim.Native.Nat.{ℕ, zero, suc, pred, ◌+◌, ◌-◌, ◌*◌, ◌/◌, ◌≤◌, ◌<◌}
use mathlib.Core.List.{List, [], ◌∷◌, ◌++◌, append-nil}
use mathlib.Core.Path.{◌≡◌, refl, ap, sym, subst, ◌∙◌}
use mathlib.Core.Bool.{Bool, true, false}
use native.Mathlib.Nat.{add-zero, add_assoc}
use native.Mathlib.Omega.{arith}
use lib.ListN.{length, take, drop, length-append, length-drop}
use lib.Seq.{sets, length-take-le, drop-drop, drop-length, take_all, take-nil}
use lib.Dec.{eqb}
use borrow.Author.Tests.{eqb-true, eqb-false}
use Rattle.std.proofs.Common.{Option}
use Rattle.format.specs.Tests.{pick}
use Rattle.format.specs.Bits.{Order}
use Rattle.format.specs.Reading.{Ending, At, Fault, Reading}
use Rattle.format.specs.Items.{to_byte}
use Rattle.format.specs.Bodies.{fixed, attributes, to_end, read_body}
use Rattle.format.specs.FileAndTags as paper
use Rattle.format.specs.FileAndTags.{le16, state_of, Tag, Outcome, whole, fault, Walk, no_tags, broken, chain, head, no_head, read_head, blame, at_end, after_tag, TagInside, end_at, leaf, opened, within, tag_then, walk_list}
use Rattle.format.specs.TableOfNumbers.{numbers, tag_table}
use Rattle.format.proofs.EngineLaws.{chain_chain, numbers_append, tag_table_append}
use Rattle.format.proofs.ListLaws.{list_nil, list_fault, list_tag}
use Rattle.format.proofs.RoomLaws.{Room, walk_room, tag_table_length}
use Rattle.format.proofs.WalkLaws.{Fits, head_fits}
use Rattle.format.proofs.Absurd.{clash}
use Rattle.table.proofs.EngineLaws.{sets_append}
use Rattle.attributes.specs.Rows.{attributes_of}
use Rattle.fixed.specs.Fixed.{fixed_of}
use Rattle.bodies.specs.Leaf.{container_body, has_list_in}
use Rattle.classes.specs.Classes.{bare, ends, contains}
use Rattle.classes.specs.declared.Class.{Class}
use Rattle.classes.specs.declared.Class.TheVariants.{Opaque, End, Container, Fixed, Attributes}
use Rattle.headers.specs.Heads.{head_by}
use Rattle.headers.proofs.HeadLaws.{head_by_lem}
use Rattle.tags.specs.Shown.{values_of, list_of}
use Rattle.tags.specs.Lent.{class_with, class_in, classes_in, Tabled}
use Rattle.tags.proofs.TagLaws.{values_le}
use Rattle.tags.proofs.LentLaws.{fair_in, with_named}
use Rattle.bits.specs.declared.BytePlace.{BytePlace}
use Rattle.lists.specs.Lists.{owner_of, byte_at, tag_shown, step_of, Stepped, stepped, tag_at, last_of, Listed, listed, walked_of, walk_over, Bounds}
use Rattle.lists.specs.Steps.{Opened, Step}
use Rattle.lists.specs.Steps as step
use Rattle.lists.specs.Walks.{Walked}
use Rattle.lists.specs.Walks as walked

-- ---- parts of a list
-- from f up to t, as the code takes it
abbrev pub piece : ℕ → ℕ → List ℕ → List ℕ
piece f t r = take (t - f) (drop f r)

pub length_piece : (f t : ℕ) (r : List ℕ) → t ≤ length r → length (piece f t r) ≡ t - f
length_piece f t r h = length-take-le (t - f) (drop f r) (rw length-drop (omega arith))

pub drop_take : (q n : ℕ) (l : List ℕ) → drop q (take n l) ≡ take (n - q) (drop q l)
drop_take zero n l = let e : n - 0 ≡ n = omega arith in rw e
drop_take (suc q) zero l = let e : 0 - suc q ≡ 0 = omega arith in rw e
drop_take (suc q) (suc n) [] = sym (take-nil (suc n - suc q))
drop_take (suc q) (suc n) (x ∷ l) = let e : n - q ≡ suc n - suc q = omega arith in drop_take q n l ∙ ap (λ (m : ℕ). take m (drop q l)) e

pub piece_rest : (f : ℕ) (r : List ℕ) → piece f (length r) r ≡ drop f r
piece_rest f r = take_all (length r - f) (drop f r) (rw length-drop (omega arith))

pub pred_is : (n : ℕ) → pred n ≡ n - 1
pred_is zero = refl
pred_is (suc n) = omega arith

pub positive : (n : ℕ) → (n ≡ 0 → ⊥) → 1 ≤ n
positive zero h = absurd (h refl)
positive (suc n) h = omega arith

-- ---- what stands in a tag, by the name of its class

-- the walk inside it, by whether it has a list, which R reads
abbrev pub walk_of : (paper.Owner → ℕ → List ℕ → Walk) → Bool → ℕ → ℕ → List ℕ → Ending → Walk
walk_of R list a s body (At p) = pick list (R (paper.inside a) (s + to_byte p) (drop (to_byte p) body)) (no_tags whole)
walk_of R list a s body (Fault e) = broken e a

abbrev pub inside_of : Order → (paper.Owner → ℕ → List ℕ → Walk) → Class → ℕ → ℕ → ℕ → List ℕ → TagInside
inside_of o R c code a s body =
    record { values = (values_of o c code body).shown; walk = walk_of R (list_of o c code body) a s body (values_of o c code body).ended }

pub within_is : (o : Order) (R : paper.Owner → ℕ → List ℕ → Walk) (ns : List Class) (code a s : ℕ) (body : List ℕ)
    → within o R (classes_in ns code) a s body ≡ inside_of o R (class_in ns code) code a s body
within_is o R ns code a s body = go (class_in ns code)
  where
    leaf_is : (r : Reading) → leaf a r ≡ record { values = r.shown; walk = walk_of R false a s body r.ended }
    leaf_is r = by r.ended
      where
        by : (z : Ending) → ◌≡◌ {A = TagInside} (record { values = r.shown; walk = no_tags (end_at a z) }) (record { values = r.shown; walk = walk_of R false a s body z })
        by (At p) = refl
        by (Fault e) = refl

    opened_is : (xs : List ℕ) (z : Ending) → opened R a s body xs z ≡ record { values = xs; walk = walk_of R true a s body z }
    opened_is xs (At p) = refl
    opened_is xs (Fault e) = refl

    -- with a list, or without
    own : (list : Bool) (f r : Reading) → pick list (opened R a s body f.shown f.ended) (leaf a r) ≡ record { values = (pick list f r).shown; walk = walk_of R list a s body (pick list f r).ended }
    own true f r = opened_is f.shown f.ended
    own false f r = leaf_is r

    go : (c : Class) → within o R (class_with c code) a s body ≡ inside_of o R c code a s body
    go Opaque = refl
    go End = refl
    go Container = own (has_list_in o (container_body code) body) (to_end o body (container_body code)) (read_body o (container_body code) body)
    go Fixed = leaf_is (read_body o (fixed (fixed_of code)) body)
    go Attributes = leaf_is (read_body o (attributes (attributes_of code)) body)

-- what a step says of the class c and of the walk w inside the tag, whose body stands from `start` up to `stop` of the list at place a
abbrev Follows : (paper.Owner → ℕ → List ℕ → Walk) → ℕ → ℕ → ℕ → ℕ → List ℕ → Class → Walk → ℕ → Step → Type 0
Follows R a place start stop body c w j (step.Fault e) = w ≡ broken e place
Follows R a place start stop body c w j (step.Next p n) = (p.0 ≡ stop) × (n ≡ j) × (ends c ≡ false) × (w ≡ no_tags whole)
Follows R a place start stop body c w j (step.Last p n) = (p.0 ≡ stop) × (n ≡ j) × (ends c ≡ true) × (w ≡ no_tags whole)
Follows R a place start stop body c w j (step.Open x) =
    (x.stop.0 ≡ stop) × (x.behind ≡ j) × (ends c ≡ false) × (contains c ≡ true) × (start ≤ x.list.0) × (x.list.0 ≤ start + length body)
    × (w ≡ R (paper.inside place) (a + x.list.0) (drop (x.list.0 - start) body))

follows : (o : Order) (R : paper.Owner → ℕ → List ℕ → Walk) (a place start stop code j : ℕ) (body : List ℕ) (c : Class)
    → Follows R a place start stop body c (walk_of R (list_of o c code body) place (a + start) body (values_of o c code body).ended) j (step_of c (list_of o c code body) start stop j (values_of o c code body).ended)
follows o R a place start stop code j body c = go c (list_of o c code body) refl (values_of o c code body).ended refl
  where
    go : (c : Class) (l : Bool) → list_of o c code body ≡ l → (z : Ending) → (values_of o c code body).ended ≡ z → Follows R a place start stop body c (walk_of R l place (a + start) body z) j (step_of c l start stop j z)
    go c l f (Fault x) e = refl
    go Container true f (At p) e =
        let q : start + p / 8 - start ≡ p / 8 = omega arith in
        let r : a + start + p / 8 ≡ a + (start + p / 8) = omega arith in
        (refl, refl, refl, refl, omega arith, omega (arith, values_le o Container code body p e), rw (q, r))
    go Opaque true f (At p) e = clash cc
    go End true f (At p) e = clash cc
    go Fixed true f (At p) e = clash cc
    go Attributes true f (At p) e = clash cc
    go Opaque false f (At p) e = (refl, refl, refl, refl)
    go End false f (At p) e = (refl, refl, refl, refl)
    go Container false f (At p) e = (refl, refl, refl, refl)
    go Fixed false f (At p) e = (refl, refl, refl, refl)
    go Attributes false f (At p) e = (refl, refl, refl, refl)

-- ---- tags laid over the two tables

-- field by field
listed_eq : {t t' g g' : List ℕ} {x x' : Walked} → t ≡ t' → g ≡ g' → x ≡ x' → listed t g x ≡ listed t' g' x'
listed_eq p q r = λ i. record { table = p i; rows = q i; answer = r i }

-- the list of the owner at place a, whose room is r, over the tables t₀ from k on and g₀ from m on
module _ (o : Order) (ns : List Class) (depths : ℕ) (own : paper.Owner) (a : ℕ) (r t₀ : List ℕ) (k : ℕ) (g₀ : List ℕ) (m : ℕ) where
  abbrev from : ℕ → Walk
  from i = walk_list o (classes_in ns) depths own (a + i) (drop i r)

  abbrev all : Walk
  all = walk_list o (classes_in ns) depths own a r

  -- some tags were passed, and `rest` is the walk of what is left
  pub record Passed (t g : List ℕ) (j w : ℕ) (rest : Walk) : Type 0 where
    pub tags : List Tag
    pub split : all ≡ chain tags whole rest
    pub table : t ≡ sets t₀ k (numbers tags)
    pub rows : g ≡ sets g₀ m (tag_table tags)
    pub index : j ≡ k + length (numbers tags)
    pub row : w ≡ m + length (tag_table tags)

  pub record Going (t g : List ℕ) (i j w : ℕ) : Type 0 where
    pub inside : i ≤ length r
    pub passed : Passed t g j w (from i)

  pub going_start : Going t₀ g₀ 0 k m
  going_start = record {
    inside = omega arith;
    passed = record { tags = []; split = rw (add-zero a); table = refl; rows = refl; index = sym (add-zero k); row = sym (add-zero m) };
  }

  -- the indexes stay in the list's room
  pub passed_room : Tabled ns → {t g : List ℕ} {j w : ℕ} (rest : Walk) → Passed t g j w rest → (j ≤ k + 8 * length r) × (w ≤ m + 5 * length r)
  passed_room tabled rest s =
      let u : Room (length r) all = walk_room o (classes_in ns) (fair_in o tabled) (length r) depths own a r in
      let ns : length (numbers all.tags) ≡ length (numbers s.tags) + length (numbers rest.tags) =
      ap (λ (w : Walk). length (numbers w.tags)) s.split ∙ ap length (numbers_append s.tags rest.tags) ∙ length-append (numbers s.tags) (numbers rest.tags) in
      let ts : length all.tags ≡ length s.tags + length rest.tags = ap (λ (w : Walk). length w.tags) s.split ∙ length-append s.tags rest.tags in
      (omega (arith, s.index, u.count, ns), omega (arith, s.row, u.tags, ts, tag_table_length s.tags))

  -- ---- the end
  pub passed_fault : {t g : List ℕ} {j w : ℕ} (rest : Walk) {e n : ℕ} → Passed t g j w rest → rest ≡ broken e n → listed t g (walked.Fault e (byte_at n)) ≡ walk_over t₀ k g₀ m all
  passed_fault rest s z =
      let e : all ≡ chain s.tags whole (broken _ _) = s.split ∙ ap (chain s.tags whole) z in
      let ts : s.tags ++ [] ≡ s.tags = append-nil s.tags in
      listed_eq s.table s.rows refl ∙ sym (ap (walk_over t₀ k g₀ m) e ∙ rw ts)

  pub passed_whole : {t g : List ℕ} {j w : ℕ} (rest : Walk) → Passed t g j w rest → rest ≡ no_tags whole → listed t g (walked.Next j w) ≡ walk_over t₀ k g₀ m all
  passed_whole rest s z =
      let e : all ≡ chain s.tags whole (no_tags whole) = s.split ∙ ap (chain s.tags whole) z in
      let ts : s.tags ++ [] ≡ s.tags = append-nil s.tags in
      let x : walked.Next _ _ ≡ walked.Next (k + length (numbers s.tags)) (m + length (tag_table s.tags)) = λ i. walked.Next (s.index i) (s.row i) in
      listed_eq s.table s.rows x ∙ sym (ap (walk_over t₀ k g₀ m) e ∙ rw ts)

  -- ---- more tags
  pub passed_more : {t g t' g' : List ℕ} {j w j' w' : ℕ} (ts : List Tag) (rest : Walk) → Passed t g j w (chain ts whole rest)
      → t' ≡ sets t j (numbers ts) → g' ≡ sets g w (tag_table ts) → j' ≡ j + length (numbers ts) → w' ≡ w + length (tag_table ts) → Passed t' g' j' w' rest
  passed_more ts rest s p q x y = record {
    tags = s.tags ++ ts;
    split = s.split ∙ chain_chain s.tags ts whole rest;
    table = p ∙ rw (s.table, s.index, numbers_append s.tags ts, sets_append t₀ k (numbers s.tags) (numbers ts));
    rows = q ∙ rw (s.rows, s.row, tag_table_append s.tags ts, sets_append g₀ m (tag_table s.tags) (tag_table ts));
    index = x ∙ rw (s.index, numbers_append s.tags ts, length-append, add_assoc);
    row = y ∙ rw (s.row, tag_table_append s.tags ts, length-append, add_assoc);
  }

  -- tags whose list ended by a fault
  passed_cut : {t g t' g' : List ℕ} {j w : ℕ} (ts : List Tag) (rest : Walk) {e n : ℕ} → Passed t g j w (chain ts (fault e n) rest)
      → t' ≡ sets t j (numbers ts) → g' ≡ sets g w (tag_table ts) → listed t' g' (walked.Fault e (byte_at n)) ≡ walk_over t₀ k g₀ m all
  passed_cut ts rest {e} {n} s p q =
      let f : all ≡ record { tags = s.tags ++ ts; ended = fault e n } = s.split ∙ chain_chain s.tags ts (fault e n) rest in
      listed_eq (p ∙ rw (s.table, s.index, numbers_append s.tags ts, sets_append t₀ k (numbers s.tags) (numbers ts)))
      (q ∙ rw (s.rows, s.row, tag_table_append s.tags ts, sets_append g₀ m (tag_table s.tags) (tag_table ts))) refl
      ∙ sym (ap (walk_over t₀ k g₀ m) f)

  -- the list of a container, read from here on
  pub inner_next : {t g t' g' : List ℕ} {j w j' w' : ℕ} (inner rest : Walk) → Passed t g j w (chain inner.tags inner.ended rest)
      → listed t' g' (walked.Next j' w') ≡ walk_over t j g w inner → Passed t' g' j' w' rest
  inner_next {t} {g} {t'} {g'} {j} {w} {j'} {w'} inner rest s e = go inner.ended s (ap (λ (l : Listed). l.answer) e)
    where
      go : (z : Outcome) → Passed t g j w (chain inner.tags z rest) → walked.Next j' w' ≡ walked_of (j + length (numbers inner.tags)) (w + length (tag_table inner.tags)) z → Passed t' g' j' w' rest
      go whole s f =
          let x : j' ≡ j + length (numbers inner.tags) = cc in
          let y : w' ≡ w + length (tag_table inner.tags) = cc in
          passed_more inner.tags rest s (ap (λ (l : Listed). l.table) e) (ap (λ (l : Listed). l.rows) e) x y
      go (fault x n) s f = clash cc

  pub inner_fault : {t g t' g' : List ℕ} {j w x : ℕ} {n : BytePlace} (inner rest : Walk) → Passed t g j w (chain inner.tags inner.ended rest)
      → listed t' g' (walked.Fault x n) ≡ walk_over t j g w inner → listed t' g' (walked.Fault x n) ≡ walk_over t₀ k g₀ m all
  inner_fault {t} {g} {t'} {g'} {j} {w} {x} {n} inner rest s e = go inner.ended s (ap (λ (l : Listed). l.answer) e)
    where
      go : (z : Outcome) → Passed t g j w (chain inner.tags z rest) → walked.Fault x n ≡ walked_of (j + length (numbers inner.tags)) (w + length (tag_table inner.tags)) z
          → listed t' g' (walked.Fault x n) ≡ walk_over t₀ k g₀ m all
      go whole s f = cc
      go (fault y z) s f =
          ap (λ (v : Walked). listed t' g' v) f ∙ passed_cut inner.tags rest s (ap (λ (l : Listed). l.table) e) (ap (λ (l : Listed). l.rows) e)

  -- the walk of what is left, put otherwise
  passed_as : {t g : List ℕ} {j w : ℕ} (rest rest' : Walk) → rest ≡ rest' → Passed t g j w rest → Passed t g j w rest'
  passed_as {t} {g} {j} {w} rest rest' e s = subst (λ (z : Walk). Passed t g j w z) e s

  -- a tag's own numbers, and its row
  passed_tag : {t g t' g' : List ℕ} {j w j' w' : ℕ} (d code p size len s : ℕ) (i : TagInside) (rest : Walk) → Passed t g j w (tag_then d code p size len s i rest)
      → t' ≡ sets t j (code ∷ s ∷ length i.values ∷ i.values) → g' ≡ sets g w (d ∷ code ∷ p ∷ size ∷ len ∷ [])
      → j' ≡ j + (3 + length i.values) → w' ≡ w + 5 → Passed t' g' j' w' (chain i.walk.tags i.walk.ended rest)
  passed_tag {t} {g} {t'} {g'} {j} {w} {j'} {w'} d code p size len s i rest h x y q z =
      let tag : Tag = record { depth = d; code = code; place = p; header_size = size; body_length = len; state = s; values = i.values } in
      let n : i.values ++ [] ≡ i.values = append-nil i.values in
      let x' : t' ≡ sets t j (numbers (tag ∷ [])) = rw n x in
      let q' : j' ≡ j + length (numbers (tag ∷ [])) = q ∙ rw n (omega arith) in
      passed_more (tag ∷ []) (chain i.walk.tags i.walk.ended rest)
      (passed_as (tag_then d code p size len s i rest) (chain (tag ∷ []) whole (chain i.walk.tags i.walk.ended rest)) (sym (chain_chain (tag ∷ []) i.walk.tags i.walk.ended rest)) h)
      x' y q' z

  -- ---- the room is used up
  pub used_up_lem : {t g : List ℕ} {i j w : ℕ} → Going t g i j w → length r ≤ i → {n : BytePlace} → n.0 ≡ blame own (a + length r) → listed t g (walked.Fault 7 n) ≡ walk_over t₀ k g₀ m all
  used_up_lem {t} {g} {i} {j} {w} go l {n} e =
      let z : i ≡ length r = omega (arith, go.inside) in
      let d : drop i r ≡ [] = rw z (drop-length r) in
      let f : from i ≡ broken 7 (blame own (a + i)) = rw d (list_nil o (classes_in ns) depths own (a + i)) in
      passed_fault (from i) go.passed (f ∙ ap (λ (x : ℕ). broken 7 (blame own (a + x))) z ∙ ap (broken 7) (sym e))

  -- the tag at i is a container, whose list has the room from l up to p; n and m' are the next indexes
  pub record Opens (t g : List ℕ) (i l p n m' : ℕ) : Type 0 where
    pub deep : 1 ≤ depths
    pub ahead : i < p
    pub order : l ≤ p
    pub inside : p ≤ length r
    pub passed : Passed t g n m'
        (chain (walk_list o (classes_in ns) (pred depths) (paper.inside (a + i)) (a + l) (piece l p r)).tags
        (walk_list o (classes_in ns) (pred depths) (paper.inside (a + i)) (a + l) (piece l p r)).ended (from p))

  -- ---- the tag at i
  module _ {t g : List ℕ} {i j w : ℕ} (going : Going t g i j w) (some : i < length r) where
    left_over : 0 < length (drop i r)
    left_over = rw length-drop (omega arith)

    head_fault : {e : ℕ} → read_head (classes_in ns) depths (drop i r) ≡ no_head e → listed t g (walked.Fault e (byte_at (a + i))) ≡ walk_over t₀ k g₀ m all
    head_fault {e} is = passed_fault (from i) going.passed (list_fault o (classes_in ns) depths own (a + i) (drop i r) e left_over is)

    -- its header passes
    module _ {code len size : ℕ} (stands : read_head (classes_in ns) depths (drop i r) ≡ head code len size) where
      fits : Fits (classes_in ns) depths (drop i r) (head code len size)
      fits = subst (Fits (classes_in ns) depths (drop i r)) stands (head_fits (classes_in ns) depths (drop i r))

      abbrev R : paper.Owner → ℕ → List ℕ → Walk
      R = walk_list o (classes_in ns) (pred depths)

      abbrev start : ℕ
      start = i + size

      abbrev stop : ℕ
      stop = i + size + len

      abbrev body : List ℕ
      body = take len (drop size (drop i r))

      abbrev c : Class
      c = class_in ns code

      abbrev inner : Walk
      inner = walk_of R (list_of o c code body) (a + i) (a + start) body (values_of o c code body).ended

      abbrev later : Bool → Walk
      later b = after_tag b own (a + stop) (drop stop r) (walk_list o (classes_in ns) depths own)

      abbrev t' : List ℕ
      t' = sets t j (tag_shown o c code len size body).shown

      abbrev g' : List ℕ
      g' = sets g w ((8 - depths) ∷ code ∷ (a + i) ∷ size ∷ len ∷ [])

      abbrev j' : ℕ
      j' = j + length (tag_shown o c code len size body).shown

      stop_fits : (i < stop) × (stop ≤ length r)
      stop_fits = (omega (arith, fits.0), omega (arith, fits.1, length-drop i r))

      body_length_lem : length body ≡ len
      body_length_lem = length-take-le len (drop size (drop i r)) (rw (length-drop, length-drop) (omega (arith, stop_fits.1)))

      tag_is : from i ≡ tag_then (8 - depths) code (a + i) size len (state_of (bare c) size len) (inside_of o R c code (a + i) (a + start) body) (later (ends c))
      tag_is =
          let p : a + i + size ≡ a + start = omega arith in
          let q : a + i + size + len ≡ a + stop = omega arith in
          let n : i + (size + len) ≡ stop = omega arith in
          let d : drop (size + len) (drop i r) ≡ drop stop r = drop-drop (size + len) i r ∙ ap (λ (n : ℕ). drop n r) n in
          list_tag o (classes_in ns) depths own (a + i) (drop i r) code len size left_over stands
          ∙ rw (q, p, d, (with_named c code).0, (with_named c code).2, within_is o R ns code (a + i) (a + start) body)

      tag_passed : Passed t' g' j' (w + 5) (chain inner.tags inner.ended (later (ends c)))
      tag_passed = passed_tag (8 - depths) code (a + i) size len (state_of (bare c) size len) (inside_of o R c code (a + i) (a + start) body) (later (ends c))
          (passed_as (from i) (tag_then (8 - depths) code (a + i) size len (state_of (bare c) size len) (inside_of o R c code (a + i) (a + start) body) (later (ends c))) tag_is going.passed) refl refl (omega arith) refl

      -- the step after it
      module _ (S : Step) (next : S ≡ step_of c (list_of o c code body) start stop j' (values_of o c code body).ended) where
        tag_follows : Follows R a (a + i) start stop body c inner j' S
        tag_follows = subst (Follows R a (a + i) start stop body c inner j') (sym next) (follows o R a (a + i) start stop code j' body c)

        -- a reason
        stood_fault : {e : ℕ} → S ≡ step.Fault e → listed t' g' (walked.Fault e (byte_at (a + i))) ≡ walk_over t₀ k g₀ m all
        stood_fault {e} z =
            let f : inner ≡ broken e (a + i) = subst (Follows R a (a + i) start stop body c inner j') z tag_follows in
            passed_fault (chain inner.tags inner.ended (later (ends c))) tag_passed (ap (λ (v : Walk). chain v.tags v.ended (later (ends c))) f)

        -- nothing more stands in it
        nothing_inside : {b : Bool} → ends c ≡ b → inner ≡ no_tags whole → chain inner.tags inner.ended (later (ends c)) ≡ later b
        nothing_inside {b} e f = ap (λ (v : Walk). chain v.tags v.ended (later (ends c))) f ∙ ap (λ (x : Bool). chain [] whole (later x)) e

        -- End
        stood_last : {p : BytePlace} {n : ℕ} {x : Walked} (own' : Option BytePlace) → own ≡ owner_of own' → S ≡ step.Last p n → x ≡ walked_of n (w + 5) (last_of own' a p.0 (length r)) → listed t' g' x ≡ walk_over t₀ k g₀ m all
        stood_last {p} {n} {x} own' is z e =
            let f : (p.0 ≡ stop) × (n ≡ j') × (ends c ≡ true) × (inner ≡ no_tags whole) = subst (Follows R a (a + i) start stop body c inner j') z tag_follows in
            ap (listed t' g') (e ∙ rw (f.0, f.1)) ∙ go (eqb stop (length r)) refl (drop stop r) refl
            (passed_as (chain inner.tags inner.ended (later (ends c))) (later true) (nothing_inside f.2 f.3) tag_passed)
          where
            go : (y : Bool) → eqb stop (length r) ≡ y → (q : List ℕ) → drop stop r ≡ q → Passed t' g' j' (w + 5) (at_end own (a + stop) (drop stop r))
                → listed t' g' (walked_of j' (w + 5) (pick y whole (fault 11 (blame (owner_of own') (a + stop))))) ≡ walk_over t₀ k g₀ m all
            go true u [] v s = passed_whole (at_end own (a + stop) (drop stop r)) s (ap (at_end own (a + stop)) v)
            go true u (y ∷ q) v s = absurd (omega (arith, eqb-true stop (length r) u, ap length v, length-drop stop r))
            go false u [] v s = absurd (eqb-false stop (length r) u (omega (arith, ap length v, length-drop stop r, stop_fits.1)))
            go false u (y ∷ q) v s = passed_fault (at_end own (a + stop) (drop stop r)) s (ap (at_end own (a + stop)) v ∙ ap (λ (b : paper.Owner). broken 11 (blame b (a + stop))) is)

        stood_stops : {p : BytePlace} {n : ℕ} → S ≡ step.Last p n → p.0 ≤ length r
        stood_stops {p} {n} z =
            let f : (p.0 ≡ stop) × (n ≡ j') × (ends c ≡ true) × (inner ≡ no_tags whole) = subst (Follows R a (a + i) start stop body c inner j') z tag_follows in
            omega (arith, f.0, stop_fits.1)

        -- another tag may follow
        stood_next : {p : BytePlace} {n : ℕ} → S ≡ step.Next p n → (i < p.0) × Going t' g' p.0 n (w + 5)
        stood_next {p} {n} z =
            let f : (p.0 ≡ stop) × (n ≡ j') × (ends c ≡ false) × (inner ≡ no_tags whole) = subst (Follows R a (a + i) start stop body c inner j') z tag_follows in
            rw (f.0, f.1) (stop_fits.0, record { inside = stop_fits.1; passed = passed_as (chain inner.tags inner.ended (later (ends c))) (from stop) (nothing_inside f.2 f.3) tag_passed })

        -- a container: its list starts at l
        stood_open : (op : Opened) → S ≡ step.Open op → Opens t' g' i op.list.0 op.stop.0 op.behind (w + 5)
        stood_open op z =
            let l : ℕ = op.list.0 in
            let f : (op.stop.0 ≡ stop) × (op.behind ≡ j') × (ends c ≡ false) × (contains c ≡ true) × (start ≤ l) × (l ≤ start + length body) × (inner ≡ R (paper.inside (a + i)) (a + l) (drop (l - start) body)) =
            subst (Follows R a (a + i) start stop body c inner j') z tag_follows in
            let d : pick true (eqb depths 0) false ≡ false = subst (λ (b : Bool). pick b (eqb depths 0) false ≡ false) ((with_named c code).1 ∙ f.3) fits.3 in
            let q : len - (l - start) ≡ stop - l = omega (arith, f.4) in
            let q' : i + (size + (l - start)) ≡ l = omega (arith, f.4) in
            let room : drop (l - start) body ≡ piece l stop r =
            drop_take (l - start) len (drop size (drop i r)) ∙ rw (q, drop-drop (l - start) size (drop i r), drop-drop (size + (l - start)) i r) (ap (λ (v : ℕ). take (stop - l) (drop v r)) q') in
            let e : chain inner.tags inner.ended (later (ends c)) ≡ chain (R (paper.inside (a + i)) (a + l) (piece l stop r)).tags (R (paper.inside (a + i)) (a + l) (piece l stop r)).ended (from stop) =
            ap (λ (v : Walk). chain v.tags v.ended (later (ends c))) (f.6 ∙ ap (R (paper.inside (a + i)) (a + l)) room)
            ∙ ap (λ (b : Bool). chain (R (paper.inside (a + i)) (a + l) (piece l stop r)).tags (R (paper.inside (a + i)) (a + l) (piece l stop r)).ended (later b)) f.2 in
            record {
              deep = positive depths (eqb-false depths 0 d);
              ahead = omega (arith, f.0, stop_fits.0);
              order = omega (arith, f.0, f.5, body_length_lem);
              inside = omega (arith, f.0, stop_fits.1);
              passed = rw (f.0, f.1) (passed_as (chain inner.tags inner.ended (later (ends c))) _ e tag_passed);
            }

    -- reading it, by the class of its code, left this
    module _ {class : Class} {t' g' : List ℕ} (x : Step) (is-named : class ≡ class_in ns (le16 (drop i r) / 64))
        (read : stepped t' g' x ≡ tag_at o class depths a r i t j g w (head_by class depths (drop i r))) where
      read_is : stepped t' g' x ≡ tag_at o (class_in ns (le16 (drop i r) / 64)) depths a r i t j g w (read_head (classes_in ns) depths (drop i r))
      read_is = read ∙ rw (is-named, head_by_lem (classes_in ns) depths (drop i r) (class_in ns (le16 (drop i r) / 64)) (with_named (class_in ns (le16 (drop i r) / 64)) (le16 (drop i r) / 64)).0 (with_named (class_in ns (le16 (drop i r) / 64)) (le16 (drop i r) / 64)).1)

      -- by what its header gives
      by_head : (P : Stepped → Type 0) → ((e : ℕ) → read_head (classes_in ns) depths (drop i r) ≡ no_head e → P (stepped t g (step.Fault e)))
          → ((code len size : ℕ) → read_head (classes_in ns) depths (drop i r) ≡ head code len size → P (tag_at o (class_in ns code) depths a r i t j g w (head code len size))) → P (stepped t' g' x)
      by_head P f h = subst P (sym read_is) (go (read_head (classes_in ns) depths (drop i r)) refl)
        where
          go : (d : paper.Head) → read_head (classes_in ns) depths (drop i r) ≡ d → P (tag_at o (class_in ns (le16 (drop i r) / 64)) depths a r i t j g w d)
          go (no_head e) q = f e q
          go (head code len size) q =
              subst (λ (n : ℕ). P (tag_at o (class_in ns n) depths a r i t j g w (head code len size))) (fits q).4 (h code len size q)

      pub tag_fault : {e : ℕ} → x ≡ step.Fault e → listed t' g' (walked.Fault e (byte_at (a + i))) ≡ walk_over t₀ k g₀ m all
      tag_fault {e} =
          by_head (λ (s : Stepped). s.step ≡ step.Fault e → listed s.table s.rows (walked.Fault e (byte_at (a + i))) ≡ walk_over t₀ k g₀ m all)
          (λ e' q z. let y : e ≡ e' = cc in ap (λ (n : ℕ). listed t g (walked.Fault n (byte_at (a + i)))) y ∙ head_fault q)
          (λ code len size q z. stood_fault q _ refl z)

      pub tag_stops : {p : BytePlace} {n : ℕ} → x ≡ step.Last p n → p.0 ≤ length r
      tag_stops {p} {n} =
          by_head (λ (s : Stepped). s.step ≡ step.Last p n → p.0 ≤ length r) (λ e q z. clash cc) (λ code len size q z. stood_stops q _ refl z)

      pub tag_last : {p : BytePlace} {n : ℕ} {y : Walked} (own' : Option BytePlace) → own ≡ owner_of own' → x ≡ step.Last p n → y ≡ walked_of n (w + 5) (last_of own' a p.0 (length r)) → listed t' g' y ≡ walk_over t₀ k g₀ m all
      tag_last {p} {n} {y} own' is =
          by_head (λ (s : Stepped). s.step ≡ step.Last p n → y ≡ walked_of n (w + 5) (last_of own' a p.0 (length r)) → listed s.table s.rows y ≡ walk_over t₀ k g₀ m all)
          (λ e q z v. clash cc) (λ code len size q z v. stood_last q _ refl own' is z v)

      pub tag_next : {p : BytePlace} {n : ℕ} → x ≡ step.Next p n → (i < p.0) × Going t' g' p.0 n (w + 5)
      tag_next {p} {n} =
          by_head (λ (s : Stepped). s.step ≡ step.Next p n → (i < p.0) × Going s.table s.rows p.0 n (w + 5)) (λ e q z. clash cc)
          (λ code len size q z. stood_next q _ refl z)

      pub tag_open : (op : Opened) → x ≡ step.Open op → Opens t' g' i op.list.0 op.stop.0 op.behind (w + 5)
      tag_open op =
          by_head (λ (s : Stepped). s.step ≡ step.Open op → Opens s.table s.rows i op.list.0 op.stop.0 op.behind (w + 5)) (λ e q z. clash cc)
          (λ code len size q z. stood_open q _ refl op z)

      -- and its list was read from there
      module _ (op : Opened) (z : x ≡ step.Open op) where
        abbrev l : ℕ
        l = op.list.0

        abbrev p : ℕ
        p = op.stop.0

        abbrev n : ℕ
        n = op.behind

        abbrev R' : Walk
        R' = walk_list o (classes_in ns) (pred depths) (paper.inside (a + i)) (a + l) (piece l p r)

        pub open_bounds : Tabled ns → Bounds depths a (length r) k m → Bounds (depths - 1) (a + l) (length (piece l p r)) n (w + 5)
        open_bounds tabled b =
            let q : Opens t' g' i l p n (w + 5) = tag_open op z in
            let v : (n ≤ k + 8 * length r) × (w + 5 ≤ m + 5 * length r) = passed_room tabled _ q.passed in
            let y : length (piece l p r) ≡ p - l = length_piece l p r q.inside in
            record {
              depth = omega (arith, b.depth);
              place = omega (arith, b.place, q.order, q.inside, y);
              index = omega (arith, b.index, b.place, v.0, q.deep, b.depth);
              row = omega (arith, b.row, b.place, v.1, q.deep, b.depth);
            }

        module _ {t'' g'' : List ℕ} (y : Walked) (done : listed t'' g'' y ≡ walk_over t' n g' (w + 5) (walk_list o (classes_in ns) (depths - 1) (paper.inside (a + i)) (a + l) (piece l p r))) where
          read_inner : listed t'' g'' y ≡ walk_over t' n g' (w + 5) R'
          read_inner = rw (pred_is depths) done

          pub open_next : {j' w' : ℕ} → y ≡ walked.Next j' w' → (i < p) × Going t'' g'' p j' w'
          open_next e = ((tag_open op z).ahead, record { inside = (tag_open op z).inside; passed = inner_next R' (from p) (tag_open op z).passed (ap (listed t'' g'') (sym e) ∙ read_inner) })

          pub open_fault : {e : ℕ} {place : BytePlace} → y ≡ walked.Fault e place → listed t'' g'' y ≡ walk_over t₀ k g₀ m all
          open_fault e = ap (listed t'' g'') e ∙ inner_fault R' (from p) (tag_open op z).passed (ap (listed t'' g'') (sym e) ∙ read_inner)
