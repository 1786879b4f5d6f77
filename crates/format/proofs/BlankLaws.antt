-- Opaque bytes reach nothing else (C-20): the theorem `blanking`, at the end.
use Prim.Native.Nat.{ℕ, zero, suc, pred, ◌+◌, ◌-◌, ◌*◌, ◌/◌, ◌%◌, ◌≤◌, ◌<◌}
use mathlib.Core.List.{List, [], ◌∷◌, ◌++◌, map}
use mathlib.Core.Path.{◌≡◌, refl, ap, ap₂, sym, ◌∙◌, subst}
use mathlib.Core.Bool.{Bool, true, false}
use lib.ListN.{length, get_or, take, drop, set, length-set, length-append, length-drop, get_or-eq_default}
use lib.Seq.{length-take-le, get_or-take, get_or-drop, get_or-set_other, ext_get_or}
use lib.Dec.{ltb, leb, eqb, lit<}
use borrow.Author.Tests.{ltb-true, ltb-false, eqb-true}
use native.Mathlib.Omega.{arith}
use Rattle.format.specs.Tests.{pick}
use Rattle.format.specs.Bits.{Order, bit_at, order_named}
use Rattle.format.specs.Reading.{Ending, At, Fault}
use Rattle.format.specs.Bodies.{Body, to_end, read_body}
use Rattle.format.specs.FileAndTags.{le16, le32, compression, Class, opaque, end, container, known, class_of, is_end, is_container, is_read, long_on_short, state_of, eights, packed, Tag, Outcome, whole, fault, Walk, chain, Head, head, no_head, raw_head, passes, read_head, Owner, file, inside, TagInside, leaf, has_list, opened, within, after_tag, one_tag, walk, walk_list}
use Rattle.format.specs.TableOfNumbers.{numbers, table, is_opaque, showing, tag_table}
use Rattle.format.specs.Levels.{end_of}
use Rattle.format.specs.Reasons.{start_fault, walk_file, Result, gives, result, read_file, read_tags, accepted, accepts, refuses_with, into}
use Rattle.format.specs.Blanking.{InOpaque, here, later, Blanked, InPacked, in_this, in_next, SameBut, zeroed, zeroed_tag, Unreached, SameResult, both_refuse, both_give}
use Rattle.format.specs.WritingItems.{wrote}
use Rattle.format.specs.Possible.{this}
use Rattle.format.proofs.BitLaws.{Has}
use Rattle.format.proofs.BodyLaws.{end_r, end_w, trip_end, end_whole}
use Rattle.format.proofs.StartLaws.{GoodStart, good_start, start_good}
use Rattle.format.proofs.StateLaws.{state_opaque}
use Rattle.format.proofs.Trip.{There, Back}
use Rattle.format.proofs.WalkLaws.{Fits, head_fits, Between, Before, before_later, Placed, placed_within, placed_after, placed}
use Rattle.format.proofs.Absurd.{clash}

-- ---- places outside of opaque bodies
-- before tags, and past them
before_tags : (n a b : ℕ) (ts : List Tag) → Between a b ts → n < a → InOpaque n ts → ⊥
before_tags n a b [] h l x3 = elim x3 [ ]
before_tags n a b (t ∷ ts) h l (here e p q) = omega (arith, h.0)
before_tags n a b (t ∷ ts) h l (later i) = before_tags n a b ts h.3 l i

past_tags : (n a b : ℕ) (ts : List Tag) → Between a b ts → b ≤ n → InOpaque n ts → ⊥
past_tags n a b [] h l x3 = elim x3 [ ]
past_tags n a b (t ∷ ts) h l (here e p q) = omega (arith, h.2)
past_tags n a b (t ∷ ts) h l (later i) = past_tags n a b ts h.3 l i

-- in the tags of a list that are followed by others: in these or those
not_in_both : (n : ℕ) (ts us : List Tag) → (InOpaque n ts → ⊥) → (InOpaque n us → ⊥) → InOpaque n (ts ++ us) → ⊥
not_in_both n [] us h k i = k i
not_in_both n (t ∷ ts) us h k (here e p q) = h (here e p q)
not_in_both n (t ∷ ts) us h k (later i) = not_in_both n ts us (λ j. h (later j)) k i

not_in_chain : (n : ℕ) (ts : List Tag) (z : Outcome) (w : Walk) → (InOpaque n ts → ⊥) → (z ≡ whole → InOpaque n w.tags → ⊥) → InOpaque n (chain ts z w).tags → ⊥
not_in_chain n ts whole w h k = not_in_both n ts w.tags h (k refl)
not_in_chain n ts (fault e m) w h k = h

not_in_tag : (n : ℕ) (t : Tag) (ts : List Tag) → (InOpaque n (t ∷ []) → ⊥) → (InOpaque n ts → ⊥) → InOpaque n (t ∷ ts) → ⊥
not_in_tag n t ts h k (here e p q) = h (here e p q)
not_in_tag n t ts h k (later i) = k i

-- a tag's header, what is past a tag, and a tag that is read
in_header : (n : ℕ) (t : Tag) → n < t.place + t.header_size → InOpaque n (t ∷ []) → ⊥
in_header n t l (here e p q) = omega arith
in_header n t l (later i) = before_tags n (suc n) 0 [] tt (omega arith) i

past_tag : (n : ℕ) (t : Tag) → end_of t ≤ n → InOpaque n (t ∷ []) → ⊥
past_tag n t l (here e p q) = omega arith
past_tag n t l (later i) = before_tags n (suc n) 0 [] tt (omega arith) i

in_read : (n : ℕ) (t : Tag) → is_opaque t.state ≡ false → InOpaque n (t ∷ []) → ⊥
in_read n t l (here e p q) = clash cc
in_read n t l (later i) = before_tags n (suc n) 0 [] tt (omega arith) i

-- ---- two rooms at place a, one length, that agree but for opaque bodies of the tags ts
pub record Alike (a : ℕ) (ts : List Tag) (r r' : List ℕ) : Type 0 where
  pub long : length r' ≡ length r
  pub same : (i : ℕ) → (InOpaque (a + i) ts → ⊥) → get_or r' i 0 ≡ get_or r i 0

-- without tags they are equal
alike_none : (a : ℕ) (r r' : List ℕ) → Alike a [] r r' → r' ≡ r
alike_none a r r' h = ext_get_or 0 r' r h.long (λ i l. h.same i (λ j. before_tags (a + i) (suc (a + i)) 0 [] tt (omega arith) j))

-- ---- headers
module _ (r r' : List ℕ) (long : length r' ≡ length r) where
  same_16 : get_or r' 0 0 ≡ get_or r 0 0 → get_or r' 1 0 ≡ get_or r 1 0 → le16 r' ≡ le16 r
  same_16 a b = rw (a, b)

  same_32 : ((i : ℕ) → i < 6 → get_or r' i 0 ≡ get_or r i 0) → le32 (drop 2 r') ≡ le32 (drop 2 r)
  same_32 h =
      rw (
        get_or-drop 2 r' 0 0,
        get_or-drop 2 r' 1 0,
        get_or-drop 2 r' 2 0,
        get_or-drop 2 r' 3 0,
        get_or-drop 2 r 0 0,
        get_or-drop 2 r 1 0,
        get_or-drop 2 r 2 0,
        get_or-drop 2 r 3 0,
        h 2 (lit< tt),
        h 3 (lit< tt),
        h 4 (lit< tt),
        h 5 (lit< tt),
      )

  same_raw : (code len size : ℕ) → raw_head r ≡ head code len size → ((i : ℕ) → i < size → get_or r' i 0 ≡ get_or r i 0) → raw_head r' ≡ head code len size
  same_raw code len size e h = rw long (go (ltb (length r) 2) (eqb (le16 r % 64) 63) refl (ltb (length r) 6) e)
    where
      short : 2 ≤ size → le16 r' ≡ le16 r
      short l = same_16 (h 0 (omega arith)) (h 1 (omega arith))

      go : (c d : Bool) → eqb (le16 r % 64) 63 ≡ d → (e : Bool)
          → pick c (no_head 6) (pick d (pick e (no_head 6) (head (le16 r / 64) (le32 (drop 2 r)) 6)) (head (le16 r / 64) (le16 r % 64) 2)) ≡ head code len size
          → pick c (no_head 6) (pick (eqb (le16 r' % 64) 63) (pick e (no_head 6) (head (le16 r' / 64) (le32 (drop 2 r')) 6)) (head (le16 r' / 64) (le16 r' % 64) 2)) ≡ head code len size
      go true d q e x = clash cc
      go false true q true x = clash cc
      go false true q false x =
          let s : 6 ≡ size = cc in
          rw (short (omega arith), q, same_32 (λ i l. h i (omega arith))) x
      go false false q e x =
          let s : 2 ≡ size = cc in
          rw (short (omega arith), q) x

  -- a header that passed is the one that stands there, and what passes depends on it and on the room's length
  passed : (class : ℕ → Class) (left : ℕ) (g : Head) (code len size : ℕ) → passes class left r g ≡ head code len size → (g ≡ head code len size) × (passes class left r' g ≡ head code len size)
  passed class left (no_head e) code len size q = clash cc
  passed class left (head code' len' size') code len size q =
      (go (ltb (length (drop size' r)) len') (pick (is_end (class code')) (ltb 0 len') false) (pick (is_container (class code')) (eqb left 0) false) q, rw (length-drop size' r', long, ← length-drop size' r) q)
    where
      go : (c d e : Bool) → pick c (no_head 9) (pick d (no_head 10) (pick e (no_head 12) (head code' len' size'))) ≡ head code len size → head code' len' size' ≡ head code len size
      go true d e x = clash cc
      go false true e x = clash cc
      go false false true x = clash cc
      go false false false x = x

  same_head : (class : ℕ → Class) (left code len size : ℕ) → read_head class left r ≡ head code len size → ((i : ℕ) → i < size → get_or r' i 0 ≡ get_or r i 0) → read_head class left r' ≡ head code len size
  same_head class left code len size q h =
      let p = passed class left (raw_head r) code len size q in
      ap (passes class left r') (same_raw code len size p.0 h ∙ sym p.0) ∙ p.1

-- ---- the own part of a tag depends on the bytes that it used
module _ (o : Order) (b b' : List ℕ) (long : length b' ≡ length b) (k : ℕ) (same : (i : ℕ) → i < k → get_or b' i 0 ≡ get_or b i 0) where
  has_same : (p : ℕ) (bs : List Bool) → p + length bs ≤ 8 * k → Has o b p bs → Has o b' p bs
  unfolding bit_at
  has_same p [] l h = rw long h
  has_same p (x ∷ bs) l h = (rw (same (p / 8) (omega arith)) h.0, has_same (suc p) bs (omega arith) h.1)

  own_same : (y : Body) (q : ℕ) → q ≤ 8 * k → (to_end o b y).ended ≡ At q → to_end o b' y ≡ to_end o b y
  own_same y q l e =
      let u : There o b 0 q (to_end o b y).shown (end_w o y) = rw e at ((trip_end o y).there b 0 (omega arith)) in
      let w : end_w o y ((to_end o b y).shown ++ []) 0 ≡ this (wrote (to_end o b y).shown u.bits []) = u.again [] in
      let v : Back o ((to_end o b y).shown ++ []) (to_end o b y).shown u.bits [] 0 (end_r o y) = rw w at ((trip_end o y).back ((to_end o b y).shown ++ []) 0) in
      v.reads b' (has_same 0 u.bits (omega (arith, u.ends)) u.has) ∙ sym (v.reads b u.has)

-- ---- what is left of a walk without the packed bytes
abbrev zeroed_walk : Walk → Walk
zeroed_walk w = record { tags = map zeroed_tag w.tags; ended = w.ended }

zeroed_append : (ts us : List Tag) → map zeroed_tag (ts ++ us) ≡ map zeroed_tag ts ++ map zeroed_tag us
zeroed_append [] us = refl
zeroed_append (t ∷ ts) us = ap (λ (ts : List Tag). zeroed_tag t ∷ ts) (zeroed_append ts us)

zeroed_chain : (ts : List Tag) (z : Outcome) (w : Walk) → zeroed_walk (chain ts z w) ≡ chain (map zeroed_tag ts) z (zeroed_walk w)
zeroed_chain ts whole w = ap (λ (us : List Tag). record { tags = us; ended = w.ended }) (zeroed_append ts w.tags)
zeroed_chain ts (fault e n) w = refl

-- packed bodies of one length
zeroed_eights : (k : ℕ) (b b' : List ℕ) → map {B = ℕ} (λ (w : ℕ). 0) (eights k b') ≡ map {B = ℕ} (λ (w : ℕ). 0) (eights k b)
unfolding eights
zeroed_eights zero b b' = refl
zeroed_eights (suc k) b b' = ap (λ (r : List ℕ). 0 ∷ r) (zeroed_eights k (drop 8 b) (drop 8 b'))

zeroed_packed : (b b' : List ℕ) → length b' ≡ length b → zeroed (packed b') ≡ zeroed (packed b)
zeroed_packed b b' e = rw e (ap (λ (r : List ℕ). length b ∷ r) (zeroed_eights ((length b + 7) / 8) b b'))

-- two walks, each a tag with what stands in it and what follows it
same_chain : (t t' : Tag) (v v' w w' : Walk) → zeroed_tag t' ≡ zeroed_tag t → zeroed_walk v' ≡ zeroed_walk v → (v.ended ≡ whole → zeroed_walk w' ≡ zeroed_walk w)
    → zeroed_walk (chain (t' ∷ v'.tags) v'.ended w') ≡ zeroed_walk (chain (t ∷ v.tags) v.ended w)
same_chain t t' v v' w w' x y k =
    zeroed_chain (t' ∷ v'.tags) v'.ended w'
    ∙ ap₂ (λ (u : Tag) (z : Walk). chain (u ∷ z.tags) z.ended (zeroed_walk w')) x y
    ∙ go v.ended k
    ∙ sym (zeroed_chain (t ∷ v.tags) v.ended w)
  where
    go : (z : Outcome) → (z ≡ whole → zeroed_walk w' ≡ zeroed_walk w) → chain (map zeroed_tag (t ∷ v.tags)) z (zeroed_walk w') ≡ chain (map zeroed_tag (t ∷ v.tags)) z (zeroed_walk w)
    go whole k = ap (chain (map zeroed_tag (t ∷ v.tags)) whole) (k refl)
    go (fault e n) k = refl

-- ---- the walks of two rooms that agree but for opaque bodies of the first one's tags
module _ (o : Order) (class : ℕ → Class) where
  abbrev Kept : (Owner → ℕ → List ℕ → Walk) → Type 0
  Kept R = (c : Owner) (a : ℕ) (r r' : List ℕ) → Before c a → Alike a (R c a r).tags r r' → zeroed_walk (R c a r') ≡ zeroed_walk (R c a r)

  abbrev AllPlaced : (Owner → ℕ → List ℕ → Walk) → Type 0
  AllPlaced R = (c : Owner) (a : ℕ) (r : List ℕ) → Before c a → Placed c a (a + length r) (R c a r)

  -- what stands in a tag: the same list inside, and the same values unless it is opaque
  abbrev SameInside : Class → TagInside → TagInside → Type 0
  SameInside cl i i' = (zeroed_walk i'.walk ≡ zeroed_walk i.walk) × (pick (eqb (is_read cl) 0) (zeroed i'.values) i'.values ≡ pick (eqb (is_read cl) 0) (zeroed i.values) i.values)

  module _ (R : Owner → ℕ → List ℕ → Walk) (lists : Kept R) (places : AllPlaced R) where
    same_within : (cl : Class) (a s : ℕ) (body body' : List ℕ) → a < s → length body' ≡ length body
        → (eqb (is_read cl) 0 ≡ false → Alike s (within o R cl a s body).walk.tags body body') → SameInside cl (within o R cl a s body) (within o R cl a s body')
    same_within opaque a s body body' l n h = (refl, zeroed_packed body body' n)
    same_within end a s body body' l n h = (refl, refl)
    same_within (known y) a s body body' l n h = rw (alike_none s body body' (h refl)) (refl, refl)
    same_within (container y) a s body body' l n h = test (has_list y (to_end o body y).shown) refl (h refl)
      where
        Same : TagInside → TagInside → Type 0
        Same i i' = SameInside (container y) i i'

        go : (z : Ending) → (to_end o body y).ended ≡ z → has_list y (to_end o body y).shown ≡ true → Alike s (opened R a s body (to_end o body y).shown (to_end o body y).ended).walk.tags body body'
            → Same (within o R (container y) a s body) (within o R (container y) a s body')
        go (Fault e) q t u = rw (alike_none s body body' (rw q at u)) (refl, refl)
        go (At p) q t u = rw (own_same o body body' n (p / 8) front_same y p (omega (arith, ends)) q, t, q) (lists (inside a) (s + p / 8) (drop (p / 8) body) (drop (p / 8) body') (omega arith) rest, refl)
          where
            ends : 8 * (p / 8) ≡ p
            ends = rw q at (end_whole o y body)

            opens : Alike s (R (inside a) (s + p / 8) (drop (p / 8) body)).tags body body'
            opens = rw q at u

            front_same : (i : ℕ) → i < p / 8 → get_or body' i 0 ≡ get_or body i 0
            front_same i m = opens.same i (before_tags (s + i) (s + p / 8) (s + p / 8 + length (drop (p / 8) body)) (R (inside a) (s + p / 8) (drop (p / 8) body)).tags
                (places (inside a) (s + p / 8) (drop (p / 8) body) (omega arith)).tags (omega arith))

            rest : Alike (s + p / 8) (R (inside a) (s + p / 8) (drop (p / 8) body)).tags (drop (p / 8) body) (drop (p / 8) body')
            rest = record {
              long = rw (length-drop (p / 8) body', length-drop (p / 8) body, n);
              same = λ i k. rw (get_or-drop (p / 8) body' i 0, get_or-drop (p / 8) body i 0) (opens.same (p / 8 + i) (subst (λ (m : ℕ). InOpaque m (R (inside a) (s + p / 8) (drop (p / 8) body)).tags → ⊥) (omega arith) k));
            }

        test : (c : Bool) → has_list y (to_end o body y).shown ≡ c
            → Alike s (pick c (opened R a s body (to_end o body y).shown (to_end o body y).ended) (leaf a (read_body o y body))).walk.tags body body'
            → Same (within o R (container y) a s body) (within o R (container y) a s body')
        test true t u = go (to_end o body y).ended refl t u
        test false t u = rw (alike_none s body body' u) (refl, refl)

  same_after : (next : ℕ → List ℕ → Walk) (e : Bool) (c : Owner) (b : ℕ) (q q' : List ℕ) → (Alike b (next b q).tags q q' → zeroed_walk (next b q') ≡ zeroed_walk (next b q))
      → Alike b (after_tag e c b q next).tags q q' → zeroed_walk (after_tag e c b q' next) ≡ zeroed_walk (after_tag e c b q next)
  same_after next false c b q q' u h = u h
  same_after next true c b [] [] u h = refl
  same_after next true c b [] (y ∷ q') u h = absurd (omega (arith, h.long))
  same_after next true c b (x ∷ q) [] u h = absurd (omega (arith, h.long))
  same_after next true c b (x ∷ q) (y ∷ q') u h = refl

  -- one tag, by its header, and the rest of its list
  module _ (R : ℕ → Owner → ℕ → List ℕ → Walk) (lists : (left : ℕ) → Kept (R left)) (places : (left : ℕ) → AllPlaced (R left))
      (left : ℕ) (c : Owner) (a : ℕ) (r r' : List ℕ) (before : Before c a) where
    module _ (code len size : ℕ) (fits : Fits class left r (head code len size)) (h : Alike a (one_tag o class R left c a r (head code len size)).tags r r') where
      abbrev body_of : List ℕ → List ℕ
      body_of r = take len (drop size r)

      abbrev inside_of : List ℕ → TagInside
      inside_of r = within o (R (pred left)) (class code) a (a + size) (body_of r)

      abbrev after_of : List ℕ → Walk
      after_of r = after_tag (is_end (class code)) c (a + size + len) (drop (size + len) r) (R left c)

      abbrev tag_of : List ℕ → Tag
      tag_of r = record { depth = 8 - left; code = code; place = a; header_size = size; body_length = len; state = state_of (class code) size len; values = (inside_of r).values }

      body_long : (r : List ℕ) → size + len ≤ length r → length (body_of r) ≡ len
      body_long r l = length-take-le len (drop size r) (rw length-drop (omega arith))

      -- the tags inside, and those that follow
      inner : Between (a + size) (a + size + len) (inside_of r).walk.tags
      inner = rw (body_long r fits.1) at (placed_within o class (R (pred left)) (places (pred left)) (class code) a (a + size) (body_of r) (omega (arith, fits.0))).tags

      then : Between (a + size + len) (a + size + len + length (drop (size + len) r)) (after_of r).tags
      then = (placed_after o class (is_end (class code)) c (a + size + len) (drop (size + len) r) (R left c) (before_later c a (a + size + len) (omega arith) before)
          (places left c (a + size + len) (drop (size + len) r) (before_later c a (a + size + len) (omega arith) before))).tags

      header_same : (i : ℕ) → i < size → get_or r' i 0 ≡ get_or r i 0
      header_same i l = h.same i (not_in_chain (a + i) (tag_of r ∷ (inside_of r).walk.tags) (inside_of r).walk.ended (after_of r)
          (not_in_tag (a + i) (tag_of r) (inside_of r).walk.tags (in_header (a + i) (tag_of r) (omega arith)) (before_tags (a + i) (a + size) (a + size + len) (inside_of r).walk.tags inner (omega arith)))
          (λ e. before_tags (a + i) (a + size + len) (a + size + len + length (drop (size + len) r)) (after_of r).tags then (omega arith)))

      body_same : eqb (is_read (class code)) 0 ≡ false → Alike (a + size) (inside_of r).walk.tags (body_of r) (body_of r')
      body_same reads = record {
        long = body_long r' (omega (arith, fits.1, h.long)) ∙ sym (body_long r fits.1);
        same = λ i k. go i k (ltb i len) refl;
      }
        where
          go : (i : ℕ) → (InOpaque (a + size + i) (inside_of r).walk.tags → ⊥) → (d : Bool) → ltb i len ≡ d → get_or (body_of r') i 0 ≡ get_or (body_of r) i 0
          go i k false e =
              let l : len ≤ i = ltb-false i len e in
              get_or-eq_default (body_of r') 0 (omega (arith, body_long r' (omega (arith, fits.1, h.long)))) ∙ sym (get_or-eq_default (body_of r) 0 (omega (arith, body_long r fits.1)))
          go i k true e =
              let l : i < len = ltb-true i len e in
              rw (get_or-take len (drop size r') i 0 l, get_or-take len (drop size r) i 0 l, get_or-drop size r' i 0, get_or-drop size r i 0)
              (h.same (size + i) (not_in_chain (a + (size + i)) (tag_of r ∷ (inside_of r).walk.tags) (inside_of r).walk.ended (after_of r)
              (not_in_tag (a + (size + i)) (tag_of r) (inside_of r).walk.tags
              (in_read (a + (size + i)) (tag_of r) (state_opaque (class code) (long_on_short size len) ∙ reads))
              (subst (λ (m : ℕ). InOpaque m (inside_of r).walk.tags → ⊥) (omega arith) k))
              (λ x. before_tags (a + (size + i)) (a + size + len) (a + size + len + length (drop (size + len) r)) (after_of r).tags then (omega arith))))

      after_same : (inside_of r).walk.ended ≡ whole → Alike (a + size + len) (after_of r).tags (drop (size + len) r) (drop (size + len) r')
      after_same e = record {
        long = rw (length-drop (size + len) r', length-drop (size + len) r, h.long);
        same = λ i k. rw (get_or-drop (size + len) r' i 0, get_or-drop (size + len) r i 0)
            (h.same (size + len + i) (not_in_chain (a + (size + len + i)) (tag_of r ∷ (inside_of r).walk.tags) (inside_of r).walk.ended (after_of r)
            (not_in_tag (a + (size + len + i)) (tag_of r) (inside_of r).walk.tags (past_tag (a + (size + len + i)) (tag_of r) (omega arith))
            (past_tags (a + (size + len + i)) (a + size) (a + size + len) (inside_of r).walk.tags inner (omega arith)))
            (λ x. subst (λ (m : ℕ). InOpaque m (after_of r).tags → ⊥) (omega arith) k)));
      }

      same_tag : zeroed_walk (one_tag o class R left c a r' (head code len size)) ≡ zeroed_walk (one_tag o class R left c a r (head code len size))
      same_tag =
          let i : SameInside (class code) (inside_of r) (inside_of r') = same_within (R (pred left)) (lists (pred left)) (places (pred left)) (class code) a (a + size) (body_of r) (body_of r') (omega (arith, fits.0))
          (body_long r' (omega (arith, fits.1, h.long)) ∙ sym (body_long r fits.1)) body_same in
          same_chain (tag_of r) (tag_of r') (inside_of r).walk (inside_of r').walk (after_of r) (after_of r')
          (ap (showing (tag_of r)) (rw (state_opaque (class code) (long_on_short size len)) i.1))
          i.0
          (λ e. same_after (R left c) (is_end (class code)) c (a + size + len) (drop (size + len) r) (drop (size + len) r')
          (lists left c (a + size + len) (drop (size + len) r) (drop (size + len) r') (before_later c a (a + size + len) (omega arith) before)) (after_same e))

    same_one : (g : Head) → read_head class left r ≡ g → Fits class left r g → Alike a (one_tag o class R left c a r g).tags r r'
        → zeroed_walk (one_tag o class R left c a r' (read_head class left r')) ≡ zeroed_walk (one_tag o class R left c a r g)
    same_one (no_head e) q l h = rw (alike_none a r r' h, q) refl
    same_one (head code len size) q l h = rw (same_head r r' h.long class left code len size q (header_same code len size l h)) (same_tag code len size l h)

  same_walk : (k left : ℕ) → Kept (walk o class k left)
  unfolding walk
  same_walk zero left c a r r' b h = refl
  same_walk (suc k) left c a [] [] b h = refl
  same_walk (suc k) left c a [] (y ∷ r') b h = absurd (omega (arith, h.long))
  same_walk (suc k) left c a (x ∷ r) [] b h = absurd (omega (arith, h.long))
  same_walk (suc k) left c a (x ∷ r) (y ∷ r') b h =
      same_one (walk o class k) (λ left c a r r' b h. same_walk k left c a r r' b h) (λ left c a r b. placed o class k left c a r b) left c a (x ∷ r) (y ∷ r') b
      (read_head class left (x ∷ r)) refl (head_fits class left (x ∷ r)) h

-- ---- the numbers of tags without the packed bytes: as many, and the same at every other index
both_agree : (xs xs' ys ys' : List ℕ) (j : ℕ) → length xs' ≡ length xs → (j < length xs → get_or xs' j 0 ≡ get_or xs j 0) → ((m : ℕ) → j ≡ length xs + m → get_or ys' m 0 ≡ get_or ys m 0)
    → get_or (xs' ++ ys') j 0 ≡ get_or (xs ++ ys) j 0
both_agree [] [] ys ys' j n h k = k j (omega arith)
both_agree [] (x' ∷ xs') ys ys' j n h k = absurd (omega arith)
both_agree (x ∷ xs) [] ys ys' j n h k = absurd (omega arith)
both_agree (x ∷ xs) (x' ∷ xs') ys ys' zero n h k = h (omega arith)
both_agree (x ∷ xs) (x' ∷ xs') ys ys' (suc j) n h k = both_agree xs xs' ys ys' j (omega arith) (λ l. h (omega arith)) (λ m e. k m (omega arith))

length_zeros : (ws : List ℕ) → length (map {B = ℕ} (λ (w : ℕ). 0) ws) ≡ length ws
length_zeros [] = refl
length_zeros (w ∷ ws) = ap suc (length_zeros ws)

length_zeroed : (c : Bool) (vs : List ℕ) → length (pick c (zeroed vs) vs) ≡ length vs
length_zeroed false vs = refl
length_zeroed true [] = refl
length_zeroed true (n ∷ ws) = ap suc (length_zeros ws)

first_zeroed : (c : Bool) (vs : List ℕ) (j : ℕ) → (c ≡ true → 1 ≤ j → ⊥) → get_or (pick c (zeroed vs) vs) j 0 ≡ get_or vs j 0
first_zeroed false vs j h = refl
first_zeroed true [] j h = refl
first_zeroed true (n ∷ ws) zero h = refl
first_zeroed true (n ∷ ws) (suc j) h = absurd (h refl (omega arith))

length_numbers : (ts : List Tag) → length (numbers (map zeroed_tag ts)) ≡ length (numbers ts)
length_numbers [] = refl
length_numbers (t ∷ ts) =
    ap (λ (n : ℕ). suc (suc (suc n)))
    (length-append (zeroed_tag t).values (numbers (map zeroed_tag ts)) ∙ ap₂ (λ (m n : ℕ). m + n) (length_zeroed (is_opaque t.state) t.values) (length_numbers ts) ∙ sym (length-append t.values (numbers ts)))

numbers_agree : (k i : ℕ) (ts : List Tag) → (InPacked (k + i) k ts → ⊥) → get_or (numbers (map zeroed_tag ts)) i 0 ≡ get_or (numbers ts) i 0
numbers_agree k i [] h = refl
numbers_agree k zero (t ∷ ts) h = refl
numbers_agree k (suc zero) (t ∷ ts) h = refl
numbers_agree k (suc (suc zero)) (t ∷ ts) h = length_zeroed (is_opaque t.state) t.values
numbers_agree k (suc (suc (suc j))) (t ∷ ts) h =
    both_agree t.values (zeroed_tag t).values (numbers ts) (numbers (map zeroed_tag ts)) j (length_zeroed (is_opaque t.state) t.values)
    (λ l. first_zeroed (is_opaque t.state) t.values j (λ e m. h (in_this e (omega arith) (omega arith))))
    (λ m e. numbers_agree (k + (3 + length t.values)) m ts (λ x. h (in_next (subst (λ (n : ℕ). InPacked n (k + (3 + length t.values)) ts) (omega arith) x))))

-- which indices these are
packed_zeroed : (i k : ℕ) (ts : List Tag) → InPacked i k ts → InPacked i k (map zeroed_tag ts)
packed_zeroed i k [] x' = elim x' [ ]
packed_zeroed i k (t ∷ ts) (in_this e l m) = in_this {t = zeroed_tag t} e l (rw (length_zeroed (is_opaque t.state) t.values) m)
packed_zeroed i k (t ∷ ts) (in_next h) = in_next {k = k} {t = zeroed_tag t} {ts = map zeroed_tag ts} (rw (length_zeroed (is_opaque t.state) t.values) (packed_zeroed i (k + (3 + length t.values)) ts h))

zeroed_packed_at : (i k : ℕ) (ts : List Tag) → InPacked i k (map zeroed_tag ts) → InPacked i k ts
zeroed_packed_at i k [] x' = elim x' [ ]
zeroed_packed_at i k (t ∷ ts) (in_this e l m) = in_this e l (rw (length_zeroed (is_opaque t.state) t.values) at m)
zeroed_packed_at i k (t ∷ ts) (in_next h) = in_next (zeroed_packed_at i (k + (3 + length t.values)) ts (rw (length_zeroed (is_opaque t.state) t.values) at h))

same_numbers : (ts us : List Tag) (x y : ℕ) → y ≡ x → map zeroed_tag us ≡ map zeroed_tag ts → SameBut ts (x ∷ numbers ts) (y ∷ numbers us)
same_numbers ts us x y c e = record {
  long = ap suc (sym (length_numbers us) ∙ ap (λ (ts : List Tag). length (numbers ts)) e ∙ length_numbers ts);
  elsewhere = at;
}
  where
    at : (i : ℕ) → (InPacked i 1 ts → ⊥) → get_or (y ∷ numbers us) i 0 ≡ get_or (x ∷ numbers ts) i 0
    at zero h = c
    at (suc i) h =
        let k : InPacked (1 + i) 1 ts → ⊥ = subst (λ (n : ℕ). InPacked n 1 ts → ⊥) (omega arith) h in
        sym (numbers_agree 1 i us (λ p. k (zeroed_packed_at (1 + i) 1 ts (subst (λ (ts : List Tag). InPacked (1 + i) 1 ts) e (packed_zeroed (1 + i) 1 us p)))))
        ∙ ap (λ (ts : List Tag). get_or (numbers ts) i 0) e
        ∙ numbers_agree 1 i ts k

zeroed_rows : (ts : List Tag) → tag_table (map zeroed_tag ts) ≡ tag_table ts
zeroed_rows [] = refl
zeroed_rows (t ∷ ts) = ap (λ (l : List ℕ). t.depth ∷ t.code ∷ t.place ∷ t.header_size ∷ t.body_length ∷ l) (zeroed_rows ts)

-- ---- files
module _ (order level : ℕ) (f g : List ℕ) (h : Blanked order level f g) where
  abbrev list_of : List ℕ → Walk
  list_of f = walk_list (order_named order) (class_of level) 8 file 9 (drop 9 f)

  -- a file that is refused at its start has no tags
  bad_start : eqb (start_fault order level f) 0 ≡ false → g ≡ f
  unfolding walk_file
  bad_start e = ext_get_or 0 g f h.long (λ i l. h.elsewhere i (rw e (before_tags i (suc i) 0 [] tt (omega arith))))

  good_tags : eqb (start_fault order level f) 0 ≡ true → (n : ℕ) → (InOpaque n (list_of f).tags → ⊥) → get_or g n 0 ≡ get_or f n 0
  unfolding walk_file
  good_tags e n k = h.elsewhere n (rw e k)

  -- the tags come after the nine bytes
  first_nine : eqb (start_fault order level f) 0 ≡ true → (i : ℕ) → i < 9 → get_or g i 0 ≡ get_or f i 0
  first_nine e i l =
      good_tags e i (before_tags i 9 (9 + length (drop 9 f)) (list_of f).tags (placed (order_named order) (class_of level) (length (drop 9 f)) 8 file 9 (drop 9 f) tt).tags l)

  same_start : eqb (start_fault order level f) 0 ≡ true → start_fault order level g ≡ 0
  same_start e =
      let s : GoodStart order level f = good_start order level f (eqb-true (start_fault order level f) 0 e) in
      let b : (i : ℕ) → i < 9 → get_or g i 0 ≡ get_or f i 0 = first_nine e in
      let n : le32 (drop 4 g) ≡ le32 (drop 4 f) =
      rw (
        get_or-drop 4 g 0 0,
        get_or-drop 4 g 1 0,
        get_or-drop 4 g 2 0,
        get_or-drop 4 g 3 0,
        get_or-drop 4 f 0 0,
        get_or-drop 4 f 1 0,
        get_or-drop 4 f 2 0,
        get_or-drop 4 f 3 0,
        b 4 (lit< tt),
        b 5 (lit< tt),
        b 6 (lit< tt),
        b 7 (lit< tt),
      ) in
      start_good order level g (record {
        known = s.known;
        ordered = s.ordered;
        long = omega (arith, s.long, h.long);
        signed = (b 0 (lit< tt) ∙ s.signed.0, b 1 (lit< tt) ∙ s.signed.1, b 2 (lit< tt) ∙ s.signed.2);
        version = b 3 (lit< tt) ∙ s.version;
        lengths = n ∙ s.lengths ∙ sym h.long;
        limit = omega (arith, s.limit, h.long);
      })

  same_list : eqb (start_fault order level f) 0 ≡ true → zeroed_walk (list_of g) ≡ zeroed_walk (list_of f)
  same_list e =
      let n : length (drop 9 g) ≡ length (drop 9 f) = rw (length-drop 9 g, length-drop 9 f, h.long) in
      rw n (same_walk (order_named order) (class_of level) (length (drop 9 f)) 8 file 9 (drop 9 f) (drop 9 g) tt (record {
        long = n;
        same = λ i k. rw (get_or-drop 9 g i 0, get_or-drop 9 f i 0) (good_tags e (9 + i) k);
      }))

  pub same_file : zeroed_walk (walk_file order level g) ≡ zeroed_walk (walk_file order level f)
  unfolding walk_file
  same_file = go (eqb (start_fault order level f) 0) refl
    where
      go : (c : Bool) → eqb (start_fault order level f) 0 ≡ c → zeroed_walk (walk_file order level g) ≡ zeroed_walk (walk_file order level f)
      go false e = ap (λ (g : List ℕ). zeroed_walk (walk_file order level g)) (bad_start e)
      go true e = rw (same_start e, eqb-true (start_fault order level f) 0 e) (same_list e)

  same_compression : compression g ≡ compression f
  same_compression = go (eqb (start_fault order level f) 0) refl
    where
      go : (c : Bool) → eqb (start_fault order level f) 0 ≡ c → compression g ≡ compression f
      go false e = ap compression (bad_start e)
      go true e = first_nine e 8 (lit< tt)

  pub blanking : Unreached order level f g
  blanking =
      let e : map zeroed_tag (walk_file order level g).tags ≡ map zeroed_tag (walk_file order level f).tags = ap (λ (w : Walk). w.tags) same_file in
      record {
        ended = ap (λ (w : Walk). w.ended) same_file;
        tags = e;
        tables = same_numbers (walk_file order level f).tags (walk_file order level g).tags (compression f) (compression g) same_compression e;
        tag_tables = sym (zeroed_rows (walk_file order level g).tags) ∙ ap tag_table e ∙ zeroed_rows (walk_file order level f).tags;
      }

  -- what `tags` gives is the same
  pub same_tags : read_tags order level g ≡ read_tags order level f
  unfolding read_tags
  same_tags = ap₂ result blanking.tag_tables blanking.ended

  -- what `read` gives differs only in the packed bytes of those tags
  pub same_read : SameResult (walk_file order level f).tags (read_file order level f) (read_file order level g)
  unfolding read_file
  same_read = rw blanking.ended (go (walk_file order level f).ended)
    where
      go : (z : Outcome) → SameResult (walk_file order level f).tags (result (table f (walk_file order level f)) z) (result (table g (walk_file order level g)) z)
      go whole = both_give blanking.tables
      go (fault e n) = both_refuse

-- ---- the same bytes are opaque to both, so either file is the other one blanked
opaque_zeroed : (n : ℕ) (ts : List Tag) → InOpaque n ts → InOpaque n (map zeroed_tag ts)
opaque_zeroed n [] x' = elim x' [ ]
opaque_zeroed n (t ∷ ts) (here e l m) = here e l m
opaque_zeroed n (t ∷ ts) (later i) = later (opaque_zeroed n ts i)

zeroed_opaque : (n : ℕ) (ts : List Tag) → InOpaque n (map zeroed_tag ts) → InOpaque n ts
zeroed_opaque n [] x' = elim x' [ ]
zeroed_opaque n (t ∷ ts) (here e l m) = here e l m
zeroed_opaque n (t ∷ ts) (later i) = later (zeroed_opaque n ts i)

pub blanked_back : (order level : ℕ) (f g : List ℕ) → Blanked order level f g → Blanked order level g f
blanked_back order level f g h =
    let F : List Tag = (walk_file order level f).tags in
    let G : List Tag = (walk_file order level g).tags in
    record {
      long = sym h.long;
      elsewhere = λ n k. sym (h.elsewhere n (λ i. k (zeroed_opaque n G (subst (λ (ts : List Tag). InOpaque n ts) (sym (blanking order level f g h).tags) (opaque_zeroed n F i)))));
    }

-- blanked again, it is the first one blanked
pub blanked_again : (order level : ℕ) (f g h : List ℕ) → Blanked order level f g → Blanked order level g h → Blanked order level f h
blanked_again order level f g h u v =
    let F : List Tag = (walk_file order level f).tags in
    let G : List Tag = (walk_file order level g).tags in
    record {
      long = v.long ∙ u.long;
      elsewhere = λ n k. v.elsewhere n (λ i. k (zeroed_opaque n F (subst (λ (ts : List Tag). InOpaque n ts) (blanking order level f g u).tags (opaque_zeroed n G i)))) ∙ u.elsewhere n k;
    }

-- any byte inside an opaque body that the reading passed may become any other
pub blanked_byte : (order level : ℕ) (f : List ℕ) (n x : ℕ) → InOpaque n (walk_file order level f).tags → Blanked order level f (set f n x)
blanked_byte order level f n x i = record {
  long = length-set f n x;
  elsewhere = λ m k. get_or-set_other f n m x 0 (λ e. k (subst (λ (m : ℕ). InOpaque m (walk_file order level f).tags) (sym e) i));
}

-- ---- what a call leaves

-- the same answer in rooms of one length, 19 included
pub same_answer : {ts : List Tag} (m m' : List ℕ) (R S : Result) → length m' ≡ length m → SameResult ts R S → (into m' S).answer ≡ (into m R).answer
same_answer m m' R S l both_refuse = refl
same_answer m m' R S l (both_give {t} {u} h) = rw (h.long, l) (go (leb (length t) (length m)))
  where
    go : (c : Bool) → (pick c (record { answer = accepted (length t); lent = u ++ drop (length t) m' }) (refuses_with m' 19 (length t))).answer ≡ (pick c (accepts m t) (refuses_with m 19 (length t))).answer
    go true = refl
    go false = refl

-- where both give tables
pub same_given : {ts : List Tag} {t u : List ℕ} (R S : Result) → SameResult ts R S → R ≡ gives t → S ≡ gives u → SameBut ts t u
same_given R S both_refuse p q = clash cc
same_given {ts} {t} {u} R S (both_give {t = t'} {u = u'} h) p q =
    let a : t' ≡ t = cc in
    let b : u' ≡ u = cc in
    rw (← a, ← b) h
