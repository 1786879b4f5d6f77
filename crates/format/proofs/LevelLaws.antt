-- Two levels of one file (demand 3): the theorem `levels`, at the end.
use Prim.Native.Nat.{ℕ, zero, suc, pred, ◌+◌, ◌-◌, ◌/◌, ◌≤◌, ◌<◌}
use mathlib.Core.List.{List, [], ◌∷◌, ◌++◌, append_assoc, append-nil}
use mathlib.Core.Path.{◌≡◌, refl, ap, sym, ◌∙◌, subst, subst₂}
use mathlib.Core.Bool.{Bool, true, false}
use mathlib.Core.Logic.{◌⊎◌, inl, inr}
use lib.ListN.{length, get_or, take, drop, length-append, length-drop, take-append-drop}
use lib.Seq.{length-take-le, take-append_seam, drop-append_seam}
use lib.Dec.{ltb, eqb}
use borrow.Author.Tests.{ltb-true, ltb-false, lt-ltb, le-ltb, eqb-true}
use native.Mathlib.Nat.{add_assoc}
use native.Mathlib.Omega.{arith}
use Rattle.format.specs.Tests.{pick}
use Rattle.format.specs.Bits.{Order, order_named}
use Rattle.format.specs.Reading.{Ending, At, Fault}
use Rattle.format.specs.Bodies.{Body, to_end, read_body}
use Rattle.format.specs.FileAndTags.{Class, opaque, end, container, known, codes, class_of, is_end, is_container, long_on_short, state_of, packed, Tag, Outcome, whole, fault, Walk, broken, chain, Head, head, no_head, raw_head, passes, read_head, Owner, file, inside, TagInside, end_at, no_tags, has_list, leaf, opened, within, after_tag, tag_then, one_tag, walk, walk_list}
use Rattle.format.specs.Reasons.{start_fault, walk_file}
use Rattle.format.specs.Levels.{end_of, veil, hide_from, hide, InHidden, here, later, Refuses, alike, apart, Levels}
use Rattle.format.proofs.WalkLaws.{RawFits, raw_fits, Between, between_wider, FaultIn, Before, before_later, Placed, placed_within, placed_after, placed}
use Rattle.format.proofs.BodyLaws.{end_le}
use Rattle.format.proofs.StateLaws.{state_veiled}
use Rattle.format.proofs.StartLaws.{good_start}
use Rattle.format.proofs.Absurd.{clash}

-- ---- a part of the file, at its place
pub record Part (f : List ℕ) (a : ℕ) (r : List ℕ) : Type 0 where
  pub before : List ℕ
  pub after : List ℕ
  pub parts : f ≡ before ++ (r ++ after)
  pub place : length before ≡ a

pub part_drop : (f : List ℕ) (a k : ℕ) (r : List ℕ) → k ≤ length r → Part f a r → Part f (a + k) (drop k r)
part_drop f a k r l u = record {
  before = u.before ++ take k r;
  after = u.after;
  parts = u.parts ∙ sym (rw (append_assoc, ← append_assoc (take k r), take-append-drop));
  place = rw (length-append, length-take-le k r l) (omega (arith, u.place));
}

pub part_take : (f : List ℕ) (a k : ℕ) (r : List ℕ) → Part f a r → Part f a (take k r)
part_take f a k r u = record {
  before = u.before;
  after = drop k r ++ u.after;
  parts = u.parts ∙ sym (rw (← append_assoc (take k r), take-append-drop));
  place = u.place;
}

pub part_plain : (f : List ℕ) (a : ℕ) (r : List ℕ) → Part f a r → take (length r) (drop a f) ≡ r
part_plain f a r u = rw (u.parts, ← u.place, drop-append_seam, take-append_seam)

-- ---- hiding
module _ (lo : ℕ) (f : List ℕ) where
  -- where no tag starts before e, it does not matter
  hide_start : (d e b : ℕ) (ts : List Tag) → d ≤ e → Between e b ts → hide_from lo f d ts ≡ hide_from lo f e ts
  hide_start d e b [] l h = refl
  hide_start d e b (t ∷ ts) l h =
      rw (le-ltb t.place d (omega (arith, h.0)), le-ltb t.place e (omega (arith, h.0)))
      (go (hide_start d e b ts l h.3) (ltb lo t.code))
    where
      go : hide_from lo f d ts ≡ hide_from lo f e ts → (c : Bool) → pick c (veil f t ∷ hide_from lo f (end_of t) ts) (t ∷ hide_from lo f d ts) ≡ pick c (veil f t ∷ hide_from lo f (end_of t) ts) (t ∷ hide_from lo f e ts)
      go i true = refl
      go i false = ap (λ (us : List Tag). t ∷ us) i

  -- tags that end before others start are hidden apart from them
  hide_append : (e m a b : ℕ) (ts us : List Tag) → e ≤ m → Between a m ts → Between m b us → hide_from lo f e (ts ++ us) ≡ hide_from lo f e ts ++ hide_from lo f m us
  hide_append e m a b [] us l h v = hide_start e m b us l v
  hide_append e m a b (t ∷ ts) us l h v =
      go (λ e l. hide_append e m a b ts us l h.3 v) (ltb t.place e) (ltb lo t.code)
    where
      go : ((e : ℕ) → e ≤ m → hide_from lo f e (ts ++ us) ≡ hide_from lo f e ts ++ hide_from lo f m us)
          → (c d : Bool) → pick c (hide_from lo f e (ts ++ us)) (pick d (veil f t ∷ hide_from lo f (end_of t) (ts ++ us)) (t ∷ hide_from lo f e (ts ++ us)))
          ≡ pick c (hide_from lo f e ts) (pick d (veil f t ∷ hide_from lo f (end_of t) ts) (t ∷ hide_from lo f e ts)) ++ hide_from lo f m us
      go i true d = i e l
      go i false true = ap (λ (us : List Tag). veil f t ∷ us) (i (end_of t) h.2)
      go i false false = ap (λ (us : List Tag). t ∷ us) (i e l)

  -- tags inside the last hidden one are left out
  hide_inside : (a e : ℕ) (ts us : List Tag) → Between a e ts → hide_from lo f e (ts ++ us) ≡ hide_from lo f e us
  hide_inside a e [] us h = refl
  hide_inside a e (t ∷ ts) us h = rw (lt-ltb t.place e (omega (arith, h.1, h.2))) (hide_inside a e ts us h.3)

  hidden_left : (n : ℕ) (ts us : List Tag) → InHidden lo n ts → InHidden lo n (ts ++ us)
  hidden_left n [] us x' = elim x' [ ]
  hidden_left n (t ∷ ts) us (here c p q) = here c p q
  hidden_left n (t ∷ ts) us (later h) = later (hidden_left n ts us h)

  hidden_right : (n : ℕ) (ts us : List Tag) → InHidden lo n us → InHidden lo n (ts ++ us)
  hidden_right n [] us h = h
  hidden_right n (t ∷ ts) us h = later (hidden_right n ts us h)

  -- ---- the walks H and L of one room at the higher and at the lower level, where H ended as z
  abbrev Kin : ℕ → Walk → Walk → Outcome → Type 0
  Kin a H L whole = (L.ended ≡ whole) × (L.tags ≡ hide_from lo f a H.tags)
  Kin a H L (fault e n) = (L.ended ≡ fault e n) ⊎ InHidden lo n L.tags

  -- hidden, also where more follows
  kin_hidden : (n : ℕ) (t : Tag) (ts : List Tag) (z : Outcome) (w : Walk) → InHidden lo n ts → InHidden lo n (chain (t ∷ ts) z w).tags
  kin_hidden n t ts whole w h = later (hidden_left n ts w.tags h)
  kin_hidden n t ts (fault e m) w h = later h

  -- a tag of the lower level, with the walks inside it, and the walks of what follows
  kin_shown : (t : Tag) (s b B : ℕ) (Hi Li Hw Lw : Walk) → t.code ≤ lo → t.place ≤ s → end_of t ≡ b → s ≤ b
      → Between s b Hi.tags → Kin s Hi Li Hi.ended → Between b B Hw.tags → Kin b Hw Lw Hw.ended
      → Kin t.place (chain (t ∷ Hi.tags) Hi.ended Hw) (chain (t ∷ Li.tags) Li.ended Lw) (chain (t ∷ Hi.tags) Hi.ended Hw).ended
  kin_shown t s b B Hi Li Hw Lw small l eb sb u x v y = inner Hi.ended x
    where
      rest : (zl : Outcome) → zl ≡ whole → Li.tags ≡ hide_from lo f s Hi.tags → (z : Outcome) → Kin b Hw Lw z
          → Kin t.place (record { tags = (t ∷ Hi.tags) ++ Hw.tags; ended = z }) (chain (t ∷ Li.tags) zl Lw) z
      rest (fault e n) q r z y = clash cc
      rest whole q r whole y = (
        y.0,
        rw (
          le-ltb t.place t.place (omega arith),
          le-ltb lo t.code small,
          hide_append t.place b s B Hi.tags Hw.tags (omega arith) u v,
          hide_start t.place s b Hi.tags l u,
          y.1,
          r,
        ),
      )
      rest whole q r (fault e n) (inl y) = inl y
      rest whole q r (fault e n) (inr y) = inr (hidden_right n (t ∷ Li.tags) Lw.tags y)

      broke : (e n : ℕ) → (Li.ended ≡ fault e n) ⊎ InHidden lo n Li.tags
          → ((chain (t ∷ Li.tags) Li.ended Lw).ended ≡ fault e n) ⊎ InHidden lo n (chain (t ∷ Li.tags) Li.ended Lw).tags
      broke e n (inl q) = inl (rw q refl)
      broke e n (inr h) = inr (kin_hidden n t Li.tags Li.ended Lw h)

      inner : (z : Outcome) → Kin s Hi Li z → Kin t.place (chain (t ∷ Hi.tags) z Hw) (chain (t ∷ Li.tags) Li.ended Lw) (chain (t ∷ Hi.tags) z Hw).ended
      inner whole x = rest Li.ended x.0 x.1 Hw.ended y
      inner (fault e n) x = broke e n x

  -- a tag above the lower level
  kin_veiled : (t : Tag) (B : ℕ) (Hi Hw Lw : Walk) → lo < t.code → t.place < end_of t
      → Placed (inside t.place) (t.place + t.header_size) (end_of t) Hi → Between (end_of t) B Hw.tags → Kin (end_of t) Hw Lw Hw.ended
      → Kin t.place (chain (t ∷ Hi.tags) Hi.ended Hw) (chain (veil f t ∷ []) whole Lw) (chain (t ∷ Hi.tags) Hi.ended Hw).ended
  kin_veiled t B Hi Hw Lw big l u v y = inner Hi.ended u.faults
    where
      rest : (z : Outcome) → Kin (end_of t) Hw Lw z → Kin t.place (record { tags = (t ∷ Hi.tags) ++ Hw.tags; ended = z }) (chain (veil f t ∷ []) whole Lw) z
      rest whole y = (
        y.0,
        rw (le-ltb t.place t.place (omega arith), lt-ltb lo t.code big, hide_inside (t.place + t.header_size) (end_of t) Hi.tags Hw.tags u.tags, y.1),
      )
      rest (fault e n) (inl y) = inl y
      rest (fault e n) (inr y) = inr (later y)

      inner : (z : Outcome) → FaultIn (inside t.place) (end_of t) z → Kin t.place (chain (t ∷ Hi.tags) z Hw) (chain (veil f t ∷ []) whole Lw) (chain (t ∷ Hi.tags) z Hw).ended
      inner whole x = rest Hw.ended y
      inner (fault e n) x = inr (here big x.0 x.1)

  kin_start : (d e b : ℕ) (H L : Walk) (z : Outcome) → d ≤ e → Between e b H.tags → Kin e H L z → Kin d H L z
  kin_start d e b H L whole l u x = (x.0, x.1 ∙ sym (hide_start d e b H.tags l u))
  kin_start d e b H L (fault n m) l u x = x

  -- where both levels read the same
  kin_none : (a : ℕ) (z : Outcome) → Kin a (no_tags z) (no_tags z) z
  kin_none a whole = (refl, refl)
  kin_none a (fault e n) = inl refl

  kin_after : (e : Bool) (c : Owner) (a : ℕ) (r : List ℕ) (N M : ℕ → List ℕ → Walk) → Kin a (N a r) (M a r) (N a r).ended
      → Kin a (after_tag e c a r N) (after_tag e c a r M) (after_tag e c a r N).ended
  kin_after false c a r N M x = x
  kin_after true c a [] N M x = (refl, refl)
  kin_after true c a (y ∷ r) N M x = inl refl

-- ---- headers: code by code, both levels refuse alike; or the code is above the lower one, and only a container's depth (12) can part them
module _ (ch cl : ℕ → Class) (lo : ℕ)
    (same : (code : ℕ) → code ≤ lo → ch code ≡ cl code)
    (veils : (code : ℕ) → lo < code → cl code ≡ opaque)
    (going : (code : ℕ) → lo < code → is_end (ch code) ≡ false) where
  module _ (left : ℕ) (r : List ℕ) (P : Head → Head → Type 0)
      (none : (e : ℕ) → P (no_head e) (no_head e))
      (shown : (code len size : ℕ) → 2 ≤ size → size + len ≤ length r → code ≤ lo → P (head code len size) (head code len size))
      (veiled : (code len size : ℕ) → 2 ≤ size → size + len ≤ length r → lo < code → (b : Bool) → P (pick b (no_head 12) (head code len size)) (head code len size)) where
    heads_pass : (code len size : ℕ) → 2 ≤ size → size ≤ length r → P (passes ch left r (head code len size)) (passes cl left r (head code len size))
    heads_pass code len size h l = go (ltb (length (drop size r)) len) refl (ltb lo code) refl
      where
        both : size + len ≤ length r → code ≤ lo → (d e : Bool)
            → P (pick d (no_head 10) (pick e (no_head 12) (head code len size))) (pick d (no_head 10) (pick e (no_head 12) (head code len size)))
        both m k true e = none 10
        both m k false true = none 12
        both m k false false = shown code len size h m k

        fits : ltb (length (drop size r)) len ≡ false → size + len ≤ length r
        fits e = omega (arith, ltb-false (length (drop size r)) len e, length-drop size r)

        go : (c : Bool) → ltb (length (drop size r)) len ≡ c → (d : Bool) → ltb lo code ≡ d → P (passes ch left r (head code len size)) (passes cl left r (head code len size))
        go true e d q = rw e (none 9)
        go false e true q = rw (e, going code (ltb-true lo code q), veils code (ltb-true lo code q))
            (veiled code len size h (fits e) (ltb-true lo code q) (pick (is_container (ch code)) (eqb left 0) false))
        go false e false q = rw (e, ← same code (ltb-false lo code q))
            (both (fits e) (ltb-false lo code q) (pick (is_end (ch code)) (ltb 0 len) false) (pick (is_container (ch code)) (eqb left 0) false))

    heads : P (read_head ch left r) (read_head cl left r)
    heads = go (raw_head r) (raw_fits r)
      where
        go : (g : Head) → RawFits r g → P (passes ch left r g) (passes cl left r g)
        go (no_head e) h = none e
        go (head code len size) h = heads_pass code len size h.0 h.1

  -- ---- lists
  module _ (o : Order) (f : List ℕ) where
    abbrev KinLists : (RH RL : ℕ → Owner → ℕ → List ℕ → Walk) → Type 0
    KinLists RH RL = (left : ℕ) (c : Owner) (a : ℕ) (r : List ℕ) → Before c a → Part f a r → Kin lo f a (RH left c a r) (RL left c a r) (RH left c a r).ended

    abbrev PlacedLists : (R : ℕ → Owner → ℕ → List ℕ → Walk) → Type 0
    PlacedLists R = (left : ℕ) (c : Owner) (a : ℕ) (r : List ℕ) → Before c a → Placed c a (a + length r) (R left c a r)

    module _ (RH RL : ℕ → Owner → ℕ → List ℕ → Walk) (kins : KinLists RH RL) (puts : PlacedLists RH) where
      -- a tag that both levels read by the class C
      kin_class : (left B : ℕ) (C : Class) (d code a size st : ℕ) (body : List ℕ) (Hw Lw : Walk) → code ≤ lo → 1 ≤ size → Part f (a + size) body
          → Between (a + size + length body) B Hw.tags → Kin lo f (a + size + length body) Hw Lw Hw.ended
          → Kin lo f a (tag_then d code a size (length body) st (within o (RH left) C a (a + size) body) Hw) (tag_then d code a size (length body) st (within o (RL left) C a (a + size) body) Lw)
          (tag_then d code a size (length body) st (within o (RH left) C a (a + size) body) Hw).ended
      kin_class left B C d code a size st body Hw Lw small pos p v y = by C
        where
          KinIn : TagInside → TagInside → Type 0
          KinIn i j = Kin lo f a (tag_then d code a size (length body) st i Hw) (tag_then d code a size (length body) st j Lw) (tag_then d code a size (length body) st i Hw).ended

          sure : (vs : List ℕ) (Hi Li : Walk) → Between (a + size) (a + size + length body) Hi.tags → Kin lo f (a + size) Hi Li Hi.ended
              → Kin lo f a (tag_then d code a size (length body) st (record { values = vs; walk = Hi }) Hw) (tag_then d code a size (length body) st (record { values = vs; walk = Li }) Lw)
              (tag_then d code a size (length body) st (record { values = vs; walk = Hi }) Hw).ended
          sure vs Hi Li u x = kin_shown lo f (record { depth = d; code = code; place = a; header_size = size; body_length = length body; state = st; values = vs }) (a + size) (a + size + length body) B Hi Li Hw Lw
              small (omega arith) refl (omega arith) u x v y

          nest : (xs : List ℕ) (k : ℕ) (Hi Li : Walk) → Between (a + size + k) (a + size + length body) Hi.tags → Kin lo f (a + size + k) Hi Li Hi.ended
              → Kin lo f a (tag_then d code a size (length body) st (record { values = xs; walk = Hi }) Hw) (tag_then d code a size (length body) st (record { values = xs; walk = Li }) Lw)
              (tag_then d code a size (length body) st (record { values = xs; walk = Hi }) Hw).ended
          nest xs k Hi Li u x = sure xs Hi Li (between_wider (a + size + k) (a + size + length body) (a + size) (a + size + length body) Hi.tags (omega arith) (omega arith) u)
              (kin_start lo f (a + size) (a + size + k) (a + size + length body) Hi Li Hi.ended (omega arith) u x)

          deep : (y : Body) (xs : List ℕ) (z : Ending) → (to_end o body y).ended ≡ z
              → Kin lo f a (tag_then d code a size (length body) st (opened (RH left) a (a + size) body xs z) Hw) (tag_then d code a size (length body) st (opened (RL left) a (a + size) body xs z) Lw)
              (tag_then d code a size (length body) st (opened (RH left) a (a + size) body xs z) Hw).ended
          deep y xs (Fault e) eq = sure xs (broken e a) (broken e a) tt (inl refl)
          deep y xs (At q) eq =
              let m : q / 8 ≤ length body = omega (arith, end_le o y body q eq) in
              let n : a + size + q / 8 + length (drop (q / 8) body) ≡ a + size + length body = rw length-drop (omega arith) in
              nest xs (q / 8) (RH left (inside a) (a + size + q / 8) (drop (q / 8) body)) (RL left (inside a) (a + size + q / 8) (drop (q / 8) body))
              (rw n at (puts left (inside a) (a + size + q / 8) (drop (q / 8) body) (omega arith)).tags)
              (kins left (inside a) (a + size + q / 8) (drop (q / 8) body) (omega arith) (part_drop f (a + size) (q / 8) body m p))

          flat : (y : Body) → KinIn (leaf a (read_body o y body)) (leaf a (read_body o y body))
          flat y = sure (read_body o y body).shown (no_tags (end_at a (read_body o y body).ended)) (no_tags (end_at a (read_body o y body).ended)) tt (kin_none lo f (a + size) (end_at a (read_body o y body).ended))

          test : (c : Bool) (i j x : TagInside) → KinIn i j → KinIn x x → KinIn (pick c i x) (pick c j x)
          test true i j x u w = u
          test false i j x u w = w

          by : (C : Class) → Kin lo f a (tag_then d code a size (length body) st (within o (RH left) C a (a + size) body) Hw) (tag_then d code a size (length body) st (within o (RL left) C a (a + size) body) Lw)
              (tag_then d code a size (length body) st (within o (RH left) C a (a + size) body) Hw).ended
          by opaque = sure (packed body) (no_tags whole) (no_tags whole) tt (refl, refl)
          by end = sure [] (no_tags whole) (no_tags whole) tt (refl, refl)
          by (known y) = flat y
          by (container y) = test (has_list y (to_end o body y).shown) _ _ _ (deep y (to_end o body y).shown (to_end o body y).ended refl) (flat y)

      module _ (left : ℕ) (c : Owner) (a : ℕ) (r : List ℕ) (h : Before c a) (p : Part f a r) where
        abbrev Goal : Head → Head → Type 0
        Goal g g' = Kin lo f a (one_tag o ch RH left c a r g) (one_tag o cl RL left c a r g') (one_tag o ch RH left c a r g).ended

        -- the body and the rest of the room, where the header passed
        module _ (code len size : ℕ) (two : 2 ≤ size) (fit : size + len ≤ length r) where
          abbrev body : List ℕ
          body = take len (drop size r)

          abbrev left_over : List ℕ
          left_over = drop (size + len) r

          body_length_lem : length body ≡ len
          body_length_lem = length-take-le len (drop size r) (rw length-drop (omega arith))

          body_part : Part f (a + size) body
          body_part = part_take f (a + size) len (drop size r) (part_drop f a size r (omega arith) p)

          over_part : Part f (a + size + len) left_over
          over_part = rw add_assoc (part_drop f a (size + len) r fit p)

          over_before : Before c (a + size + len)
          over_before = before_later c a (a + size + len) (omega arith) h

          over_kin : (e : Bool) → Kin lo f (a + size + len) (after_tag e c (a + size + len) left_over (RH left c)) (after_tag e c (a + size + len) left_over (RL left c))
              (after_tag e c (a + size + len) left_over (RH left c)).ended
          over_kin e = kin_after lo f e c (a + size + len) left_over (RH left c) (RL left c) (kins left c (a + size + len) left_over over_before over_part)

          over_between : (e : Bool) → Between (a + size + len) (a + size + len + length left_over) (after_tag e c (a + size + len) left_over (RH left c)).tags
          over_between e = (placed_after o ch e c (a + size + len) left_over (RH left c) over_before (puts left c (a + size + len) left_over over_before)).tags

          one_shown : code ≤ lo → Goal (head code len size) (head code len size)
          one_shown small = rw (← same code small) (subst
              (λ (n : ℕ). Kin lo f a (tag_then (8 - left) code a size n (state_of (ch code) size len) (within o (RH (pred left)) (ch code) a (a + size) body) (after_tag (is_end (ch code)) c (a + size + len) left_over (RH left c)))
              (tag_then (8 - left) code a size n (state_of (ch code) size len) (within o (RL (pred left)) (ch code) a (a + size) body) (after_tag (is_end (ch code)) c (a + size + len) left_over (RL left c)))
              (tag_then (8 - left) code a size n (state_of (ch code) size len) (within o (RH (pred left)) (ch code) a (a + size) body) (after_tag (is_end (ch code)) c (a + size + len) left_over (RH left c))).ended)
              body_length_lem
              (kin_class (pred left) (a + size + len + length left_over) (ch code) (8 - left) code a size (state_of (ch code) size len) body _ _ small (omega arith) body_part
              (rw body_length_lem (over_between (is_end (ch code)))) (rw body_length_lem (over_kin (is_end (ch code))))))

          one_veiled : lo < code → (b : Bool) → Goal (pick b (no_head 12) (head code len size)) (head code len size)
          one_veiled big true =
              let x : a ≤ a = omega arith in
              let y : a < a + size + len = omega arith in
              rw (veils code big) (inr (here big x y))
          one_veiled big false = rw (veils code big, going code big) (subst₂
              (λ (s : ℕ) (vs : List ℕ). Kin lo f a (tag_then (8 - left) code a size len st i (RH left c (a + size + len) left_over))
              (chain (record { depth = 8 - left; code = code; place = a; header_size = size; body_length = len; state = s; values = vs } ∷ []) whole (RL left c (a + size + len) left_over))
              (tag_then (8 - left) code a size len st i (RH left c (a + size + len) left_over)).ended)
              (state_veiled (ch code) (long_on_short size len))
              (ap packed (rw body_length_lem at (part_plain f (a + size) body body_part)))
              (kin_veiled lo f (record { depth = 8 - left; code = code; place = a; header_size = size; body_length = len; state = st; values = i.values })
              (a + size + len + length left_over) i.walk (RH left c (a + size + len) left_over) (RL left c (a + size + len) left_over) big (omega arith)
              (rw body_length_lem at (placed_within o ch (RH (pred left)) (puts (pred left)) (ch code) a (a + size) body (omega arith)))
              (over_between false) (over_kin false)))
            where
              st : ℕ
              st = state_of (ch code) size len

              i : TagInside
              i = within o (RH (pred left)) (ch code) a (a + size) body

    kin : (k : ℕ) → KinLists (walk o ch k) (walk o cl k)
    unfolding walk
    kin zero left c a r h p = inl refl
    kin (suc k) left c a [] h p = inl refl
    kin (suc k) left c a (x ∷ r) h p = one (kin k)
      where
        RH : ℕ → Owner → ℕ → List ℕ → Walk
        RH = walk o ch k

        RL : ℕ → Owner → ℕ → List ℕ → Walk
        RL = walk o cl k

        one : KinLists RH RL → Kin lo f a (one_tag o ch RH left c a (x ∷ r) (read_head ch left (x ∷ r))) (one_tag o cl RL left c a (x ∷ r) (read_head cl left (x ∷ r)))
            (one_tag o ch RH left c a (x ∷ r) (read_head ch left (x ∷ r))).ended
        one u = heads left (x ∷ r) (Goal RH RL u (placed o ch k) left c a (x ∷ r) h p) (λ e. inl refl)
            (λ code len size two fit small. one_shown RH RL u (placed o ch k) left c a (x ∷ r) h p code len size two fit small)
            (λ code len size two fit big. one_veiled RH RL u (placed o ch k) left c a (x ∷ r) h p code len size two fit big)

-- ---- files

-- code 0 alone is End
abbrev Going : List Class → Type 0
Going [] = Unit {0}
Going (opaque ∷ l) = Going l
Going (end ∷ l) = ⊥
Going (container y ∷ l) = Going l
Going (known y ∷ l) = Going l

going_on : (l : List Class) → Going l → (n : ℕ) → is_end (get_or l n opaque) ≡ false
going_on [] h n = refl
going_on (end ∷ l) h n = absurd h
going_on (opaque ∷ l) h zero = refl
going_on (opaque ∷ l) h (suc n) = going_on l h n
going_on (container y ∷ l) h zero = refl
going_on (container y ∷ l) h (suc n) = going_on l h n
going_on (known y ∷ l) h zero = refl
going_on (known y ∷ l) h (suc n) = going_on l h n

later_codes : (n : ℕ) → 0 < n → is_end (get_or codes n opaque) ≡ false
later_codes zero h = absurd (omega arith)
later_codes (suc n) h = going_on (drop 1 codes) tt n

same_class : (lo hi code : ℕ) → lo ≤ hi → code ≤ lo → class_of hi code ≡ class_of lo code
unfolding class_of
same_class lo hi code l h = rw (le-ltb hi code (omega arith), le-ltb lo code h)

veiled_class : (lo code : ℕ) → lo < code → class_of lo code ≡ opaque
unfolding class_of
veiled_class lo code h = rw (lt-ltb lo code h)

going_class : (lo hi code : ℕ) → lo < code → is_end (class_of hi code) ≡ false
unfolding class_of
going_class lo hi code h = go (ltb hi code)
  where
    go : (c : Bool) → is_end (pick c opaque (get_or codes code opaque)) ≡ false
    go true = refl
    go false = later_codes code (omega arith)

same_start : (order lo hi : ℕ) (f : List ℕ) → lo ≤ hi → hi ≤ 1023 → start_fault order hi f ≡ start_fault order lo f
unfolding start_fault
same_start order lo hi f l m = rw (le-ltb 1023 hi m, le-ltb 1023 lo (omega arith))

module _ (order lo hi : ℕ) (f : List ℕ) (l : lo ≤ hi) (m : hi ≤ 1023) where
  kin_file : Kin lo f 0 (walk_file order hi f) (walk_file order lo f) (walk_file order hi f).ended
  unfolding walk_file
  kin_file = rw (same_start order lo hi f l m) (go (eqb (start_fault order lo f) 0) refl)
    where
      H : Walk
      H = walk_list (order_named order) (class_of hi) 8 file 9 (drop 9 f)

      L : Walk
      L = walk_list (order_named order) (class_of lo) 8 file 9 (drop 9 f)

      room : 9 ≤ length f → Part f 9 (drop 9 f)
      room n = record { before = take 9 f; after = []; parts = sym (rw (append-nil, take-append-drop)); place = length-take-le 9 f n }

      good : 9 ≤ length f → Kin lo f 0 H L H.ended
      good n = kin_start lo f 0 9 (9 + length (drop 9 f)) H L H.ended (omega arith) (placed (order_named order) (class_of hi) (length (drop 9 f)) 8 file 9 (drop 9 f) tt).tags
          (kin (class_of hi) (class_of lo) lo (λ code h. same_class lo hi code l h) (λ code h. veiled_class lo code h) (λ code h. going_class lo hi code h) (order_named order) f
          (length (drop 9 f)) 8 file 9 (drop 9 f) tt (room n))

      go : (c : Bool) → eqb (start_fault order lo f) 0 ≡ c → Kin lo f 0 (pick c H (broken (start_fault order lo f) 0)) (pick c L (broken (start_fault order lo f) 0)) (pick c H (broken (start_fault order lo f) 0)).ended
      go true e = good (good_start order lo f (eqb-true (start_fault order lo f) 0 e)).long
      go false e = inl refl

  pub levels : Levels order lo hi f
  levels = record { accepted = accepted; refused = refused; only = only }
    where
      H : Walk
      H = walk_file order hi f

      L : Walk
      L = walk_file order lo f

      accepted : H.ended ≡ whole → L ≡ record { tags = hide lo f H.tags; ended = whole }
      accepted e = let k : (L.ended ≡ whole) × (L.tags ≡ hide lo f H.tags) = rw e at kin_file in λ i. record { tags = k.1 i; ended = k.0 i }

      refused : (e n : ℕ) → L.ended ≡ fault e n → Refuses lo L.tags e n H.ended
      refused e n q = go H.ended kin_file
        where
          go : (z : Outcome) → Kin lo f 0 H L z → Refuses lo L.tags e n z
          go whole k = absurd (let p : L.ended ≡ whole = k.0 in clash cc)
          go (fault e' n') (inl k) = subst (λ (z : Outcome). Refuses lo L.tags e n z) (sym q ∙ k) alike
          go (fault e' n') (inr k) = apart k

      only : (e n : ℕ) → L.ended ≡ whole → H.ended ≡ fault e n → InHidden lo n L.tags
      only e n w q = go (rw q at kin_file)
        where
          go : (L.ended ≡ fault e n) ⊎ InHidden lo n L.tags → InHidden lo n L.tags
          go (inl k) = clash cc
          go (inr k) = k
