-- The tags of a whole walk, flat: each starts where the own bytes of the one before it end.
use Prim.Native.Nat.{ℕ, zero, suc, pred, ◌+◌, ◌-◌, ◌*◌, ◌/◌, ◌%◌, ◌≤◌, ◌<◌}
use mathlib.Core.List.{List, [], ◌∷◌, ◌++◌, append_assoc}
use mathlib.Core.Path.{◌≡◌, refl, ap, sym, subst, ◌∙◌}
use mathlib.Core.Bool.{Bool, true, false}
use lib.ListN.{length, take, drop, length-append, length-drop, take-append-drop}
use lib.Seq.{length-take-le, drop-drop, drop-append-le, take-append-le, take-length}
use lib.Dec.{ltb, eqb}
use borrow.Author.Tests.{ltb-true, ltb-false, le-ltb}
use native.Mathlib.Omega.{arith}
use Rattle.format.specs.Tests.{pick}
use Rattle.format.specs.Bits.{Order}
use Rattle.format.specs.Reading.{Ending, At, Fault}
use Rattle.format.specs.Bodies.{to_end, read_body}
use Rattle.format.specs.FileAndTags.{Class, opaque, end, container, known, is_end, is_container, Tag, Outcome, whole, fault, Walk, chain, Head, head, no_head, raw_head, state_of, passes, read_head, Owner, inside, TagInside, end_at, leaf, opened, within, after_tag, tag_then, one_tag, walk}
use Rattle.format.specs.Levels.{end_of}
use Rattle.format.proofs.BodyLaws.{end_le}
use Rattle.format.proofs.WalkLaws.{Fits, head_fits}
use Rattle.bodies.specs.Leaf.{has_list_in}
use Rattle.tally.specs.Places.{start_in}
use Rattle.tally.specs.OwnBytes.{belongs, own_bytes}
use Rattle.tally.proofs.OwnLaws.{belongs_here, belongs_not_here, belongs_later, belongs_sooner, own_is}

-- ---- a list's room in the file
pub record Room (f : List ℕ) (a : ℕ) (r : List ℕ) : Type 0 where
  pub rest : List ℕ
  pub stands : drop a f ≡ r ++ rest

room_from : (f : List ℕ) (a k : ℕ) (r : List ℕ) → k ≤ length r → Room f a r → Room f (a + k) (drop k r)
room_from f a k r l h = record {
  rest = h.rest;
  stands = sym (drop-drop k a f) ∙ ap (drop k) h.stands ∙ drop-append-le k r h.rest l;
}

room_front : (f : List ℕ) (a n : ℕ) (r : List ℕ) → Room f a r → Room f a (take n r)
room_front f a n r h = record {
  rest = drop n r ++ h.rest;
  stands = h.stands ∙ ap (λ (l : List ℕ). l ++ h.rest) (sym (take-append-drop n r)) ∙ append_assoc (take n r) (drop n r) h.rest;
}

room_length : (f : List ℕ) (a : ℕ) (r : List ℕ) → a ≤ length f → Room f a r → a + length r ≤ length f
room_length f a r l h = omega (arith, length-drop a f, ap length h.stands, length-append r h.rest)

-- ---- a header is the same in a longer room
abbrev Stays : List ℕ → List ℕ → Head → Type 0
Stays r q (head code len size) = raw_head (r ++ q) ≡ head code len size
Stays r q (no_head e) = Unit {0}

stays : (r q : List ℕ) → Stays r q (raw_head r)
stays [] q = tt
stays (x ∷ []) q = tt
stays (x ∷ y ∷ r) q = go (eqb ((x + 256 * y) % 64) 63) refl r
  where
    two : (l : List ℕ) → ltb (suc (suc (length l))) 2 ≡ false
    two l = le-ltb (suc (suc (length l))) 2 (omega arith)

    six : (l : List ℕ) → ltb (suc (suc (suc (suc (suc (suc (length l))))))) 6 ≡ false
    six l = le-ltb (suc (suc (suc (suc (suc (suc (length l))))))) 6 (omega arith)

    go : (c : Bool) → eqb ((x + 256 * y) % 64) 63 ≡ c → (r : List ℕ) → Stays (x ∷ y ∷ r) q (raw_head (x ∷ y ∷ r))
    go false e r = rw (two r, e) (rw (two (r ++ q), e) refl)
    go true e [] = rw e tt
    go true e (s ∷ []) = rw e tt
    go true e (s ∷ t ∷ []) = rw e tt
    go true e (s ∷ t ∷ u ∷ []) = rw e tt
    go true e (s ∷ t ∷ u ∷ v ∷ r) = rw (two (s ∷ t ∷ u ∷ v ∷ r), e, six r) (rw (two (s ∷ t ∷ u ∷ v ∷ (r ++ q)), e, six (r ++ q)) refl)

-- a header that passed is the one that stands there
abbrev Stands : List ℕ → Head → Type 0
Stands r (head code len size) = raw_head r ≡ head code len size
Stands r (no_head e) = Unit {0}

passes_stands : (class : ℕ → Class) (left : ℕ) (r : List ℕ) → Stands r (read_head class left r)
passes_stands class left r = go (raw_head r) refl
  where
    go : (g : Head) → raw_head r ≡ g → Stands r (passes class left r g)
    go (no_head e) q = tt
    go (head code len size) q = test (ltb (length (drop size r)) len) (pick (is_end (class code)) (ltb 0 len) false) (pick (is_container (class code)) (eqb left 0) false)
      where
        test : (c d e : Bool) → Stands r (pick c (no_head 9) (pick d (no_head 10) (pick e (no_head 12) (head code len size))))
        test true d e = tt
        test false true e = tt
        test false false true = tt
        test false false false = q

head_in : (f : List ℕ) (a : ℕ) (r : List ℕ) {code len size : ℕ} → Room f a r → raw_head r ≡ head code len size → raw_head (drop a f) ≡ head code len size
head_in f a r h q = ap raw_head h.stands ∙ subst (Stays r h.rest) q (stays r h.rest)

-- ---- tags that stand flat from place a of the file on

-- the next tag's place b, by the tag's class: its body of len bytes starts at s
abbrev pub Leads : Order → List ℕ → Class → ℕ → ℕ → ℕ → Type 0
Leads o f (container y) s len b = b ≡ s + start_in o y (take len (drop s f))
Leads o f opaque s len b = b ≡ s + len
Leads o f end s len b = b ≡ s + len
Leads o f (known y) s len b = b ≡ s + len

module _ (o : Order) (class : ℕ → Class) (f : List ℕ) where
  pub record Here (a b : ℕ) (t : Tag) (ts : List Tag) : Type 0 where
    pub place : t.place ≡ a
    pub header : raw_head (drop a f) ≡ head t.code t.body_length t.header_size
    pub fits : end_of t ≤ length f
    pub later : a < b
    pub next : Leads o f (class t.code) (a + t.header_size) t.body_length b
    pub own : own_bytes t ts ≡ b - a

  pub data Flat : ℕ → List Tag → Type 0 where
    over : Flat (length f) []
    here : {a b : ℕ} {t : Tag} {ts : List Tag} → Here a b t ts → Flat b ts → Flat a (t ∷ ts)

  -- no byte before them is theirs
  pub flat_from : {b : ℕ} {ts : List Tag} → Flat b ts → (p : ℕ) → p < b → belongs ts p ≡ false
  flat_from over p h = refl
  flat_from {b} (here {t = t} {ts = ts} x y) p h = belongs_not_here t ts p (omega (arith, x.place)) (flat_from y p (omega (arith, x.later)))

  pub flat_le : {b : ℕ} {ts : List Tag} → Flat b ts → b ≤ length f
  flat_le over = omega arith
  flat_le (here {t = t} x y) = omega (arith, x.place, x.fits)

  -- there are tags as long as the file goes on
  pub record First (a : ℕ) (ts : List Tag) : Type 0 where
    pub b : ℕ
    pub t : Tag
    pub us : List Tag
    pub is : ts ≡ t ∷ us
    pub at : Here a b t us
    pub rest : Flat b us

  pub flat_first : {a : ℕ} {ts : List Tag} → Flat a ts → a < length f → First a ts
  flat_first over h = absurd (omega arith)
  flat_first (here {b = b} {t = t} {ts = us} x y) h = record { b = b; t = t; us = us; is = refl; at = x; rest = y }

  pub flat_over : {a : ℕ} {ts : List Tag} → Flat a ts → length f ≤ a → ts ≡ []
  flat_over over h = refl
  flat_over (here x y) h = absurd (omega (arith, x.later, flat_le y))

-- ---- a whole list has every byte of its room
abbrev Covered : ℕ → ℕ → List Tag → Outcome → Type 0
Covered a b ts whole = (p : ℕ) → a ≤ p → p < b → belongs ts p ≡ true
Covered a b ts (fault e n) = Unit {0}

abbrev CoveredBy : ℕ → ℕ → Walk → Type 0
CoveredBy a b w = Covered a b w.tags w.ended

covered_then : (a b m d code size len s : ℕ) (i : TagInside) (w : Walk) → m ≡ a + size + len → CoveredBy m b w → CoveredBy a b (tag_then d code a size len s i w)
covered_then a b m d code size len s i w q h = go i.walk.ended w.ended h
  where
    t : Tag
    t = record { depth = d; code = code; place = a; header_size = size; body_length = len; state = s; values = i.values }

    go : (z y : Outcome) → Covered m b w.tags y → CoveredBy a b (chain (t ∷ i.walk.tags) z (record { tags = w.tags; ended = y }))
    go (fault e n) y h = tt
    go whole (fault e n) h = tt
    go whole whole h = λ p l u. part p l u (ltb p m) refl
      where
        part : (p : ℕ) → a ≤ p → p < b → (c : Bool) → ltb p m ≡ c → belongs (t ∷ (i.walk.tags ++ w.tags)) p ≡ true
        part p l u true e = belongs_here t (i.walk.tags ++ w.tags) p l (omega (arith, ltb-true p m e))
        part p l u false e = belongs_later (t ∷ i.walk.tags) w.tags p (h p (ltb-false p m e) u)

covered_after : (e : Bool) (c : Owner) (a : ℕ) (r : List ℕ) (next : ℕ → List ℕ → Walk) → CoveredBy a (a + length r) (next a r) → CoveredBy a (a + length r) (after_tag e c a r next)
covered_after false c a r next h = h
covered_after true c a [] next h = λ p l u. absurd (omega arith)
covered_after true c a (x ∷ r) next h = tt

module _ (o : Order) (class : ℕ → Class) where
  covered : (k left : ℕ) (c : Owner) (a : ℕ) (r : List ℕ) → CoveredBy a (a + length r) (walk o class k left c a r)
  unfolding walk
  covered zero left c a r = tt
  covered (suc k) left c a [] = tt
  covered (suc k) left c a (x ∷ r) = one (λ a' r'. covered k left c a' r') (read_head class left (x ∷ r)) (head_fits class left (x ∷ r))
    where
      R : ℕ → Owner → ℕ → List ℕ → Walk
      R = walk o class k

      one : ((a : ℕ) (r : List ℕ) → CoveredBy a (a + length r) (R left c a r)) → (g : Head) → Fits class left (x ∷ r) g
          → CoveredBy a (a + length (x ∷ r)) (one_tag o class R left c a (x ∷ r) g)
      one u (no_head e) l = tt
      one u (head code len size) l =
          let m : a + size + len + length (drop (size + len) (x ∷ r)) ≡ a + length (x ∷ r) = rw length-drop (omega (arith, l.1)) in
          covered_then a (a + length (x ∷ r)) (a + size + len) (8 - left) code size len (state_of (class code) size len)
          (within o (R (pred left)) (class code) a (a + size) (take len (drop size (x ∷ r))))
          (after_tag (is_end (class code)) c (a + size + len) (drop (size + len) (x ∷ r)) (R left c)) refl
          (rw m at (covered_after (is_end (class code)) c (a + size + len) (drop (size + len) (x ∷ r)) (R left c) (u (a + size + len) (drop (size + len) (x ∷ r)))))

-- ---- a whole list is flat, before whatever is flat behind it
module _ (o : Order) (class : ℕ → Class) (f : List ℕ) where
  abbrev pub Flattens : ℕ → ℕ → List Tag → Outcome → Type 0
  Flattens a b ts whole = (us : List Tag) → Flat o class f b us → Flat o class f a (ts ++ us)
  Flattens a b ts (fault e n) = Unit {0}

  abbrev FlattensBy : ℕ → ℕ → Walk → Type 0
  FlattensBy a b w = Flattens a b w.tags w.ended

  flat_after : (e : Bool) (c : Owner) (a : ℕ) (r : List ℕ) (next : ℕ → List ℕ → Walk) → FlattensBy a (a + length r) (next a r) → FlattensBy a (a + length r) (after_tag e c a r next)
  flat_after false c a r next h = h
  flat_after true c a [] next h = λ us y. subst (λ (n : ℕ). Flat o class f n us) (omega arith) y
  flat_after true c a (x ∷ r) next h = tt

  -- what stands in a tag, whose body of len bytes is at s: the next place, where the tags inside it start, and which bytes are theirs
  pub record Inside (s len : ℕ) (cl : Class) (ts : List Tag) : Type 0 where
    pub next : ℕ
    pub leads : Leads o f cl s len next
    pub from : s ≤ next
    pub upto : next ≤ s + len
    pub flat : (us : List Tag) → Flat o class f (s + len) us → Flat o class f next (ts ++ us)
    pub all : (p : ℕ) → next ≤ p → p < s + len → belongs ts p ≡ true

  abbrev InsideIf : ℕ → ℕ → Class → List Tag → Outcome → Type 0
  InsideIf s len cl ts whole = Inside s len cl ts
  InsideIf s len cl ts (fault e n) = Unit {0}

  none_inside : (s len : ℕ) (cl : Class) → Leads o f cl s len (s + len) → Inside s len cl []
  none_inside s len cl l = record { next = s + len; leads = l; from = omega arith; upto = omega arith; flat = λ us y. y; all = λ p h u. absurd (omega arith) }

  flat_within : (k left : ℕ) → ((c : Owner) (a : ℕ) (r : List ℕ) → a ≤ length f → Room f a r → FlattensBy a (a + length r) (walk o class k left c a r))
      → (cl : Class) (a s : ℕ) (body : List ℕ) → s ≤ length f → Room f s body
      → InsideIf s (length body) cl (within o (walk o class k left) cl a s body).walk.tags (within o (walk o class k left) cl a s body).walk.ended
  flat_within k left u opaque a s body v h = none_inside s (length body) opaque refl
  flat_within k left u end a s body v h = none_inside s (length body) end refl
  flat_within k left u (known y) a s body v h = go (read_body o y body).ended
    where
      go : (z : Ending) → InsideIf s (length body) (known y) [] (end_at a z)
      go (At p) = none_inside s (length body) (known y) refl
      go (Fault e) = tt
  flat_within k left u (container y) a s body v h = test (has_list_in o y body) refl
    where
      R : Owner → ℕ → List ℕ → Walk
      R = walk o class k left

      b : take (length body) (drop s f) ≡ body
      b = rw (h.stands, take-append-le (length body) body h.rest (omega arith)) (take-length body)

      -- without a list
      flat : has_list_in o y body ≡ false → (z : Ending) → (read_body o y body).ended ≡ z → InsideIf s (length body) (container y) [] (end_at a z)
      flat c (Fault e) q = tt
      flat c (At p) q = none_inside s (length body) (container y) (rw (b, c, q))

      go : has_list_in o y body ≡ true → (xs : List ℕ) (z : Ending) → (to_end o body y).ended ≡ z
          → InsideIf s (length body) (container y) (opened R a s body xs z).walk.tags (opened R a s body xs z).walk.ended
      go c xs (Fault e) q = tt
      go c xs (At p) q = list w.ended (u (inside a) (s + p / 8) (drop (p / 8) body) (omega (arith, m, room_length f s body v h)) (room_from f s (p / 8) body m h)) (covered o class k left (inside a) (s + p / 8) (drop (p / 8) body))
        where
          m : p / 8 ≤ length body
          m = omega (arith, end_le o y body p q)

          n : s + p / 8 + length (drop (p / 8) body) ≡ s + length body
          n = rw length-drop (omega (arith, m))

          w : Walk
          w = R (inside a) (s + p / 8) (drop (p / 8) body)

          list : (z : Outcome) → Flattens (s + p / 8) (s + p / 8 + length (drop (p / 8) body)) w.tags z → Covered (s + p / 8) (s + p / 8 + length (drop (p / 8) body)) w.tags z
              → InsideIf s (length body) (container y) w.tags z
          list (fault e n) x y = tt
          list whole x y = record {
            next = s + p / 8;
            leads = rw (b, c, q);
            from = omega arith;
            upto = omega (arith, m);
            flat = λ us z. x us (subst (λ (k : ℕ). Flat o class f k us) (sym n) z);
            all = λ i c d. y i c (omega (arith, n));
          }

      test : (c : Bool) → has_list_in o y body ≡ c
          → InsideIf s (length body) (container y) (pick c (opened R a s body (to_end o body y).shown (to_end o body y).ended) (leaf a (read_body o y body))).walk.tags
          (pick c (opened R a s body (to_end o body y).shown (to_end o body y).ended) (leaf a (read_body o y body))).walk.ended
      test true c = go c (to_end o body y).shown (to_end o body y).ended refl
      test false c = flat c (read_body o y body).ended refl

  -- a tag that stands there, with what is inside it, and the walk w of what follows
  flat_then : (b d code a size len s : ℕ) (i : TagInside) (w : Walk) → 1 ≤ size → a + size + len ≤ length f → raw_head (drop a f) ≡ head code len size
      → InsideIf (a + size) len (class code) i.walk.tags i.walk.ended → FlattensBy (a + size + len) b w → FlattensBy a b (tag_then d code a size len s i w)
  flat_then b d code a size len s i w l m q u v = go i.walk.ended w.ended u v
    where
      t : Tag
      t = record { depth = d; code = code; place = a; header_size = size; body_length = len; state = s; values = i.values }

      go : (z y : Outcome) → InsideIf (a + size) len (class code) i.walk.tags z → Flattens (a + size + len) b w.tags y
          → FlattensBy a b (chain (t ∷ i.walk.tags) z (record { tags = w.tags; ended = y }))
      go (fault e n) y u v = tt
      go whole (fault e n) u v = tt
      go whole whole u v = λ us x. here (at us (u.flat (w.tags ++ us) (v us x))) (subst (Flat o class f u.next) (sym (joined us)) (u.flat (w.tags ++ us) (v us x)))
        where
          joined : (us : List Tag) → (i.walk.tags ++ w.tags) ++ us ≡ i.walk.tags ++ (w.tags ++ us)
          joined us = append_assoc i.walk.tags w.tags us

          at : (us : List Tag) → Flat o class f u.next (i.walk.tags ++ (w.tags ++ us)) → Here o class f a u.next t ((i.walk.tags ++ w.tags) ++ us)
          at us y = rw (joined us) (record {
            place = refl;
            header = q;
            fits = m;
            later = omega (arith, u.from);
            next = u.leads;
            own = own_is t (i.walk.tags ++ (w.tags ++ us)) u.next u.from u.upto (λ p h. flat_from o class f y p h)
                (λ p h k. belongs_sooner i.walk.tags (w.tags ++ us) p (u.all p h k));
          })

  pub flattened : (k left : ℕ) (c : Owner) (a : ℕ) (r : List ℕ) → a ≤ length f → Room f a r → FlattensBy a (a + length r) (walk o class k left c a r)
  unfolding walk
  flattened zero left c a r n h = tt
  flattened (suc k) left c a [] n h = tt
  flattened (suc k) left c a (x ∷ r) n h = one (λ l c' a' r' n' h'. flattened k l c' a' r' n' h') (read_head class left (x ∷ r)) (head_fits class left (x ∷ r)) (passes_stands class left (x ∷ r))
    where
      R : ℕ → Owner → ℕ → List ℕ → Walk
      R = walk o class k

      one : ((l : ℕ) (c : Owner) (a : ℕ) (r : List ℕ) → a ≤ length f → Room f a r → FlattensBy a (a + length r) (R l c a r))
          → (g : Head) → Fits class left (x ∷ r) g → Stands (x ∷ r) g → FlattensBy a (a + length (x ∷ r)) (one_tag o class R left c a (x ∷ r) g)
      one u (no_head e) l q = tt
      one u (head code len size) l q =
          let body : List ℕ = take len (drop size (x ∷ r)) in
          let y : length body ≡ len = length-take-le len (drop size (x ∷ r)) (rw length-drop (omega (arith, l.1))) in
          let m : a + size + len + length (drop (size + len) (x ∷ r)) ≡ a + length (x ∷ r) = rw length-drop (omega (arith, l.1)) in
          let e : a + length (x ∷ r) ≤ length f = room_length f a (x ∷ r) n h in
          flat_then (a + length (x ∷ r)) (8 - left) code a size len (state_of (class code) size len)
          (within o (R (pred left)) (class code) a (a + size) body)
          (after_tag (is_end (class code)) c (a + size + len) (drop (size + len) (x ∷ r)) (R left c)) (omega (arith, l.0)) (omega (arith, l.1)) (head_in f a (x ∷ r) h q)
          (rw y at (flat_within k (pred left) (u (pred left)) (class code) a (a + size) body (omega (arith, l.1)) (room_front f (a + size) len (drop size (x ∷ r)) (room_from f a size (x ∷ r) (omega (arith, l.1)) h))))
          (rw m at (flat_after (is_end (class code)) c (a + size + len) (drop (size + len) (x ∷ r)) (R left c) (u left c (a + size + len) (drop (size + len) (x ∷ r)) (omega (arith, l.1))
          (subst (λ (z : ℕ). Room f z (drop (size + len) (x ∷ r))) (omega arith) (room_from f a (size + len) (x ∷ r) l.1 h)))))
