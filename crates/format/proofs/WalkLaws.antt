-- Where the tags of a walk stand, and where its faults are.
use Prim.Native.Nat.{ℕ, zero, suc, pred, ◌+◌, ◌-◌, ◌*◌, ◌/◌, ◌%◌, ◌≤◌, ◌<◌}
use mathlib.Core.List.{List, [], ◌∷◌, ◌++◌}
use mathlib.Core.Path.{◌≡◌, refl}
use mathlib.Core.Bool.{Bool, true, false}
use lib.ListN.{length, take, drop, length-drop}
use lib.Seq.{length-take-le}
use lib.Dec.{ltb, eqb, lit≤}
use borrow.Author.Tests.{ltb-false}
use native.Mathlib.Omega.{arith}
use Rattle.format.specs.Tests.{pick}
use Rattle.format.specs.Bits.{Order}
use Rattle.format.specs.Reading.{Ending, At, Fault}
use Rattle.format.specs.Formats.{Format}
use Rattle.format.specs.Items.{run}
use Rattle.format.specs.Bodies.{Body, to_end, read_body}
use Rattle.format.specs.FileAndTags.{Class, opaque, end, container, known, is_end, is_container, Tag, Outcome, whole, fault, Walk, broken, chain, Head, head, no_head, le16, le32, raw_head, state_of, passes, read_head, Owner, file, inside, blame, TagInside, end_at, no_tags, leaf, has_list, opened, within, after_tag, tag_then, one_tag, walk}
use Rattle.format.specs.Levels.{end_of}
use Rattle.format.specs.WritingFormats.{unrun}
use Rattle.format.proofs.BodyLaws.{end_le}
use Rattle.format.proofs.ItemLaws.{round_trip}
use Rattle.format.proofs.Trip.{There, has_le}
use Rattle.format.proofs.Absurd.{either_way}

-- a format ends in its body
pub run_le : (o : Order) (b : List ℕ) (f : Format) (p q : ℕ) → p ≤ 8 * length b → (run o b f p).ended ≡ At q → (p ≤ q) × (q ≤ 8 * length b)
run_le o b f p q l e =
    let u : There o b p q (run o b f p).shown (λ ns p. unrun o f ns p) = rw e at ((round_trip o f).there b p l) in
    (omega (arith, u.ends), omega (arith, u.ends, has_le o b p u.bits u.has))

-- ---- a header as it stands lies in the room, and its code is that of its first two bytes
abbrev pub RawFits : List ℕ → Head → Type 0
RawFits r (head code len size) = (2 ≤ size) × (size ≤ length r) × (code ≡ le16 r / 64)
RawFits r (no_head e) = Unit {0}

pub raw_fits : (r : List ℕ) → RawFits r (raw_head r)
raw_fits r = go (ltb (length r) 2) refl (eqb (le16 r % 64) 63) (ltb (length r) 6) refl
  where
    go : (c : Bool) → ltb (length r) 2 ≡ c → (d : Bool) → (e : Bool) → ltb (length r) 6 ≡ e
        → RawFits r (pick c (no_head 6) (pick d (pick e (no_head 6) (head (le16 r / 64) (le32 (drop 2 r)) 6)) (head (le16 r / 64) (le16 r % 64) 2)))
    go true h d e l = tt
    go false h true true l = tt
    go false h true false l = (lit≤ tt, ltb-false (length r) 6 l, refl)
    go false h false e l = (lit≤ tt, ltb-false (length r) 2 h, refl)

-- one that passed has its body in the room too; End has none, and a container has a depth left
abbrev pub Fits : (ℕ → Class) → ℕ → List ℕ → Head → Type 0
Fits class left r (head code len size) =
    (2 ≤ size) × (size + len ≤ length r) × (pick (is_end (class code)) (ltb 0 len) false ≡ false) × (pick (is_container (class code)) (eqb left 0) false ≡ false)
    × (code ≡ le16 r / 64)
Fits class left r (no_head e) = Unit {0}

pub head_fits : (class : ℕ → Class) (left : ℕ) (r : List ℕ) → Fits class left r (read_head class left r)
head_fits class left r = go (raw_head r) (raw_fits r)
  where
    go : (g : Head) → RawFits r g → Fits class left r (passes class left r g)
    go (no_head e) h = tt
    go (head code len size) h = test (ltb (length (drop size r)) len) refl (pick (is_end (class code)) (ltb 0 len) false) refl (pick (is_container (class code)) (eqb left 0) false) refl
      where
        test : (c : Bool) → ltb (length (drop size r)) len ≡ c → (d : Bool) → pick (is_end (class code)) (ltb 0 len) false ≡ d → (e : Bool) → pick (is_container (class code)) (eqb left 0) false ≡ e
            → Fits class left r (pick c (no_head 9) (pick d (no_head 10) (pick e (no_head 12) (head code len size))))
        test true eq d p e q = tt
        test false eq true p e q = tt
        test false eq false p true q = tt
        test false eq false p false q = (h.0, omega (arith, h.1, ltb-false (length (drop size r)) len eq, length-drop size r), p, q, h.2)

-- ---- tags between two places
abbrev pub Between : ℕ → ℕ → List Tag → Type 0
Between a b [] = Unit {0}
Between a b (t ∷ ts) = (a ≤ t.place) × (t.place < end_of t) × (end_of t ≤ b) × Between a b ts

pub between_append : (a b : ℕ) (ts us : List Tag) → Between a b ts → Between a b us → Between a b (ts ++ us)
between_append a b [] us h l = l
between_append a b (t ∷ ts) us h l = (h.0, h.1, h.2, between_append a b ts us h.3 l)

pub between_wider : (a b a' b' : ℕ) (ts : List Tag) → a' ≤ a → b ≤ b' → Between a b ts → Between a' b' ts
between_wider a b a' b' [] l m h = tt
between_wider a b a' b' (t ∷ ts) l m h = (omega (arith, h.0), h.1, omega (arith, h.2), between_wider a b a' b' ts l m h.3)

-- the number of a fault in a container's list: from the container's place on, and before the end of the room
abbrev pub FaultIn : Owner → ℕ → Outcome → Type 0
FaultIn file b z = Unit {0}
FaultIn (inside x) b whole = Unit {0}
FaultIn (inside x) b (fault e n) = (x ≤ n) × (n < b)

-- the container stands before its list
abbrev pub Before : Owner → ℕ → Type 0
Before file a = Unit {0}
Before (inside x) a = x < a

pub before_later : (c : Owner) (a b : ℕ) → a ≤ b → Before c a → Before c b
before_later file a b l h = tt
before_later (inside x) a b l h = omega arith

pub record Placed (c : Owner) (a b : ℕ) (w : Walk) : Type 0 where
  pub tags : Between a b w.tags
  pub faults : FaultIn c b w.ended

fault_in : (c : Owner) (a b e n : ℕ) → Before c a → a ≤ n → n < b → FaultIn c b (fault e n)
fault_in file a b e n h l m = tt
fault_in (inside x) a b e n h l m = (omega arith, m)

fault_wider : (c : Owner) (b b' : ℕ) (z : Outcome) → b ≤ b' → FaultIn c b z → FaultIn c b' z
fault_wider file b b' z l h = tt
fault_wider (inside x) b b' whole l h = tt
fault_wider (inside x) b b' (fault e n) l h = (h.0, omega (arith, h.1))

placed_wider : (c : Owner) (a b a' b' : ℕ) (w : Walk) → a' ≤ a → b ≤ b' → Placed c a b w → Placed c a' b' w
placed_wider c a b a' b' w l m h = record { tags = between_wider a b a' b' w.tags l m h.tags; faults = fault_wider c b b' w.ended m h.faults }

-- a fault that has the container's own place, or stands at the room's end
placed_blame : (c : Owner) (a b e : ℕ) → Before c a → a ≤ b → Placed c a b (broken e (blame c a))
placed_blame file a b e h l = record { tags = tt; faults = tt }
placed_blame (inside x) a b e h l = record { tags = tt; faults = (omega arith, omega arith) }

-- a tag, with what stands in it, and what follows
placed_then : (c : Owner) (b d code a size len s : ℕ) (i : TagInside) (w : Walk) → Before c a → 1 ≤ size → a + size + len ≤ b
    → Placed (inside a) (a + size) (a + size + len) i.walk → Placed c (a + size + len) b w → Placed c a b (tag_then d code a size len s i w)
placed_then c b d code a size len s i w h l m u v = go i.walk.ended u.faults
  where
    t : Tag
    t = record { depth = d; code = code; place = a; header_size = size; body_length = len; state = s; values = i.values }

    inner : Between a b (t ∷ i.walk.tags)
    inner = (omega arith, omega arith, m, between_wider (a + size) (a + size + len) a b i.walk.tags (omega arith) m u.tags)

    go : (z : Outcome) → FaultIn (inside a) (a + size + len) z → Placed c a b (chain (t ∷ i.walk.tags) z w)
    go whole x = record {
      tags = between_append a b (t ∷ i.walk.tags) w.tags inner (between_wider (a + size + len) b a b w.tags (omega arith) (omega arith) v.tags);
      faults = v.faults;
    }
    go (fault e n) x = record { tags = inner; faults = fault_in c a b e n h x.0 (omega (arith, x.1)) }

module _ (o : Order) (class : ℕ → Class) where
  -- what stands in a tag at a, with its body at s
  placed_leaf : (y : Body) (a s : ℕ) (body : List ℕ) → a < s → Placed (inside a) s (s + length body) (leaf a (read_body o y body)).walk
  placed_leaf y a s body h = go (read_body o y body).ended
    where
      go : (z : Ending) → Placed (inside a) s (s + length body) (no_tags (end_at a z))
      go (At p) = record { tags = tt; faults = tt }
      go (Fault e) = record { tags = tt; faults = (omega arith, omega arith) }

  pub placed_within : (R : Owner → ℕ → List ℕ → Walk) → ((c : Owner) (a : ℕ) (r : List ℕ) → Before c a → Placed c a (a + length r) (R c a r))
      → (cl : Class) (a s : ℕ) (body : List ℕ) → a < s → Placed (inside a) s (s + length body) (within o R cl a s body).walk
  placed_within R u opaque a s body h = record { tags = tt; faults = tt }
  placed_within R u end a s body h = record { tags = tt; faults = tt }
  placed_within R u (known y) a s body h = placed_leaf y a s body h
  placed_within R u (container y) a s body h = either_way (λ (i : TagInside). Placed (inside a) s (s + length body) i.walk) (has_list y (to_end o body y).shown)
      (go (to_end o body y).shown (to_end o body y).ended refl) (placed_leaf y a s body h)
    where
      go : (xs : List ℕ) (z : Ending) → (to_end o body y).ended ≡ z → Placed (inside a) s (s + length body) (opened R a s body xs z).walk
      go xs (Fault e) eq = record { tags = tt; faults = (omega arith, omega arith) }
      go xs (At p) eq =
          let m : p / 8 ≤ length body = omega (arith, end_le o y body p eq) in
          placed_wider (inside a) (s + p / 8) (s + p / 8 + length (drop (p / 8) body)) s (s + length body) _ (omega arith) (rw length-drop (omega arith))
          (u (inside a) (s + p / 8) (drop (p / 8) body) (omega arith))

  pub placed_after : (e : Bool) (c : Owner) (a : ℕ) (r : List ℕ) (next : ℕ → List ℕ → Walk) → Before c a → Placed c a (a + length r) (next a r)
      → Placed c a (a + length r) (after_tag e c a r next)
  placed_after false c a r next h u = u
  placed_after true c a [] next h u = record { tags = tt; faults = nil c }
    where
      nil : (c : Owner) → FaultIn c (a + 0) whole
      nil file = tt
      nil (inside x) = tt
  placed_after true c a (x ∷ r) next h u = placed_blame c a (a + suc (length r)) 11 h (omega arith)

  pub placed : (k left : ℕ) (c : Owner) (a : ℕ) (r : List ℕ) → Before c a → Placed c a (a + length r) (walk o class k left c a r)
  unfolding walk
  placed zero left c a r h = placed_blame c a (a + length r) 7 h (omega arith)
  placed (suc k) left c a [] h = placed_blame c a (a + 0) 7 h (omega arith)
  placed (suc k) left c a (x ∷ r) h = one (λ l c' a' r' h'. placed k l c' a' r' h') (read_head class left (x ∷ r)) (head_fits class left (x ∷ r))
    where
      R : ℕ → Owner → ℕ → List ℕ → Walk
      R = walk o class k

      one : ((l : ℕ) (c : Owner) (a : ℕ) (r : List ℕ) → Before c a → Placed c a (a + length r) (R l c a r))
          → (g : Head) → Fits class left (x ∷ r) g → Placed c a (a + length (x ∷ r)) (one_tag o class R left c a (x ∷ r) g)
      one u (no_head e) l = record { tags = tt; faults = fault_in c a (a + length (x ∷ r)) e a h (omega arith) (omega arith) }
      one u (head code len size) l =
          let body : List ℕ = take len (drop size (x ∷ r)) in
          let n : length body ≡ len = length-take-le len (drop size (x ∷ r)) (rw length-drop (omega (arith, l.1))) in
          let m : a + size + len + length (drop (size + len) (x ∷ r)) ≡ a + length (x ∷ r) = rw length-drop (omega (arith, l.1)) in
          placed_then c (a + length (x ∷ r)) (8 - left) code a size len (state_of (class code) size len)
          (within o (R (pred left)) (class code) a (a + size) body)
          (after_tag (is_end (class code)) c (a + size + len) (drop (size + len) (x ∷ r)) (R left c)) h (omega (arith, l.0)) (omega (arith, l.1))
          (rw n at (placed_within (R (pred left)) (u (pred left)) (class code) a (a + size) body (omega (arith, l.0))))
          (rw m at (placed_after (is_end (class code)) c (a + size + len) (drop (size + len) (x ∷ r)) (R left c) (before_later c a (a + size + len) (omega arith) h) (u left c (a + size + len) (drop (size + len) (x ∷ r)) (before_later c a (a + size + len) (omega arith) h))))
