-- The room that tables need (C-21): `table_room` and `tags_room`, at the end. The lists' bound holds for every ending.
use Prim.Native.Nat.{ℕ, zero, suc, pred, ◌+◌, ◌-◌, ◌*◌, ◌/◌, ◌≤◌}
use mathlib.Core.List.{List, [], ◌∷◌, ◌++◌, append-nil, map}
use mathlib.Core.Path.{◌≡◌, refl, ap, subst}
use mathlib.Core.Bool.{Bool, true, false}
use lib.ListN.{length, get_or, take, drop, length-append, length-take, length-drop}
use lib.Seq.{length-take-le}
use lib.Dec.{ltb, eqb}
use borrow.Author.Tests.{eqb-true}
use native.Mathlib.Omega.{arith}
use Rattle.format.specs.Tests.{pick}
use Rattle.format.specs.Bits.{Order, ub, order_named}
use Rattle.format.specs.Reading.{Ending, At, Fault, Reading, shows, stop, follow}
use Rattle.format.specs.Formats.{Item, nothing, item, ◌▸◌, times, the}
use Rattle.format.specs.Items.{skipped, read_align, run, u32, i32, time, float, byte, color, string, count}
use Rattle.format.specs.Bodies.{font_tables, composition_attributes, solid_color, Kind, Value, Fixed, BitFlag, Simple, Discrete, MultiDimension, Spatial, Custom, Attribute, flags_of, content, all_flags, rows, hand_on, read_block, Body, fixed, attributes, read_part, to_end, read_body}
use Rattle.format.specs.FileAndTags.{Class, opaque, end, container, known, codes, class_of, is_end, Tag, Outcome, whole, fault, Walk, broken, chain, Head, head, no_head, is_read, long_on_short, state_of, read_head, Owner, file, inside, TagInside, has_list, opened, within, after_tag, tag_then, one_tag, walk, walk_list}
use Rattle.format.specs.TableOfNumbers.{numbers, table, is_opaque, body_in, plain_tag, plain_table, tag_table}
use Rattle.format.specs.Reasons.{start_fault, walk_file, gives, result, read_file, read_plain, read_tags}
use Rattle.format.specs.WritingBodies.{write_part}
use Rattle.format.proofs.BlockLaws.{as_many}
use Rattle.format.proofs.BodyLaws.{trip_part, end_le, body_shown}
use Rattle.format.proofs.EngineLaws.{numbers_append}
use Rattle.format.proofs.PackLaws.{length_eights}
use Rattle.format.proofs.StateLaws.{state_opaque}
use Rattle.format.proofs.StartLaws.{good_start}
use Rattle.format.proofs.SizeLaws.{FairEnd, FairReading, Fair, fair_item, fair_nothing, fair_echo, fair_more, fair_then, fair_seq, fair_times, fair_byte, fair_content, fair_only}
use Rattle.format.proofs.Trip.{There, has_le}
use Rattle.format.proofs.WalkLaws.{run_le, Fits, head_fits}
use Rattle.format.proofs.Absurd.{clash, either_way}

-- ---- attribute blocks
abbrev pub fixed_by : Kind → ℕ
fixed_by Value = 0
fixed_by Fixed = 1
fixed_by BitFlag = 0
fixed_by Simple = 0
fixed_by Discrete = 0
fixed_by MultiDimension = 0
fixed_by Spatial = 0
fixed_by Custom = 0

-- how many attributes are Fixed
abbrev pub fixed_count : List Attribute → ℕ
fixed_count [] = 0
fixed_count (a ∷ attrs) = fixed_by a.kind + fixed_count attrs

-- the bytes of a tag's body if it is opaque, and of all of them
abbrev opaque_bytes : Tag → ℕ
opaque_bytes t = pick (is_opaque t.state) t.body_length 0

abbrev all_opaque : List Tag → ℕ
all_opaque [] = 0
all_opaque (t ∷ ts) = opaque_bytes t + all_opaque ts

all_opaque_append : (ts us : List Tag) → all_opaque (ts ++ us) ≡ all_opaque ts + all_opaque us
all_opaque_append [] us = omega arith
all_opaque_append (t ∷ ts) us = omega (arith, all_opaque_append ts us)

-- n bytes of room give at most 8 × n numbers, also if the bytes of opaque bodies are counted beside their packed numbers, and n / 2 tags, whatever
-- the ending
pub record Room (n : ℕ) (w : Walk) : Type 0 where
  pub count : length (numbers w.tags) + all_opaque w.tags ≤ 8 * n
  pub tags : 2 * length w.tags ≤ n

module _ (o : Order) where
  fair_flag : (k : Kind) → Fair o (fixed_by k) (item (flags_of k))
  fair_flag Value = fair_item o (Item.flag 1) (omega arith)
  fair_flag Fixed = fair_echo o 1
  fair_flag BitFlag = fair_item o (Item.flag 1) (omega arith)
  fair_flag Simple = fair_item o (Item.flag 2) (omega arith)
  fair_flag Discrete = fair_item o (Item.flag 2) (omega arith)
  fair_flag MultiDimension = fair_item o (Item.flag 2) (omega arith)
  fair_flag Spatial = fair_item o (Item.flag 3) (omega arith)
  fair_flag Custom = fair_item o (Item.flag 1) (omega arith)

  fair_flags : (attrs : List Attribute) → Fair o (fixed_count attrs) (all_flags attrs)
  unfolding all_flags
  fair_flags [] = fair_nothing o
  fair_flags (a ∷ attrs) = fair_then o (fixed_by a.kind) (fixed_count attrs) (item (flags_of a.kind)) (λ xs. all_flags attrs) (fair_flag a.kind) (λ b p q e. fair_flags attrs)

  fair_rows : (attrs : List Attribute) (φs : List ℕ) → Fair o (length attrs) (rows attrs φs)
  unfolding rows
  fair_rows [] φs = fair_nothing o
  fair_rows (a ∷ attrs) [] = fair_more o 0 (suc (length attrs)) nothing (omega arith) (fair_nothing o)
  fair_rows (a ∷ attrs) (φ ∷ φs) = fair_more o (1 + (0 + length attrs)) (suc (length attrs)) (item (Item.echo φ) ▸ content a φ ▸ rows attrs φs) (omega arith)
      (fair_then o 1 (0 + length attrs) (item (Item.echo φ)) (λ xs. content a φ ▸ rows attrs φs) (fair_echo o φ)
      (λ b p q e. fair_then o 0 (length attrs) (content a φ) (λ xs. rows attrs φs) (fair_content o a.kind a.data_type φ) (λ b p q e. fair_rows attrs φs)))

  fair_block : (attrs : List Attribute) (b : List ℕ) (p : ℕ) → p ≤ 8 * length b → FairReading (fixed_count attrs) (8 * length b) p (read_block o b attrs p)
  unfolding read_block
  fair_block attrs b p l = go (run o b (all_flags attrs) p).ended refl (fair_flags attrs b p l)
    where
      φs : List ℕ
      φs = (run o b (all_flags attrs) p).shown

      rest : (m : ℕ) → length φs + p ≤ m + fixed_count attrs → length φs ≡ length attrs → (r : Reading) → FairReading (length attrs) (8 * length b) m r → FairReading (fixed_count attrs) (8 * length b) p r
      rest m u n r v = at r.ended v
        where
          at : (z : Ending) → FairEnd (length attrs) (8 * length b) m (length r.shown) z → FairEnd (fixed_count attrs) (8 * length b) p (length r.shown) z
          at (At q) v = omega arith
          at (Fault e) v = omega arith

      go : (z : Ending) → (run o b (all_flags attrs) p).ended ≡ z → FairEnd (fixed_count attrs) (8 * length b) p (length φs) z
          → FairReading (fixed_count attrs) (8 * length b) p (hand_on φs z (λ φs q. run o b (rows attrs φs) q))
      go (Fault e) eq u = omega arith
      go (At m) eq u = rest m u (as_many o attrs b p m eq) (run o b (rows attrs φs) m) (fair_rows attrs φs b m (run_le o b (all_flags attrs) p m l eq).1)

  -- ---- bodies
  abbrev pub FairBody : Body → Type 0
  FairBody (fixed f) = Fair o 0 f
  FairBody (attributes attrs) = fixed_count attrs ≤ 1

  fair_part : (y : Body) → FairBody y → (b : List ℕ) → FairReading 1 (8 * length b) 0 (read_part o b y 0)
  unfolding read_part
  fair_part (fixed f) h b = fair_more o 0 1 f (omega arith) h b 0 (omega arith)
  fair_part (attributes attrs) h b = go (read_block o b attrs 0).ended (fair_block attrs b 0 (omega arith))
    where
      go : (z : Ending) → FairEnd (fixed_count attrs) (8 * length b) 0 (length (read_block o b attrs 0).shown) z → FairEnd 1 (8 * length b) 0 (length (read_block o b attrs 0).shown) z
      go (At q) u = omega arith
      go (Fault e) u = omega arith

  fair_end : (y : Body) → FairBody y → (b : List ℕ) → FairReading 1 (8 * length b) 0 (to_end o b y)
  fair_end y h b = go (read_part o b y 0).ended refl (fair_part y h b)
    where
      xs : List ℕ
      xs = (read_part o b y 0).shown

      skip : (m : ℕ) (c : Bool) → length xs + 0 ≤ m + 1 → m ≤ 8 * length b
          → FairReading 1 (8 * length b) 0 (record { shown = xs ++ (pick c (shows [] (m + skipped m)) (stop 15)).shown; ended = (pick c (shows [] (m + skipped m)) (stop 15)).ended })
      skip m true u l = rw append-nil (omega arith)
      skip m false u l = rw append-nil (omega arith)

      go : (z : Ending) → (read_part o b y 0).ended ≡ z → FairEnd 1 (8 * length b) 0 (length xs) z → FairReading 1 (8 * length b) 0 (follow xs z (λ xs p. read_align o b p))
      go (Fault e) eq u = u
      go (At m) eq u =
          let t : There o b 0 m xs (λ ns p. write_part o y ns p) = rw eq at ((trip_part o y).there b 0 (omega arith)) in
          skip m (eqb (ub o b m (skipped m)) 0) u (omega (arith, t.ends, has_le o b 0 t.bits t.has))

  pub body_room : (y : Body) → FairBody y → (b : List ℕ) → length (read_body o y b).shown ≤ 8 * length b + 2
  body_room y h b = rw (body_shown o y b) (go (to_end o b y).ended refl (fair_end y h b))
    where
      go : (z : Ending) → (to_end o b y).ended ≡ z → FairEnd 1 (8 * length b) 0 (length (to_end o b y).shown) z → length (to_end o b y).shown ≤ 8 * length b + 2
      go (Fault e) eq u = omega arith
      go (At q) eq u = omega (arith, end_le o y b q eq)

  -- ---- classes
  abbrev pub FairClass : Class → Type 0
  FairClass opaque = Unit {0}
  FairClass end = Unit {0}
  FairClass (container y) = FairBody y
  FairClass (known y) = FairBody y

  abbrev FairAll : List Class → Type 0
  FairAll [] = Unit {0}
  FairAll (c ∷ cs) = FairClass c × FairAll cs

  fair_at : (cs : List Class) → FairAll cs → (n : ℕ) → FairClass (get_or cs n opaque)
  fair_at [] h n = tt
  fair_at (c ∷ cs) h zero = h.0
  fair_at (c ∷ cs) h (suc n) = fair_at cs h.1 n

  fair_u32 : Fair o 0 u32
  fair_u32 = fair_byte o Item.U32 tt

  fair_i32 : Fair o 0 i32
  fair_i32 = fair_byte o Item.I32 tt

  fair_time : Fair o 0 time
  fair_time = fair_byte o Item.U64 tt

  fair_color : Fair o 0 color
  fair_color = fair_times o 3 byte (fair_byte o (Item.UB 8) (omega arith))

  fair_codes : FairAll codes
  fair_codes = (tt, (fonts, (fair_u32, (composition, (tt, (fair_seq o byte u32 (fair_byte o (Item.UB 8) (omega arith)) fair_u32, (omega arith, (solid, (tt, (omega arith, (omega arith, (fair_u32, (fair_seq o u32 time fair_u32 fair_time, (omega arith, (omega arith, shapes)))))))))))))))
    where
      none : 0 ≤ 1
      none = omega arith

      shapes : FairAll (drop 15 codes)
      shapes = (none, (none, (none, (none, (none, (none, (none, (none, (none, (none, (none, (none, (none, tt)))))))))))))

      fonts : Fair o 0 font_tables
      fonts = fair_then o 0 0 (count 0 4096) (λ n. times (the n) (string ▸ string)) (fair_only o 0 _ 17 u32 fair_u32)
          (λ b p q e. fair_times o (the (run o b (count 0 4096) p).shown) (string ▸ string) (fair_seq o string string (fair_byte o Item.string tt) (fair_byte o Item.string tt)))

      composition : Fair o 0 composition_attributes
      composition = fair_seq o i32 _ fair_i32 (fair_seq o i32 _ fair_i32 (fair_seq o time _ fair_time (fair_seq o float color (fair_byte o (Item.Le 4) (omega arith)) fair_color)))

      solid : Fair o 0 solid_color
      solid = fair_seq o color _ fair_color (fair_seq o i32 i32 fair_i32 fair_i32)

  pub fair_class : (level code : ℕ) → FairClass (class_of level code)
  unfolding class_of
  fair_class level code = go (ltb level code)
    where
      go : (c : Bool) → FairClass (pick c opaque (get_or codes code opaque))
      go true = tt
      go false = fair_at codes fair_codes code

  -- ---- lists
  module _ (class : ℕ → Class) (fair : (code : ℕ) → FairClass (class code)) where
    -- the numbers of what stands in a tag, but for its state and count, and the bytes of the opaque bodies in it
    abbrev inside_count : TagInside → ℕ
    inside_count i = length i.values + length (numbers i.walk.tags) + all_opaque i.walk.tags

    within_room : (R : Owner → ℕ → List ℕ → Walk) → ((c : Owner) (a : ℕ) (r : List ℕ) → Room (length r) (R c a r)) → (cl : Class) → FairClass cl → (a s : ℕ) (body : List ℕ)
        → (inside_count (within o R cl a s body) + pick (eqb (is_read cl) 0) (length body) 0 ≤ 8 * length body + 13) × (2 * length (within o R cl a s body).walk.tags ≤ length body)
    within_room R u opaque h a s body = (omega (arith, length_eights ((length body + 7) / 8) body), omega arith)
    within_room R u end h a s body = (omega arith, omega arith)
    within_room R u (known y) h a s body = (omega (arith, body_room y h body), omega arith)
    within_room R u (container y) h a s body =
        either_way (λ (i : TagInside). (inside_count i + 0 ≤ 8 * length body + 13) × (2 * length i.walk.tags ≤ length body)) (has_list y xs)
        (go (to_end o body y).ended refl (fair_end y h body)) (omega (arith, body_room y h body), omega arith)
      where
        xs : List ℕ
        xs = (to_end o body y).shown

        go : (z : Ending) → (to_end o body y).ended ≡ z → FairEnd 1 (8 * length body) 0 (length xs) z
            → (inside_count (opened R a s body xs z) + 0 ≤ 8 * length body + 13) × (2 * length (opened R a s body xs z).walk.tags ≤ length body)
        go (Fault e) eq v = (omega arith, omega arith)
        go (At p) eq v =
            let l : p ≤ 8 * length body = end_le o y body p eq in
            let i : Room (length (drop (p / 8) body)) (R (inside a) (s + p / 8) (drop (p / 8) body)) = u (inside a) (s + p / 8) (drop (p / 8) body) in
            (omega (arith, l, i.count, length-drop (p / 8) body), omega (arith, i.tags, length-drop (p / 8) body))

    after_room : (e : Bool) (c : Owner) (a : ℕ) (r : List ℕ) (next : ℕ → List ℕ → Walk) → Room (length r) (next a r) → Room (length r) (after_tag e c a r next)
    after_room false c a r next u = u
    after_room true c a [] next u = record { count = omega arith; tags = omega arith }
    after_room true c a (x ∷ r) next u = record { count = omega arith; tags = omega arith }

    -- a tag whose header and body have n bytes, and what follows it in m bytes
    then_room : (d code a size len s m : ℕ) (i : TagInside) (w : Walk) → 2 ≤ size → inside_count i + pick (is_opaque s) len 0 ≤ 8 * len + 13 → 2 * length i.walk.tags ≤ len → Room m w
        → Room (size + len + m) (tag_then d code a size len s i w)
    then_room d code a size len s m i w l h k u = go i.walk.ended
      where
        t : Tag
        t = record { depth = d; code = code; place = a; header_size = size; body_length = len; state = s; values = i.values }

        go : (z : Outcome) → Room (size + len + m) (chain (t ∷ i.walk.tags) z w)
        go (fault e n) = record { count = omega (arith, length-append i.values (numbers i.walk.tags)); tags = omega arith }
        go whole = record {
          count = omega (
            arith,
            u.count,
            length-append i.values (numbers (i.walk.tags ++ w.tags)),
            ap length (numbers_append i.walk.tags w.tags),
            length-append (numbers i.walk.tags) (numbers w.tags),
            all_opaque_append i.walk.tags w.tags,
          );
          tags = omega (arith, u.tags, length-append i.walk.tags w.tags);
        }

    pub walk_room : (k left : ℕ) (c : Owner) (a : ℕ) (r : List ℕ) → Room (length r) (walk o class k left c a r)
    unfolding walk
    walk_room zero left c a r = record { count = omega arith; tags = omega arith }
    walk_room (suc k) left c a [] = record { count = omega arith; tags = omega arith }
    walk_room (suc k) left c a (x ∷ r) = one (λ left c a r. walk_room k left c a r) (read_head class left (x ∷ r)) (head_fits class left (x ∷ r))
      where
        R : ℕ → Owner → ℕ → List ℕ → Walk
        R = walk o class k

        one : ((left : ℕ) (c : Owner) (a : ℕ) (r : List ℕ) → Room (length r) (R left c a r)) → (g : Head) → Fits class left (x ∷ r) g
            → Room (length (x ∷ r)) (one_tag o class R left c a (x ∷ r) g)
        one u (no_head e) h = record { count = omega arith; tags = omega arith }
        one u (head code len size) h =
            let body : List ℕ = take len (drop size (x ∷ r)) in
            let n : length body ≡ len = length-take-le len (drop size (x ∷ r)) (rw length-drop (omega (arith, h.1))) in
            let m : size + len + length (drop (size + len) (x ∷ r)) ≡ length (x ∷ r) = rw length-drop (omega (arith, h.1)) in
            let v : (inside_count (within o (R (pred left)) (class code) a (a + size) body) + pick (eqb (is_read (class code)) 0) (length body) 0 ≤ 8 * length body + 13) × (2 * length (within o (R (pred left)) (class code) a (a + size) body).walk.tags ≤ length body) =
            within_room (R (pred left)) (λ c a r. u (pred left) c a r) (class code) (fair code) a (a + size) body in
            subst (λ (n : ℕ). Room n (one_tag o class R left c a (x ∷ r) (head code len size))) m
            (then_room (8 - left) code a size len (state_of (class code) size len) (length (drop (size + len) (x ∷ r))) (within o (R (pred left)) (class code) a (a + size) body)
            (after_tag (is_end (class code)) c (a + size + len) (drop (size + len) (x ∷ r)) (R left c)) h.0 (rw (state_opaque (class code) (long_on_short size len)) (subst (λ (m : ℕ). inside_count (within o (R (pred left)) (class code) a (a + size) body) + pick (eqb (is_read (class code)) 0) m 0 ≤ 8 * m + 13) n v.0)) (omega (arith, v.1))
            (after_room (is_end (class code)) c (a + size + len) (drop (size + len) (x ∷ r)) (R left c) (u left c (a + size + len) (drop (size + len) (x ∷ r)))))

  -- at a level: a list, and the body of a tag that is read
  pub list_room : (level left : ℕ) (c : Owner) (a : ℕ) (r : List ℕ) → Room (length r) (walk_list o (class_of level) left c a r)
  list_room level left c a r = walk_room (class_of level) (λ code. fair_class level code) (length r) left c a r

  pub known_room : (level code : ℕ) (y : Body) (b : List ℕ) → class_of level code ≡ known y → length (read_body o y b).shown ≤ 8 * length b + 2
  known_room level code y b e = body_room y (rw e at (fair_class level code)) b

-- ---- files
abbrev FileRoom : List ℕ → Walk → Outcome → Type 0
FileRoom f w whole = (9 ≤ length f) × Room (length (drop 9 f)) w
FileRoom f w (fault e n) = Unit {0}

file_room : (order level : ℕ) (f : List ℕ) → FileRoom f (walk_file order level f) (walk_file order level f).ended
unfolding walk_file
file_room order level f = go (eqb (start_fault order level f) 0) refl
  where
    w : Walk
    w = walk_list (order_named order) (class_of level) 8 file 9 (drop 9 f)

    good : 9 ≤ length f → (z : Outcome) → FileRoom f w z
    good l (fault e n) = tt
    good l whole = (l, walk_room (order_named order) (class_of level) (λ code. fair_class (order_named order) level code) (length (drop 9 f)) 8 file 9 (drop 9 f))

    go : (c : Bool) → eqb (start_fault order level f) 0 ≡ c → FileRoom f (pick c w (broken (start_fault order level f) 0)) (pick c w (broken (start_fault order level f) 0)).ended
    go false e = tt
    go true e = good (good_start order level f (eqb-true (start_fault order level f) 0 e)).long w.ended

-- the table of a file of n bytes has at most 8 × n numbers
pub table_room : (order level : ℕ) (f t : List ℕ) → read_file order level f ≡ gives t → length t ≤ 8 * length f
unfolding read_file
table_room order level f t h = go (walk_file order level f).ended (file_room order level f) h
  where
    go : (z : Outcome) → FileRoom f (walk_file order level f) z → result (table f (walk_file order level f)) z ≡ gives t → length t ≤ 8 * length f
    go (fault e n) u h = clash cc
    go whole u h = let q : t ≡ table f (walk_file order level f) = cc in rw q (omega (arith, u.0, u.1.count, length-drop 9 f))

-- a plain table has no more numbers than the packed one and the bytes of opaque bodies together
plain_numbers : (f : List ℕ) (ts : List Tag) → length (numbers (map (plain_tag f) ts)) ≤ length (numbers ts) + all_opaque ts
plain_numbers f [] = omega arith
plain_numbers f (t ∷ ts) = go (is_opaque t.state) (plain_numbers f ts)
  where
    body : length (body_in f t) ≤ t.body_length
    body = omega (arith, length-take t.body_length (drop (t.place + t.header_size) f))

    go : (c : Bool) → length (numbers (map (plain_tag f) ts)) ≤ length (numbers ts) + all_opaque ts
        → suc (suc (suc (length (pick c (body_in f t) t.values ++ numbers (map (plain_tag f) ts))))) ≤ suc (suc (suc (length (t.values ++ numbers ts)))) + (pick c t.body_length 0 + all_opaque ts)
    go true u = omega (arith, body, length-append (body_in f t) (numbers (map (plain_tag f) ts)), length-append t.values (numbers ts))
    go false u = omega (arith, length-append t.values (numbers (map (plain_tag f) ts)), length-append t.values (numbers ts))

-- the plain table too
pub plain_room : (order level : ℕ) (f t : List ℕ) → read_plain order level f ≡ gives t → length t ≤ 8 * length f
unfolding read_plain
plain_room order level f t h = go (walk_file order level f).ended (file_room order level f) h
  where
    go : (z : Outcome) → FileRoom f (walk_file order level f) z → result (plain_table f (walk_file order level f)) z ≡ gives t → length t ≤ 8 * length f
    go (fault e n) u h = clash cc
    go whole u h = let q : t ≡ plain_table f (walk_file order level f) = cc in rw q (omega (arith, u.0, u.1.count, length-drop 9 f, plain_numbers f (walk_file order level f).tags))

pub tag_table_length : (ts : List Tag) → length (tag_table ts) ≡ 5 * length ts
tag_table_length [] = refl
tag_table_length (t ∷ ts) = omega (arith, tag_table_length ts)

-- and its tag table at most 5 × n
pub tags_room : (order level : ℕ) (f t : List ℕ) → read_tags order level f ≡ gives t → length t ≤ 5 * length f
unfolding read_tags
tags_room order level f t h = go (walk_file order level f).ended (file_room order level f) h
  where
    go : (z : Outcome) → FileRoom f (walk_file order level f) z → result (tag_table (walk_file order level f).tags) z ≡ gives t → length t ≤ 5 * length f
    go (fault e n) u h = clash cc
    go whole u h = let q : t ≡ tag_table (walk_file order level f).tags = cc in rw q (omega (arith, u.0, u.1.tags, length-drop 9 f, tag_table_length (walk_file order level f).tags))
