-- The plain table and the packed one determine each other (C-17): `plain_of_lem` and `packed_of`, at the end, with what follows from them.
use Prim.Native.Nat.{ℕ, zero, suc, pred, ◌+◌, ◌-◌, ◌/◌, ◌≤◌}
use mathlib.Core.List.{List, [], ◌∷◌, ◌++◌, append-nil, map}
use mathlib.Core.Path.{◌≡◌, refl, ap, ap₂, sym, ◌∙◌}
use mathlib.Core.Bool.{Bool, true, false}
use lib.ListN.{length, get_or, take, drop, length-append, length-drop, take-append-drop}
use lib.Seq.{length-take-le, take-append_seam, drop-append_seam}
use lib.Dec.{eqb}
use borrow.Author.Tests.{eqb-true}
use native.Mathlib.Nat.{add_assoc}
use native.Mathlib.Omega.{arith}
use Rattle.format.specs.Tests.{pick}
use Rattle.format.specs.Bits.{Order, AllBytes, order_named}
use Rattle.format.specs.Reading.{Ending, At, Fault}
use Rattle.format.specs.Bodies.{to_end}
use Rattle.format.specs.FileAndTags.{Class, opaque, end, container, known, class_of, is_end, is_read, long_on_short, state_of, packed, Tag, Outcome, whole, fault, Walk, chain, Head, head, no_head, read_head, Owner, file, inside, TagInside, has_list, opened, within, after_tag, one_tag, walk}
use Rattle.format.specs.TableOfNumbers.{numbers, table, is_opaque, body_in, showing, plain_tag, plain_table, unpacked, changed, pack, unpack}
use Rattle.format.specs.Reasons.{start_fault, walk_file, gives, result, read_file, read_plain, IsFile}
use Rattle.format.proofs.BodyLaws.{end_le}
use Rattle.format.proofs.ByteLaws.{bytes_take, bytes_drop}
use Rattle.format.proofs.LevelLaws.{Part, part_drop, part_take, part_plain}
use Rattle.format.proofs.PackLaws.{unpack_packed}
use Rattle.format.proofs.RoundTrip.{one_file}
use Rattle.format.proofs.StartLaws.{good_start}
use Rattle.format.proofs.StateLaws.{state_opaque}
use Rattle.format.proofs.WalkLaws.{Fits, head_fits}
use Rattle.format.proofs.Absurd.{clash, either_way}

-- ---- each opaque tag of a walk shows its body in the file f, packed
module _ (f : List ℕ) where
  abbrev ShownTag : Tag → Type 0
  ShownTag t = is_opaque t.state ≡ true → t.values ≡ packed (body_in f t)

  abbrev pub Shown : List Tag → Type 0
  Shown [] = Unit {0}
  Shown (t ∷ ts) = ShownTag t × Shown ts

  shown_append : (ts us : List Tag) → Shown ts → Shown us → Shown (ts ++ us)
  shown_append [] us h k = k
  shown_append (t ∷ ts) us h k = (h.0, shown_append ts us h.1 k)

  shown_chain : (ts : List Tag) (z : Outcome) (w : Walk) → Shown ts → Shown w.tags → Shown (chain ts z w).tags
  shown_chain ts whole w h k = shown_append ts w.tags h k
  shown_chain ts (fault e n) w h k = h

  module _ (o : Order) (class : ℕ → Class) where
    shown_within : (R : Owner → ℕ → List ℕ → Walk) → ((c : Owner) (a : ℕ) (r : List ℕ) → Part f a r → Shown (R c a r).tags)
        → (cl : Class) (a s : ℕ) (body : List ℕ) → Part f s body → Shown (within o R cl a s body).walk.tags
    shown_within R u opaque a s body p = tt
    shown_within R u end a s body p = tt
    shown_within R u (known y) a s body p = tt
    shown_within R u (container y) a s body p =
        either_way (λ (i : TagInside). Shown i.walk.tags) (has_list y (to_end o body y).shown) (go (to_end o body y).shown (to_end o body y).ended refl) tt
      where
        go : (xs : List ℕ) (z : Ending) → (to_end o body y).ended ≡ z → Shown (opened R a s body xs z).walk.tags
        go xs (Fault e) eq = tt
        go xs (At q) eq = u (inside a) (s + q / 8) (drop (q / 8) body) (part_drop f s (q / 8) body (omega (arith, end_le o y body q eq)) p)

    -- the tag itself
    shown_tag : (R : Owner → ℕ → List ℕ → Walk) (cl : Class) (d code a size len : ℕ) (body : List ℕ) → length body ≡ len → Part f (a + size) body
        → ShownTag (record { depth = d; code = code; place = a; header_size = size; body_length = len; state = state_of cl size len; values = (within o R cl a (a + size) body).values })
    shown_tag R cl d code a size len body n p e = by cl (sym (state_opaque cl (long_on_short size len)) ∙ e)
      where
        by : (cl : Class) → eqb (is_read cl) 0 ≡ true → (within o R cl a (a + size) body).values ≡ packed (take len (drop (a + size) f))
        by opaque e = ap packed (sym (rw n at (part_plain f (a + size) body p)))
        by end e = clash cc
        by (container y) e = clash cc
        by (known y) e = clash cc

    shown_walk : (k left : ℕ) (c : Owner) (a : ℕ) (r : List ℕ) → Part f a r → Shown (walk o class k left c a r).tags
    unfolding walk
    shown_walk zero left c a r p = tt
    shown_walk (suc k) left c a [] p = tt
    shown_walk (suc k) left c a (x ∷ r) p = one (λ left c a r p. shown_walk k left c a r p) (read_head class left (x ∷ r)) (head_fits class left (x ∷ r))
      where
        R : ℕ → Owner → ℕ → List ℕ → Walk
        R = walk o class k

        after : ((left : ℕ) (c : Owner) (a : ℕ) (r : List ℕ) → Part f a r → Shown (R left c a r).tags) → (e : Bool) (b : ℕ) (q : List ℕ) → Part f b q → Shown (after_tag e c b q (R left c)).tags
        after u false b q p = u left c b q p
        after u true b [] p = tt
        after u true b (y ∷ q) p = tt

        one : ((left : ℕ) (c : Owner) (a : ℕ) (r : List ℕ) → Part f a r → Shown (R left c a r).tags) → (g : Head) → Fits class left (x ∷ r) g → Shown (one_tag o class R left c a (x ∷ r) g).tags
        one u (no_head e) h = tt
        one u (head code len size) h =
            let body : List ℕ = take len (drop size (x ∷ r)) in
            let n : length body ≡ len = length-take-le len (drop size (x ∷ r)) (rw length-drop (omega (arith, h.1))) in
            let q : Part f (a + size) body = part_take f (a + size) len (drop size (x ∷ r)) (part_drop f a size (x ∷ r) (omega (arith, h.1)) p) in
            let v : Part f (a + size + len) (drop (size + len) (x ∷ r)) = rw add_assoc (part_drop f a (size + len) (x ∷ r) h.1 p) in
            let t : Tag = record { depth = 8 - left; code = code; place = a; header_size = size; body_length = len; state = state_of (class code) size len; values = (within o (R (pred left)) (class code) a (a + size) body).values } in
            shown_chain (t ∷ (within o (R (pred left)) (class code) a (a + size) body).walk.tags) (within o (R (pred left)) (class code) a (a + size) body).walk.ended
            (after_tag (is_end (class code)) c (a + size + len) (drop (size + len) (x ∷ r)) (R left c))
            (shown_tag (R (pred left)) (class code) (8 - left) code a size len body n q, shown_within (R (pred left)) (u (pred left)) (class code) a (a + size) body q)
            (after u (is_end (class code)) (a + size + len) (drop (size + len) (x ∷ r)) v)

  pub shown_file : (order level : ℕ) → Shown (walk_file order level f).tags
  unfolding walk_file
  shown_file order level = go (eqb (start_fault order level f) 0) refl
    where
      room : 9 ≤ length f → Part f 9 (drop 9 f)
      room n = record { before = take 9 f; after = []; parts = sym (rw (append-nil, take-append-drop)); place = length-take-le 9 f n }

      go : (c : Bool) → eqb (start_fault order level f) 0 ≡ c → Shown (walk_file order level f).tags
      go true e = rw e (shown_walk (order_named order) (class_of level) (length (drop 9 f)) 8 file 9 (drop 9 f) (room (good_start order level f (eqb-true (start_fault order level f) 0 e)).long))
      go false e = rw e tt

-- ---- the numbers of tags, changed

abbrev changed_tag : (List ℕ → List ℕ) → Tag → Tag
changed_tag g t = showing t (pick (is_opaque t.state) (g t.values) t.values)

changed_numbers : (g : List ℕ → List ℕ) (k : ℕ) (ts : List Tag) → length (numbers ts) ≤ k → changed g k (numbers ts) ≡ numbers (map (changed_tag g) ts)
unfolding changed
changed_numbers g zero [] l = refl
changed_numbers g zero (t ∷ ts) l = absurd (omega arith)
changed_numbers g (suc k) [] l = refl
changed_numbers g (suc k) (t ∷ ts) l =
    rw (take-append_seam t.values (numbers ts), drop-append_seam t.values (numbers ts))
    (ap (λ (r : List ℕ). t.code ∷ t.state ∷ length (changed_tag g t).values ∷ ((changed_tag g t).values ++ r))
    (changed_numbers g k ts (omega (arith, length-append t.values (numbers ts)))))

module _ (f : List ℕ) where
  pack_tags : (ts : List Tag) → Shown f ts → map (changed_tag packed) (map (plain_tag f) ts) ≡ ts
  pack_tags [] h = refl
  pack_tags (t ∷ ts) h = ap₂ (λ (vs : List ℕ) (us : List Tag). showing t vs ∷ us) (go (is_opaque t.state) refl h.0) (pack_tags ts h.1)
    where
      go : (c : Bool) → is_opaque t.state ≡ c → ShownTag f t → pick c (packed (pick c (body_in f t) t.values)) (pick c (body_in f t) t.values) ≡ t.values
      go true e h = sym (h e)
      go false e h = refl

  unpack_tags : AllBytes f → (ts : List Tag) → Shown f ts → map (changed_tag unpacked) ts ≡ map (plain_tag f) ts
  unpack_tags b [] h = refl
  unpack_tags b (t ∷ ts) h = ap₂ (λ (vs : List ℕ) (us : List Tag). showing t vs ∷ us) (go (is_opaque t.state) refl h.0) (unpack_tags b ts h.1)
    where
      go : (c : Bool) → is_opaque t.state ≡ c → ShownTag f t → pick c (unpacked t.values) t.values ≡ pick c (body_in f t) t.values
      go true e h = ap unpacked (h e) ∙ unpack_packed (body_in f t) (bytes_take t.body_length (drop (t.place + t.header_size) f) (bytes_drop (t.place + t.header_size) f b))
      go false e h = refl

  -- ---- the two tables of a file, whatever its ending
  pub packs : (order level : ℕ) → pack (plain_table f (walk_file order level f)) ≡ table f (walk_file order level f)
  packs order level =
      let ts : List Tag = (walk_file order level f).tags in
      ap (λ (r : List ℕ). get_or f 8 0 ∷ r) (changed_numbers packed (length (numbers (map (plain_tag f) ts))) (map (plain_tag f) ts) (omega arith) ∙ ap numbers (pack_tags ts (shown_file f order level)))

  pub unpacks : (order level : ℕ) → AllBytes f → unpack (table f (walk_file order level f)) ≡ plain_table f (walk_file order level f)
  unpacks order level b =
      let ts : List Tag = (walk_file order level f).tags in
      ap (λ (r : List ℕ). get_or f 8 0 ∷ r) (changed_numbers unpacked (length (numbers ts)) ts (omega arith) ∙ ap numbers (unpack_tags b ts (shown_file f order level)))

-- ---- what a file gives in the two forms
gives_is : (t : List ℕ) (z : Outcome) {t' : List ℕ} → result t z ≡ gives t' → (t ≡ t') × (z ≡ whole)
gives_is t whole e = (cc, refl)
gives_is t (fault x n) e = clash cc

module _ (order level : ℕ) (f : List ℕ) (b : IsFile f) where
  -- from the packed table the plain one, and back
  pub plain_of_lem : (t : List ℕ) → read_file order level f ≡ gives t → (read_plain order level f ≡ gives (unpack t)) × (pack (unpack t) ≡ t)
  unfolding read_file read_plain
  plain_of_lem t e =
      let g : (table f (walk_file order level f) ≡ t) × ((walk_file order level f).ended ≡ whole) = gives_is (table f (walk_file order level f)) (walk_file order level f).ended e in
      let u : unpack t ≡ plain_table f (walk_file order level f) = ap unpack (sym g.0) ∙ unpacks f order level b in
      (ap₂ result (sym u) g.1, ap pack u ∙ packs f order level ∙ g.0)

  -- from the plain table the packed one, and back
  pub packed_of : (p : List ℕ) → read_plain order level f ≡ gives p → (read_file order level f ≡ gives (pack p)) × (unpack (pack p) ≡ p)
  unfolding read_file read_plain
  packed_of p e =
      let g : (plain_table f (walk_file order level f) ≡ p) × ((walk_file order level f).ended ≡ whole) = gives_is (plain_table f (walk_file order level f)) (walk_file order level f).ended e in
      let u : pack p ≡ table f (walk_file order level f) = ap pack (sym g.0) ∙ packs f order level in
      (ap₂ result (sym u) g.1, ap unpack u ∙ unpacks f order level b ∙ g.0)

-- no two files have one plain table
pub plain_one_file : (order level : ℕ) (p f g : List ℕ) → IsFile f → IsFile g → read_plain order level f ≡ gives p → read_plain order level g ≡ gives p → f ≡ g
plain_one_file order level p f g b c e h = one_file order level (pack p) f g b c (packed_of order level f b p e).0 (packed_of order level g c p h).0
