-- A list, looked through tag by tag: how many headers were passed, and what looking in the rest of it gives.
use Prim.Native.Nat.{ℕ, pred, ◌+◌, ◌-◌, ◌*◌, ◌/◌, ◌%◌, ◌≤◌, ◌<◌}
use mathlib.Core.List.{List, [], ◌∷◌}
use mathlib.Core.Path.{◌≡◌, refl, ap, ap₂, sym, subst, ◌∙◌}
use mathlib.Core.Bool.{Bool, true, false, not}
use mathlib.Core.Logic.{◌⊎◌, inl, inr}
use native.Mathlib.Nat.{add-zero}
use native.Mathlib.Omega.{arith}
use lib.ListN.{length, take, drop, length-drop}
use lib.Seq.{length-take-le, drop-drop, drop-length, take-take}
use lib.Dec.{ltb, eqb}
use Rattle.std.specs.Option.{is_some}
use Rattle.std.proofs.Common.{Result, Ok, Err, Option, Some, None}
use Rattle.reasons.specs.declared.Reason.{Reason}
use Rattle.reasons.specs.declared.Reason.TheVariants.{ListWithoutEnd}
use Rattle.reasons.specs.Numbers.{number_of}
use borrow.Author.Tests.{eqb-true, eqb-false, le-leb}
use Rattle.format.specs.Tests.{pick, ◌and◌}
use Rattle.format.specs.Bits.{Order}
use Rattle.format.specs.Reading.{Ending, At, Fault, Reading}
use Rattle.format.specs.Bodies.{composition_attributes, fixed, read_body}
use Rattle.format.specs.Bodies as bodies
use Rattle.format.specs.FileAndTags as paper
use Rattle.format.specs.FileAndTags.{le16, le32, class_of, is_end, is_container, is_read, long_on_short, state_of, Tag, Outcome, whole, fault, Walk, no_tags, broken, chain, Head, head, no_head, raw_head, passes, read_head, blame, at_end, after_tag, TagInside, within, tag_then, walk_list}
use Rattle.format.proofs.StateLaws.{state_opaque}
use Rattle.format.proofs.ListLaws.{list_nil, list_fault, list_tag}
use Rattle.format.proofs.RoomLaws.{Room, walk_room}
use Rattle.format.proofs.WalkLaws.{Fits, head_fits}
use Rattle.format.proofs.Absurd.{clash}
use Rattle.fixed.specs.Fixed.{fixed_of}
use Rattle.bodies.specs.Leaf.{leaf_body}
use Rattle.classes.specs.Classes.{named, bare, ends, contains, skimmed}
use Rattle.classes.specs.declared.Class.{Class}
use Rattle.classes.specs.declared.Class.TheVariants.{Opaque, End, Container, Fixed, Attributes}
use Rattle.classes.specs.declared.Scope.{Scope}
use Rattle.classes.specs.declared.Scope.TheVariants.{All, Lists}
use Rattle.headers.specs.Heads.{head_by}
use Rattle.headers.proofs.HeadLaws.{head_by_lem}
use Rattle.tags.specs.Shown.{values_of, list_of}
use Rattle.tags.proofs.TagLaws.{list_container, values_le}
use Rattle.bits.specs.declared.BytePlace.{BytePlace}
use Rattle.lists.specs.Lists.{byte_at, owner_of, ended_by, last_of}
use Rattle.lists.specs.declared.Fault.{Fault as Refused}
use Rattle.tags.specs.Lent.{class_in, classes_in, Tabled}
use Rattle.lists.proofs.ListLaws.{piece, length_piece, drop_take, pred_is, positive, walk_of, inside_of, within_is}
use Rattle.tags.proofs.LentLaws.{fair_in, with_named}
use Rattle.canvas.specs.Canvas.{is_canvas, Seen, found, none, refused, Canvas, canvas, more, seen_in, canvas_in, canvas_of}
use Rattle.canvas.specs.Looking.{span, is_looked, judged_class, judged_list, list_at, numbered, Judgement, judged_end, judged_at, judged_in, Judges, body_at, Stands, Sees, Looks}
use Rattle.canvas.specs.declared.Span.{Span}
use Rattle.canvas.specs.declared.Judged.{Judged}
use Rattle.canvas.specs.declared.Judged.TheVariants as judged
use Rattle.canvas.proofs.CanvasLaws.{then_seen, then_look, Headed, headed_found, canvas_chain, headers_le}
use Rattle.canvas.proofs.SureLaws.{SureEnd, canvas_sure}

-- ---- a header's reasons are 6 to 12
abbrev Below : Head → Type 0
Below (head code len size) = Unit {0}
Below (no_head e) = e < 13

either_way : {A : Type 0} (P : A → Type 0) (c : Bool) {x y : A} → P x → P y → P (pick c x y)
either_way P true h k = h
either_way P false h k = k

head_below : (class : ℕ → paper.Class) (left : ℕ) (r : List ℕ) → Below (read_head class left r)
head_below class left r = go (raw_head r) raw
  where
    raw : Below (raw_head r)
    raw = either_way Below (ltb (length r) 2) (omega arith) (either_way Below (eqb (le16 r % 64) 63) (either_way Below (ltb (length r) 6) (omega arith) tt) tt)

    go : (g : Head) → Below g → Below (passes class left r g)
    go (no_head e) h = h
    go (head code len size) h =
        either_way Below (ltb (length (drop size r)) len) (omega arith)
        (either_way Below (is_end (class code) and ltb 0 len) (omega arith)
        (either_way Below (is_container (class code) and eqb left 0) (omega arith) tt))

-- ---- a list without tags ended by such a reason, or by 7
abbrev HeadedWalk : Walk → Type 0
HeadedWalk w = Headed w.tags w.ended

headed_tag : (d code a size len s : ℕ) (i : TagInside) (w : Walk) → HeadedWalk (tag_then d code a size len s i w)
headed_tag d code a size len s i w = go i.walk.ended
  where
    go : (z : Outcome) → HeadedWalk (chain (record { depth = d; code = code; place = a; header_size = size; body_length = len; state = s; values = i.values } ∷ i.walk.tags) z w)
    go whole = tt
    go (fault e n) = tt

headed_list : (o : Order) (class : ℕ → paper.Class) (left : ℕ) (c : paper.Owner) (a : ℕ) (r : List ℕ) → HeadedWalk (walk_list o class left c a r)
headed_list o class left c a [] = subst HeadedWalk (sym (list_nil o class left c a)) (omega arith)
headed_list o class left c a (x ∷ r) = go (read_head class left (x ∷ r)) refl (head_below class left (x ∷ r))
  where
    go : (g : Head) → read_head class left (x ∷ r) ≡ g → Below g → HeadedWalk (walk_list o class left c a (x ∷ r))
    go (no_head e) q h = subst HeadedWalk (sym (list_fault o class left c a (x ∷ r) e (omega arith) q)) h
    go (head code len size) q h = subst HeadedWalk (sym (list_tag o class left c a (x ∷ r) code len size (omega arith) q))
        (headed_tag (8 - left) code a size len (state_of (class code) size len) (within o (walk_list o class (pred left)) (class code) a (a + size) (take len (drop size (x ∷ r))))
        (after_tag (is_end (class code)) c (a + size + len) (drop (size + len) (x ∷ r)) (walk_list o class left c)))

headed_after : (o : Order) (class : ℕ → paper.Class) (left : ℕ) (b : Bool) (c : paper.Owner) (a : ℕ) (r : List ℕ) → HeadedWalk (after_tag b c a r (walk_list o class left c))
headed_after o class left true c a [] = tt
headed_after o class left true c a (x ∷ r) = omega arith
headed_after o class left false c a r = headed_list o class left c a r

-- ---- the tag that is looked for is read as a fixed body
abbrev taken : Scope → Bool → Class
taken scope hidden = named (skimmed scope (pick hidden paper.opaque (paper.known (fixed composition_attributes))))

canvas_class : (cs : List Class) → Tabled cs → (class_in cs 3 ≡ Opaque) ⊎ (class_in cs 3 ≡ Fixed)
unfolding class_of
canvas_class cs k = subst (λ (c : Class). (c ≡ Opaque) ⊎ (c ≡ Fixed)) (sym (k.classed.each 3)) (go k.scope (ltb k.level 3))
  where
    go : (scope : Scope) (b : Bool) → (taken scope b ≡ Opaque) ⊎ (taken scope b ≡ Fixed)
    go All true = inl refl
    go All false = inr refl
    go Lists true = inl refl
    go Lists false = inl refl

pub leaf_is : leaf_body 3 ≡ fixed composition_attributes
unfolding leaf_body fixed_of
leaf_is = refl

items_are : fixed (fixed_of 3) ≡ fixed composition_attributes
unfolding fixed_of
items_are = refl

looked_fixed : (cs : List Class) → Tabled cs → (code : ℕ) → is_looked (class_in cs code) code ≡ true → (code ≡ 3) × (class_in cs code ≡ Fixed)
looked_fixed cs k code h = go (eqb code 3) refl h
  where
    by_class : (c : Class) → (c ≡ Opaque) ⊎ (c ≡ Fixed) → not (eqb (is_read (bare c)) 0) ≡ true → c ≡ Fixed
    by_class c (inl e) r = clash (subst (λ (c : Class). not (eqb (is_read (bare c)) 0) ≡ true → ◌≡◌ {A = ℕ} 0 1) (sym e) (λ z. cc) r)
    by_class c (inr e) r = e

    go : (b : Bool) → eqb code 3 ≡ b → (b and not (eqb (is_read (bare (class_in cs code))) 0)) ≡ true → (code ≡ 3) × (class_in cs code ≡ Fixed)
    go true q r =
        let n : code ≡ 3 = eqb-true code 3 q in
        (n, by_class (class_in cs code) (subst (λ (m : ℕ). (class_in cs m ≡ Opaque) ⊎ (class_in cs m ≡ Fixed)) (sym n) (canvas_class cs k)) r)
    go false q r = clash cc

state_looked : (c : Class) (code size len : ℕ) → is_canvas code (state_of (bare c) size len) ≡ is_looked c code
state_looked c code size len = ap (λ (b : Bool). eqb code 3 and not b) (state_opaque (bare c) (long_on_short size len))

-- ---- a list of the owner at place a, whose room is r: h₀ headers were read before it, and h so far, at i
pub record Going (o : Order) (cs : List Class) (depths : ℕ) (own : paper.Owner) (a : ℕ) (r : List ℕ) (h₀ i h : ℕ) : Type 0 where
  pub inside : i ≤ length r
  pub passed : ℕ
  pub headers : h ≡ h₀ + passed
  pub few : passed ≤ i
  pub rest : canvas_of (walk_list o (classes_in cs) depths own a r) ≡ more passed (canvas_of (walk_list o (classes_in cs) depths own (a + i) (drop i r)))

module _ (o : Order) (cs : List Class) (depths : ℕ) (own : paper.Owner) (a : ℕ) (r : List ℕ) where
  abbrev from : ℕ → Walk
  from i = walk_list o (classes_in cs) depths own (a + i) (drop i r)

  abbrev all : Walk
  all = walk_list o (classes_in cs) depths own a r

  -- the list inside the container at i
  abbrev inner : ℕ → ℕ → ℕ → Walk
  inner i l p = walk_list o (classes_in cs) (pred depths) (paper.inside (a + i)) (a + l) (piece l p r)

  -- what a good tag at i says of the rest of the list
  abbrev pub Told : ℕ → Judged → Type 0
  Told i (judged.Canvas b) =
      Stands o a r (a + b.start.0) (a + b.stop.0)
      × (canvas_of (from i) ≡ canvas (found (read_body o (fixed composition_attributes) (body_at a r (a + b.start.0) (a + b.stop.0))).shown) 1)
  Told i (judged.Last p) = (p.0 ≤ length r) × (canvas_of (from i) ≡ more 1 (canvas_of (at_end own (a + p.0) (drop p.0 r))))
  Told i (judged.Next p) = (i < p.0) × (p.0 ≤ length r) × (canvas_of (from i) ≡ more 1 (canvas_of (from p.0)))
  Told i (judged.Open b) =
      (1 ≤ depths) × (i < b.start.0) × (b.start.0 ≤ b.stop.0) × (b.stop.0 ≤ length r)
      × (canvas_of (from i) ≡ more 1 (then_look (canvas_of (inner i b.start.0 b.stop.0)) (canvas_of (from b.stop.0))))

  -- what judging the tag at i says of it, with n headers passed
  abbrev Tells : ℕ → ℕ → Result Judged ℕ → Type 0
  Tells i n (Err e) = canvas_of (from i) ≡ canvas (refused e (a + i)) n
  Tells i n (Ok j) = (n ≡ 1) × Told i j

  module _ (tabled : Tabled cs) {i : ℕ} (some : i < length r) where
    left_over : 0 < length (drop i r)
    left_over = rw length-drop (omega arith)

    told_none : {e : ℕ} → read_head (classes_in cs) depths (drop i r) ≡ no_head e → canvas_of (from i) ≡ canvas (refused e (a + i)) 0
    unfolding canvas_in
    told_none {e} is = ap canvas_of (list_fault o (classes_in cs) depths own (a + i) (drop i r) e left_over is)

    -- its header passes
    module _ {code len size : ℕ} (stands : read_head (classes_in cs) depths (drop i r) ≡ head code len size) where
      fits : Fits (classes_in cs) depths (drop i r) (head code len size)
      fits = subst (Fits (classes_in cs) depths (drop i r)) stands (head_fits (classes_in cs) depths (drop i r))

      abbrev R : paper.Owner → ℕ → List ℕ → Walk
      R = walk_list o (classes_in cs) (pred depths)

      abbrev start : ℕ
      start = i + size

      abbrev stop : ℕ
      stop = i + size + len

      abbrev body : List ℕ
      body = take len (drop size (drop i r))

      abbrev c : Class
      c = class_in cs code

      abbrev list : Bool
      list = list_of o c code body

      abbrev later : Bool → Walk
      later b = after_tag b own (a + stop) (drop stop r) (walk_list o (classes_in cs) depths own)

      abbrev tag : Tag
      tag = record { depth = 8 - depths; code = code; place = a + i; header_size = size; body_length = len; state = state_of (bare c) size len; values = (values_of o c code body).shown }

      stop_fits : stop ≤ length r
      stop_fits = omega (arith, fits.1, length-drop i r)

      body_length_lem : length body ≡ len
      body_length_lem = length-take-le len (drop size (drop i r)) (rw (length-drop, length-drop) (omega (arith, stop_fits)))

      tag_is : from i ≡ tag_then (8 - depths) code (a + i) size len (state_of (bare c) size len) (inside_of o R c code (a + i) (a + start) body) (later (ends c))
      tag_is =
          let p : a + i + size ≡ a + start = omega arith in
          let q : a + i + size + len ≡ a + stop = omega arith in
          let n : i + (size + len) ≡ stop = omega arith in
          let d : drop (size + len) (drop i r) ≡ drop stop r = drop-drop (size + len) i r ∙ ap (λ (n : ℕ). drop n r) n in
          list_tag o (classes_in cs) depths own (a + i) (drop i r) code len size left_over stands
          ∙ rw (q, p, d, (with_named c code).0, (with_named c code).2, within_is o R cs code (a + i) (a + start) body)

      headed_later : (b : Bool) → HeadedWalk (later b)
      headed_later b = headed_after o (classes_in cs) depths b own (a + stop) (drop stop r)

      -- what looking at the tag gives, whose inside has the walk w
      tag_looked : (w : Walk) → walk_of R list (a + i) (a + start) body (values_of o c code body).ended ≡ w
          → canvas_of (from i) ≡ canvas_of (chain (tag ∷ w.tags) w.ended (later (ends c)))
      tag_looked w e = ap canvas_of tag_is ∙ ap (λ (v : Walk). canvas_of (chain (tag ∷ v.tags) v.ended (later (ends c)))) e

      abbrev looks : Bool
      looks = is_canvas code (state_of (bare c) size len)

      looks_is : {b : Bool} → is_looked c code ≡ b → looks ≡ b
      looks_is e = state_looked c code size len ∙ e

      -- another tag, with nothing in it
      other : {e : Bool} → looks ≡ false → ends c ≡ e → walk_of R list (a + i) (a + start) body (values_of o c code body).ended ≡ no_tags whole → canvas_of (from i) ≡ more 1 (canvas_of (later e))
      unfolding canvas_in
      other {e} n q w =
          tag_looked (no_tags whole) w
          ∙ ap (λ (x : Bool). more 1 (pick x (canvas (seen_in tag.values (later (ends c)).tags (later (ends c)).ended) 0) (canvas_of (later (ends c))))) n
          ∙ ap (λ (x : Bool). more 1 (canvas_of (later x))) q

      -- a container
      container_looked : looks ≡ false → ends c ≡ false → (w : Walk) → walk_of R list (a + i) (a + start) body (values_of o c code body).ended ≡ w
          → canvas_of (from i) ≡ more 1 (then_look (canvas_of w) (canvas_of (from stop)))
      unfolding canvas_in
      container_looked n q w e =
          tag_looked w e ∙ go w.ended refl
          ∙ ap (λ (x : Bool). more 1 (pick x (canvas (seen_in tag.values (chain w.tags w.ended (later (ends c))).tags (chain w.tags w.ended (later (ends c))).ended) 0) (canvas_of (chain w.tags w.ended (later (ends c)))))) n
          ∙ ap (more 1) (canvas_chain w.tags w.ended (later (ends c)) (headed_later (ends c)))
          ∙ ap (λ (x : Bool). more 1 (then_look (canvas_of w) (canvas_of (later x)))) q
        where
          go : (z : Outcome) → w.ended ≡ z
              → canvas_of (chain (tag ∷ w.tags) w.ended (later (ends c)))
              ≡ more 1 (pick looks (canvas (seen_in tag.values (chain w.tags w.ended (later (ends c))).tags (chain w.tags w.ended (later (ends c))).ended) 0) (canvas_of (chain w.tags w.ended (later (ends c)))))
          go whole z = rw z
          go (fault e n) z = rw z

      -- the tag's body faults
      faulty : {e : ℕ} → (looks ≡ true → 13 ≤ e) → walk_of R list (a + i) (a + start) body (values_of o c code body).ended ≡ broken e (a + i) → canvas_of (from i) ≡ canvas (refused e (a + i)) 1
      unfolding canvas_in
      faulty {e} h w = tag_looked (broken e (a + i)) w ∙ go looks refl
        where
          go : (b : Bool) → looks ≡ b → more 1 (pick looks (canvas (seen_in tag.values [] (fault e (a + i))) 0) (canvas (refused e (a + i)) 0)) ≡ canvas (refused e (a + i)) 1
          go true q = rw (q, le-leb 13 e (h q))
          go false q = rw q

      -- it is the one that is looked for
      canvas_found : looks ≡ true → walk_of R list (a + i) (a + start) body (values_of o c code body).ended ≡ no_tags whole → canvas_of (from i) ≡ canvas (found (values_of o c code body).shown) 1
      unfolding canvas_in
      canvas_found n w =
          tag_looked (no_tags whole) w
          ∙ ap (λ (x : Bool). more 1 (pick x (canvas (seen_in tag.values (later (ends c)).tags (later (ends c)).ended) 0) (canvas_of (later (ends c))))) n
          ∙ ap (λ (s : Seen). canvas s 1) (headed_found tag.values (later (ends c)).tags (later (ends c)).ended (headed_later (ends c)))

      -- ---- by how its body ended, and by its class
      abbrev z : Ending
      z = (values_of o c code body).ended

      body_at_lem : body_at a r (a + start) (a + stop) ≡ body
      body_at_lem =
          let n : a + stop - (a + start) ≡ len = omega arith in
          let m : a + start - a ≡ i + size = omega arith in
          rw (n, m) (ap (take len) (sym (drop-drop size i r)))

      values_canvas : is_looked c code ≡ true → values_of o c code body ≡ read_body o (fixed composition_attributes) body
      values_canvas h =
          let l : (code ≡ 3) × (c ≡ Fixed) = looked_fixed cs tabled code h in
          ap₂ (λ (d : Class) (k : ℕ). values_of o d k body) l.1 l.0 ∙ ap (λ (y : bodies.Body). read_body o y body) items_are

      fault_reason : {e : ℕ} → z ≡ Fault e → looks ≡ true → 13 ≤ e
      fault_reason {e} q n =
          let v : values_of o c code body ≡ read_body o (fixed composition_attributes) body = values_canvas (sym (state_looked c code size len) ∙ n) in
          let f : (read_body o (fixed composition_attributes) body).ended ≡ Fault e = sym (ap (λ (x : Reading). x.ended) v) ∙ q in
          subst (SureEnd 7 (read_body o (fixed composition_attributes) body).shown) f (canvas_sure o body)

      -- with a list or without, and an ending
      walk_as : {p : ℕ} {l : Bool} → list ≡ l → z ≡ At p → walk_of R list (a + i) (a + start) body z ≡ walk_of R l (a + i) (a + start) body (At p)
      walk_as e q = ap₂ (λ (l : Bool) (y : Ending). walk_of R l (a + i) (a + start) body y) e q

      told_next : {p : ℕ} → list ≡ false → z ≡ At p → looks ≡ false → ends c ≡ false → Told i (judged.Next (byte_at stop))
      told_next e q n f = (omega (arith, fits.0), stop_fits, other {e = false} n f (walk_as e q))

      list_room : (p : ℕ) → p ≤ 8 * length body → drop (p / 8) body ≡ piece (start + p / 8) stop r
      list_room p l =
          let q : len - p / 8 ≡ stop - (start + p / 8) = omega (arith, l, body_length_lem) in
          let q' : i + (size + p / 8) ≡ start + p / 8 = omega arith in
          drop_take (p / 8) len (drop size (drop i r)) ∙ rw (q, drop-drop (p / 8) size (drop i r), drop-drop (size + p / 8) i r) (ap (λ (v : ℕ). take (stop - (start + p / 8)) (drop v r)) q')

      told_open : {p : ℕ} → list ≡ true → z ≡ At p → looks ≡ false → Told i (judged.Open (span (start + p / 8) stop))
      told_open {p} h q n =
          let e : c ≡ Container = list_container o c code body h in
          let l : p ≤ 8 * length body = values_le o c code body p q in
          let d : pick true (eqb depths 0) false ≡ false = subst (λ (b : Bool). pick b (eqb depths 0) false ≡ false) ((with_named c code).1 ∙ ap contains e) fits.3 in
          let m : a + start + p / 8 ≡ a + (start + p / 8) = omega arith in
          let w : walk_of R list (a + i) (a + start) body z ≡ inner i (start + p / 8) stop = walk_as h q ∙ rw (m, list_room p l) in
          (positive depths (eqb-false depths 0 d), omega (arith, fits.0), omega (arith, l, body_length_lem), stop_fits, container_looked n (ap ends e) (inner i (start + p / 8) stop) w)

      told_class : {p : ℕ} → list ≡ false → z ≡ At p → looks ≡ false → (d : Class) → c ≡ d → Told i (judged_class d (byte_at stop))
      told_class f q n Opaque e = told_next f q n (ap ends e)
      told_class f q n End e = (stop_fits, other {e = true} n (ap ends e) (walk_as f q))
      told_class f q n Container e = told_next f q n (ap ends e)
      told_class f q n Fixed e = told_next f q n (ap ends e)
      told_class f q n Attributes e = told_next f q n (ap ends e)

      told_canvas : {p : ℕ} → z ≡ At p → is_looked c code ≡ true → Told i (judged.Canvas (span start stop))
      told_canvas {p} q h =
          let v : values_of o c code body ≡ read_body o (fixed composition_attributes) body = values_canvas h in
          let l : (code ≡ 3) × (c ≡ Fixed) = looked_fixed cs tabled code h in (
            record {
              after = omega arith;
              order = omega arith;
              inside = omega (arith, stop_fits);
              place = p;
              good = rw body_at_lem (sym (ap (λ (x : Reading). x.ended) v) ∙ q);
            },
            canvas_found (looks_is h) (walk_as (ap (λ (d : Class). list_of o d code body) l.1) q) ∙ rw (body_at_lem, v),
          )

      told_end : (y : Ending) → z ≡ y → Tells i 1 (judged_end c list code start stop y)
      told_end (Fault e) q = faulty (fault_reason q) (ap (walk_of R list (a + i) (a + start) body) q)
      told_end (At p) q = (refl, go (is_looked c code) refl list refl)
        where
          go : (b : Bool) → is_looked c code ≡ b → (l : Bool) → list ≡ l → Told i (pick b (judged.Canvas (span start stop)) (judged_list c (span start stop) (list_at l (p / 8))))
          go true h l e = told_canvas q h
          go false h true e = told_open e q (looks_is h)
          go false h false e = told_class e q (looks_is h) c refl

    -- the class of its code
    abbrev C : Class
    C = class_in cs (le16 (drop i r) / 64)

    pub tells : Tells i (judged_in o cs depths r i).passed (judged_in o cs depths r i).judged
    tells =
        let f : read_head (classes_in cs) depths (drop i r) ≡ head_by C depths (drop i r) = head_by_lem (classes_in cs) depths (drop i r) C (with_named C (le16 (drop i r) / 64)).0 (with_named C (le16 (drop i r) / 64)).1 in
        subst (λ (j : Judgement). Tells i j.passed j.judged) (ap (judged_at o C r i) f) (go (read_head (classes_in cs) depths (drop i r)) refl)
      where
        go : (g : Head) → read_head (classes_in cs) depths (drop i r) ≡ g → Tells i (judged_at o C r i g).passed (judged_at o C r i g).judged
        go (no_head e) q = told_none q
        go (head code len size) q =
            subst (λ (n : ℕ). Tells i 1 (judged_at o (class_in cs n) r i (head code len size)).judged) (fits q).4
            (told_end q (values_of o (class_in cs code) code (take len (drop size (drop i r)))).ended refl)

  -- ---- h₀ headers were read before the list
  module _ (h₀ : ℕ) where
    abbrev G : ℕ → ℕ → Type 0
    G i h = Going o cs depths own a r h₀ i h

    pub going_start : G 0 h₀
    going_start =
        let n : (canvas_of all).headers ≡ 0 + (canvas_of all).headers = omega arith in
        record { inside = omega arith; passed = 0; headers = sym (add-zero h₀); few = omega arith; rest = rw (add-zero a) (ap (canvas (canvas_of all).seen) n) }

    -- it ends so
    ends_at : {i h : ℕ} (g : G i h) {s : Seen} {m : ℕ} → canvas_of (from i) ≡ canvas s m → canvas_of all ≡ canvas s (g.passed + m)
    ends_at g e = g.rest ∙ ap (more g.passed) e

    looks_at : {i h : ℕ} (g : G i h) {s : Seen} {m h' : ℕ} {y : Result (Option Span) Refused} → canvas_of (from i) ≡ canvas s m → h' ≡ h + m → Sees o a r y s → Looks o a r h₀ h' y (canvas_of all)
    looks_at g {s} {m} {h'} {y} c k e =
        let w : canvas_of all ≡ canvas s (g.passed + m) = ends_at g c in
        let v : (canvas_of all).headers ≡ g.passed + m = ap (λ (x : Canvas). x.headers) w in
        record { sees = subst (Sees o a r y) (sym (ap (λ (x : Canvas). x.seen) w)) e; headers = omega (arith, k, v, g.headers) }

    looks_fault : {i h : ℕ} (g : G i h) {e n m h' : ℕ} {x : Refused} → canvas_of (from i) ≡ canvas (refused e n) m → h' ≡ h + m → number_of x.why ≡ e → x.place.0 ≡ n → Looks o a r h₀ h' (Err x) (canvas_of all)
    looks_fault g c k p q = looks_at g c k (ap₂ refused (sym p) (sym q))

    pub used_up_lem : {i h : ℕ} → G i h → length r ≤ i → {x : Refused} → (x.why ≡ ListWithoutEnd) × (x.place.0 ≡ blame own (a + length r)) → Looks o a r h₀ h (Err x) (canvas_of all)
    unfolding canvas_in
    used_up_lem {i} {h} g l e =
        let z : i ≡ length r = omega (arith, g.inside) in
        let d : drop i r ≡ [] = rw z (drop-length r) in
        let f : from i ≡ broken 7 (blame own (a + i)) = rw d (list_nil o (classes_in cs) depths own (a + i)) in
        looks_fault g (ap canvas_of f) (sym (add-zero h)) (ap number_of e.0) (e.1 ∙ ap (λ (x : ℕ). blame own (a + x)) (sym z))

    -- the tag at i was judged, with y
    module _ (tabled : Tabled cs) {i h : ℕ} (some : i < length r) (g : G i h) {h' : ℕ} {y : Result Judged Reason} (j : Judges h h' y (judged_in o cs depths r i)) where
      told_as : {k : Result Judged ℕ} → numbered y ≡ k → Tells i (judged_in o cs depths r i).passed k
      told_as q = subst (Tells i (judged_in o cs depths r i).passed) (sym j.told ∙ q) (tells tabled some)

      good : {J : Judged} → y ≡ Ok J → (h' ≡ h + 1) × Told i J
      good {J} is =
          let u : ((judged_in o cs depths r i).passed ≡ 1) × Told i J = told_as (ap numbered is) in
          (j.headers ∙ ap (λ (n : ℕ). h + n) u.0, u.1)

      pub tell_refused : {e : Reason} → y ≡ Err e → Looks o a r h₀ h' (Err (record { why = e; place = byte_at (a + i) })) (canvas_of all)
      tell_refused is = looks_fault g (told_as (ap numbered is)) j.headers refl refl

      pub tell_canvas : {b : Span} → y ≡ Ok (judged.Canvas b) → Looks o a r h₀ h' (Ok (Some (span (a + b.start.0) (a + b.stop.0)))) (canvas_of all)
      tell_canvas is = let u = good is in looks_at g u.1.1 u.0 (u.1.0, refl)

      pub tell_stops : {b : Span} → y ≡ Ok (judged.Canvas b) → (b.start.0 ≤ length r) × (b.stop.0 ≤ length r)
      tell_stops is = let u = good is in (omega (arith, u.1.0.order, u.1.0.inside), omega (arith, u.1.0.inside))

      -- End
      pub tell_ends : {p : BytePlace} → y ≡ Ok (judged.Last p) → p.0 ≤ length r
      tell_ends is = (good is).1.0

      abbrev Ends : Result (Unit {0}) Refused → Type 0
      Ends (Ok u) = Looks o a r h₀ h' (Ok None) (canvas_of all)
      Ends (Err x) = Looks o a r h₀ h' (Err x) (canvas_of all)

      last : {p : BytePlace} (own' : Option BytePlace) → own ≡ owner_of own' → y ≡ Ok (judged.Last p) → (z : Result (Unit {0}) Refused) → ended_by z ≡ last_of own' a p.0 (length r) → Ends z
      unfolding canvas_in
      last {p} own' who is z e = go (eqb p.0 (length r)) refl (drop p.0 r) refl z e
        where
          u : (h' ≡ h + 1) × Told i (judged.Last p)
          u = good is

          here : (q : List ℕ) → drop p.0 r ≡ q → canvas_of (from i) ≡ more 1 (canvas_of (at_end own (a + p.0) q))
          here q v = u.1.1 ∙ ap (λ (q : List ℕ). more 1 (canvas_of (at_end own (a + p.0) q))) v

          go : (b : Bool) → eqb p.0 (length r) ≡ b → (q : List ℕ) → drop p.0 r ≡ q → (z : Result (Unit {0}) Refused) → ended_by z ≡ pick b whole (fault 11 (blame (owner_of own') (a + p.0))) → Ends z
          go true f [] v (Ok t) k = looks_at g (here [] v) u.0 refl
          go true f [] v (Err x) k = clash cc
          go true f (x ∷ q) v z k = absurd (omega (arith, eqb-true p.0 (length r) f, ap length v, length-drop p.0 r))
          go false f [] v z k = absurd (eqb-false p.0 (length r) f (omega (arith, ap length v, length-drop p.0 r, u.1.0)))
          go false f (x ∷ q) v (Ok t) k = clash cc
          go false f (x ∷ q) v (Err w) k =
              let n : number_of w.why ≡ 11 = cc in
              let m : w.place.0 ≡ blame (owner_of own') (a + p.0) = cc in
              looks_fault g (here (x ∷ q) v) u.0 n (m ∙ ap (λ (w : paper.Owner). blame w (a + p.0)) (sym who))

      pub tell_whole : {p : BytePlace} (own' : Option BytePlace) → own ≡ owner_of own' → y ≡ Ok (judged.Last p) → (z : Result (Unit {0}) Refused) {v : Unit {0}} → ended_by z ≡ last_of own' a p.0 (length r) → z ≡ Ok v
          → Looks o a r h₀ h' (Ok None) (canvas_of all)
      tell_whole own' who is z e q = subst Ends q (last own' who is z e)

      pub tell_over : {p : BytePlace} (own' : Option BytePlace) → own ≡ owner_of own' → y ≡ Ok (judged.Last p) → (z : Result (Unit {0}) Refused) {x : Refused} {w : Result (Option Span) Refused} → ended_by z ≡ last_of own' a p.0 (length r) → z ≡ Err x → w ≡ Err x
          → Looks o a r h₀ h' w (canvas_of all)
      tell_over own' who is z e q k = subst (λ (w : Result (Option Span) Refused). Looks o a r h₀ h' w (canvas_of all)) (sym k) (subst Ends q (last own' who is z e))

      pub tell_next : {p : BytePlace} → y ≡ Ok (judged.Next p) → (i < p.0) × G p.0 h'
      tell_next {p} is =
          let u : (h' ≡ h + 1) × Told i (judged.Next p) = good is in
          let n : g.passed + (1 + (canvas_of (from p.0)).headers) ≡ g.passed + 1 + (canvas_of (from p.0)).headers = omega arith in (
            u.1.0,
            record {
              inside = u.1.1;
              passed = g.passed + 1;
              headers = omega (arith, u.0, g.headers);
              few = omega (arith, g.few, u.1.0);
              rest = g.rest ∙ ap (more g.passed) u.1.2 ∙ ap (canvas (canvas_of (from p.0)).seen) n;
            },
          )

      -- a container: its list has the room from l up to p
      module _ {b : Span} (is : y ≡ Ok (judged.Open b)) where
        opens : Told i (judged.Open b)
        opens = (good is).1

        abbrev l : ℕ
        l = b.start.0

        abbrev p : ℕ
        p = b.stop.0

        pub open_places : (1 ≤ depths) × (i < l) × (l ≤ p) × (p ≤ length r)
        open_places = (opens.0, opens.1, opens.2, opens.3)

        pub open_inside : a + length r ≤ 16777216 → a + l + length (piece l p r) ≤ 16777216
        open_inside u = omega (arith, u, opens.2, opens.3, length_piece l p r opens.3)

        pub open_few : depths ≤ 8 → a + length r ≤ 16777216 → h₀ ≤ (9 - depths) * 16777216 → h' ≤ (9 - (depths - 1)) * 16777216
        open_few d u n = omega (arith, d, u, n, (good is).0, opens.0, opens.1, opens.2, opens.3, g.headers, g.few)

        inner_le : (canvas_of (inner i l p)).headers ≤ p - l
        inner_le =
            let u : Room (length (piece l p r)) (inner i l p) = walk_room o (classes_in cs) (fair_in o tabled) (length (piece l p r)) (pred depths) (paper.inside (a + i)) (a + l) (piece l p r) in
            omega (arith, u.tags, headers_le (inner i l p).tags (inner i l p).ended, length_piece l p r opens.3)

        -- it was looked through, with h'' headers read then
        module _ {h'' : ℕ} {x : Result (Option Span) Refused} (done : Looks o (a + l) (piece l p r) h' h'' x (canvas_of (walk_list o (classes_in cs) (depths - 1) (paper.inside (a + i)) (a + l) (piece l p r)))) where
          abbrev k : ℕ
          k = (canvas_of (inner i l p)).headers

          inner_looks : Looks o (a + l) (piece l p r) h' h'' x (canvas_of (inner i l p))
          inner_looks = rw (pred_is depths) done

          sees_as : {z : Result (Option Span) Refused} → x ≡ z → Sees o (a + l) (piece l p r) z (canvas_of (inner i l p)).seen
          sees_as e = subst (λ (z : Result (Option Span) Refused). Sees o (a + l) (piece l p r) z (canvas_of (inner i l p)).seen) e inner_looks.sees

          counts : h'' ≡ h + (1 + k)
          counts = omega (arith, inner_looks.headers, (good is).0)

          -- it is whole
          pub open_next : x ≡ Ok None → (i < p) × G p h''
          open_next e =
              let s : (canvas_of (inner i l p)).seen ≡ none = sees_as e in
              let n : g.passed + (1 + (k + (canvas_of (from p)).headers)) ≡ g.passed + 1 + k + (canvas_of (from p)).headers = omega arith in (
                omega (arith, opens.1, opens.2),
                record {
                  inside = opens.3;
                  passed = g.passed + 1 + k;
                  headers = omega (arith, g.headers, counts);
                  few = omega (arith, g.few, inner_le, opens.1, opens.2);
                  rest = g.rest ∙ ap (more g.passed) (opens.4 ∙ ap (λ (s : Seen). more 1 (then_seen s k (canvas_of (from p)))) s) ∙ ap (canvas (canvas_of (from p)).seen) n;
                },
              )

          -- what was found in it, or its fault
          inner_ends : (s : Seen) → (canvas_of (inner i l p)).seen ≡ s → ((d : Canvas) (n : ℕ) → then_seen s n d ≡ canvas s n) → canvas_of (from i) ≡ canvas s (1 + k)
          inner_ends s e f = opens.4 ∙ ap (λ (s : Seen). more 1 (then_seen s k (canvas_of (from p)))) e ∙ ap (more 1) (f (canvas_of (from p)) k)

          pub open_refused : {e : Refused} {z : Result (Option Span) Refused} → x ≡ Err e → z ≡ Err e → Looks o a r h₀ h'' z (canvas_of all)
          open_refused {e} q w = subst (λ (z : Result (Option Span) Refused). Looks o a r h₀ h'' z (canvas_of all)) (sym w) (looks_at g (inner_ends (refused (number_of e.why) e.place.0) (sees_as q) (λ d n. refl)) counts refl)

          open_some : {s : Span} → x ≡ Ok (Some s) → Looks o a r h₀ h'' (Ok (Some s)) (canvas_of all)
          open_some {s} q =
              let u = sees_as q in
              let v : body_at (a + l) (piece l p r) s.start.0 s.stop.0 ≡ body_at a r s.start.0 s.stop.0 = body_in_lem u.0 in
              looks_at g (inner_ends (found (read_body o (fixed composition_attributes) (body_at (a + l) (piece l p r) s.start.0 s.stop.0)).shown) u.1 (λ d n. refl)) counts (
                record {
                  after = omega (arith, u.0.after);
                  order = u.0.order;
                  inside = omega (arith, u.0.inside, length_piece l p r opens.3, opens.2, opens.3);
                  place = u.0.place;
                  good = ap (λ (x : List ℕ). (read_body o (fixed composition_attributes) x).ended) (sym v) ∙ u.0.good;
                },
                ap (λ (x : List ℕ). found (read_body o (fixed composition_attributes) x).shown) v,
              )
            where
              body_in_lem : Stands o (a + l) (piece l p r) s.start.0 s.stop.0 → body_at (a + l) (piece l p r) s.start.0 s.stop.0 ≡ body_at a r s.start.0 s.stop.0
              body_in_lem u =
                  let k : ℕ = s.start.0 - (a + l) in
                  let m : l + k ≡ s.start.0 - a = omega (arith, u.after) in
                  let n : s.stop.0 - s.start.0 ≤ p - l - k = omega (arith, u.after, u.inside, u.order, length_piece l p r opens.3) in
                  ap (take (s.stop.0 - s.start.0)) (drop_take k (p - l) (drop l r)) ∙ take-take (s.stop.0 - s.start.0) (p - l - k) (drop k (drop l r)) n
                  ∙ ap (take (s.stop.0 - s.start.0)) (drop-drop k l r ∙ ap (λ (v : ℕ). drop v r) m)

          pub open_found : (found : Option Span) → x ≡ Ok found → is_some found ≡ true → Looks o a r h₀ h'' (Ok found) (canvas_of all)
          open_found (Some s) q e = open_some q
          open_found None q e = clash cc

          pub open_whole : (found : Option Span) → x ≡ Ok found → is_some found ≡ false → (i < p) × G p h''
          open_whole (Some s) q e = clash cc
          open_whole None q e = open_next q
