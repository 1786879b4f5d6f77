-- Tag lists, read and written, without the bound on the number of tags: a list is its first tag, and the rest of the list.
use Prim.Native.Nat.{ℕ, zero, suc, pred, ◌+◌, ◌-◌, ◌/◌, ◌≤◌, ◌<◌}
use mathlib.Core.List.{List, [], ◌∷◌, ◌++◌}
use mathlib.Core.Path.{◌≡◌, refl, ap, ap₂, ◌∙◌}
use mathlib.Core.Bool.{Bool, true, false}
use lib.ListN.{length, take, drop, length-drop}
use lib.Seq.{length-take-le}
use lib.Dec.{leb, eqb}
use native.Mathlib.Omega.{arith}
use Rattle.format.specs.Tests.{pick}
use Rattle.format.specs.Bits.{Order}
use Rattle.format.specs.Reading.{Ending, At, Fault}
use Rattle.format.specs.Formats.{the}
use Rattle.format.specs.Bodies.{to_end, read_body}
use Rattle.format.specs.FileAndTags.{Class, opaque, end, container, known, is_end, Walk, broken, Head, head, no_head, state_of, read_head, Owner, inside, blame, TagInside, leaf, has_list, opened, within, after_tag, tag_then, one_tag, walk, walk_list}
use Rattle.format.specs.Possible.{Possible, this, cannot}
use Rattle.format.specs.WritingBodies.{write_body}
use Rattle.format.specs.WritingFiles.{Made, made, claims, fits_state, spell_head, fits_head, unpacked_as, body_of, joined, fronted, fill, out_tag, headed, out_one, unwalk, unwalk_list}
use Rattle.format.proofs.WalkLaws.{Fits, head_fits}
use Rattle.format.proofs.Absurd.{either_way}

-- ---- reading
module _ (o : Order) (class : ℕ → Class) where
  -- only rooms that are shorter are read
  module _ (R R' : ℕ → Owner → ℕ → List ℕ → Walk) (r : List ℕ)
      (alike : (left : ℕ) (c : Owner) (a : ℕ) (q : List ℕ) → length q < length r → R left c a q ≡ R' left c a q) where
    within_alike : (left : ℕ) (cl : Class) (a s : ℕ) (body : List ℕ) → length body < length r → within o (R left) cl a s body ≡ within o (R' left) cl a s body
    within_alike left opaque a s body l = refl
    within_alike left end a s body l = refl
    within_alike left (known y) a s body l = refl
    within_alike left (container y) a s body l =
        ap (λ (i : TagInside). pick (has_list y (to_end o body y).shown) i (leaf a (read_body o y body))) (go (to_end o body y).shown (to_end o body y).ended)
      where
        go : (xs : List ℕ) (z : Ending) → opened (R left) a s body xs z ≡ opened (R' left) a s body xs z
        go xs (Fault e) = refl
        go xs (At p) = ap (λ (w : Walk). record { values = xs; walk = w }) (alike left (inside a) (s + p / 8) (drop (p / 8) body) (rw length-drop (omega arith)))

    after_alike : (left : ℕ) (e : Bool) (c : Owner) (a : ℕ) (q : List ℕ) → length q < length r → after_tag e c a q (R left c) ≡ after_tag e c a q (R' left c)
    after_alike left true c a q l = refl
    after_alike left false c a q l = alike left c a q l

    one_alike : (left : ℕ) (c : Owner) (a : ℕ) (g : Head) → Fits class left r g → one_tag o class R left c a r g ≡ one_tag o class R' left c a r g
    one_alike left c a (no_head e) h = refl
    one_alike left c a (head code len size) h =
        ap₂ (λ (i : TagInside) (w : Walk). tag_then (8 - left) code a size len (state_of (class code) size len) i w)
        (within_alike (pred left) (class code) a (a + size) (take len (drop size r))
        (omega (arith, h.0, h.1, length-take-le len (drop size r) (rw length-drop (omega (arith, h.1))))))
        (after_alike left (is_end (class code)) c (a + size + len) (drop (size + len) r) (rw length-drop (omega (arith, h.0, h.1))))

  walk_bound : (k m left : ℕ) (c : Owner) (a : ℕ) (r : List ℕ) → length r ≤ k → length r ≤ m → walk o class k left c a r ≡ walk o class m left c a r
  unfolding walk
  walk_bound zero zero left c a r l h = refl
  walk_bound zero (suc m) left c a [] l h = refl
  walk_bound zero (suc m) left c a (x ∷ r) l h = absurd (omega arith)
  walk_bound (suc k) zero left c a [] l h = refl
  walk_bound (suc k) zero left c a (x ∷ r) l h = absurd (omega arith)
  walk_bound (suc k) (suc m) left c a [] l h = refl
  walk_bound (suc k) (suc m) left c a (x ∷ r) l h =
      one_alike (walk o class k) (walk o class m) (x ∷ r) (λ left c a q n. walk_bound k m left c a q (omega arith) (omega arith)) left c a (read_head class left (x ∷ r)) (head_fits class left (x ∷ r))

  -- room that is used up
  pub list_nil : (left : ℕ) (c : Owner) (a : ℕ) → walk_list o class left c a [] ≡ broken 7 (blame c a)
  unfolding walk
  list_nil left c a = refl

  -- the first tag, by its header, and the rest
  pub list_one : (left : ℕ) (c : Owner) (a : ℕ) (r : List ℕ) → 0 < length r → walk_list o class left c a r ≡ one_tag o class (walk_list o class) left c a r (read_head class left r)
  unfolding walk
  list_one left c a [] h = absurd (omega arith)
  list_one left c a (x ∷ r) h =
      one_alike (walk o class (length r)) (walk_list o class) (x ∷ r) (λ left c a q n. walk_bound (length r) (length q) left c a q (omega arith) (omega arith)) left c a
      (read_head class left (x ∷ r)) (head_fits class left (x ∷ r))

  -- by what the header gives: a reason; or the tag, what stands in it, and the rest
  pub list_fault : (left : ℕ) (c : Owner) (a : ℕ) (r : List ℕ) (e : ℕ) → 0 < length r → read_head class left r ≡ no_head e → walk_list o class left c a r ≡ broken e a
  list_fault left c a r e h q = list_one left c a r h ∙ ap (one_tag o class (walk_list o class) left c a r) q

  pub list_tag : (left : ℕ) (c : Owner) (a : ℕ) (r : List ℕ) (code len size : ℕ) → 0 < length r → read_head class left r ≡ head code len size
      → walk_list o class left c a r ≡ tag_then (8 - left) code a size len (state_of (class code) size len) (within o (walk_list o class (pred left)) (class code) a (a + size) (take len (drop size r)))
      (after_tag (is_end (class code)) c (a + size + len) (drop (size + len) r) (walk_list o class left c))
  list_tag left c a r code len size h q = list_one left c a r h ∙ ap (one_tag o class (walk_list o class) left c a r) q

-- ---- writing
abbrev pub Short : ℕ → Possible Made → Type 0
Short n (this (made xs b ys)) = length ys ≤ n
Short n cannot = Unit {0}

short_pick : (n : ℕ) (c : Bool) (x : Possible Made) → Short n x → Short n (pick c x cannot)
short_pick n true x h = h
short_pick n false x h = tt

short_wider : (n m : ℕ) (x : Possible Made) → n ≤ m → Short n x → Short m x
short_wider n m (this (made xs b ys)) l h = omega arith
short_wider n m cannot l h = tt

short_joined : (n : ℕ) (xs b : List ℕ) (x : Possible Made) → Short n x → Short n (joined xs b x)
short_joined n xs b (this (made xs' b' ys)) h = h
short_joined n xs b cannot h = tt

module _ (o : Order) (class : ℕ → Class) where
  -- what is left is no longer than what was given
  module _ (U : ℕ → List ℕ → Possible Made) (short : (left : ℕ) (ns : List ℕ) → Short (length ns) (U left ns)) where
    short_body : (left s n : ℕ) (vs ys : List ℕ) (b : Possible (List ℕ)) → Short (length ys) (body_of (s ∷ n ∷ vs) b ys)
    short_body left s n vs ys (this b) = omega arith
    short_body left s n vs ys cannot = tt

    short_fill : (left : ℕ) (cl : Class) (s n : ℕ) (vs ys : List ℕ) → Short (length ys) (fill o (U (pred left)) left cl s n vs ys)
    short_fill left opaque s n vs ys = short_body left s n vs ys (unpacked_as vs)
    short_fill left end s n vs ys = short_pick _ (eqb n 0) (this (made (s ∷ n ∷ vs) [] ys)) (omega arith)
    short_fill left (known y) s n vs ys = short_body left s n vs ys (write_body o y vs)
    short_fill left (container y) s n vs ys =
        either_way (Short (length ys)) (eqb left 0) tt (either_way (Short (length ys)) (has_list y vs) (go (write_body o y vs)) (short_body left s n vs ys (write_body o y vs)))
      where
        go : (b : Possible (List ℕ)) → Short (length ys) (fronted (s ∷ n ∷ vs) b (U (pred left) ys))
        go cannot = tt
        go (this b) = short_joined (length ys) (s ∷ n ∷ vs) b (U (pred left) ys) (short (pred left) ys)

    short_tag : (left : ℕ) (cl : Class) (ns : List ℕ) → Short (length ns) (out_tag o (U (pred left)) left cl ns)
    short_tag left cl [] = tt
    short_tag left cl (s ∷ []) = tt
    short_tag left cl (s ∷ n ∷ ns) = short_pick (suc (suc (length ns))) (leb n (length ns)) _ (short_pick (suc (suc (length ns))) (fits_state cl s) (fill o (U (pred left)) left cl s n (take n ns) (drop n ns))
        (short_wider (length (drop n ns)) (suc (suc (length ns))) (fill o (U (pred left)) left cl s n (take n ns) (drop n ns)) (rw length-drop (omega arith)) (short_fill left cl s n (take n ns) (drop n ns))))

    short_one : (left : ℕ) (ns : List ℕ) → Short (length ns) (out_one o class U left ns)
    short_one left [] = tt
    short_one left (code ∷ ns) = go (is_end (class code)) (out_tag o (U (pred left)) left (class code) ns) (short_tag left (class code) ns)
      where
        claim : Bool
        claim = claims (the ns)

        go : (e : Bool) (x : Possible Made) → Short (length ns) x → Short (suc (length ns)) (headed claim code e x (U left))
        go e cannot h = tt
        go true (this (made xs b ys)) h = short_pick (suc (length ns)) (fits_head claim code (length b)) (this (made (code ∷ xs) (spell_head claim code (length b) ++ b) ys)) (omega arith)
        go false (this (made xs b ys)) h = short_pick (suc (length ns)) (fits_head claim code (length b)) (joined (code ∷ xs) (spell_head claim code (length b) ++ b) (U left ys))
            (short_joined (suc (length ns)) (code ∷ xs) (spell_head claim code (length b) ++ b) (U left ys) (short_wider (length ys) (suc (length ns)) (U left ys) (omega arith) (short left ys)))

  short_walk : (k left : ℕ) (ns : List ℕ) → Short (length ns) (unwalk o class k left ns)
  unfolding unwalk
  short_walk zero left ns = tt
  short_walk (suc k) left ns = short_one (unwalk o class k) (λ left ns. short_walk k left ns) left ns

  -- only lists that are shorter are written
  module _ (U U' : ℕ → List ℕ → Possible Made) (short : (left : ℕ) (ns : List ℕ) → Short (length ns) (U left ns)) (m : ℕ)
      (alike : (left : ℕ) (ns : List ℕ) → length ns ≤ m → U left ns ≡ U' left ns) where
    fill_alike : (left : ℕ) (cl : Class) (s n : ℕ) (vs ys : List ℕ) → length ys ≤ m → fill o (U (pred left)) left cl s n vs ys ≡ fill o (U' (pred left)) left cl s n vs ys
    fill_alike left opaque s n vs ys l = refl
    fill_alike left end s n vs ys l = refl
    fill_alike left (known y) s n vs ys l = refl
    fill_alike left (container y) s n vs ys l =
        ap (λ (x : Possible Made). pick (eqb left 0) cannot (pick (has_list y vs) (fronted (s ∷ n ∷ vs) (write_body o y vs) x) (body_of (s ∷ n ∷ vs) (write_body o y vs) ys))) (alike (pred left) ys l)

    tag_alike : (left : ℕ) (cl : Class) (ns : List ℕ) → length ns ≤ m → out_tag o (U (pred left)) left cl ns ≡ out_tag o (U' (pred left)) left cl ns
    tag_alike left cl [] l = refl
    tag_alike left cl (s ∷ []) l = refl
    tag_alike left cl (s ∷ n ∷ ns) l = ap (λ (x : Possible Made). pick (leb n (length ns)) (pick (fits_state cl s) x cannot) cannot) (fill_alike left cl s n (take n ns) (drop n ns) (rw length-drop (omega arith)))

    out_alike : (left code : ℕ) (ns : List ℕ) → length ns ≤ m → out_one o class U left (code ∷ ns) ≡ out_one o class U' left (code ∷ ns)
    out_alike left code ns l =
        rest (is_end (class code)) (out_tag o (U (pred left)) left (class code) ns) (short_tag U short left (class code) ns)
        ∙ ap (λ (x : Possible Made). headed claim code (is_end (class code)) x (U' left)) (tag_alike left (class code) ns l)
      where
        claim : Bool
        claim = claims (the ns)

        rest : (e : Bool) (x : Possible Made) → Short (length ns) x → headed claim code e x (U left) ≡ headed claim code e x (U' left)
        rest e cannot h = refl
        rest true (this (made xs b ys)) h = refl
        rest false (this (made xs b ys)) h =
            ap (λ (x : Possible Made). pick (fits_head claim code (length b)) (joined (code ∷ xs) (spell_head claim code (length b) ++ b) x) cannot) (alike left ys (omega arith))

  unwalk_bound : (k m left : ℕ) (ns : List ℕ) → length ns ≤ k → length ns ≤ m → unwalk o class k left ns ≡ unwalk o class m left ns
  unfolding unwalk
  unwalk_bound zero zero left ns l h = refl
  unwalk_bound zero (suc m) left [] l h = refl
  unwalk_bound zero (suc m) left (x ∷ ns) l h = absurd (omega arith)
  unwalk_bound (suc k) zero left [] l h = refl
  unwalk_bound (suc k) zero left (x ∷ ns) l h = absurd (omega arith)
  unwalk_bound (suc k) (suc m) left [] l h = refl
  unwalk_bound (suc k) (suc m) left (code ∷ ns) l h =
      out_alike (unwalk o class k) (unwalk o class m) (λ left ns. short_walk k left ns) (length ns) (λ left ys n. unwalk_bound k m left ys (omega arith) (omega arith)) left code ns (omega arith)

  -- no list is written from no numbers
  pub unlist_nil : (left : ℕ) → unwalk_list o class left [] ≡ cannot
  unfolding unwalk
  unlist_nil left = refl

  -- the first tag, and the rest
  pub unlist_one : (left code : ℕ) (ns : List ℕ) → unwalk_list o class left (code ∷ ns) ≡ out_one o class (unwalk_list o class) left (code ∷ ns)
  unfolding unwalk
  unlist_one left code ns =
      out_alike (unwalk o class (length ns)) (unwalk_list o class) (λ left' ms. short_walk (length ns) left' ms) (length ns)
      (λ left ys n. unwalk_bound (length ns) (length ys) left ys (omega arith) (omega arith)) left code ns (omega arith)
