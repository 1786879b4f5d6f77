-- The round trip of attribute blocks.
use Prim.Native.Nat.{ℕ, ◌+◌, ◌*◌, ◌≤◌}
use mathlib.Core.List.{List, [], ◌∷◌, ◌++◌, append_assoc, append-nil}
use mathlib.Core.Path.{◌≡◌, refl, ap, ◌∙◌}
use mathlib.Core.Bool.{Bool, true, false}
use lib.ListN.{length, length-append}
use native.Mathlib.Nat.{add_assoc}
use native.Mathlib.Omega.{arith}
use Rattle.format.specs.Tests.{pick}
use Rattle.format.specs.Bits.{Order}
use Rattle.format.specs.Reading.{Ending, At, Fault, Reading}
use Rattle.format.specs.Formats.{Item, Format, nothing, item, only, ◌▹◌}
use Rattle.format.specs.Items.{read_item, read_flag, Num, num, bad, show_num, run}
use Rattle.format.specs.Bodies.{Kind, Value, Fixed, BitFlag, Simple, Discrete, MultiDimension, Spatial, Custom, Attribute, flags_of, content, all_flags, rows, hand_on, read_block}
use Rattle.format.specs.Possible.{Possible, this, cannot}
use Rattle.format.specs.WritingItems.{Written, wrote, write_item}
use Rattle.format.specs.WritingFormats.{passing, adjoin, onward, unrun}
use Rattle.format.specs.WritingBodies.{left_of, flags_in, used_up, write_block}
use Rattle.format.proofs.BitLaws.{Has}
use Rattle.format.proofs.ItemLaws.{round_trip}
use Rattle.format.proofs.Trip.{Trip, There, Back, ThereIf, BackIf, has_le, has_append, has_split}
use Rattle.format.proofs.Absurd.{clash}

-- ---- the place changes only the bits
abbrev Same : Possible Written → Possible Written → Type 0
Same (this (wrote xs bs ys)) (this (wrote xs' bs' ys')) = (xs ≡ xs') × (ys ≡ ys')
Same (this (wrote xs bs ys)) cannot = ⊥
Same cannot (this (wrote xs bs ys)) = ⊥
Same cannot cannot = Unit {0}

same_refl : (w : Possible Written) → Same w w
same_refl (this (wrote xs bs ys)) = (refl, refl)
same_refl cannot = tt

same_left : (w w' : Possible Written) → Same w w' → left_of w ≡ left_of w'
same_left (this (wrote xs bs ys)) (this (wrote xs' bs' ys')) h = h.1
same_left (this (wrote xs bs ys)) cannot h = absurd h
same_left cannot (this (wrote xs bs ys)) h = absurd h
same_left cannot cannot h = refl

same_adjoin : (xs : List ℕ) (bs bs' : List Bool) (w w' : Possible Written) → Same w w' → Same (adjoin xs bs w) (adjoin xs bs' w')
same_adjoin xs bs bs' (this (wrote xs₁ bs₁ ys₁)) (this (wrote xs₂ bs₂ ys₂)) h = (ap (λ (l : List ℕ). xs ++ l) h.0, h.1)
same_adjoin xs bs bs' (this (wrote xs₁ bs₁ ys₁)) cannot h = absurd h
same_adjoin xs bs bs' cannot (this (wrote xs₂ bs₂ ys₂)) h = absurd h
same_adjoin xs bs bs' cannot cannot h = tt

same_onward : (k : List ℕ → List ℕ → ℕ → Possible Written) → ((xs ys : List ℕ) (p q : ℕ) → Same (k xs ys p) (k xs ys q))
    → (w w' : Possible Written) (p q : ℕ) → Same w w' → Same (onward w p k) (onward w' q k)
same_onward k s (this (wrote xs bs ys)) (this (wrote xs' bs' ys')) p q h =
    rw (h.0, h.1) (same_adjoin xs' bs bs' (k xs' ys' (p + length bs)) (k xs' ys' (q + length bs')) (s xs' ys' _ _))
same_onward k s (this (wrote xs bs ys)) cannot p q h = absurd h
same_onward k s cannot (this (wrote xs bs ys)) p q h = absurd h
same_onward k s cannot cannot p q h = tt

same_passing : (t : List ℕ → Bool) (w w' : Possible Written) → Same w w' → Same (passing t w) (passing t w')
same_passing t (this (wrote xs bs ys)) (this (wrote xs' bs' ys')) h = rw h.0 (go (t xs'))
  where
    go : (c : Bool) → Same (pick c (this (wrote xs' bs ys)) cannot) (pick c (this (wrote xs' bs' ys')) cannot)
    go true = (refl, h.1)
    go false = tt
same_passing t (this (wrote xs bs ys)) cannot h = absurd h
same_passing t cannot (this (wrote xs bs ys)) h = absurd h
same_passing t cannot cannot h = tt

same_item : (o : Order) (i : Item) (ns : List ℕ) (p q : ℕ) → Same (write_item o i ns p) (write_item o i ns q)
unfolding write_item
same_item o Item.align ns p q = (refl, refl)
same_item o (Item.UB n) ns p q = same_refl (write_item o (Item.UB n) ns p)
same_item o (Item.SB n) ns p q = same_refl (write_item o (Item.SB n) ns p)
same_item o Item.width ns p q = same_refl (write_item o Item.width ns p)
same_item o Item.dash_length ns p q = same_refl (write_item o Item.dash_length ns p)
same_item o Item.U32 ns p q = same_refl (write_item o Item.U32 ns p)
same_item o Item.U64 ns p q = same_refl (write_item o Item.U64 ns p)
same_item o Item.I32 ns p q = same_refl (write_item o Item.I32 ns p)
same_item o (Item.flag n) ns p q = same_refl (write_item o (Item.flag n) ns p)
same_item o (Item.echo n) ns p q = same_refl (write_item o (Item.echo n) ns p)
same_item o (Item.Le n) ns p q = same_refl (write_item o (Item.Le n) ns p)
same_item o Item.string ns p q = same_refl (write_item o Item.string ns p)

pub same_place : (o : Order) (f : Format) (ns : List ℕ) (p q : ℕ) → Same (unrun o f ns p) (unrun o f ns q)
unfolding unrun
same_place o nothing ns p q = (refl, refl)
same_place o (item i) ns p q = same_item o i ns p q
same_place o (only t e f) ns p q = same_passing t (unrun o f ns p) (unrun o f ns q) (same_place o f ns p q)
same_place o (f ▹ g) ns p q =
    same_onward (λ xs ys r. unrun o (g xs) ys r) (λ xs ys p q. same_place o (g xs) ys p q) (unrun o f ns p) (unrun o f ns q) p q (same_place o f ns p q)

left_place : (o : Order) (f : Format) (ns : List ℕ) (p q : ℕ) → left_of (unrun o f ns p) ≡ left_of (unrun o f ns q)
left_place o f ns p q = same_left (unrun o f ns p) (unrun o f ns q) (same_place o f ns p q)

-- ---- what is read first and not shown; the writer finds it by a guess
module _ (o : Order) (R : List ℕ → ℕ → Reading) (W : List ℕ → ℕ → Possible Written)
    (R' : List ℕ → List ℕ → ℕ → Reading) (W' : List ℕ → List ℕ → ℕ → Possible Written) (guess : List ℕ → List ℕ)
    (t : Trip o R W) (t' : (xs : List ℕ) → Trip o (R' xs) (W' xs)) where
  abbrev first_r : List ℕ → ℕ → Reading
  first_r b p = hand_on (R b p).shown (R b p).ended (λ xs q. R' xs b q)

  abbrev first_w : List ℕ → ℕ → Possible Written
  first_w ns p = used_up (W (guess ns) p) (λ xs bs. adjoin [] bs (W' xs ns (p + length bs)))

  first_back : (ns : List ℕ) (p : ℕ) → BackIf o ns p first_r (first_w ns p)
  first_back ns p = go (W (guess ns) p) (t.back (guess ns) p)
    where
      join : (xs : List ℕ) (bs : List Bool) (xs' : List ℕ) (bs' : List Bool) (ys' : List ℕ) → Back o (guess ns) xs bs [] p R → Back o ns xs' bs' ys' (p + length bs) (R' xs)
          → Back o ns xs' (bs ++ bs') ys' p first_r
      join xs bs xs' bs' ys' u v = record {
        parts = v.parts;
        reads = λ b h.
            let s : Has o b p bs × Has o b (p + length bs) bs' = has_split o b p bs bs' h in
            rw (u.reads b s.0, v.reads b s.1, length-append, add_assoc);
      }

      more : (xs : List ℕ) (bs : List Bool) → Back o (guess ns) xs bs [] p R → (w : Possible Written) → BackIf o ns (p + length bs) (R' xs) w → BackIf o ns p first_r (adjoin [] bs w)
      more xs bs u cannot v = tt
      more xs bs u (this (wrote xs' bs' ys')) v = join xs bs xs' bs' ys' u v

      go : (w : Possible Written) → BackIf o (guess ns) p R w → BackIf o ns p first_r (used_up w (λ xs bs. adjoin [] bs (W' xs ns (p + length bs))))
      go cannot u = tt
      go (this (wrote xs bs (y ∷ ys))) u = tt
      go (this (wrote xs bs [])) u = more xs bs u (W' xs ns (p + length bs)) ((t' xs).back ns (p + length bs))

  module _ (right : (b : List ℕ) (p m q : ℕ) → p ≤ 8 * length b → (R b p).ended ≡ At m → (R' (R b p).shown b m).ended ≡ At q
      → (ys : List ℕ) → guess ((R' (R b p).shown b m).shown ++ ys) ≡ (R b p).shown) where
    first_there : (b : List ℕ) (p : ℕ) → p ≤ 8 * length b → ThereIf o b p (first_r b p).shown first_w (first_r b p).ended
    first_there b p l = go (R b p).ended refl
      where
        join : (m q : ℕ) → (R b p).ended ≡ At m → (R' (R b p).shown b m).ended ≡ At q → There o b p m (R b p).shown W → There o b m q (R' (R b p).shown b m).shown (W' (R b p).shown)
            → There o b p q (R' (R b p).shown b m).shown first_w
        join m q e e' u v = record {
          bits = u.bits ++ v.bits;
          has = has_append o b p u.bits v.bits u.has (rw u.ends at v.has);
          ends = omega (arith, u.ends, v.ends, length-append u.bits v.bits);
          again = λ ys. rw (right b p m q l e e' ys, rw append-nil at (u.again []), ← u.ends, v.again);
        }

        more : (m : ℕ) → (R b p).ended ≡ At m → There o b p m (R b p).shown W → (e : Ending) → (R' (R b p).shown b m).ended ≡ e
            → ThereIf o b p (R' (R b p).shown b m).shown first_w e
        more m e₁ u (Fault e) eq = tt
        more m e₁ u (At q) eq = join m q e₁ eq u (rw eq at ((t' (R b p).shown).there b m (omega (arith, u.ends, has_le o b p u.bits u.has))))

        go : (e : Ending) → (R b p).ended ≡ e → ThereIf o b p (first_r b p).shown first_w (first_r b p).ended
        go (Fault e) eq = rw eq tt
        go (At m) eq = rw eq (more m eq (rw eq at (t.there b p l)) (R' (R b p).shown b m).ended refl)

    pub trip_first : Trip o first_r first_w
    trip_first = record { there = first_there; back = first_back }

-- ---- attribute blocks
never : (A : Type 0) (e q : ℕ) → Fault e ≡ At q → A
never A e q h = clash cc

module _ (o : Order) where
  -- the flags that the table shows are those that were read
  found : (attrs : List Attribute) (φs : List ℕ) → length φs ≡ length attrs → (b : List ℕ) (m q : ℕ) → m ≤ 8 * length b
      → (run o b (rows attrs φs) m).ended ≡ At q → (ys : List ℕ) → flags_in o attrs ((run o b (rows attrs φs) m).shown ++ ys) ≡ φs
  unfolding run rows flags_in read_item
  found [] [] e b m q l h ys = refl
  found [] (φ ∷ φs) e b m q l h ys = absurd (omega arith)
  found (a ∷ attrs) [] e b m q l h ys = absurd (omega arith)
  found (a ∷ attrs) (φ ∷ φs) e b m q l h ys = go (run o b (content a φ) m).ended refl (λ m' l' h'. found attrs φs (omega arith) b m' q l' h' ys)
    where
      go : (z : Ending) → (run o b (content a φ) m).ended ≡ z
          → ((m' : ℕ) → m' ≤ 8 * length b → (run o b (rows attrs φs) m').ended ≡ At q → flags_in o attrs ((run o b (rows attrs φs) m').shown ++ ys) ≡ φs)
          → flags_in o (a ∷ attrs) ((run o b (rows (a ∷ attrs) (φ ∷ φs)) m).shown ++ ys) ≡ φ ∷ φs
      go (Fault z) eq ih = never _ z q (rw eq at h)
      go (At m') eq ih =
          let u : There o b m m' (run o b (content a φ) m).shown (λ ns p. unrun o (content a φ) ns p) = rw eq at ((round_trip o (content a φ)).there b m l) in
          let r : List ℕ = (run o b (rows attrs φs) m').shown ++ ys in
          let w : left_of (unrun o (content a φ) ((run o b (content a φ) m).shown ++ r) 0) ≡ r =
          left_place o (content a φ) ((run o b (content a φ) m).shown ++ r) 0 m ∙ ap left_of (u.again r) in
          rw (eq, append_assoc, w) (ap (λ (k : List ℕ). φ ∷ k) (ih m' (omega (arith, u.ends, has_le o b m u.bits u.has)) (rw eq at h)))

  -- flags show one number
  one : (k : Kind) (b : List ℕ) (p q : ℕ) → (read_item o b (flags_of k) p).ended ≡ At q → length (read_item o b (flags_of k) p).shown ≡ 1
  unfolding read_item
  one k b p q = by k
    where
      go : (r : Num) → (show_num r).ended ≡ At q → length (show_num r).shown ≡ 1
      go (num v p) h = refl
      go (bad e) h = never _ e q h

      by : (k : Kind) → (read_item o b (flags_of k) p).ended ≡ At q → length (read_item o b (flags_of k) p).shown ≡ 1
      by Value h = go (read_flag o b p 1) h
      by Fixed h = refl
      by BitFlag h = go (read_flag o b p 1) h
      by Simple h = go (read_flag o b p 2) h
      by Discrete h = go (read_flag o b p 2) h
      by MultiDimension h = go (read_flag o b p 2) h
      by Spatial h = go (read_flag o b p 3) h
      by Custom h = go (read_flag o b p 1) h

  pub as_many : (attrs : List Attribute) (b : List ℕ) (p q : ℕ) → (run o b (all_flags attrs) p).ended ≡ At q → length (run o b (all_flags attrs) p).shown ≡ length attrs
  unfolding run all_flags
  as_many [] b p q h = refl
  as_many (a ∷ attrs) b p q h = go (read_item o b (flags_of a.kind) p).ended refl (λ m' h'. as_many attrs b m' q h')
    where
      go : (z : Ending) → (read_item o b (flags_of a.kind) p).ended ≡ z
          → ((m' : ℕ) → (run o b (all_flags attrs) m').ended ≡ At q → length (run o b (all_flags attrs) m').shown ≡ length attrs)
          → length (run o b (all_flags (a ∷ attrs)) p).shown ≡ length (a ∷ attrs)
      go (Fault z) eq ih = never _ z q (rw eq at h)
      go (At m') eq ih = rw (eq, length-append) (omega (arith, one a.kind b p m' eq, ih m' (rw eq at h)))

  pub trip_block : (attrs : List Attribute) → Trip o (λ b p. read_block o b attrs p) (λ ns p. write_block o attrs ns p)
  unfolding read_block write_block
  trip_block attrs =
      trip_first o (λ b p. run o b (all_flags attrs) p) (λ ns p. unrun o (all_flags attrs) ns p) (λ φs b p. run o b (rows attrs φs) p) (λ φs ns p. unrun o (rows attrs φs) ns p)
      (λ ns. flags_in o attrs ns) (round_trip o (all_flags attrs)) (λ φs. round_trip o (rows attrs φs)) right
    where
      right : (b : List ℕ) (p m q : ℕ) → p ≤ 8 * length b → (run o b (all_flags attrs) p).ended ≡ At m → (run o b (rows attrs (run o b (all_flags attrs) p).shown) m).ended ≡ At q
          → (ys : List ℕ) → flags_in o attrs ((run o b (rows attrs (run o b (all_flags attrs) p).shown) m).shown ++ ys) ≡ (run o b (all_flags attrs) p).shown
      right b p m q l e e' ys =
          let u : There o b p m (run o b (all_flags attrs) p).shown (λ ns p. unrun o (all_flags attrs) ns p) = rw e at ((round_trip o (all_flags attrs)).there b p l) in
          found attrs (run o b (all_flags attrs) p).shown (as_many attrs b p m e) b m q (omega (arith, u.ends, has_le o b p u.bits u.has)) e' ys
