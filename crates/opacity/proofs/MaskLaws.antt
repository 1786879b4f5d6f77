-- A mask's body that was judged: its flags, the rows before the opacity, and the opacity's row.
use Prim.Native.Nat.{ℕ, zero, suc, ◌+◌, ◌*◌, ◌≤◌, ◌<◌}
use mathlib.Core.List.{List, [], ◌∷◌, ◌++◌, append-nil}
use mathlib.Core.Bool.{Bool, true, false}
use mathlib.Core.Path.{◌≡◌, refl, ap, sym, subst, ◌∙◌}
use native.Mathlib.Omega.{arith}
use lib.ListN.{length, get_or, take, drop}
use lib.Seq.{drop-cons, drop-append_seam}
use lib.Dec.{eqb}
use borrow.Author.Tests.{eq-eqb, ne_eqb}
use Rattle.format.specs.Tests.{pick}
use Rattle.format.specs.Bits.{Order, ub}
use Rattle.format.specs.Reading.{Ending, At, Fault, Reading, shows, stop, follow}
use Rattle.format.specs.Formats.{Item, Format, nothing, item, ◌▸◌, the}
use Rattle.format.specs.Items.{run, read_item, read_align, skipped, byte}
use Rattle.format.specs.Bodies.{Attribute, mask_block, all_flags, rows, content, hand_on, read_block, read_part, attributes, to_end, used_up, read_body}
use Rattle.format.proofs.Absurd.{clash}
use Rattle.format.proofs.BlockLaws.{as_many}
use Rattle.format.proofs.WalkLaws.{run_le}
use Rattle.table.proofs.EngineLaws.{Alike, alike_assoc, alike_after}
use Rattle.opacity.specs.Opacity.{over1, earlier, from_opacity, keyframed_at, shown_at}
use Rattle.opacity.specs.Inner.{place_in, is_at, IsAt, Judged, opacity_row, Finds, Framed, mask_frames}
use Rattle.opacity.proofs.ReadLaws.{ended_at, Parts, parts, ub_one}

-- ---- a block that was judged: its flags, and then its rows
pub record Block (o : Order) (b : List ℕ) (attrs : List Attribute) : Type 0 where
  pub φs : List ℕ
  pub p : ℕ
  pub q : ℕ
  pub flags : run o b (all_flags attrs) 0 ≡ shows φs p
  pub rest : (run o b (rows attrs φs) p).ended ≡ At q
  pub shown : (read_body o (attributes attrs) b).shown ≡ (run o b (rows attrs φs) p).shown

used : (n : ℕ) (xs : List ℕ) (z : Ending) {q : ℕ} → (used_up n xs z).ended ≡ At q → ((used_up n xs z).shown ≡ xs) × (z ≡ At q)
used n xs (At p) {q} h = (refl, go (eqb p n) h)
  where
    go : (t : Bool) → pick t (At p) (Fault 18) ≡ At q → At p ≡ At q
    go true h = h
    go false h = clash cc
used n xs (Fault e) h = clash cc

-- what stands before the skip at a body's end
before_end : (o : Order) (b xs : List ℕ) (z : Ending) {q : ℕ} → (follow xs z (λ ys p. read_align o b p)).ended ≡ At q
    → (m : ℕ) × (z ≡ At m) × ((follow xs z (λ ys p. read_align o b p)).shown ≡ xs)
before_end o b xs (At m) h = (m, refl, ap (λ (l : List ℕ). xs ++ l) (none (eqb (ub o b m (skipped m)) 0)) ∙ append-nil xs)
  where
    none : (t : Bool) → (pick t (shows [] (m + skipped m)) (stop 15)).shown ≡ []
    none true = refl
    none false = refl
before_end o b xs (Fault e) h = clash cc

handed : (o : Order) (b : List ℕ) (attrs : List Attribute) (φs : List ℕ) (z : Ending) {q : ℕ} → (hand_on φs z (λ φs q. run o b (rows attrs φs) q)).ended ≡ At q
    → (p : ℕ) × (z ≡ At p)
handed o b attrs φs (At p) h = (p, refl)
handed o b attrs φs (Fault e) h = clash cc

block_is : (o : Order) (b : List ℕ) (attrs : List Attribute) {φs : List ℕ} {p : ℕ} → run o b (all_flags attrs) 0 ≡ shows φs p → read_block o b attrs 0 ≡ run o b (rows attrs φs) p
unfolding read_block
block_is o b attrs e = ap (λ (r : Reading). hand_on r.shown r.ended (λ φs q. run o b (rows attrs φs) q)) e

pub block : (o : Order) (b : List ℕ) (attrs : List Attribute) {q : ℕ} → (read_body o (attributes attrs) b).ended ≡ At q → Block o b attrs
unfolding read_body read_part read_block
block o b attrs {q} h =
    let U : ((used_up (8 * length b) (to_end o b (attributes attrs)).shown (to_end o b (attributes attrs)).ended).shown ≡ (to_end o b (attributes attrs)).shown) × ((to_end o b (attributes attrs)).ended ≡ At q) =
    used (8 * length b) (to_end o b (attributes attrs)).shown (to_end o b (attributes attrs)).ended h in
    let E : (m : ℕ) × ((read_block o b attrs 0).ended ≡ At m) × ((to_end o b (attributes attrs)).shown ≡ (read_block o b attrs 0).shown) =
    before_end o b (read_block o b attrs 0).shown (read_block o b attrs 0).ended U.1 in
    let W : (p : ℕ) × ((run o b (all_flags attrs) 0).ended ≡ At p) = handed o b attrs (run o b (all_flags attrs) 0).shown (run o b (all_flags attrs) 0).ended E.1 in
    let F : run o b (all_flags attrs) 0 ≡ shows (run o b (all_flags attrs) 0).shown W.0 = λ i. record { shown = (run o b (all_flags attrs) 0).shown; ended = W.1 i } in
    let R : read_block o b attrs 0 ≡ run o b (rows attrs (run o b (all_flags attrs) 0).shown) W.0 = block_is o b attrs F in
    record {
      φs = (run o b (all_flags attrs) 0).shown;
      p = W.0;
      q = E.0;
      flags = F;
      rest = ap (λ (r : Reading). r.ended) (sym R) ∙ E.1;
      shown = U.0 ∙ E.2 ∙ ap (λ (r : Reading). r.shown) R;
    }

-- ---- rows: some of them, and then the others
rows_none : (ys : List Attribute) → rows ys [] ≡ nothing
unfolding rows
rows_none [] = refl
rows_none (y ∷ ys) = refl

nothing_then : (o : Order) (b : List ℕ) (f : Format) (p : ℕ) → run o b f p ≡ run o b (nothing ▸ f) p
unfolding run
nothing_then o b f p = refl

pub rows_append : (xs ys : List Attribute) (φs : List ℕ) → Alike (rows (xs ++ ys) φs) (rows xs φs ▸ rows ys (drop (length xs) φs))
unfolding rows
rows_append [] ys φs o b p = nothing_then o b (rows ys φs) p
rows_append (x ∷ xs) ys [] o b p = rw (rows_none ys) (nothing_then o b nothing p)
rows_append (x ∷ xs) ys (φ ∷ φs) o b p =
    alike_after (item (Item.echo φ)) _ _ (alike_after (content x φ) _ _ (rows_append xs ys φs)) o b p
    ∙ alike_after (item (Item.echo φ)) _ _ (λ o b p. sym (alike_assoc (content x φ) (rows xs φs) (rows ys (drop (length xs) φs)) o b p)) o b p
    ∙ sym (alike_assoc (item (Item.echo φ)) (content x φ ▸ rows xs φs) (rows ys (drop (length xs) φs)) o b p)

-- rows take as many flags as they are
pub rows_take : (xs : List Attribute) (φs : List ℕ) → rows xs (take (length xs) φs) ≡ rows xs φs
unfolding rows
rows_take [] φs = refl
rows_take (x ∷ xs) [] = refl
rows_take (x ∷ xs) (φ ∷ φs) = ap (λ (f : Format). item (Item.echo φ) ▸ content x φ ▸ f) (rows_take xs φs)

-- a flag number that is shown, and what follows
echo_then : (o : Order) (b : List ℕ) (φ : ℕ) (f : Format) (p : ℕ) → run o b (item (Item.echo φ) ▸ f) p ≡ record { shown = φ ∷ (run o b f p).shown; ended = (run o b f p).ended }
unfolding run read_item
echo_then o b φ f p = refl

-- ---- the first four rows of a mask, and the opacity's
abbrev pub four : List Attribute
four = take 4 mask_block

-- the opacity's numbers are ys, if those of the first four rows are xs, and the body's are both
from_these : (o : Order) (b φs : List ℕ) (p : ℕ) (xs ys : List ℕ) → run o b (all_flags mask_block) 0 ≡ shows φs p → (run o b (rows four φs) p).shown ≡ xs
    → (read_body o (attributes mask_block) b).shown ≡ xs ++ ys → from_opacity o b ≡ ys
unfolding from_opacity earlier
from_these o b φs p xs ys f e s =
    let a : earlier o b ≡ xs = ap (λ (r : Reading). (hand_on r.shown r.ended (λ φs p. run o b (rows (take 4 mask_block) φs) p)).shown) f ∙ e in
    ap (λ (l : List ℕ). drop (length l) (read_body o (attributes mask_block) b).shown) a ∙ ap (λ (l : List ℕ). drop (length xs) l) s ∙ drop-append_seam xs ys

module _ (o : Order) (b : List ℕ) (J : Judged o b) where
  abbrev B : Block o b mask_block
  B = block o b mask_block (ended_at (read_body o (attributes mask_block) b).ended J.reads).1

  -- the flags as they were read: φs, and the place after them p
  module _ {φs : List ℕ} {p : ℕ} (F : run o b (all_flags mask_block) 0 ≡ shows φs p) where
    same : shows B.φs B.p ≡ shows φs p
    same = sym B.flags ∙ F

    pub flags_in_lem : p ≤ 8 * length b
    flags_in_lem = (run_le o b (all_flags mask_block) 0 p (omega arith) (ap (λ (r : Reading). r.ended) F)).1

    five : 4 < length φs
    five = omega (arith, ap (λ (r : Reading). length r.shown) (sym F) ∙ as_many o mask_block b 0 p (ap (λ (r : Reading). r.ended) F))

    abbrev tail : Format
    tail = rows (drop 4 mask_block) (drop 4 φs)

    rest_read : (run o b (rows mask_block φs) p).ended ≡ At B.q
    rest_read = ap (λ (r : Reading). (run o b (rows mask_block r.shown) (place_in r.ended)).ended) (sym same) ∙ B.rest

    P : Parts o b (rows four φs) (λ xs. tail) p B.q
    P = parts o b (rows four φs) (λ xs. tail) p B.q (ap (λ (r : Reading). r.ended) (sym (rows_append four (drop 4 mask_block) φs o b p)) ∙ rest_read)

    from_is : from_opacity o b ≡ (run o b tail P.mid).shown
    from_is = from_these o b φs p P.xs (run o b tail P.mid).shown F (ap (λ (r : Reading). r.shown) P.first)
        (B.shown ∙ ap (λ (r : Reading). (run o b (rows mask_block r.shown) (place_in r.ended)).shown) same
        ∙ ap (λ (r : Reading). r.shown) (rows_append four (drop 4 mask_block) φs o b p) ∙ P.shown)

    -- the opacity's row: its flag number, its content, and what is after it
    abbrev φ : ℕ
    φ = get_or φs 4 0

    abbrev more : Format
    more = rows (drop 5 mask_block) (drop 5 φs)

    tail_is : tail ≡ item (Item.echo φ) ▸ content opacity_row φ ▸ more
    unfolding rows
    tail_is = rw (drop-cons φs 4 0 five)

    Q : Parts o b (content opacity_row φ) (λ xs. more) P.mid B.q
    Q = parts o b (content opacity_row φ) (λ xs. more) P.mid B.q (echoed ∙ ap (λ (f : Format). (run o b f P.mid).ended) (sym tail_is) ∙ P.rest)
      where
        echoed : (run o b (content opacity_row φ ▸ more) P.mid).ended ≡ (run o b (item (Item.echo φ) ▸ content opacity_row φ ▸ more) P.mid).ended
        echoed = sym (ap (λ (r : Reading). r.ended) (echo_then o b φ (content opacity_row φ ▸ more) P.mid))

    pub four_there : IsAt (run o b (rows four φs) p).ended
    four_there = ap (λ (r : Reading). is_at r.ended) P.first

    -- the place m where the first four rows ended
    pub finds : {m : ℕ} → m ≡ place_in (run o b (rows four φs) p).ended → Finds o b φ m
    finds {m} e =
        let z : m ≡ P.mid = e ∙ ap (λ (r : Reading). place_in r.ended) P.first in
        let l : (p ≤ P.mid) × (P.mid ≤ 8 * length b) = run_le o b (rows four φs) p P.mid flags_in_lem (ap (λ (r : Reading). r.ended) P.first) in
        let c : (run o b (content opacity_row φ) P.mid).ended ≡ At Q.mid = ap (λ (r : Reading). r.ended) Q.first in
        let s : from_opacity o b ≡ (φ ∷ (run o b (content opacity_row φ) P.mid).shown) ++ (run o b more Q.mid).shown =
        from_is ∙ ap (λ (f : Format). (run o b f P.mid).shown) tail_is ∙ ap (λ (r : Reading). r.shown) (echo_then o b φ (content opacity_row φ ▸ more) P.mid)
        ∙ ap (λ (l : List ℕ). φ ∷ l) (Q.shown ∙ ap (λ (r : Reading). r.shown ++ (run o b more Q.mid).shown) (sym Q.first)) in
        rw z (record { few = J.few; place = l.1; reads = ap is_at c; after = (run o b more Q.mid).shown; shown = s })

-- a byte that was read is one number
byte_number : (o : Order) (b : List ℕ) (p : ℕ) → IsAt (run o b byte p).ended → (v : ℕ) × ((run o b byte p).shown ≡ v ∷ [])
byte_number o b p h =
    let e : (q : ℕ) × ((run o b byte p).ended ≡ At q) = ended_at (run o b byte p).ended h in
    let w : (v : ℕ) × (run o b byte p ≡ shows (v ∷ []) e.0) = ub_one o b 8 p e.1 in
    (w.0, ap (λ (r : Reading). r.shown) w.1)

-- ---- for code, by the flag number
module _ (o : Order) (b : List ℕ) (t : ℕ) {φ p : ℕ} (F : Finds o b φ p) where
  first_is : get_or (from_opacity o b) 0 0 ≡ φ
  first_is = ap (λ (l : List ℕ). get_or l 0 0) F.shown

  pub none_shown : φ ≡ 0 → over1 255 ≡ shown_at (from_opacity o b) t
  unfolding shown_at
  none_shown e = rw (first_is, eq-eqb φ 0 e)

  byte_content : (φ ≡ 0 → ⊥) → φ ≡ 1 → content opacity_row φ ≡ byte
  byte_content n e = rw (ne_eqb φ 0 n, eq-eqb φ 1 e)

  pub one_there : (φ ≡ 0 → ⊥) → φ ≡ 1 → IsAt (run o b byte p).ended
  one_there n e = subst (λ (f : Format). IsAt (run o b f p).ended) (byte_content n e) F.reads

  pub one_shown : {v : ℕ} → (φ ≡ 0 → ⊥) → φ ≡ 1 → v ≡ the (run o b byte p).shown → over1 v ≡ shown_at (from_opacity o b) t
  unfolding shown_at
  one_shown {v} n e d =
      let c : content opacity_row φ ≡ byte = byte_content n e in
      let s : from_opacity o b ≡ (φ ∷ (run o b byte p).shown) ++ F.after = F.shown ∙ ap (λ (f : Format). (φ ∷ (run o b f p).shown) ++ F.after) c in
      rw (first_is, ne_eqb φ 0 n, eq-eqb φ 1 e) (ap over1 (d ∙ sym (ap (λ (l : List ℕ). get_or l 1 0) s ∙ second c)))
    where
      byte_shown : content opacity_row φ ≡ byte → (v : ℕ) × ((run o b byte p).shown ≡ v ∷ [])
      byte_shown c = byte_number o b p (subst (λ (f : Format). IsAt (run o b f p).ended) c F.reads)

      second : content opacity_row φ ≡ byte → get_or ((φ ∷ (run o b byte p).shown) ++ F.after) 1 0 ≡ the (run o b byte p).shown
      second c = rw (byte_shown c).1

  pub frames_shown : (φ ≡ 0 → ⊥) → (φ ≡ 1 → ⊥) → shown_at (from_opacity o b) t ≡ keyframed_at (mask_frames o b) t
  unfolding shown_at mask_frames
  frames_shown n m = rw (first_is, ne_eqb φ 0 n, ne_eqb φ 1 m)

  pub framed : (φ ≡ 0 → ⊥) → (φ ≡ 1 → ⊥) → Framed o b p
  framed n m = record { flag = φ; more = some φ n m; finds = F }
    where
      some : (φ : ℕ) → (φ ≡ 0 → ⊥) → (φ ≡ 1 → ⊥) → 1 < φ
      some zero n m = absurd (n refl)
      some (suc zero) n m = absurd (m refl)
      some (suc (suc φ)) n m = omega arith
