-- From bits to bytes: a format that was put through a sink, with the skip to a whole byte at its end.
use Rattle.std.proofs.Common.{◌≡◌, ℕ, ◌+◌, ◌*◌, ◌/◌, ◌%◌, ◌<◌, ◌≤◌, Bool, true, false, eqb, leb, List, [], ◌∷◌, ◌++◌, length, sym, refl, ap, ◌∙◌, ap₂, append-nil, arith, length-append, pow_pos, eq-eqb, ne_eqb, le-leb, leb-false, leb-true}
use lib.Seq.{sets}
use Rattle.std.specs.Prelude.{Result, Ok, Err, IsErr}
use borrow.Author.Tests.{lt-leb}
use Rattle.format.specs.Tests.{pick}
use Rattle.format.specs.Bits.{Order}
use Rattle.format.specs.Bits as paper
use Rattle.format.specs.Formats.{Format, ◌▸◌}
use Rattle.format.specs.Items.{skipped}
use Rattle.format.specs.Bodies.{aligned, fixed}
use Rattle.format.specs.Possible.{Possible, this, cannot}
use Rattle.format.specs.WritingItems.{dig, Written, wrote, write_item}
use Rattle.format.specs.WritingFormats.{onward, unrun}
use Rattle.format.specs.WritingBodies.{whole_bytes, bytes_of, write_part, write_body}
use Rattle.format.proofs.BitLaws.{length_dig}
use Rattle.format.proofs.ByteLaws.{length_bytes_of}
use Rattle.bits.specs.Places.{order_of}
use Rattle.bits.specs.declared.BytePlace.{BytePlace}
use Rattle.sink.specs.declared.Impossible.{Impossible}
use Rattle.sink.specs.Lain.{Lain, lain, lies, lain_as, longest}
use Rattle.sink.specs.Laying.{State, mk, lay, Holds, Skipped}
use Rattle.sink.proofs.LayingLaws.{lay_append, lay_bytes_of, lay_place}
use Rattle.spelling.specs.Ends.{skipped_to, concluded}
use Rattle.spelling.specs.Writing.{Seen, here, ends, written_over, ran, limit}
use Rattle.spelling.specs.Writer.{state, seen_of, Writes}
use Rattle.spelling.specs.declared.writer.Writer.{Writer}
use Rattle.spelling.proofs.RunLaws.{ends_in, ends_out, parts, skip_le}
use Rattle.spelling.proofs.ShiftLaws.{shift, whole_bytes_lem}

-- a format, and the skip to a whole byte behind it
abbrev pub front : Format → Format
front f = f ▸ aligned

pub front_is : (o : Order) (f : Format) (vs : List ℕ) → write_body o (fixed f) vs ≡ whole_bytes o (unrun o (front f) vs 0)
unfolding write_body write_part unrun
front_is o f vs = refl

module _ (o : Order) (f : Format) (vs : List ℕ) where
  shifted : (a : ℕ) → unrun o (front f) vs (8 * a) ≡ unrun o (front f) vs 0
  shifted a = let e : 8 * a ≡ 0 + 8 * a = omega arith in ap (unrun o (front f) vs) e ∙ shift o (front f) vs 0 a

  whole : (xs : List ℕ) (bs : List Bool) (ys : List ℕ) → unrun o (front f) vs 0 ≡ this (wrote xs bs ys) → length bs % 8 ≡ 0
  unfolding unrun
  whole xs bs ys e = whole_bytes_lem o (unrun o f vs 0) xs bs ys e

  -- THE law: its bits, put from a whole byte on
  module _ (out : List ℕ) (a : ℕ) where
    st : State
    st = mk out (8 * a) 0

    -- all values are used up
    close : Possible Seen → Possible Lain
    close (this (here s k)) = pick (eqb k (length vs)) (this (lain s.bytes (s.place / 8))) cannot
    close cannot = cannot

    any_end : lies out a (whole_bytes o (unrun o (front f) vs 0)) ≡ close (written_over o st 0 (unrun o (front f) vs 0))
    unfolding lies written_over ends st close
    any_end = go (unrun o (front f) vs 0) refl
      where
        wrote_so : (xs : List ℕ) (bs : List Bool) (ys : List ℕ) → vs ≡ xs ++ ys → length bs % 8 ≡ 0 → (c : Bool) → leb (lay o st bs).place limit ≡ c
            → lies out a (whole_bytes o (this (wrote xs bs ys))) ≡ close (pick c (this (here (lay o st bs) (0 + length xs))) cannot)
        wrote_so xs bs [] e m c q = fits c q
          where
            k : ℕ
            k = length bs / 8

            pl : (lay o st bs).place ≡ 8 * a + length bs
            pl = lay_place o st bs

            ln : length (bytes_of o k bs) ≡ k
            ln = length_bytes_of o k bs

            jn : eqb (0 + length xs) (length vs) ≡ true
            jn = eq-eqb (0 + length xs) (length vs) (omega (arith, ap length e, length-append xs []))

            fits : (c : Bool) → leb (lay o st bs).place limit ≡ c
                → pick (leb (a + length (bytes_of o k bs)) longest) (this (lain (sets out a (bytes_of o k bs)) (a + length (bytes_of o k bs)))) cannot ≡ close (pick c (this (here (lay o st bs) (0 + length xs))) cannot)
            fits true q =
                let s : lay o st bs ≡ mk (sets out a (bytes_of o k bs)) (8 * (a + k)) 0 = lay_bytes_of o out a k bs (omega arith) in
                let l : leb (a + length (bytes_of o k bs)) longest ≡ true = le-leb (a + length (bytes_of o k bs)) longest (omega (arith, leb-true (lay o st bs).place limit q, pl, ln)) in
                let d : 8 * (a + k) / 8 ≡ a + length (bytes_of o k bs) = omega (arith, ln) in
                rw (l, jn, s, d)
            fits false q =
                let l : leb (a + length (bytes_of o k bs)) longest ≡ false = lt-leb (a + length (bytes_of o k bs)) longest (omega (arith, leb-false (lay o st bs).place limit q, pl, ln)) in
                rw l
        wrote_so xs bs (z ∷ ys) e m true q =
            let n : eqb (0 + length xs) (length vs) ≡ false = ne_eqb (0 + length xs) (length vs) (λ d. omega (arith, ap length e, length-append xs (z ∷ ys))) in
            rw n
        wrote_so xs bs (z ∷ ys) e m false q = refl

        go : (w : Possible Written) → unrun o (front f) vs 0 ≡ w → lies out a (whole_bytes o w) ≡ close (written_over o st 0 w)
        go cannot e = refl
        go (this (wrote xs bs ys)) e = wrote_so xs bs ys (parts o (front f) vs 0 xs ys bs e) (whole xs bs ys e) (leb (lay o st bs).place limit) refl

    -- as the code put it, and then the skip
    skip_last : close (written_over o st 0 (unrun o (front f) vs (8 * a))) ≡ concluded o (length vs) (ran o vs st 0 f)
    unfolding ran unrun write_item written_over ends st close
    skip_last = go (unrun o f vs (8 * a))
      where
        lim : (xs : List ℕ) (bs : List Bool) (c : Bool) → leb (lay o st bs).place limit ≡ c
            → close (ends (lay o st (bs ++ dig o (skipped (8 * a + length bs)) 0)) (0 + length (xs ++ []))) ≡ concluded o (length vs) (pick c (this (here (lay o st bs) (0 + length xs))) cannot)
        lim xs bs true q =
            let p : (lay o st bs).place ≡ 8 * a + length bs = lay_place o st bs in
            let s : lay o st (bs ++ dig o (skipped (8 * a + length bs)) 0) ≡ skipped_to o (lay o st bs) = lay_append o st bs (dig o (skipped (8 * a + length bs)) 0) ∙ rw (← p) in
            let l : (skipped_to o (lay o st bs)).place ≤ limit =
            omega (arith, lay_place o (lay o st bs) (dig o (skipped (lay o st bs).place) 0), length_dig o (skipped (lay o st bs).place) 0, skip_le (lay o st bs).place (leb-true (lay o st bs).place limit q)) in
            let n : 0 + length (xs ++ []) ≡ 0 + length xs = rw (append-nil xs) in
            ap₂ (λ (x : State) (k : ℕ). close (ends x k)) s n ∙ ap close (ends_in (skipped_to o (lay o st bs)) (0 + length xs) l)
        lim xs bs false q =
            ap close (ends_out (lay o st (bs ++ dig o (skipped (8 * a + length bs)) 0)) (0 + length (xs ++ []))
            (omega (arith, leb-false (lay o st bs).place limit q, lay_place o st bs, lay_place o st (bs ++ dig o (skipped (8 * a + length bs)) 0), length-append bs (dig o (skipped (8 * a + length bs)) 0))))

        go : (w : Possible Written) → close (written_over o st 0 (onward w (8 * a) (λ xs ys q. this (wrote [] (dig o (skipped q) 0) ys)))) ≡ concluded o (length vs) (written_over o st 0 w)
        go cannot = refl
        go (this (wrote xs bs ys)) = lim xs bs (leb (lay o st bs).place limit) refl

    pub front_law : lies out a (whole_bytes o (unrun o (front f) vs 0)) ≡ concluded o (length vs) (ran o vs (mk out (8 * a) 0) 0 f)
    unfolding st
    front_law = any_end ∙ ap (λ (w : Possible Written). close (written_over o st 0 w)) (sym (shifted a)) ∙ skip_last

    -- as the code has it
    pub front_done : {x : Possible Lain} {s : Possible Seen} {q : ℕ} → q ≡ 8 * a → x ≡ concluded o (length vs) s → s ≡ ran o vs (mk out q 0) 0 f → x ≡ lies out a (whole_bytes o (unrun o (front f) vs 0))
    front_done p e d = e ∙ ap (concluded o (length vs)) (d ∙ ap (λ (q : ℕ). ran o vs (mk out q 0) 0 f) p) ∙ sym front_law

-- past the longest file there is no place
pub lies_over : (out : List ℕ) (a : ℕ) (b : Possible (List ℕ)) → longest < a → cannot ≡ lies out a b
unfolding lies
lies_over out a cannot h = refl
lies_over out a (this x) h = rw (lt-leb (a + length x) longest (omega arith))

-- ---- the end of a body
module _ (o : Order) (n : ℕ) (st : State) (k : ℕ) where
  pub end_left : (k ≡ n → ⊥) → cannot ≡ concluded o n (this (here st k))
  end_left h = rw (ne_eqb k n h)

  pub end_done : {u : List ℕ} {byte bit : ℕ} → k ≡ n → Skipped o st u byte bit → this (lain u byte) ≡ concluded o n (this (here st k))
  end_done {u} {byte} {bit} h skip =
      let p : skipped_to o st ≡ mk u bit 0 = sym skip.laid in
      let d : bit / 8 ≡ byte = omega (arith, skip.whole) in
      rw (eq-eqb k n h, p, d)

pub start_fine : (a q : ℕ) → q ≡ 8 * a → a ≤ longest → Holds q 0 × (q ≤ limit)
start_fine a q e h = (pow_pos (q % 8), omega arith)

-- ---- the end of a body that a writer has written from its first value on
module _ {T : Type 0} {a b : Writer} {r : Result T Impossible} {f : Format} (w : Writes a b r f) (place : ℕ) (first : (a.index ≡ 0) × (a.sink.place.0 ≡ 8 * place) × (a.sink.part ≡ 0)) where
  body_seen : seen_of b r ≡ ran (order_of a.order) a.values.now (mk a.out.now (8 * place) 0) 0 f
  body_seen =
      w.told ∙ ap (λ (k : ℕ). ran (order_of a.order) a.values.now (state a) k f) first.0
      ∙ ap₂ (λ (q p : ℕ). ran (order_of a.order) a.values.now (mk a.out.now q p) 0 f) first.1 first.2

  pub body_done : {x : T} (u : List ℕ) (C : Result BytePlace Impossible) → r ≡ Ok x → lain_as u C ≡ concluded (order_of b.order) (length b.values.now) (this (here (state b) b.index))
      → lain_as u C ≡ lies a.out.now place (write_body (order_of a.order) (fixed f) a.values.now)
  body_done u C e h =
      front_done (order_of a.order) f a.values.now a.out.now place refl
      (h ∙ ap₂ (λ (o : paper.Order) (n : ℕ). concluded o n (this (here (state b) b.index))) (ap order_of w.onward.order) (ap length w.onward.values)) (ap (seen_of b) (sym e) ∙ body_seen)
      ∙ ap (lies a.out.now place) (sym (front_is (order_of a.order) f a.values.now))

  pub body_gone : {z : Impossible} → r ≡ Err z → cannot ≡ lies a.out.now place (write_body (order_of a.order) (fixed f) a.values.now)
  body_gone {z} e =
      front_done (order_of a.order) f a.values.now a.out.now place {s = cannot} refl refl (ap (seen_of b) (sym e) ∙ body_seen)
      ∙ ap (lies a.out.now place) (sym (front_is (order_of a.order) f a.values.now))

-- where the code answers that no file has a body
pub err_lain : (u : List ℕ) (C : Result BytePlace Impossible) {x : Possible Lain} → IsErr C → cannot ≡ x → lain_as u C ≡ x
err_lain u (Ok p) h e = cc
err_lain u (Err z) h e = e
