-- The round trip of whole bodies: the bytes that a table is written as, and the table that bytes are read as, determine each other.
use Prim.Native.Nat.{ℕ, ◌+◌, ◌*◌, ◌/◌, ◌≤◌}
use mathlib.Core.List.{List, [], ◌∷◌, ◌++◌, append-nil}
use mathlib.Core.Path.{◌≡◌, refl, sym, ◌∙◌, subst}
use mathlib.Core.Bool.{Bool, true, false}
use lib.ListN.{length, length-append, take}
use lib.Seq.{take-length}
use lib.Dec.{eqb}
use borrow.Author.Tests.{eqb-true, eq-eqb}
use native.Mathlib.Omega.{arith}
use Rattle.format.specs.Tests.{pick}
use Rattle.format.specs.Bits.{AllBytes, Order, ub}
use Rattle.format.specs.Reading.{Ending, At, Fault, Reading, shows, stop, follow}
use Rattle.format.specs.Formats.{Item}
use Rattle.format.specs.Items.{skipped, read_item, read_align}
use Rattle.format.specs.Bodies.{Body, fixed, attributes, read_part, to_end, used_up, read_body}
use Rattle.format.specs.Possible.{Possible, this, cannot}
use Rattle.format.specs.WritingItems.{Written, wrote, write_item}
use Rattle.format.specs.WritingFormats.{onward}
use Rattle.format.specs.WritingBodies.{write_part, bytes_of, whole_bytes, write_body}
use Rattle.format.proofs.BitLaws.{length_dig}
use Rattle.format.proofs.BlockLaws.{trip_block}
use Rattle.format.proofs.ByteLaws.{has_bytes_of, bytes_of_bytes, length_bytes_of, has_more, bytes_of_front}
use Rattle.format.proofs.ItemLaws.{trip_item, round_trip}
use Rattle.format.proofs.Trip.{Trip, There, Back, has_le, trip_seq}

module _ (o : Order) where
  pub trip_part : (y : Body) → Trip o (λ b p. read_part o b y p) (λ ns p. write_part o y ns p)
  unfolding read_part write_part
  trip_part (fixed f) = round_trip o f
  trip_part (attributes attrs) = trip_block o attrs

  -- the own part of a tag, up to the whole byte behind it
  abbrev pub end_r : Body → List ℕ → ℕ → Reading
  end_r y b p = follow (read_part o b y p).shown (read_part o b y p).ended (λ xs q. read_align o b q)

  abbrev pub end_w : Body → List ℕ → ℕ → Possible Written
  end_w y ns p = onward (write_part o y ns p) p (λ xs ys q. write_item o Item.align ys q)

  trip_align : Trip o (λ b p. read_align o b p) (λ ns p. write_item o Item.align ns p)
  unfolding read_item
  trip_align = trip_item o Item.align

  pub trip_end : (y : Body) → Trip o (end_r y) (end_w y)
  trip_end y = trip_seq o (λ b p. read_part o b y p) (λ ns p. write_part o y ns p) (λ xs b p. read_align o b p) (λ xs ns p. write_item o Item.align ns p)
      (trip_part y) (λ xs. trip_align)

  -- it ends on a whole byte of the body
  abbrev WholeEnd : Ending → Type 0
  WholeEnd (At p) = 8 * (p / 8) ≡ p
  WholeEnd (Fault e) = Unit {0}

  pub end_whole : (y : Body) (b : List ℕ) → WholeEnd (to_end o b y).ended
  end_whole y b = go (read_part o b y 0).shown (read_part o b y 0).ended
    where
      skip : (m : ℕ) (c : Bool) → WholeEnd (pick c (shows [] (m + skipped m)) (stop 15)).ended
      skip m true = omega arith
      skip m false = tt

      go : (xs : List ℕ) (z : Ending) → WholeEnd (follow xs z (λ xs q. read_align o b q)).ended
      go xs (Fault e) = tt
      go xs (At m) = skip m (eqb (ub o b m (skipped m)) 0)

  pub end_le : (y : Body) (b : List ℕ) (q : ℕ) → (to_end o b y).ended ≡ At q → q ≤ 8 * length b
  end_le y b q e =
      let u : There o b 0 q (to_end o b y).shown (end_w y) = rw e at ((trip_end y).there b 0 (omega arith)) in
      omega (arith, u.ends, has_le o b 0 u.bits u.has)

  -- the values of a body are those of its own part
  pub body_shown : (y : Body) (b : List ℕ) → (read_body o y b).shown ≡ (to_end o b y).shown
  unfolding read_body
  body_shown y b = go (to_end o b y).ended
    where
      go : (z : Ending) → (used_up (8 * length b) (to_end o b y).shown z).shown ≡ (to_end o b y).shown
      go (At p) = refl
      go (Fault e) = refl

  -- what is read is written again: the own part of a tag, and a whole body
  pub front_there : (y : Body) (b : List ℕ) (q : ℕ) → AllBytes b → (to_end o b y).ended ≡ At q → write_body o y (to_end o b y).shown ≡ this (take (q / 8) b)
  unfolding write_body
  front_there y b q a e =
      let u : There o b 0 q (to_end o b y).shown (end_w y) = rw e at ((trip_end y).there b 0 (omega arith)) in
      let w : end_w y (to_end o b y).shown 0 ≡ this (wrote (to_end o b y).shown u.bits []) = rw append-nil at (u.again []) in
      let h : 8 * (q / 8) ≡ q = rw e at (end_whole y b) in
      let n : length u.bits / 8 ≡ q / 8 = omega (arith, u.ends) in
      rw (w, n, bytes_of_front o (q / 8) b u.bits a (omega (arith, end_le y b q e)) (omega (arith, u.ends)) u.has)

  abbrev pub ReadIf : Body → List ℕ → List ℕ → Ending → Type 0
  ReadIf y b xs (At q) = write_body o y xs ≡ this b
  ReadIf y b xs (Fault e) = Unit {0}

  pub body_there : (y : Body) (b : List ℕ) → AllBytes b → ReadIf y b (read_body o y b).shown (read_body o y b).ended
  unfolding read_body
  body_there y b a = go (to_end o b y).ended refl
    where
      test : (q : ℕ) → (to_end o b y).ended ≡ At q → (c : Bool) → eqb q (8 * length b) ≡ c → ReadIf y b (to_end o b y).shown (pick c (At q) (Fault 18))
      test q u false e = tt
      test q u true e =
          let n : q / 8 ≡ length b = omega (arith, eqb-true q (8 * length b) e) in
          front_there y b q a u ∙ rw (n, take-length b)

      go : (z : Ending) → (to_end o b y).ended ≡ z → ReadIf y b (used_up (8 * length b) (to_end o b y).shown (to_end o b y).ended).shown (used_up (8 * length b) (to_end o b y).shown (to_end o b y).ended).ended
      go (Fault z) eq = rw eq tt
      go (At q) eq = rw eq (test q eq (eqb q (8 * length b)) refl)

  -- what is written is read again, whatever stands behind it
  abbrev WriteIf : Body → List ℕ → Possible (List ℕ) → Type 0
  WriteIf y ns (this b) = AllBytes b × ((rest : List ℕ) → to_end o (b ++ rest) y ≡ shows ns (8 * length b))
  WriteIf y ns cannot = Unit {0}

  abbrev WholeIf : Possible Written → Type 0
  WholeIf (this (wrote xs bs ys)) = 8 * (length bs / 8) ≡ length bs
  WholeIf cannot = Unit {0}

  whole_bytes_lem : (w : Possible Written) → WholeIf (onward w 0 (λ xs ys q. write_item o Item.align ys q))
  unfolding write_item
  whole_bytes_lem cannot = tt
  whole_bytes_lem (this (wrote xs bs ys)) = rw (length-append, length_dig) (omega arith)

  write_if : (y : Body) (ns : List ℕ) → WriteIf y ns (write_body o y ns)
  unfolding write_body
  write_if y ns = go (end_w y ns 0) refl
    where
      go : (w : Possible Written) → end_w y ns 0 ≡ w → WriteIf y ns (whole_bytes o (end_w y ns 0))
      go cannot eq = rw eq tt
      go (this (wrote xs bs (z ∷ ys))) eq = rw eq tt
      go (this (wrote xs bs [])) eq =
          let k : ℕ = length bs / 8 in
          let v : Back o ns xs bs [] 0 (end_r y) = rw eq at ((trip_end y).back ns 0) in
          let n : 8 * k ≡ length bs = rw eq at (whole_bytes_lem (write_part o y ns 0)) in
          let m : ns ≡ xs = v.parts ∙ append-nil xs in
          let z : 0 + length bs ≡ 8 * k = omega arith in
          rw eq (bytes_of_bytes o k bs, λ rest. v.reads (bytes_of o k bs ++ rest) (has_more o (bytes_of o k bs) rest 0 bs (has_bytes_of o k bs (sym n))) ∙ rw (length_bytes_of, z, m))

  pub front_back : (y : Body) (b ns : List ℕ) → write_body o y ns ≡ this b → AllBytes b × ((rest : List ℕ) → to_end o (b ++ rest) y ≡ shows ns (8 * length b))
  front_back y b ns h = subst (WriteIf y ns) h (write_if y ns)

  pub body_back : (y : Body) (b ns : List ℕ) → write_body o y ns ≡ this b → AllBytes b × (read_body o y b ≡ shows ns (8 * length b))
  unfolding read_body
  body_back y b ns h =
      let u : AllBytes b × ((rest : List ℕ) → to_end o (b ++ rest) y ≡ shows ns (8 * length b)) = front_back y b ns h in
      let r : to_end o b y ≡ shows ns (8 * length b) = rw append-nil at (u.1 []) in
      (u.0, rw (r, eq-eqb (8 * length b) (8 * length b) refl))
