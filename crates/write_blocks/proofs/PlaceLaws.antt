-- Which values a format leaves does not depend on the place that it is written from.
use Prim.Native.Nat.{ℕ, ◌+◌}
use mathlib.Core.List.{List, ◌++◌}
use mathlib.Core.Path.{◌≡◌, refl, sym, ap, ◌∙◌}
use mathlib.Core.Bool.{Bool, true, false}
use lib.ListN.{length, drop}
use lib.Seq.{drop-drop, drop-append_seam}
use lib.Dec.{leb}
use Rattle.format.specs.Tests.{pick}
use Rattle.format.specs.Bits.{Order}
use Rattle.format.specs.Formats.{Format}
use Rattle.format.specs.Possible.{Possible, this, cannot}
use Rattle.format.specs.WritingItems.{Written, wrote}
use Rattle.format.specs.WritingFormats.{unrun}
use Rattle.format.specs.WritingBodies.{left_of}
use Rattle.format.proofs.BlockLaws.{same_place}
use Rattle.format.proofs.Absurd.{clash}
use Rattle.sink.specs.Laying.{State, lay}
use Rattle.spelling.specs.Writing.{here, ends, written_over, ran, limit}
use Rattle.spelling.proofs.RunLaws.{parts}

left_place : (o : Order) (f : Format) (ns : List ℕ) (p q : ℕ) → left_of (unrun o f ns p) ≡ left_of (unrun o f ns q)
left_place o f ns p q = go (unrun o f ns p) (unrun o f ns q) refl refl
  where
    go : (w w' : Possible Written) → unrun o f ns p ≡ w → unrun o f ns q ≡ w' → left_of w ≡ left_of w'
    go cannot cannot e d = refl
    go cannot (this (wrote xs bs ys)) e d = absurd (rw (e, d) at (same_place o f ns p q))
    go (this (wrote xs bs ys)) cannot e d = absurd (rw (e, d) at (same_place o f ns p q))
    go (this (wrote xs bs ys)) (this (wrote xs' bs' ys')) e d = (rw (e, d) at (same_place o f ns p q)).1

pub left_is : (o : Order) (t : List ℕ) (f : Format) (k : ℕ) (st st' : State) (j : ℕ) → ran o t st k f ≡ this (here st' j) → left_of (unrun o f (drop k t) 0) ≡ drop j t
unfolding ran written_over ends
left_is o t f k st st' j e = left_place o f (drop k t) 0 st.place ∙ go (unrun o f (drop k t) st.place) refl e
  where
    go : (w : Possible Written) → unrun o f (drop k t) st.place ≡ w → written_over o st k w ≡ this (here st' j) → left_of w ≡ drop j t
    go cannot q d = clash cc
    go (this (wrote xs bs ys)) q d = lim (leb (lay o st bs).place limit) d
      where
        lim : (c : Bool) → pick c (this (here (lay o st bs) (k + length xs))) cannot ≡ this (here st' j) → ys ≡ drop j t
        lim true d =
            let z : k + length xs ≡ j = cc in
            let p : drop k t ≡ xs ++ ys = parts o f (drop k t) st.place xs ys bs q in
            sym (ap (λ (n : ℕ). drop n t) (sym z) ∙ sym (drop-drop (length xs) k t) ∙ rw p (drop-append_seam xs ys))
        lim false d = clash cc
