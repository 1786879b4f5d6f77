-- A writer's index stays inside its values: where it was at most behind the last one, it is so after what was written.
use Rattle.std.proofs.Common.{◌≡◌, ℕ, ◌+◌, ◌≤◌, Bool, true, false, leb, List, ◌++◌, length, drop, sym, refl, ap, ◌∙◌, arith, length-append, length-drop}
use Rattle.std.specs.Prelude.{Result, Ok}
use Rattle.format.specs.Tests.{pick}
use Rattle.format.specs.Bits.{Order}
use Rattle.format.specs.Formats.{Format}
use Rattle.format.specs.Possible.{Possible, this, cannot}
use Rattle.format.specs.WritingItems.{Written, wrote}
use Rattle.format.specs.WritingFormats.{unrun}
use Rattle.format.proofs.Absurd.{clash}
use Rattle.bits.specs.Places.{order_of}
use Rattle.sink.specs.Laying.{State, lay}
use Rattle.sink.specs.declared.Impossible.{Impossible}
use Rattle.spelling.specs.Spellings.{Numbered}
use Rattle.spelling.specs.Writing.{here, ends, written_over, ran, limit}
use Rattle.spelling.specs.Writer.{state, seen_of, Onward, Writes}
use Rattle.spelling.specs.declared.writer.Writer.{Writer}
use Rattle.spelling.proofs.RunLaws.{parts}

-- a format takes its values from those that are there
pub ran_inside : (o : Order) (t : List ℕ) (st : State) (k : ℕ) (f : Format) {st' : State} {j : ℕ} → k ≤ length t → ran o t st k f ≡ this (here st' j) → j ≤ length t
unfolding ran written_over ends
ran_inside o t st k f {st'} {j} l e = go (unrun o f (drop k t) st.place) refl e
  where
    index : (c : Bool) (x : State) (n : ℕ) → pick c (this (here x n)) cannot ≡ this (here st' j) → n ≡ j
    index true x n q = cc
    index false x n q = clash cc

    go : (w : Possible Written) → unrun o f (drop k t) st.place ≡ w → written_over o st k w ≡ this (here st' j) → j ≤ length t
    go cannot d q = clash cc
    go (this (wrote xs bs ys)) d q =
        let n : k + length xs ≡ j = index (leb (lay o st bs).place limit) (lay o st bs) (k + length xs) q in
        let p : length (drop k t) ≡ length (xs ++ ys) = ap length (parts o f (drop k t) st.place xs ys bs d) in
        omega (arith, n, l, p, length-append xs ys, length-drop k t)

-- so after each accepted call of a writer
module _ {a b : Writer} (inside : a.index ≤ length a.values.now) where
  pub writes_inside : {T : Type 0} {r : Result T Impossible} {x : T} {f : Format} → Writes a b r f → r ≡ Ok x → b.index ≤ length b.values.now
  writes_inside {f = f} w e =
      let t : ran (order_of a.order) a.values.now (state a) a.index f ≡ this (here (state b) b.index) = sym w.told ∙ ap (seen_of b) e in
      omega (arith, ran_inside (order_of a.order) a.values.now (state a) a.index f inside t, ap length w.onward.values)

-- and behind a number that was taken
pub taken_inside : {a b : Writer} {r : Result ℕ Impossible} {n : ℕ} → Onward a b → Numbered a.values.now a.index r → r ≡ Ok n → b.index ≡ a.index + 1 → b.index ≤ length b.values.now
taken_inside {a = a} {n = n} on told e next = let z = told in let y : Numbered a.values.now a.index (Ok n) = rw e at z in omega (arith, y.0, next, ap length on.values)
