-- That no second answer fits a promise, and that one always does.
use Prim.Native.Nat.{ℕ, ◌≤◌}
use mathlib.Core.List.{List}
use mathlib.Core.Path.{◌≡◌, refl, ap, sym, ◌∙◌}
use mathlib.Core.Bool.{Bool, true, false}
use lib.ListN.{length}
use lib.Dec.{ltb, leb}
use borrow.Author.Tests.{ltb-true, ltb-false, leb-true, leb-false}
use native.Mathlib.Omega.{arith}
use Rattle.format.specs.Reasons.{Left, accepts, refuses_with, FileOf, Writes, too_high, neither, impossible, too_short, written}
use Rattle.format.specs.Possible.{Possible, this, cannot}
use Rattle.format.specs.WritingFiles.{write_file}
use Rattle.format.proofs.RoundTrip.{level_of, back, no_file, one_file}

-- A promise that is an equation: what a call left, seen as `seen` sees it, is v. If `seen` tells any two apart, no second thing fits.
pub one_answer : {A B : Type 0} (seen : A → B) → ((x y : A) → seen x ≡ seen y → x ≡ y) → (v : B) (x y : A) → seen x ≡ v → seen y ≡ v → x ≡ y
one_answer seen apart v x y p q = apart x y (p ∙ sym q)

module _ (order level : ℕ) (t m : List ℕ) where
  -- two files of one table are equal
  same_file : (f g : List ℕ) → FileOf order level t f → FileOf order level t g → f ≡ g
  same_file f g u v = one_file order level t f g u.bytes v.bytes u.reads v.reads

  -- no two things fit the writer's promise
  pub writes_one : (x y : Left) → Writes order level t m x → Writes order level t m y → x ≡ y
  writes_one x y (too_high h) (too_high k) = refl
  writes_one x y (too_high h) (neither l k) = absurd (omega arith)
  writes_one x y (too_high h) (impossible l n k) = absurd (omega arith)
  writes_one x y (too_high h) (too_short g v k) = absurd (omega (arith, level_of order level g t v.reads))
  writes_one x y (too_high h) (written g v k) = absurd (omega (arith, level_of order level g t v.reads))
  writes_one x y (neither l h) (too_high k) = absurd (omega arith)
  writes_one x y (neither l h) (neither l' k) = refl
  writes_one x y (neither l h) (impossible l' n k) = absurd (omega arith)
  writes_one x y (neither l h) (too_short g v k) = absurd (omega (arith, level_of order level g t v.reads))
  writes_one x y (neither l h) (written g v k) = absurd (omega (arith, level_of order level g t v.reads))
  writes_one x y (impossible l n h) (too_high k) = absurd (omega arith)
  writes_one x y (impossible l n h) (neither l' k) = absurd (omega arith)
  writes_one x y (impossible l n h) (impossible l' n' k) = refl
  writes_one x y (impossible l n h) (too_short g v k) = absurd (h g v)
  writes_one x y (impossible l n h) (written g v k) = absurd (h g v)
  writes_one x y (too_short f u h) (too_high k) = absurd (omega (arith, level_of order level f t u.reads))
  writes_one x y (too_short f u h) (neither l k) = absurd (omega (arith, level_of order level f t u.reads))
  writes_one x y (too_short f u h) (impossible l n k) = absurd (k f u)
  writes_one x y (too_short f u h) (too_short g v k) = ap (λ (z : List ℕ). refuses_with m 21 (length z)) (same_file f g u v)
  writes_one x y (too_short f u h) (written g v k) = absurd (omega (arith, ap length (same_file f g u v)))
  writes_one x y (written f u h) (too_high k) = absurd (omega (arith, level_of order level f t u.reads))
  writes_one x y (written f u h) (neither l k) = absurd (omega (arith, level_of order level f t u.reads))
  writes_one x y (written f u h) (impossible l n k) = absurd (k f u)
  writes_one x y (written f u h) (too_short g v k) = absurd (omega (arith, ap length (same_file f g u v)))
  writes_one x y (written f u h) (written g v k) = ap (λ (z : List ℕ). accepts m z) (same_file f g u v)

  -- and one always does
  pub writes_some : (x : Left) × Writes order level t m x
  writes_some = levelled (ltb 1023 level) refl
    where
      room : (f : List ℕ) → FileOf order level t f → (c : Bool) → leb (length f) (length m) ≡ c → (x : Left) × Writes order level t m x
      room f u true e = (accepts m f, written f u (leb-true (length f) (length m) e))
      room f u false e = (refuses_with m 21 (length f), too_short f u (leb-false (length f) (length m) e))

      possible : level ≤ 1023 → order ≤ 1 → (b : Possible (List ℕ)) → write_file order level t ≡ b → (x : Left) × Writes order level t m x
      possible l n (this f) e = room f (record { bytes = (back order level f t e).0; reads = (back order level f t e).1 }) (leb (length f) (length m)) refl
      possible l n cannot e = (refuses_with m 20 0, impossible l n (λ f u. no_file order level t e f u.bytes u.reads))

      ordered : level ≤ 1023 → (c : Bool) → ltb 1 order ≡ c → (x : Left) × Writes order level t m x
      ordered l true e = (refuses_with m 24 0, neither l (ltb-true 1 order e))
      ordered l false e = possible l (omega (arith, ltb-false 1 order e)) (write_file order level t) refl

      levelled : (c : Bool) → ltb 1023 level ≡ c → (x : Left) × Writes order level t m x
      levelled true e = (refuses_with m 1 0, too_high (ltb-true 1023 level e))
      levelled false e = ordered (omega (arith, ltb-false 1023 level e)) (ltb 1 order) refl
