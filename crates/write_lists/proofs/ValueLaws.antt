-- The values of a tag put over an output, by their class.
use Prim.Native.Nat.{ℕ, ◌+◌, ◌≤◌}
use mathlib.Core.Bool.{true, false}
use mathlib.Core.List.{List}
use mathlib.Core.Path.{◌≡◌, ap, sym, ◌∙◌}
use native.Mathlib.Nat.{add-zero}
use native.Mathlib.Omega.{arith}
use borrow.Author.Tests.{le-leb, eq-eqb, ne_eqb}
use lib.ListN.{length}
use Rattle.format.specs.Bits.{Order}
use Rattle.format.proofs.Absurd.{clash}
use Rattle.format.specs.Possible.{Possible, this, cannot}
use Rattle.classes.specs.declared.Class.{Class}
use Rattle.classes.specs.declared.Class.TheVariants.{Opaque, End}
use Rattle.sink.specs.Lain.{longest, Lain, lain, lies}
use Rattle.write_lists.specs.Tags.{hidden, values_in}

-- ---- by the class that a `match` tells
module _ (o : Order) (out : List ℕ) (b : ℕ) (vs : List ℕ) where
  pub values_of_lem : (code : ℕ) {class : Class} {x : Possible Lain} (told : Class) → class ≡ told → x ≡ lies out b (values_in o told code vs) → x ≡ lies out b (values_in o class code vs)
  values_of_lem code told e f = f ∙ ap (λ (z : Class). lies out b (values_in o z code vs)) (sym e)

  pub end_none : (code : ℕ) → b ≤ longest → length vs ≡ 0 → this (lain out b) ≡ lies out b (values_in o End code vs)
  unfolding lies
  end_none code h e = rw (eq-eqb (length vs) 0 e, le-leb (b + 0) longest (omega arith)) (ap (λ (x : ℕ). this (lain out x)) (sym (add-zero b)))

  pub end_some : (code : ℕ) → (length vs ≡ 0 → ⊥) → cannot ≡ lies out b (values_in o End code vs)
  unfolding lies
  end_some code e = rw (ne_eqb (length vs) 0 e)

  -- an opaque tag has no values here
  pub none_hidden : (code : ℕ) {class : Class} → class ≡ Opaque → hidden class ≡ false → cannot ≡ lies out b (values_in o class code vs)
  none_hidden code e h = let f : true ≡ false = sym (ap hidden e) ∙ h in clash cc
