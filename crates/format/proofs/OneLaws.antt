-- An answer is determined, and where something was done its output too, by what the two together are seen as.
use Prim.Native.Nat.{ℕ}
use mathlib.Core.List.{List}
use mathlib.Core.Path.{◌≡◌, sym, ◌∙◌}
use Rattle.format.specs.Possible.{Possible, this, cannot}

-- of two answers with their outputs, seen alike, at most the outputs differ, and these only where nothing can be done
abbrev pub Same : {A R : Type 0} → Possible A → List ℕ → R → List ℕ → R → Type 0
Same (this x) u a v b = (u ≡ v) × (a ≡ b)
Same cannot u a v b = a ≡ b

-- what is seen tells the output and the answer again
abbrev pub Tells : {A R : Type 0} → (A → List ℕ) → (A → R) → R → Possible A → List ℕ → R → Type 0
Tells output answer none (this x) u a = (output x ≡ u) × (answer x ≡ a)
Tells output answer none cannot u a = none ≡ a

pub answer_one : {A R : Type 0} (see : List ℕ → R → Possible A) (output : A → List ℕ) (answer : A → R) (none : R)
    → ((u : List ℕ) (a : R) → Tells output answer none (see u a) u a)
    → (u : List ℕ) (a : R) (v : List ℕ) (b : R) {x : Possible A} → see u a ≡ x → see v b ≡ x → Same x u a v b
answer_one {A = A} see output answer none tells u a v b {x = x} e d = go x (rw e at (tells u a)) (rw d at (tells v b))
  where
    go : (x : Possible A) → Tells output answer none x u a → Tells output answer none x v b → Same x u a v b
    go (this y) s t = (sym s.0 ∙ t.0, sym s.1 ∙ t.1)
    go cannot s t = sym s ∙ t
