-- The whole of a slice, sliced again: it is the slice. What is handed on so goes from function to function in registers (docs/SPEED.md).
use Rattle.std.proofs.Common.{◌≡◌, ℕ, ◌-◌, List, length, take, sym, ap, ◌∙◌, subst, arith, take_all}

abbrev pub again : List ℕ → List ℕ
again s = take (length s - 0) s

pub again_same : (s : List ℕ) → again s ≡ s
again_same s = take_all (length s - 0) s (omega arith)

-- What was asked of the slice holds of the whole of it, and an answer that was made from the whole is the answer for the slice.
pub of_again : (P : List ℕ → Type 0) (s : List ℕ) → P s → P (again s)
of_again P s = subst P (sym (again_same s))

pub as_whole : {A : Type 0} (f : List ℕ → A) (s : List ℕ) {x : A} → x ≡ f (again s) → x ≡ f s
as_whole f s e = e ∙ ap f (again_same s)
