-- Tables by their rule.
use Rattle.std.specs.Prelude.{ℕ, zero, suc, ◌+◌, ◌*◌, List, [], ◌∷◌}

-- f i, f (i + 1), ..: n of them
abbrev pub tab : {A : Type 0} → (ℕ → A) → ℕ → ℕ → List A
tab f i zero = []
tab f i (suc n) = f i ∷ tab f (suc i) n

-- m rows of n entries, which count on from row to row
abbrev pub grid : {A : Type 0} → (ℕ → A) → ℕ → ℕ → List (List A)
grid f m n = tab (λ i. tab (λ j. f (i * n + j)) 0 n) 0 m
