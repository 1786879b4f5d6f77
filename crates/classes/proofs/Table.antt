-- A table's rule, proved once: one equation that antt computes over the whole table, and one law that gives the rule at each entry.
use Prim.Native.Nat.{ℕ, zero, suc, ◌+◌, ◌*◌, ◌<◌}
use mathlib.Core.List.{List, []}
use mathlib.Core.Path.{◌≡◌, ◌∙◌, refl, ap, sym}
use native.Mathlib.Nat.{add-zero, zero-add, add-suc, suc-add, le_of_suc-le-suc, not-suc-le-zero}
use lib.ListN.{get_or}
use Rattle.classes.specs.Tables.{tab, grid}

get_d_from : {A : Type 0} (f : ℕ → A) (d : A) (n i k : ℕ) → k < n → get_or (tab f i n) k d ≡ f (i + k)
get_d_from f d zero i k h = absurd (not-suc-le-zero h)
get_d_from f d (suc n) i zero h = ap f (sym (add-zero i))
get_d_from f d (suc n) i (suc k) h = get_d_from f d n (suc i) k (le_of_suc-le-suc h) ∙ ap f (suc-add i k ∙ sym (add-suc i k))

-- the rule at each entry of a table that is `tab f 0 n`
pub at : {A : Type 0} (f : ℕ → A) (d : A) (n : ℕ) (xs : List A) → xs ≡ tab f 0 n → (k : ℕ) → k < n → get_or xs k d ≡ f k
at f d n xs e k h = ap (λ l. get_or l k d) e ∙ get_d_from f d n 0 k h ∙ ap f (zero-add k)

-- and of a table of rows that is `grid f m n`
pub at_grid : {A : Type 0} (f : ℕ → A) (d : A) (m n : ℕ) (rows : List (List A)) → rows ≡ grid f m n
    → (k i j : ℕ) → i < m → j < n → i * n + j ≡ k → get_or (get_or rows i []) j d ≡ f k
at_grid f d m n rows e k i j hi hj q =
    ap (λ l. get_or l j d) (at (λ i. tab (λ j. f (i * n + j)) 0 n) [] m rows e i hi)
    ∙ at (λ j. f (i * n + j)) d n (tab (λ j. f (i * n + j)) 0 n) refl j hj
    ∙ ap f q
