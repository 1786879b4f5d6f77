-- Document 02, C-22: "The answer always lies between the smallest and the largest of the values." What that says of whole numbers; `between` of
-- proofs/Between is this theorem, of every body and every frame.
use Rattle.std.specs.Prelude.{ℕ, zero, suc, ◌*◌, ◌≤◌, ◌<◌, min, max, List, ◌≡◌, get_or, eqb}
use Rattle.format.specs.Tests.{pick}
use Rattle.opacity.specs.Opacity.{Opacity, fraction, refused, keyframes_of}

-- the smallest and the largest of the values 0 to n
unfoldable pub smallest : (ℕ → ℕ) → ℕ → ℕ
smallest value zero = value 0
smallest value (suc n) = min (smallest value n) (value (suc n))

unfoldable pub largest : (ℕ → ℕ) → ℕ → ℕ
largest value zero = value 0
largest value (suc n) = max (largest value n) (value (suc n))

-- of the opacity with the numbers ns: the default, the value, or the values of the keyframes
abbrev pub smallest_of : List ℕ → ℕ
smallest_of ns = pick (eqb (get_or ns 0 0) 0) 255 (pick (eqb (get_or ns 0 0) 1) (get_or ns 1 0) (smallest (keyframes_of (get_or ns 1 0) ns).value (get_or ns 1 0)))

abbrev pub largest_of : List ℕ → ℕ
largest_of ns = pick (eqb (get_or ns 0 0) 0) 255 (pick (eqb (get_or ns 0 0) 1) (get_or ns 1 0) (largest (keyframes_of (get_or ns 1 0) ns).value (get_or ns 1 0)))

-- a fraction p over q lies between lo and hi, and q is not 0; a refusal has the number 0
abbrev pub Lies : ℕ → ℕ → Opacity → Type 0
Lies lo hi (fraction p q) = (lo * q ≤ p) × (p ≤ hi * q) × (0 < q)
Lies lo hi (refused e n) = n ≡ 0
