-- A number's decimal digits in ASCII, the highest first and no zero in front; 0 is one digit.
use Rattle.std.specs.Prelude.{ℕ, zero, suc, ◌+◌, ◌/◌, ◌%◌, Bool, true, false, List, [], ◌∷◌, ◌++◌, ltb}

-- the test says whether n is a single digit; else its last digit follows those of n / 10. k bounds how often
abbrev pub digits : ℕ → Bool → ℕ → List ℕ
digits zero test n = (48 + n) ∷ []
digits (suc k) true n = (48 + n) ∷ []
digits (suc k) false n = digits k (ltb (n / 10) 10) (n / 10) ++ (48 + n % 10) ∷ []

-- n is divided fewer than n times
unfoldable pub decimal : ℕ → List ℕ
decimal n = digits n (ltb n 10) n
