-- What the writer judges of a body of n bytes whose packed numbers are ws: the filling of the last one is zero, so that it is below a power of 256.
use Rattle.std.specs.Prelude.{ℕ, ◌*◌, ◌/◌, ◌%◌, ◌^◌, Bool, true, List, get_or, ltb, eqb}
use Rattle.format.specs.Tests.{pick}

abbrev pub filled : ℕ → List ℕ → Bool
filled n ws = pick (eqb (n % 8) 0) true (ltb (get_or ws (n / 8) 0) (2 ^ (8 * (n % 8))))
