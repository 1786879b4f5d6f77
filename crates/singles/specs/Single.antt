-- Document 02, C-23: the single-precision value of a path step as its bits, by whole numbers.
use Rattle.std.specs.Prelude.{ℕ, zero, suc, ◌+◌, ◌-◌, ◌*◌, ◌/◌, ◌%◌, ◌^◌, Bool, true, false, ltb, leb, ℤ, pos, negsuc}
use Rattle.format.specs.Tests.{pick}
use Rattle.format.specs.Reasons.{Answer, accepted, refused}

-- ---- The step as a single, times the single nearest to 0.05, which is 13,421,773 / 2^28 (bits 0x3D4CCCCD): of a step of magnitude n the product is
-- n × 13,421,773, in units of 2^-28.
abbrev pub product : ℕ → ℕ
product n = n * 13421773

-- ---- Rounded once. A single has 24 binary digits; e digits of the product x stand behind its first 24 if 2^(23 + e) ≤ x < 2^(24 + e). e is at most k
unfoldable pub behind : ℕ → ℕ → ℕ
behind zero x = 0
behind (suc k) x = pick (leb (2 ^ (24 + k)) x) (suc k) (behind k x)

-- the whole number of units u that is nearest to x; halfway between two the even one
abbrev pub nearest : ℕ → ℕ → ℕ
nearest x u = pick (ltb (x % u * 2) u) (x / u) (pick (ltb u (x % u * 2)) (x / u + 1) (x / u + x / u % 2))

-- ---- Answered as its bits: sign (2^31), exponent (times 2^23), fraction. A q of 24 digits times 2^e, in units of 2^-28, has its first digit at
-- 2^(e - 5), so the exponent is 122 + e, 127 being 2^0; the first digit is not part of the fraction, and 122 + e and that fraction together are
-- 121 + e and q. (A q that was rounded up to 2^24 so gives the next exponent and the fraction 0.) A product of 0 has the bits 0. Others have 24 digits at
-- least, as 13,421,773 has, and 48 at most.
unfoldable pub magnitude : ℕ → ℕ
magnitude zero = 0
magnitude (suc m) = (121 + behind 24 (product (suc m))) * 2 ^ 23 + nearest (product (suc m)) (2 ^ behind 24 (product (suc m)))

-- ---- Steps from -16777216 to 16777216 are answered, and only these: 29, number 0, for a step beyond. A step by its sign and its magnitude
abbrev pub of_step : Bool → ℕ → Answer
of_step negative n = pick (leb n 16777216) (accepted (pick negative (2 ^ 31) 0 + magnitude n)) (refused 29 0)

abbrev pub single : ℤ → Answer
single (pos n) = of_step false n
single (negsuc n) = of_step true (suc n)

-- a step as a table keeps it, modulo 2^64
abbrev pub of_number : ℕ → Answer
of_number n = pick (ltb n (2 ^ 63)) (of_step false n) (of_step true (2 ^ 64 - n))
