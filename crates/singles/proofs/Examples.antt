-- Singles of steps, derived by hand from C-23's sentence, as one table that the definitions compute.
use mathlib.Core.List.{List, [], ◌∷◌, map}
use mathlib.Core.Path.{◌≡◌, refl}
use lib.IntN.{ℤ, pos, negsuc}
use Rattle.format.specs.Reasons.{accepted, refused}
use Rattle.singles.specs.Single.{behind, nearest, magnitude, single}

-- 0 is +0. One step is the single nearest to 0.05 itself, and -1 has the sign besides. 20 × 13,421,773 = 268,435,460 is 2^28 + 4: 29 digits, so units of
-- 2^5, and 4 of 32 are dropped: 1.0. 100 of them are 1,342,177,300: 31 digits, units of 2^7 = 128; 10,485,760 of them are 1,342,177,280, and the 20 are dropped: 5.0.
-- 3 × 13,421,773 = 40,265,319: 26 digits, units of 4; 10,066,329 × 4 and 3 more, so one more unit: 10,066,330, with the exponent 124 (0.125).
-- 2 × 13,421,773 has units of 2 and no rest. 10 × 13,421,773 = 134,217,730 is 2^27 + 2: units of 16, 0.5. The last step is the first one times 2^24:
-- its exponent 122 and 24 more.
abbrev steps : List ℤ
steps =
    pos 0 ∷ pos 1 ∷ negsuc 0 ∷ pos 2 ∷ pos 3 ∷ pos 10 ∷ pos 20 ∷ negsuc 19 ∷ pos 100 ∷ pos 16777216 ∷ negsuc 16777215 ∷ pos 16777217 ∷ negsuc 16777216
    ∷ pos 9223372036854775807 ∷ negsuc 9223372036854775807 ∷ []

pub examples : map single steps ≡
    accepted 0 ∷ accepted 0x3D4CCCCD ∷ accepted 0xBD4CCCCD ∷ accepted 0x3DCCCCCD ∷ accepted 0x3E19999A ∷ accepted 0x3F000000 ∷ accepted 0x3F800000 ∷ accepted 0xBF800000
    ∷ accepted 0x40A00000 ∷ accepted 0x494CCCCD ∷ accepted 0xC94CCCCD ∷ refused 29 0 ∷ refused 29 0 ∷ refused 29 0 ∷ refused 29 0 ∷ []
unfolding behind magnitude
examples = refl

-- no step of the range lies halfway between two singles, so the even one of two is seen here: in units of 4 the numbers 2, 6, 10, 14 lie halfway, 9 lies
-- nearer to 2 units and 11 to 3
pub evens : nearest 2 4 ∷ nearest 6 4 ∷ nearest 10 4 ∷ nearest 14 4 ∷ nearest 9 4 ∷ nearest 11 4 ∷ nearest 8 4 ∷ [] ≡ 0 ∷ 2 ∷ 2 ∷ 4 ∷ 2 ∷ 3 ∷ 2 ∷ []
evens = refl
