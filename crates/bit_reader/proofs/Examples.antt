-- P7 and P8 of document 01 by the bit reader's definition, fields low first (C-18), and its refusals, as one table.
use Prim.Native.Nat.{ℕ}
use mathlib.Core.Bool.{Bool, true, false}
use mathlib.Core.List.{List, [], ◌∷◌}
use mathlib.Core.Path.{◌≡◌, refl}
use denote.Ref.{Bor}
use Rattle.format.specs.Bits.{bit_at, ub}
use Rattle.format.specs.Reasons.{accepted, refused}
use Rattle.bit_reader.specs.Fields.{Step, step_at}
use Rattle.bit_reader.specs.Readers.{at_start, taken}

abbrev step : Bool → List ℕ → ℕ → ℕ → Step
step signed b p n = step_at 0 signed b (record { 0 = p }) n

-- low first
abbrev low_step : Bool → List ℕ → ℕ → ℕ → Step
low_step signed b p n = step_at 1 signed b (record { 0 = p }) n

abbrev gives : ℕ → ℕ → Step
gives v q = record { field = accepted v; place = record { 0 = q } }

abbrev refuses : ℕ → ℕ → Step
refuses e p = record { field = refused e 0; place = record { 0 = p } }

-- two bytes, 5A 92: sixteen bits
abbrev two : List ℕ
two = 90 ∷ 146 ∷ []

abbrev asked : List Step
asked =
    -- P7: UB[6], then UB[5]. P8: SB[1] of bit 1 is -1
    step false two 0 6 ∷ step false two 6 5 ∷ step true (128 ∷ []) 0 1 ∷
    -- a field up to the end; one bit more; a place at the end, and places past it
    step false two 0 16 ∷ step false two 0 17 ∷ step false two 16 1 ∷ step true two 17 1 ∷ step false two 18446744073709551615 32 ∷
    -- widths of 32 bits and of none and 33, the last past the end too
    step true (255 ∷ 255 ∷ 255 ∷ 254 ∷ []) 0 32 ∷ step false two 3 0 ∷ step true two 3 33 ∷ step false [] 0 33 ∷
    -- low first: 5A is 0, 1, 0, 1, 1, 0, 1, 0 from its low bit on, and 92 is 0, 1, 0, 0, 1, 0, 0, 1. UB[6] is 26, then UB[5] of 1, 0, 0, 1, 0 is 9;
    -- all sixteen bits; SB[4] of the top half of 92 is -7; SB[1] of a low bit that is set is -1
    low_step false two 0 6 ∷ low_step false two 6 5 ∷ low_step false two 0 16 ∷ low_step true two 12 4 ∷ low_step true (1 ∷ []) 0 1 ∷ low_step true (128 ∷ []) 0 1 ∷
    -- 24 comes first, then 17, then 13
    step_at 2 false two (record { 0 = 0 }) 6 ∷ step_at 4294967295 true [] (record { 0 = 5 }) 0 ∷ low_step false two 16 33 ∷ low_step false two 10 7 ∷ []

abbrev expected : List Step
expected =
    gives 22 6 ∷ gives 20 11 ∷ gives 18446744073709551615 1 ∷
    gives 23186 16 ∷ refuses 13 0 ∷ refuses 13 16 ∷ refuses 13 17 ∷ refuses 13 18446744073709551615 ∷
    gives 18446744073709551614 32 ∷ refuses 17 3 ∷ refuses 17 3 ∷ refuses 17 0 ∷
    gives 26 6 ∷ gives 9 11 ∷ gives 37466 16 ∷ gives 18446744073709551609 16 ∷ gives 18446744073709551615 1 ∷ gives 0 1 ∷
    refuses 24 0 ∷ refuses 24 5 ∷ refuses 17 16 ∷ refuses 13 10 ∷ []

pub fields_read : asked ≡ expected
unfolding bit_at ub
fields_read = refl

-- P7 by a reader of these two bytes: made, and asked twice
pub reader_read : (x : Bor (List ℕ)) → x.now ≡ two → taken false (taken false (at_start 0 x) 6).reader 5 ≡ record { reader = record { bytes = x; order = 0; place = record { 0 = 11 } }; field = accepted 20 }
unfolding bit_at ub
reader_read x h = rw h
