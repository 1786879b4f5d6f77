-- The single's answer as a plain struct: reason 0 means accepted, with the bits in the number.
use Prim.Native.Nat.{ℕ, suc, ◌+◌, ◌^◌, ◌≤◌}
use mathlib.Core.Bool.{Bool, true, false}
use mathlib.Core.Path.{◌≡◌}
use native.Mathlib.Omega.{arith}
use lib.Dec.{leb}
use lib.IntN.{ℤ, pos, negsuc}
use Rattle.format.specs.Tests.{pick}
use Rattle.format.specs.Reasons.{accepted, refused}
use Rattle.format.proofs.Absurd.{clash}
use Rattle.singles.specs.Single.{magnitude, single}
use Rattle.pag.specs.declared.PagAnswer.{PagAnswer}
use Rattle.pag.specs.Plain.{plain_of}
use Rattle.pag.proofs.IndexLaws.{plain_accepted}

pub single_accepted : (z : ℤ) {r : PagAnswer} → r ≡ plain_of (single z) → r.reason ≡ 0 → single z ≡ accepted r.number
single_accepted z p s = plain_accepted (single z) (named z) p s
  where
    go : (m : ℕ) (b : Bool) (e n : ℕ) → pick b (accepted m) (refused 29 0) ≡ refused e n → 1 ≤ e
    go m true e n q = clash cc
    go m false e n q = let z : 29 ≡ e = cc in omega (arith, z)

    named : (z : ℤ) (e n : ℕ) → single z ≡ refused e n → 1 ≤ e
    named (pos k) e n q = go (0 + magnitude k) (leb k 16777216) e n q
    named (negsuc k) e n q = go (2 ^ 31 + magnitude (suc k)) (leb (suc k) 16777216) e n q
