-- A case that cannot be: its equations make 0 equal 1, as congruence closure (`cc`) finds. And one that is left to a test.
use Prim.Native.Nat.{ℕ}
use mathlib.Core.Path.{◌≡◌}
use mathlib.Core.Bool.{Bool, true, false}
use native.Mathlib.Omega.{arith}
use Rattle.format.specs.Tests.{pick}

pub clash : {A : Type 0} → ◌≡◌ {A = ℕ} 0 1 → A
clash e = absurd (omega (arith, e))

-- what holds both ways holds of a test's outcome
pub either_way : {A : Type 0} (P : A → Type 0) (c : Bool) {x y : A} → P x → P y → P (pick c x y)
either_way P true h k = h
either_way P false h k = k
