-- Tests, and what depends on them. The library's `eqb a b` tests a = b, `ltb a b` tests a < b, and `leb a b` tests a ≤ b.
use Rattle.std.specs.Prelude.{Bool, true, false}

-- if the test holds a, else b
abbrev pub pick {ℓ} : {A : Type ℓ} → Bool → A → A → A
pick true a b = a
pick false a b = b

infixr 30 ◌and◌
infixr 25 ◌or◌
-- both tests hold; one of them does
abbrev pub ◌and◌ : Bool → Bool → Bool
s and t = pick s t false

abbrev pub ◌or◌ : Bool → Bool → Bool
s or t = pick s true t
