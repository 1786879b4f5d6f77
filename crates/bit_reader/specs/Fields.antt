-- Document 01, 'Ways of holding things': what the bit reader answers for a field of n bits at bit place p of the bytes b. Its order is a number (C-18).
use Rattle.std.specs.Prelude.{ℕ, ◌+◌, ◌^◌, Bool, true, false, List, leb, ltb}
use Rattle.format.specs.Tests.{pick, ◌and◌}
use Rattle.format.specs.Bits.{Order, order_named, ub}
use Rattle.format.specs.Items.{Num, num, bad, room, sign_extend}
use Rattle.format.specs.Reasons.{Answer, accepted, refused}
use Rattle.bits.specs.declared.BitPlace.{BitPlace}

-- UB is unsigned; SB is sign-extended, and a negative number is kept modulo 2 ^ 64
abbrev pub value_of : Bool → ℕ → ℕ → ℕ
value_of false n v = v
value_of true n v = sign_extend n v

-- a field past the end is 13. A place has 64 bits: a field whose next place has more is past every end
abbrev pub in_bytes : Order → Bool → List ℕ → ℕ → ℕ → Num
in_bytes o signed b p n = pick (room b p n and ltb (p + n) (2 ^ 64)) (num (value_of signed n (ub o b p n)) (p + n)) (bad 13)

-- (C-18) 24 for an order that is neither comes first; a width outside 1 to 32 gives 17, then a field past the end 13
abbrev pub field_of : ℕ → Bool → List ℕ → ℕ → ℕ → Num
field_of order signed b p n = pick (ltb 1 order) (bad 24) (pick (leb 1 n and leb n 32) (in_bytes (order_named order) signed b p n) (bad 17))

-- a field's answer, and the place afterwards
pub record Step : Type 0 where
  pub field : Answer
  pub place : BitPlace

-- an acceptance has the value and the next place; a refusal has number 0, and its place stays
abbrev pub step_of : BitPlace → Num → Step
step_of at (num v q) = record { field = accepted v; place = record { 0 = q } }
step_of at (bad e) = record { field = refused e 0; place = at }

-- what a field at a place gives
abbrev pub step_at : ℕ → Bool → List ℕ → BitPlace → ℕ → Step
step_at order signed b at n = step_of at (field_of order signed b at.0 n)
