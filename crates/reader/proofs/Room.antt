-- How much an integrator lends (C-21), from the promises of the two calls alone.
use Prim.Native.Nat.{ℕ, ◌*◌, ◌≤◌, ◌<◌}
use mathlib.Core.List.{List}
use mathlib.Core.Path.{◌≡◌, refl}
use lib.ListN.{length}
use native.Mathlib.Omega.{arith}
use Rattle.format.specs.Reasons.{Result, gives, refuses}
use Rattle.format.proofs.RoomLaws.{table_room, tags_room}
use Rattle.format.proofs.ReasonLaws.{read_reason, tags_reason, not_19}
use Rattle.format.proofs.CallLaws.{Why, faulty, full, kept}
use Rattle.reasons.specs.declared.Reason.TheVariants.{TableTooShort}
use Rattle.answers.specs.declared.Answer.TheVariants.{Refused}
use Rattle.reader.proofs.Demands.{Call, read, tags, reading, Promise}

-- "reading an accepted file of n bytes never needs more than 8 × n numbers, …, and the tag table never needs more than 5 × n"
abbrev pub numbers_abyte : Call → ℕ
numbers_abyte read = 8
numbers_abyte tags = 5

-- "The needed number is the length of the defined table": what a refusal by 19 with n says
pub record Needs (x : Call) (order level : ℕ) (f m : List ℕ) (n : ℕ) : Type 0 where
  pub table : List ℕ
  pub defined : reading x order level f ≡ gives table
  pub needed : n ≡ length table
  pub short : length m < n

module _ (x : Call) (order level : ℕ) (f m m' : List ℕ) (n : ℕ) (p : Promise x order level f m m' (Refused TableTooShort n)) where
  pub needs : Needs x order level f m n
  needs = why (reading x order level f) refl (kept m (reading x order level f) p refl).why
    where
      never : (x : Call) {k : ℕ} → reading x order level f ≡ refuses 19 k → ⊥
      never read e = not_19 (read_reason order level f e) refl
      never tags e = not_19 (tags_reason order level f e) refl

      why : (S : Result) → reading x order level f ≡ S → Why m 19 n S → Needs x order level f m n
      why S e faulty = absurd (never x e)
      why S e (full {ns} a b c) = record { table = ns; defined = e; needed = b; short = omega arith }

  -- so it was lent less than 8 or 5 numbers for each byte of the file
  pub too_little : length m < numbers_abyte x * length f
  too_little = let u : Needs x order level f m n = needs in omega (arith, u.short, u.needed, most x u.table u.defined)
    where
      most : (x : Call) (t : List ℕ) → reading x order level f ≡ gives t → length t ≤ numbers_abyte x * length f
      most read t e = table_room order level f t e
      most tags t e = tags_room order level f t e

-- with 8 × n numbers lent for a file of n bytes `read` is never refused by 19, and with 5 × n `tags` is not
pub never_19 : (x : Call) (order level : ℕ) (f m m' : List ℕ) {n : ℕ} → numbers_abyte x * length f ≤ length m → Promise x order level f m m' (Refused TableTooShort n) → ⊥
never_19 x order level f m m' {n} l p = absurd (omega (arith, too_little x order level f m m' n p))
