-- What the name of a class says of the class, by itself and with the code it was asked for.
use Prim.Native.Nat.{ℕ, ◌/◌, ◌%◌, ◌<◌, ◌≤◌}
use mathlib.Core.Bool.{Bool, true, false}
use mathlib.Core.List.{List, []}
use mathlib.Core.Path.{◌≡◌, ◌∙◌, refl, ap, sym}
use native.Mathlib.Omega.{arith}
use lib.ListN.{get_or, get_or-eq_default}
use lib.Dec.{ltb}
use borrow.Author.Tests.{lt-ltb, le-ltb, ltb-true, ltb-false}
use Rattle.format.specs.Tests.{pick}
use Rattle.format.specs.Bits.{Order}
use Rattle.format.specs.Bodies.{Body, fixed, attributes}
use Rattle.format.specs.FileAndTags as paper
use Rattle.format.specs.FileAndTags.{opaque, end, container, known, codes, class_of, is_end, is_container, is_read}
use Rattle.format.proofs.RoomLaws.{FairClass, fair_class}
use Rattle.classes.specs.declared.Class.{Class}
use Rattle.classes.specs.declared.Class.TheVariants.{Opaque, End, Container, Fixed, Attributes}
use Rattle.classes.specs.declared.Scope.{Scope}
use Rattle.classes.specs.declared.Scope.TheVariants.{All, Lists}
use Rattle.classes.specs.Classes.{named, all_classes, bare, ends, contains, class_at, taken_as, skimmed, class_by}
use Rattle.classes.specs.Tables.{tab, grid}
use Rattle.classes.proofs.Table.{at, at_grid}

-- ---- By its name alone.

pub is_end_lem : (c : paper.Class) → named c ≡ End → c ≡ end
is_end_lem opaque e = cc
is_end_lem end e = refl
is_end_lem (container y) e = cc
is_end_lem (known (fixed f)) e = cc
is_end_lem (known (attributes rows)) e = cc

pub is_opaque_lem : (c : paper.Class) → named c ≡ Opaque → c ≡ opaque
is_opaque_lem opaque e = refl
is_opaque_lem end e = cc
is_opaque_lem (container y) e = cc
is_opaque_lem (known (fixed f)) e = cc
is_opaque_lem (known (attributes rows)) e = cc

-- the rules that look at the name alone
rules_named : (c : paper.Class) → (is_end c ≡ ends (named c)) × (is_container c ≡ contains (named c)) × (is_read c ≡ is_read (bare (named c)))
rules_named opaque = (refl, refl, refl)
rules_named end = (refl, refl, refl)
rules_named (container y) = (refl, refl, refl)
rules_named (known (fixed f)) = (refl, refl, refl)
rules_named (known (attributes rows)) = (refl, refl, refl)

pub ends_named : (c : paper.Class) → is_end c ≡ ends (named c)
ends_named c = (rules_named c).0

pub contains_named : (c : paper.Class) → is_container c ≡ contains (named c)
contains_named c = (rules_named c).1

pub read_named : (c : paper.Class) → is_read c ≡ is_read (bare (named c))
read_named c = (rules_named c).2

pub is_container_lem : (c : paper.Class) → named c ≡ Container → is_container c ≡ true
is_container_lem c e = contains_named c ∙ ap contains e

-- ---- The level.

pub above_level : (level code : ℕ) → level < code → class_of level code ≡ opaque
unfolding class_of
above_level level code h = rw (lt-ltb level code h)

pub up_to_level : (level code : ℕ) → code ≤ level → class_of level code ≡ get_or codes code opaque
unfolding class_of
up_to_level level code h = rw (le-ltb level code h)

-- no code past the listed ones has another class
pub past_codes : (level code : ℕ) → 28 ≤ code → class_of level code ≡ opaque
past_codes level code h = go (ltb level code) refl
  where
    go : (z : Bool) → ltb level code ≡ z → class_of level code ≡ opaque
    go true e = above_level level code (ltb-true level code e)
    go false e = up_to_level level code (ltb-false level code e) ∙ get_or-eq_default codes opaque {n = code} h

-- ---- By its name and the code: one test over the listed codes, which antt computes, serves every level.

-- the class with this name, if y has the fixed bodies, w the blocks and l the own parts of containers, by their codes
abbrev pub spelt : (y w l : ℕ → Body) → Class → ℕ → paper.Class
spelt y w l Opaque code = opaque
spelt y w l End code = end
spelt y w l Container code = container (l code)
spelt y w l Fixed code = known (y code)
spelt y w l Attributes code = known (w code)

-- they are right at each listed code
abbrev pub Right : (y w l : ℕ → Body) → Type 0
Right y w l = codes ≡ tab (λ k. spelt y w l (named (get_or codes k opaque)) k) 0 28

pub by_code_lem : (y w l : ℕ → Body) → Right y w l → (level code : ℕ) → class_of level code ≡ spelt y w l (class_at level code) code
by_code_lem y w l r level code = go (ltb level code) refl (ltb code 28) refl
  where
    go : (z : Bool) → ltb level code ≡ z → (z' : Bool) → ltb code 28 ≡ z' → class_of level code ≡ spelt y w l (class_at level code) code
    go true e z' e' = rw (above_level level code (ltb-true level code e))
    go false e false e' = rw (past_codes level code (ltb-false code 28 e'))
    go false e true e' =
        rw (up_to_level level code (ltb-false level code e))
        (at (λ k. spelt y w l (named (get_or codes k opaque)) k) opaque 28 codes r code (ltb-true code 28 e'))

-- ---- How much a walk reads.

pub named_skimmed : (scope : Scope) (c : paper.Class) → named (skimmed scope c) ≡ taken_as scope (named c)
named_skimmed All c = refl
named_skimmed Lists opaque = refl
named_skimmed Lists end = refl
named_skimmed Lists (container y) = refl
named_skimmed Lists (known (fixed f)) = refl
named_skimmed Lists (known (attributes rows)) = refl

-- the class that a walk takes a code's tag for, step by step: the class at the level, and what it is taken as
pub taken_named : (scope : Scope) (level : ℕ) {code n : ℕ} {listed class : Class} → n ≡ code → listed ≡ class_at level n → class ≡ taken_as scope listed → class ≡ named (class_by scope level code)
taken_named scope level {code} e p q = q ∙ ap (taken_as scope) (p ∙ ap (class_at level) e) ∙ sym (named_skimmed scope (class_of level code))

-- a header passes alike
pub end_skimmed : (scope : Scope) (c : paper.Class) → is_end (skimmed scope c) ≡ is_end c
end_skimmed All c = refl
end_skimmed Lists opaque = refl
end_skimmed Lists end = refl
end_skimmed Lists (container y) = refl
end_skimmed Lists (known y) = refl

pub container_skimmed : (scope : Scope) (c : paper.Class) → is_container (skimmed scope c) ≡ is_container c
container_skimmed All c = refl
container_skimmed Lists opaque = refl
container_skimmed Lists end = refl
container_skimmed Lists (container y) = refl
container_skimmed Lists (known y) = refl

-- and a list needs no more room
pub fair_by : (o : Order) (scope : Scope) (level code : ℕ) → FairClass o (class_by scope level code)
fair_by o scope level code = go scope (class_of level code) (fair_class o level code)
  where
    go : (scope : Scope) (c : paper.Class) → FairClass o c → FairClass o (skimmed scope c)
    go All c h = h
    go Lists opaque h = tt
    go Lists end h = tt
    go Lists (container y) h = h
    go Lists (known y) h = tt

-- by its name and the code
module _ (y w l : ℕ → Body) where
  spelt_skimmed : (scope : Scope) (class : Class) (code : ℕ) → skimmed scope (spelt y w l class code) ≡ spelt y w l (taken_as scope class) code
  spelt_skimmed All class code = refl
  spelt_skimmed Lists Opaque code = refl
  spelt_skimmed Lists End code = refl
  spelt_skimmed Lists Container code = refl
  spelt_skimmed Lists Fixed code = refl
  spelt_skimmed Lists Attributes code = refl

  pub taken_by : Right y w l → (scope : Scope) (level code : ℕ) → class_by scope level code ≡ spelt y w l (named (class_by scope level code)) code
  taken_by r scope level code =
      ap (skimmed scope) (by_code_lem y w l r level code) ∙ spelt_skimmed scope (class_at level code) code
      ∙ ap (λ (c : Class). spelt y w l c code) (sym (named_skimmed scope (class_of level code)))

-- ---- From the table.

-- the code's own rows, by the test that they are the definition's
pub table_at : (rows : List (List Class)) → rows ≡ grid (λ k. named (get_or codes k opaque)) 32 32 → (level code i j : ℕ) (d : Class) → i ≡ code / 32 → j ≡ code % 32 → code < 1024
    → pick (ltb level code) Opaque (get_or (get_or rows i []) j d) ≡ class_at level code
table_at rows r level code i j d p q h = go (ltb level code) refl
  where
    go : (z : Bool) → ltb level code ≡ z → pick z Opaque (get_or (get_or rows i []) j d) ≡ class_at level code
    go true e = sym (ap named (above_level level code (ltb-true level code e)))
    go false e =
        at_grid (λ k. named (get_or codes k opaque)) d 32 32 rows r code i j (omega arith) (omega arith) (omega arith)
        ∙ sym (ap named (up_to_level level code (ltb-false level code e)))

-- the same for rows that are the table
pub class_at_lem : (rows : List (List Class)) → rows ≡ all_classes → (level code i j : ℕ) (d : Class) → i ≡ code / 32 → j ≡ code % 32 → code < 1024
    → pick (ltb level code) Opaque (get_or (get_or rows i []) j d) ≡ class_at level code
unfolding all_classes
class_at_lem rows e = table_at rows e
