-- Flag numbers as bits, gathered in one number.
use Prim.Native.Nat.{ℕ, zero, suc, ◌+◌, ◌/◌, ◌%◌, ◌^◌, ◌≤◌, ◌<◌}
use mathlib.Core.List.{List, [], ◌++◌, append-nil, append_assoc}
use mathlib.Core.Path.{◌≡◌, refl, sym, ap, ap₂, ◌∙◌}
use mathlib.Core.Bool.{Bool, true, false}
use native.Mathlib.Omega.{arith}
use lib.Dec.{eqb}
use Rattle.std.specs.Prelude.{Result, Ok, Err}
use borrow.Author.Tests.{eq-eqb, ne_eqb, eqb-true}
use Rattle.format.specs.Tests.{pick}
use Rattle.format.specs.Bits.{Order}
use Rattle.format.specs.Bodies as bodies
use Rattle.format.specs.Possible.{Possible, this, cannot}
use Rattle.format.specs.WritingItems.{dig, glue, before, spell_flag}
use Rattle.format.proofs.BitLaws.{dig_append}
use Rattle.sink.specs.declared.Impossible.{Impossible}
use Rattle.write_blocks.specs.Flags.{flag_spelling, bits_of, noted, Grown, Longer}
use Rattle.write_blocks.specs.declared.field.Flags.{Flags}

-- ---- one flag bit
pub flag_in : (o : Order) (v : ℕ) → v ≤ 1 → spell_flag o v 1 ≡ this (dig o 1 v)
unfolding spell_flag dig
flag_in o zero h = refl
flag_in o (suc zero) h = refl
flag_in o (suc (suc v)) h = absurd (omega arith)

pub flag_no : (o : Order) (v : ℕ) → 1 < v → spell_flag o v 1 ≡ cannot
unfolding spell_flag
flag_no o v h = go (eqb (v % 2) 1)
  where
    n : eqb v 0 ≡ false
    n = ne_eqb v 0 (λ e. omega arith)

    m : eqb (v / 2) 0 ≡ false
    m = ne_eqb (v / 2) 0 (λ e. omega arith)

    go : (c : Bool) → spell_flag o v 1 ≡ cannot
    go c = rw (n, m) (done (eqb (v % 2) 1))
      where
        done : (c : Bool) → pick {A = Possible (List Bool)} c cannot cannot ≡ cannot
        done true = refl
        done false = refl

-- ---- an exist bit; if set, an animatable bit
pub flag_zero : (o : Order) (n v : ℕ) → v ≡ 0 → spell_flag o v (suc n) ≡ this (dig o 1 0)
unfolding spell_flag
flag_zero o n v e = rw e

pub two_one : (o : Order) (v : ℕ) {x : ℕ} → v ≡ 1 → x ≡ glue o 1 1 1 0 → spell_flag o v 2 ≡ this (dig o 2 x)
unfolding spell_flag dig
two_one o v e d = rw (e, d) (ap this (sym (dig_append o 1 1 1 0 (omega arith) (omega arith))))

pub two_three : (o : Order) (v : ℕ) {x : ℕ} → v ≡ 3 → x ≡ glue o 1 1 1 1 → spell_flag o v 2 ≡ this (dig o 2 x)
unfolding spell_flag dig
two_three o v e d = rw (e, d) (ap this (sym (dig_append o 1 1 1 1 (omega arith) (omega arith))))

pub two_no : (o : Order) (v : ℕ) → (v ≡ 0 → ⊥) → (v ≡ 1 → ⊥) → (v ≡ 3 → ⊥) → spell_flag o v 2 ≡ cannot
unfolding spell_flag
two_no o v a b c = go (eqb (v % 2) 1) refl
  where
    m : 1 < v / 2 → spell_flag o (v / 2) 1 ≡ cannot
    m h = flag_no o (v / 2) h

    go : (d : Bool) → eqb (v % 2) 1 ≡ d → spell_flag o v 2 ≡ cannot
    go false e = rw (ne_eqb v 0 a, e)
    go true e = rw (ne_eqb v 0 a, e, m (omega (arith, eqb-true (v % 2) 1 e)))

-- ---- a number that is not 0: no flags, or an exist bit and the flags after it
pub flag_even : (o : Order) (n v : ℕ) → (v ≡ 0 → ⊥) → v % 2 ≡ 0 → spell_flag o v (suc n) ≡ cannot
unfolding spell_flag
flag_even o n v a e = rw (ne_eqb v 0 a, e)

flag_odd : (o : Order) (n v : ℕ) → (v ≡ 0 → ⊥) → (v % 2 ≡ 0 → ⊥) → spell_flag o v (suc n) ≡ before (dig o 1 1) (spell_flag o (v / 2) n)
unfolding spell_flag
flag_odd o n v a e = rw (ne_eqb v 0 a, eq-eqb (v % 2) 1 (odd e))
  where
    odd : (v % 2 ≡ 0 → ⊥) → v % 2 ≡ 1
    odd h = omega arith

before_append : (xs ys : List Bool) (b : Possible (List Bool)) → before (xs ++ ys) b ≡ before xs (before ys b)
before_append xs ys (this bs) = ap this (append_assoc xs ys bs)
before_append xs ys cannot = refl

-- ---- bits after those that were gathered, m more at most
abbrev pub Adds : ℕ → Order → Flags → Possible (List Bool) → Result Flags Impossible → Type 0
Adds m o f b r = (noted o r ≡ before (bits_of o f) b) × Grown m f.width r

longer_bits : (o : Order) (f g : Flags) (n x : ℕ) → x < 2 ^ n → Longer o f n x g → bits_of o g ≡ bits_of o f ++ dig o n x
longer_bits o f g n x s m = rw (m.longer, m.glued) (dig_append o f.width n f.bits x f.held s)

module _ (m : ℕ) (o : Order) (f : Flags) {b : Possible (List Bool)} where
  -- n bits more, as the field x
  pub add_in : (n x : ℕ) {g : Flags} → n ≤ m → x < 2 ^ n → Longer o f n x g → b ≡ this (dig o n x) → Adds m o f b (Ok g)
  add_in n x {g} l s z e = (rw e (ap this (longer_bits o f g n x s z)), omega (arith, z.longer))

  pub add_none : b ≡ this [] → Adds m o f b (Ok f)
  add_none e = (rw e (ap this (sym (append-nil (bits_of o f)))), omega arith)

  pub add_no : (z : Impossible) → b ≡ cannot → Adds m o f b (Err z)
  add_no z e = (rw e refl, tt)

-- m bits more at most are n more at most
wide : (m n w v : ℕ) (r : Result Flags Impossible) → w + m ≤ v + n → Grown m w r → Grown n v r
wide m n w v (Ok g) l h = omega arith
wide m n w v (Err e) l h = tt

-- an exist bit was added, and then the flags after it
pub add_after : (o : Order) (f g : Flags) (v w : ℕ) (r : Result Flags Impossible) → (v ≡ 0 → ⊥) → (v % 2 ≡ 0 → ⊥) → w ≡ v / 2 → Longer o f 1 1 g → Adds 2 o g (spell_flag o w 2) r → Adds 3 o f (spell_flag o v 3) r
add_after o f g v w r a e d l k =
    let p : before (bits_of o g) (spell_flag o w 2) ≡ before (bits_of o f) (spell_flag o v 3) =
    ap₂ (λ (xs : List Bool) (u : ℕ). before xs (spell_flag o u 2)) (longer_bits o f g 1 1 (omega arith) l) d
    ∙ before_append (bits_of o f) (dig o 1 1) (spell_flag o (v / 2) 2) ∙ ap (before (bits_of o f)) (sym (flag_odd o 2 v a e)) in
    (k.0 ∙ p, wide 2 3 g.width f.width r (omega (arith, l.longer)) k.1)

-- no bit
pub fixed_in : (o : Order) (v : ℕ) → v ≡ 1 → flag_spelling o bodies.Fixed v ≡ this []
fixed_in o v e = rw (eq-eqb v 1 e)

pub fixed_no : (o : Order) (v : ℕ) → (v ≡ 1 → ⊥) → flag_spelling o bodies.Fixed v ≡ cannot
fixed_no o v e = rw (ne_eqb v 1 e)
