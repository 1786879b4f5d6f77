-- The body of a tag by its code: an attribute block, or fixed items.
use Prim.Native.Nat.{ℕ, zero, suc, ◌≤◌, ◌<◌}
use mathlib.Core.List.{List}
use mathlib.Core.Path.{◌≡◌, refl, ap, subst, sym, ◌∙◌}
use mathlib.Core.Bool.{Bool, true, false}
use native.Mathlib.Omega.{arith}
use lib.Dec.{leb, eqb}
use borrow.Author.Tests.{ne_eqb, eqb-true, eqb-false, leb-true, leb-false}
use Rattle.format.specs.Tests.{pick, ◌and◌}
use Rattle.format.specs.Bits.{Order}
use Rattle.format.specs.Bodies as bodies
use Rattle.format.specs.Bodies.{fixed, attributes}
use Rattle.format.specs.Possible.{Possible}
use Rattle.format.specs.WritingBodies.{write_body}
use Rattle.format.proofs.Absurd.{clash}
use Rattle.attributes.specs.Rows.{attributes_of, attributes_in}
use Rattle.attributes.specs.declared.Attribute.{Attribute}
use Rattle.fixed.specs.Fixed.{fixed_of}
use Rattle.bodies.specs.Leaf.{is_block, leaf_body}
use Rattle.sink.specs.Lain.{Lain, lies}
use Rattle.write_blocks.specs.Flags.{any_flag, most_flags, HasFlags}

-- ---- each block has flags, and they are one field: a test over the codes, which antt computes
abbrev flagged : ℕ → Bool
flagged code = pick (is_block code) (any_flag (attributes_of code) and leb (most_flags (attributes_of code)) 32) true

abbrev every : (ℕ → Bool) → ℕ → Bool
every f zero = true
every f (suc n) = pick (f n) (every f n) false

every_at : (f : ℕ → Bool) (n i : ℕ) → every f n ≡ true → i < n → f i ≡ true
every_at f zero i e h = absurd (omega arith)
every_at f (suc n) i e h = go (f n) refl (eqb i n) refl e (every_at f n i)
  where
    go : (c : Bool) → f n ≡ c → (d : Bool) → eqb i n ≡ d → pick c (every f n) false ≡ true → (every f n ≡ true → i < n → f i ≡ true) → f i ≡ true
    go true p true q e rest = ap f (eqb-true i n q) ∙ p
    go true p false q e rest = rest e (let z = eqb-false i n q in omega (arith, z))
    go false p d q e rest = clash cc

all_flagged : every flagged 28 ≡ true
unfolding attributes_of any_flag most_flags
all_flagged = refl

block_low : (code : ℕ) → is_block code ≡ true → code < 28
block_low code h = go (leb code 27) refl
  where
    go : (c : Bool) → leb code 27 ≡ c → code < 28
    go true e = let l : code ≤ 27 = leb-true code 27 e in omega arith
    go false e =
        let l : 27 < code = leb-false code 27 e in
        let z : true ≡ false =
        sym h ∙ rw (ne_eqb code 6 (λ q. omega arith), ne_eqb code 9 (λ q. omega arith), ne_eqb code 10 (λ q. omega arith), e) (none (leb 13 code)) in
        clash cc
      where
        none : (c : Bool) → c and false ≡ false
        none true = refl
        none false = refl

pub block_flags : (code : ℕ) → is_block code ≡ true → HasFlags (attributes_of code)
block_flags code h = both (any_flag (attributes_of code)) refl (leb (most_flags (attributes_of code)) 32) refl (rw h at (every_at flagged 28 code all_flagged (block_low code h)))
  where
    both : (c : Bool) → any_flag (attributes_of code) ≡ c → (d : Bool) → leb (most_flags (attributes_of code)) 32 ≡ d → any_flag (attributes_of code) and leb (most_flags (attributes_of code)) 32 ≡ true → HasFlags (attributes_of code)
    both true p true q e = record { any = p; few = leb-true (most_flags (attributes_of code)) 32 q }
    both true p false q e = let z : true ≡ false = sym e ∙ rw (p, q) in clash cc
    both false p d q e = let z : true ≡ false = sym e ∙ rw p in clash cc

-- ---- as the code has it
module _ (code : ℕ) (rows : List Attribute) (block : is_block code ≡ true) (are : attributes_in rows ≡ attributes_of code) where
  pub rows_flags : HasFlags (attributes_in rows)
  rows_flags = subst HasFlags (sym are) (block_flags code block)

  pub body_block : (o : Order) (vs out : List ℕ) (a : ℕ) {x : Possible Lain} → x ≡ lies out a (write_body o (attributes (attributes_in rows)) vs) → x ≡ lies out a (write_body o (leaf_body code) vs)
  unfolding leaf_body
  body_block o vs out a h = rw block (h ∙ ap (λ (l : List bodies.Attribute). lies out a (write_body o (attributes l) vs)) are)

pub body_fixed : (o : Order) (vs out : List ℕ) (a code : ℕ) {x : Possible Lain} → is_block code ≡ false → x ≡ lies out a (write_body o (fixed (fixed_of code)) vs) → x ≡ lies out a (write_body o (leaf_body code) vs)
unfolding leaf_body
body_fixed o vs out a code c h = rw c h
