-- Whole bytes before a format change nothing of what it is written as.
use Rattle.std.proofs.Common.{◌≡◌, ℕ, ◌+◌, ◌*◌, ◌%◌, Bool, List, [], ◌++◌, length, refl, ap, ◌∙◌, arith, length-append}
use Rattle.format.specs.Bits.{Order}
use Rattle.format.specs.Formats.{Item, Format, nothing, item, only, ◌▹◌}
use Rattle.format.specs.Items.{skipped}
use Rattle.format.specs.Possible.{Possible, this, cannot}
use Rattle.format.specs.WritingItems.{dig, Written, wrote, write_item}
use Rattle.format.specs.WritingFormats.{passing, adjoin, onward, unrun}
use Rattle.format.proofs.BitLaws.{length_dig}
use Rattle.format.proofs.Absurd.{clash}

skipped_shift : (p m : ℕ) → skipped (p + 8 * m) ≡ skipped p
skipped_shift p m = let e : (p + 8 * m) % 8 ≡ p % 8 = omega arith in rw e

item_shift : (o : Order) (i : Item) (ns : List ℕ) (p m : ℕ) → write_item o i ns (p + 8 * m) ≡ write_item o i ns p
unfolding write_item
item_shift o Item.align ns p m = ap (λ (n : ℕ). this (wrote [] (dig o n 0) ns)) (skipped_shift p m)
item_shift o (Item.UB n) ns p m = refl
item_shift o (Item.SB n) ns p m = refl
item_shift o Item.width ns p m = refl
item_shift o Item.dash_length ns p m = refl
item_shift o Item.U32 ns p m = refl
item_shift o Item.U64 ns p m = refl
item_shift o Item.I32 ns p m = refl
item_shift o (Item.flag n) ns p m = refl
item_shift o (Item.echo n) ns p m = refl
item_shift o (Item.Le n) ns p m = refl
item_shift o Item.string ns p m = refl

pub onward_shift : (w : Possible Written) (p m : ℕ) (k : List ℕ → List ℕ → ℕ → Possible Written) → ((xs ys : List ℕ) (q : ℕ) → k xs ys (q + 8 * m) ≡ k xs ys q)
    → onward w (p + 8 * m) k ≡ onward w p k
onward_shift cannot p m k h = refl
onward_shift (this (wrote xs bs ys)) p m k h =
    let e : p + 8 * m + length bs ≡ p + length bs + 8 * m = omega arith in
    ap (adjoin xs bs) (ap (k xs ys) e ∙ h xs ys (p + length bs))

pub shift : (o : Order) (f : Format) (ns : List ℕ) (p m : ℕ) → unrun o f ns (p + 8 * m) ≡ unrun o f ns p
unfolding unrun
shift o nothing ns p m = refl
shift o (item i) ns p m = item_shift o i ns p m
shift o (only t e f) ns p m = ap (passing t) (shift o f ns p m)
shift o (f ▹ g) ns p m =
    ap (λ (w : Possible Written). onward w (p + 8 * m) (λ xs ys q. unrun o (g xs) ys q)) (shift o f ns p m)
    ∙ onward_shift (unrun o f ns p) p m (λ xs ys q. unrun o (g xs) ys q) (λ xs ys q. shift o (g xs) ys q m)

-- what ends with the skip to a whole byte is whole bytes
pub whole_bytes_lem : (o : Order) (w : Possible Written) (xs : List ℕ) (bs : List Bool) (ys : List ℕ) → onward w 0 (λ xs ys q. write_item o Item.align ys q) ≡ this (wrote xs bs ys) → length bs % 8 ≡ 0
unfolding write_item
whole_bytes_lem o cannot xs bs ys h = clash cc
whole_bytes_lem o (this (wrote xs' bs' ys')) xs bs ys h =
    let z : bs ≡ bs' ++ dig o (skipped (0 + length bs')) 0 = cc in
    omega (arith, ap length z, length-append bs' (dig o (skipped (0 + length bs')) 0), length_dig o (skipped (0 + length bs')) 0)
