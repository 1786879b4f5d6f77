-- The body of CompositionAttributes: where its reading ends well it shows seven numbers, and its faults have reasons of bodies (13 and above).
use Prim.Native.Nat.{ℕ, zero, suc, ◌+◌, ◌*◌, ◌≤◌}
use mathlib.Core.List.{List, ◌++◌}
use mathlib.Core.Path.{◌≡◌, refl}
use mathlib.Core.Bool.{Bool, true, false}
use native.Mathlib.Omega.{arith}
use lib.ListN.{length, length-append}
use lib.Dec.{ltb, leb, eqb}
use Rattle.format.specs.Tests.{pick}
use Rattle.format.specs.Bits.{Order, ub}
use Rattle.format.specs.Reading.{Ending, At, Fault, Reading, follow}
use Rattle.format.specs.Formats.{Item, Format, nothing, ◌▸◌, times}
use Rattle.format.specs.Items.{skipped, room, Num, num, bad, show_num, map_num, carry, read_var, sign, not_one, above, read_le, read_align, read_item, run, byte_item}
use Rattle.format.specs.Bodies.{composition_attributes, fixed, read_part, to_end, used_up, read_body}

abbrev pub SureEnd : ℕ → List ℕ → Ending → Type 0
SureEnd n xs (At p) = length xs ≡ n
SureEnd n xs (Fault e) = 13 ≤ e

-- n numbers where it ends well; and where it faults, a reason of bodies
abbrev pub Sure : ℕ → Reading → Type 0
Sure n r = SureEnd n r.shown r.ended

either_way : {A : Type 0} (P : A → Type 0) (c : Bool) {x y : A} → P x → P y → P (pick c x y)
either_way P true h k = h
either_way P false h k = k

sure_follow : (n m : ℕ) (xs : List ℕ) (z : Ending) (k : List ℕ → ℕ → Reading) → SureEnd n xs z → ((p : ℕ) → Sure m (k xs p)) → Sure (n + m) (follow xs z k)
sure_follow n m xs (At p) k h l = go (k xs p).shown (k xs p).ended (l p)
  where
    go : (ys : List ℕ) (z : Ending) → SureEnd m ys z → SureEnd (n + m) (xs ++ ys) z
    go ys (At q) s = omega (arith, h, s, length-append xs ys)
    go ys (Fault e) s = s
sure_follow n m xs (Fault e) k h l = h

-- ---- items: 13 and 14, and 15 for skipped bits
abbrev SureNum : Num → Type 0
SureNum r = Sure 1 (show_num r)

sure_map : (f : ℕ → ℕ) (r : Num) → SureNum r → SureNum (map_num f r)
sure_map f (num v p) h = refl
sure_map f (bad e) h = h

sure_carry : (x : ℕ) (r : Num) → SureNum r → SureNum (carry x r)
sure_carry x (num zero p) h = omega arith
sure_carry x (num (suc v) p) h = refl
sure_carry x (bad e) h = h

sure_not_one : (r : Num) → SureNum r → SureNum (not_one r)
sure_not_one (num d p) h = either_way SureNum (eqb d 1) (omega arith) refl
sure_not_one (bad e) h = h

sure_above : (x : ℕ) (r : Num) → SureNum r → SureNum (above x r)
sure_above x (num v p) h = refl
sure_above x (bad e) h = h

module _ (o : Order) (b : List ℕ) where
  sure_var : (c p k : ℕ) → SureNum (read_var o b c p k)
  unfolding read_var
  sure_var c p zero = either_way SureNum (room b p 8) (either_way SureNum (leb (ub o b p 8) c) refl (omega arith)) (omega arith)
  sure_var c p (suc k) = either_way SureNum (room b p 8)
      (either_way SureNum (ltb (ub o b p 8) 128) refl (sure_carry (ub o b p 8) (read_var o b c (p + 8) k) (sure_var c (p + 8) k))) (omega arith)

  sure_le : (p n : ℕ) → SureNum (read_le o b p n)
  unfolding read_le
  sure_le p zero = refl
  sure_le p (suc n) = either_way SureNum (room b p 8) (sure_above (ub o b p 8) (read_le o b (p + 8) n) (sure_le (p + 8) n)) (omega arith)

  sure_align : (p : ℕ) → Sure 0 (read_align o b p)
  sure_align p = either_way (Sure 0) (eqb (ub o b p (skipped p)) 0) refl (omega arith)

  -- ---- formats
  pub record SureOf (n : ℕ) (f : Format) : Type 0 where
    pub ends : (p : ℕ) → Sure n (run o b f p)

  sure_then : {n m : ℕ} {f g : Format} → SureOf n f → SureOf m g → SureOf (n + m) (f ▸ g)
  unfolding run
  sure_then {n} {m} {f} {g} h k = record { ends = λ p. sure_follow n m (run o b f p).shown (run o b f p).ended (λ xs q. run o b g q) (h.ends p) k.ends }

  -- an item of one number, at the next whole byte
  sure_byte : (i : Item) → ((p : ℕ) → Sure 1 (read_item o b i p)) → SureOf 1 (byte_item i)
  unfolding run read_item
  sure_byte i h = sure_then {n = 0} {m = 1} (record { ends = sure_align }) (record { ends = h })

  i32s : SureOf 1 (byte_item Item.I32)
  unfolding read_item
  i32s = sure_byte Item.I32 (λ p. sure_map sign (not_one (read_var o b 15 p 4)) (sure_not_one (read_var o b 15 p 4) (sure_var 15 p 4)))

  times_of_lem : SureOf 1 (byte_item Item.U64)
  unfolding read_item
  times_of_lem = sure_byte Item.U64 (λ p. sure_var 1 p 9)

  floats : SureOf 1 (byte_item (Item.Le 4))
  unfolding read_item
  floats = sure_byte (Item.Le 4) (λ p. sure_le p 4)

  bytes : SureOf 1 (byte_item (Item.UB 8))
  unfolding read_item
  bytes = sure_byte (Item.UB 8) (λ p. either_way SureNum (room b p 8) refl (omega arith))

  none_of : SureOf 0 nothing
  unfolding run
  none_of = record { ends = λ p. refl }

  colors : SureOf 3 (times 3 (byte_item (Item.UB 8)))
  unfolding times
  colors = sure_then bytes (sure_then bytes (sure_then bytes none_of))

  composition : SureOf 7 composition_attributes
  composition = sure_then i32s (sure_then i32s (sure_then times_of_lem (sure_then floats colors)))

  pub canvas_sure : Sure 7 (read_body o (fixed composition_attributes) b)
  unfolding read_body read_part
  canvas_sure = go (to_end o b (fixed composition_attributes)).shown (to_end o b (fixed composition_attributes)).ended
      (sure_follow 7 0 (run o b composition_attributes 0).shown (run o b composition_attributes 0).ended (λ xs p. read_align o b p) (composition.ends 0) sure_align)
    where
      go : (xs : List ℕ) (z : Ending) → SureEnd 7 xs z → Sure 7 (used_up (8 * length b) xs z)
      go xs (At p) h = either_way (SureEnd 7 xs) (eqb p (8 * length b)) h (omega arith)
      go xs (Fault e) h = h
