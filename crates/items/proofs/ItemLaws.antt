-- Every item that shows one number: the skip to a whole byte (15), its bytes (13, 14), its range (16, 17). Assumes nothing.
use std.HLevel.{prop→path_p}
use native.Mathlib.Nat.{ℕ_set}
use Rattle.std.proofs.Common.{◌≡◌, ℕ, zero, suc, ◌+◌, ◌*◌, ◌/◌, ◌%◌, ◌^◌, ◌<◌, ◌≤◌, Bool, true, false, eqb, ltb, leb, List, [], ◌∷◌, length, sym, refl, ap, ◌∙◌, add-zero, arith, lit≤, ltb-false, ltb-true, eq-eqb, ne_eqb, eqb-true, leb-true}
use borrow.Author.Tests.{eqb-false}
use Rattle.format.specs.Tests.{pick, ◌and◌}
use Rattle.format.specs.Bits.{Order, ub}
use Rattle.format.specs.Reading.{Reading, Ending, At, shows, stop}
use Rattle.format.specs.Formats as formats
use Rattle.format.specs.Formats.{only}
use Rattle.format.specs.Items.{Num, num, bad, room, skipped, above, read_le, read_u32, read_ub, map_num, not_one, sign, byte_item, read_item, read_align, judge, show_num, run}
use Rattle.format.proofs.BitLaws.{ub_lt}
use Rattle.format.proofs.Absurd.{clash}
use Rattle.bits.specs.Places.{num_of}
use Rattle.bits.proofs.FieldLaws.{num_one}
use Rattle.bits.specs.declared.Number.{Number}
use Rattle.reasons.specs.declared.Reason.{Reason}
use Rattle.reasons.specs.Numbers.{number_of, fault_of}
use Rattle.reasons.proofs.NumberLaws.{number_one}
use Rattle.std.specs.Prelude.{Result, Ok, Err}
use Rattle.items.specs.Kinds.{format_of, spelt, range_fault, by_bits}
use Rattle.items.specs.declared.Item.{Item}
use Rattle.items.specs.declared.Item.TheVariants.{U32, I32, Time, Float, Uint16, Byte, Enum, BlendMode, Count}
use Rattle.items.specs.declared.Spelled.{Spelled}
use Rattle.items.proofs.VarLaws.{IsByte, byte_is, room_is, room_not, Below, var_below}

-- ---- what an answer tells a caller
module _ {r : Result Number Reason} {w : Reading} (so : show_num (num_of r) ≡ w) where
  pub got_value : {n : Number} → r ≡ Ok n → w ≡ shows (n.value ∷ []) n.next.0
  got_value e = sym so ∙ ap (λ (g : Result Number Reason). show_num (num_of g)) e

  pub got_fault : {e : Reason} → r ≡ Err e → w ≡ stop (number_of e)
  got_fault e = sym so ∙ ap (λ (g : Result Number Reason). show_num (num_of g)) e

-- no second answer fits a promise that shows a number or a reason
pub shown_one : (a b : Result Number Reason) → show_num (num_of a) ≡ show_num (num_of b) → a ≡ b
shown_one a b e = num_one a b (go (num_of a) (num_of b) (ap (λ (r : Reading). r.shown) e) (ap (λ (r : Reading). r.ended) e))
  where
    go : (m n : Num) → (show_num m).shown ≡ (show_num n).shown → (show_num m).ended ≡ (show_num n).ended → m ≡ n
    go (num v p) (num w q) c z = let d : v ≡ w = cc in let f : p ≡ q = cc in λ i. num (d i) (f i)
    go (num v p) (bad e) c z = clash cc
    go (bad e) (num v p) c z = clash cc
    go (bad e) (bad f) c z = let d : e ≡ f = cc in ap bad d

-- and none that names the whole byte behind the number, in both counts
pub spelled_one : (a b : Result Spelled Reason) → show_num (num_of (by_bits a)) ≡ show_num (num_of (by_bits b)) → a ≡ b
spelled_one a b e = go a b (ap num_of (shown_one (by_bits a) (by_bits b) e))
  where
    go : (a b : Result Spelled Reason) → num_of (by_bits a) ≡ num_of (by_bits b) → a ≡ b
    go (Ok s) (Ok t) e =
        let d : s.value ≡ t.value = cc in
        let f : s.next.bit.0 ≡ t.next.bit.0 = cc in
        let g : s.next.byte.0 ≡ t.next.byte.0 = omega (arith, s.next.same, t.next.same) in
        λ i. Ok (record { value = d i; next = record { byte = record { 0 = g i }; bit = record { 0 = f i }; same = prop→path_p (λ j. ◌≡◌ {A = ℕ} (f j) (8 * g j)) (ℕ_set _ _) s.next.same t.next.same i } })
    go (Ok s) (Err z) e = clash cc
    go (Err z) (Ok s) e = clash cc
    go (Err y) (Err z) e = let d : number_of y ≡ number_of z = cc in ap Err (number_one y z d)

-- ---- a Float and a Uint16: bytes, lowest first
module _ (o : Order) (s : List ℕ) where
  le_more : (i p n : ℕ) {x : ℕ} → p ≡ 8 * i → i < length s → IsByte s i x → read_le o s p (suc n) ≡ above x (read_le o s (p + 8) n)
  unfolding read_le
  le_more i p n at h y = rw (room_is s i p at h, byte_is o s i p at y)

  pub le_past : (i p n : ℕ) → p ≡ 8 * i → i ≤ length s → length s < i + n → read_le o s p n ≡ bad 13
  unfolding read_le
  le_past i p zero at l h = absurd (omega arith)
  le_past i p (suc n) at l h = go (ltb i (length s)) refl (λ k. le_past (i + 1) (p + 8) n (omega arith) (omega arith) (omega arith))
    where
      go : (t : Bool) → ltb i (length s) ≡ t → (i < length s → read_le o s (p + 8) n ≡ bad 13) → read_le o s p (suc n) ≡ bad 13
      go true e u = let k : i < length s = ltb-true i (length s) e in rw (room_is s i p at k, u k)
      go false e u = rw (room_not s i p at (ltb-false i (length s) e))

  pub float_is : (i p : ℕ) {b0 b1 b2 b3 q : ℕ} → p ≡ 8 * i → i + 4 ≤ length s → IsByte s i b0 → IsByte s (i + 1) b1 → IsByte s (i + 2) b2 → IsByte s (i + 3) b3 → q ≡ p + 32
      → num (b0 + 256 * (b1 + 256 * (b2 + 256 * b3))) q ≡ read_le o s p 4
  unfolding read_le
  float_is i p {b3 = b3} at l y0 y1 y2 y3 e =
      let f : p + 32 ≡ p + 8 + 8 + 8 + 8 = omega arith in
      let g : b3 + 256 * 0 ≡ b3 = omega arith in
      sym (rw (le_more i p 3 at (omega arith) y0, le_more (i + 1) (p + 8) 2 (omega arith) (omega arith) y1, le_more (i + 2) (p + 8 + 8) 1 (omega arith) (omega arith) y2, le_more (i + 3) (p + 8 + 8 + 8) 0 (omega arith) (omega arith) y3, g, e, f))

  pub uint16_is : (i p : ℕ) {b0 b1 q : ℕ} → p ≡ 8 * i → i + 2 ≤ length s → IsByte s i b0 → IsByte s (i + 1) b1 → q ≡ p + 16 → num (b0 + 256 * b1) q ≡ read_le o s p 2
  unfolding read_le
  uint16_is i p {b1 = b1} at l y0 y1 e =
      let f : p + 16 ≡ p + 8 + 8 = omega arith in
      let g : b1 + 256 * 0 ≡ b1 = omega arith in
      sym (rw (le_more i p 1 at (omega arith) y0, le_more (i + 1) (p + 8) 0 (omega arith) (omega arith) y1, g, e, f))

  le_below : (p n : ℕ) → Below (256 ^ n) (read_le o s p n)
  unfolding read_le
  le_below p zero = omega arith
  le_below p (suc n) = go (room s p 8) (read_le o s (p + 8) n) (le_below (p + 8) n)
    where
      go : (t : Bool) (r : Num) → Below (256 ^ n) r → Below (256 ^ suc n) (pick t (above (ub o s p 8) r) (bad 13))
      go true (num v q) h = omega (arith, ub_lt o s p 8)
      go true (bad e) h = tt
      go false r h = tt

below_more : {m n : ℕ} → m ≤ n → (r : Num) → Below m r → Below n r
below_more l (num v q) h = omega arith
below_more l (bad e) h = tt

ub_below : (o : Order) (s : List ℕ) (p : ℕ) → Below (2 ^ 64) (read_ub o s p 8)
ub_below o s p = go (room s p 8)
  where
    go : (t : Bool) → Below (2 ^ 64) (pick t (num (ub o s p 8) (p + 8)) (bad 13))
    go true = omega (arith, ub_lt o s p 8)
    go false = tt

-- ---- an I32 is made of a U32
module _ {w : Num} {d q : ℕ} (so : num d q ≡ w) where
  pub i32_one : d ≡ 1 → bad 14 ≡ map_num sign (not_one w)
  i32_one e = rw (← so, e)

  pub i32_even : (d ≡ 1 → ⊥) → d % 2 ≡ 0 → num (d / 2) q ≡ map_num sign (not_one w)
  i32_even n e = rw (← so, ne_eqb d 1 n, eq-eqb (d % 2) 0 e)

  -- the difference from 0 wraps
  pub i32_odd : {r : ℕ} → (d ≡ 1 → ⊥) → (d % 2 ≡ 0 → ⊥) → d < 2 ^ 64 → r < 2 ^ 64 → (r + d / 2) % 2 ^ 64 ≡ 0 → num r q ≡ map_num sign (not_one w)
  i32_odd n e l m f = rw (← so, ne_eqb d 1 n, ne_eqb (d % 2) 0 e) (ap (λ (x : ℕ). num x q) (omega arith))

pub i32_bad : {w : Num} {e : ℕ} → bad e ≡ w → bad e ≡ map_num sign (not_one w)
i32_bad so = rw (← so)

-- ---- an item is its bytes from the next whole byte on, in its range
abbrev ranged : Item → Num → Num
ranged k (num v q) = pick (eqb (range_fault k v) 0) (num v q) (bad (range_fault k v))
ranged k (bad e) = bad e

ranged_all : (k : Item) → ((v : ℕ) → range_fault k v ≡ 0) → (n : Num) → ranged k n ≡ n
ranged_all k f (num v q) = rw (f v)
ranged_all k f (bad e) = refl

ranged_only : (k : Item) (t : List ℕ → Bool) (e : ℕ) → eqb e 0 ≡ false → ((v : ℕ) → range_fault k v ≡ pick (t (v ∷ [])) 0 e) → (n : Num)
    → judge t e (show_num n).shown (show_num n).ended ≡ show_num (ranged k n)
ranged_only k t e z f (num v q) = go (t (v ∷ [])) refl
  where
    go : (x : Bool) → t (v ∷ []) ≡ x → judge t e (v ∷ []) (At q) ≡ show_num (ranged k (num v q))
    go true y = rw (f v, y)
    go false y = rw (f v, y, z)
ranged_only k t e z f (bad x) = refl

-- a format of the spelling i that reads as n: with no test, or with the test t and the reason e
module _ (o : Order) (b : List ℕ) (p : ℕ) (k : Item) (n : Num) (i : formats.Item) (bytes : run o b (byte_item i) p ≡ show_num n) where
  free_is : ((v : ℕ) → range_fault k v ≡ 0) → run o b (byte_item i) p ≡ show_num (ranged k n)
  free_is f = bytes ∙ ap show_num (sym (ranged_all k f n))

  held_is : (t : List ℕ → Bool) (e : ℕ) → eqb e 0 ≡ false → ((v : ℕ) → range_fault k v ≡ pick (t (v ∷ [])) 0 e) → run o b (only t e (byte_item i)) p ≡ show_num (ranged k n)
  unfolding run
  held_is t e z f = rw bytes (ranged_only k t e z f n)

-- every kind, where each spelling of its bytes reads as n
item_is : (o : Order) (b : List ℕ) (p : ℕ) (k : Item) (n : Num) → ((i : formats.Item) → ((q : ℕ) → read_item o b i q ≡ show_num (spelt o k b q)) → run o b (byte_item i) p ≡ show_num n)
    → run o b (format_of k) p ≡ show_num (ranged k n)
unfolding read_item range_fault
item_is o b p U32 n h = free_is o b p U32 n _ (h formats.Item.U32 (λ q. refl)) (λ v. refl)
item_is o b p I32 n h = free_is o b p I32 n _ (h formats.Item.I32 (λ q. refl)) (λ v. refl)
item_is o b p Time n h = free_is o b p Time n _ (h formats.Item.U64 (λ q. refl)) (λ v. refl)
item_is o b p Float n h = free_is o b p Float n _ (h (formats.Item.Le 4) (λ q. refl)) (λ v. refl)
item_is o b p Uint16 n h = free_is o b p Uint16 n _ (h (formats.Item.Le 2) (λ q. refl)) (λ v. refl)
item_is o b p Byte n h = free_is o b p Byte n _ (h (formats.Item.UB 8) (λ q. refl)) (λ v. refl)
item_is o b p (Enum top) n h = held_is o b p (Enum top) n _ (h (formats.Item.UB 8) (λ q. refl)) _ _ refl (λ v. refl)
item_is o b p BlendMode n h = held_is o b p BlendMode n _ (h (formats.Item.UB 8) (λ q. refl)) _ _ refl (λ v. refl)
item_is o b p (Count lo) n h = held_is o b p (Count lo) n _ (h formats.Item.U32 (λ q. refl)) _ _ refl (λ v. refl)

-- a skipped bit is not zero
pub item_unclean : (o : Order) (b : List ℕ) (p : ℕ) (k : Item) {e : ℕ} → read_align o b p ≡ stop e → run o b (format_of k) p ≡ stop e
unfolding run read_item
item_unclean o b p k {e} skip = item_is o b p k (bad e) (λ i so. rw skip)

-- they are zero, and the bytes read as n
item_clean : (o : Order) (b : List ℕ) (p : ℕ) (k : Item) {q : ℕ} (n : Num) → read_align o b p ≡ shows [] q → n ≡ spelt o k b q → run o b (format_of k) p ≡ show_num (ranged k n)
unfolding run read_item
item_clean o b p k {q} n skip bytes = item_is o b p k n (λ i so. rw (skip, bytes) (so q))

module _ (o : Order) (b : List ℕ) (p : ℕ) (k : Item) {q : ℕ} (skip : read_align o b p ≡ shows [] q) where
  pub item_bad : {e : ℕ} → bad e ≡ spelt o k b q → stop e ≡ run o b (format_of k) p
  item_bad {e} h = sym (item_clean o b p k (bad e) skip h)

  pub item_in : {v z : ℕ} → num v z ≡ spelt o k b q → range_fault k v ≡ 0 → shows (v ∷ []) z ≡ run o b (format_of k) p
  item_in {v} {z} h e = sym (item_clean o b p k (num v z) skip h ∙ rw e)

  pub item_out : {v z e : ℕ} → num v z ≡ spelt o k b q → e ≡ range_fault k v → 0 < e → stop e ≡ run o b (format_of k) p
  item_out {v} {z} {e} h f n = sym (item_clean o b p k (num v z) skip h ∙ rw (← f, ne_eqb e 0 (λ x. omega arith)))

-- a Time has no range
item_time : (o : Order) (b : List ℕ) (p : ℕ) {q : ℕ} (r : Result Number Reason) → read_align o b p ≡ shows [] q → num_of r ≡ spelt o Time b q → show_num (num_of r) ≡ run o b (format_of Time) p
unfolding range_fault
item_time o b p (Ok n) skip bytes = item_in o b p Time skip bytes refl
item_time o b p (Err e) skip bytes = item_bad o b p Time skip bytes

-- from a whole byte on nothing is skipped
pub whole_skips : (o : Order) (b : List ℕ) (i p : ℕ) → p ≡ 8 * i → read_align o b p ≡ shows [] p
unfolding ub
whole_skips o b i p at = let z : skipped p ≡ 0 = omega arith in rw (z, add-zero p)

pub time_whole : (o : Order) (b : List ℕ) (i p : ℕ) (r : Result Number Reason) → p ≡ 8 * i → num_of r ≡ spelt o Time b p → show_num (num_of r) ≡ run o b (format_of Time) p
time_whole o b i p r at bytes = item_time o b p r (whole_skips o b i p at) bytes

-- a kind is read from a place as from the whole byte that it is aligned to
pub item_aligned : (o : Order) (b : List ℕ) (i p q : ℕ) (k : Item) → read_align o b p ≡ shows [] q → q ≡ 8 * i → run o b (format_of k) p ≡ run o b (format_of k) q
item_aligned o b i p q k skip at = item_clean o b p k (spelt o k b q) skip refl ∙ sym (item_clean o b q k (spelt o k b q) (whole_skips o b i q at) refl)

-- ---- bounds of the numbers that are shown
spelt_below : (o : Order) (k : Item) (b : List ℕ) (q : ℕ) → Below (2 ^ 64) (spelt o k b q)
spelt_below o U32 b q = below_more (lit≤ tt) (read_u32 o b q) (var_below o b 15 q 4 (lit≤ tt))
spelt_below o I32 b q = go (read_u32 o b q) (var_below o b 15 q 4 (lit≤ tt))
  where
    signed : (d q : ℕ) → d < 2 ^ 32 → (t u : Bool) → eqb d 1 ≡ t → eqb (d % 2) 0 ≡ u → Below (2 ^ 64) (map_num sign (not_one (num d q)))
    signed d q h true u e f = rw e tt
    signed d q h false true e f = rw (e, f) (omega arith)
    signed d q h false false e f = rw (e, f) (omega (arith, eqb-false d 1 e, eqb-false (d % 2) 0 f))

    go : (n : Num) → Below (2 ^ 32) n → Below (2 ^ 64) (map_num sign (not_one n))
    go (num d q) h = signed d q h (eqb d 1) (eqb (d % 2) 0) refl refl
    go (bad e) h = tt
spelt_below o Time b q = var_below o b 1 q 9 (lit≤ tt)
spelt_below o Float b q = below_more (lit≤ tt) (read_le o b q 4) (le_below o b q 4)
spelt_below o Uint16 b q = below_more (lit≤ tt) (read_le o b q 2) (le_below o b q 2)
spelt_below o Byte b q = ub_below o b q
spelt_below o (Enum top) b q = ub_below o b q
spelt_below o BlendMode b q = ub_below o b q
spelt_below o (Count lo) b q = below_more (lit≤ tt) (read_u32 o b q) (var_below o b 15 q 4 (lit≤ tt))

-- a number that is shown fits, and is in its range
abbrev Fine : Item → List ℕ → Ending → Type 0
Fine k [] z = Unit {0}
Fine k (v ∷ vs) (At q) = (v < 2 ^ 64) × (range_fault k v ≡ 0)
Fine k (v ∷ vs) (Ending.Fault e) = Unit {0}

item_fine : (o : Order) (b : List ℕ) (p : ℕ) (k : Item) → Fine k (run o b (format_of k) p).shown (run o b (format_of k) p).ended
item_fine o b p k = go (eqb (ub o b p (skipped p)) 0) refl
  where
    fine : (n : Num) → Below (2 ^ 64) n → Fine k (show_num (ranged k n)).shown (show_num (ranged k n)).ended
    fine (bad e) h = tt
    fine (num v q) h = test (eqb (range_fault k v) 0) refl
      where
        test : (t : Bool) → eqb (range_fault k v) 0 ≡ t → Fine k (show_num (ranged k (num v q))).shown (show_num (ranged k (num v q))).ended
        test true e = rw e (h, eqb-true (range_fault k v) 0 e)
        test false e = rw e tt

    go : (t : Bool) → eqb (ub o b p (skipped p)) 0 ≡ t → Fine k (run o b (format_of k) p).shown (run o b (format_of k) p).ended
    go true e = rw (item_clean o b p k (spelt o k b (p + skipped p)) (rw e) refl) (fine (spelt o k b (p + skipped p)) (spelt_below o k b (p + skipped p)))
    go false e = rw (item_unclean o b p k {e = 15} (rw e)) tt

module _ (o : Order) (b : List ℕ) (p : ℕ) {v q : ℕ} where
  value_fine : (k : Item) → run o b (format_of k) p ≡ shows (v ∷ []) q → (v < 2 ^ 64) × (range_fault k v ≡ 0)
  value_fine k e = rw e at (item_fine o b p k)

  pub count_range : (lo : ℕ) → run o b (format_of (Count lo)) p ≡ shows (v ∷ []) q → (lo ≤ v) × (v ≤ 4096)
  unfolding range_fault
  count_range lo e = go (leb lo v) (leb v 4096) refl refl (value_fine (Count lo) e).1
    where
      go : (t u : Bool) → leb lo v ≡ t → leb v 4096 ≡ u → ◌≡◌ {A = ℕ} (pick (t and u) 0 17) 0 → (lo ≤ v) × (v ≤ 4096)
      go true true f g h = (leb-true lo v f, leb-true v 4096 g)
      go true false f g h = absurd (omega arith)
      go false u f g h = absurd (omega arith)
