-- A field by the bytes near it, what the bit reader answers case by case, and that no second answer fits.
use Prim.Native.Nat.{ℕ, zero, suc, ◌+◌, ◌-◌, ◌*◌, ◌/◌, ◌%◌, ◌^◌, ◌≤◌, ◌<◌, min}
use mathlib.Core.Path.{◌≡◌, refl, sym, ap, ◌∙◌}
use mathlib.Core.List.{List}
use mathlib.Core.Bool.{Bool, true, false}
use native.Mathlib.Nat.{add-suc}
use native.Mathlib.Omega.{arith}
use denote.Ref.{Bor}
use lib.ListN.{length, take, drop, length-drop}
use lib.Seq.{get_or-take, get_or-drop, length-take-le}
use lib.Dec.{leb}
use borrow.Author.Tests.{le-leb, lt-ltb, le-ltb}
use Rattle.format.specs.Bits.{Order, order_named, bit_at, ub}
use Rattle.format.specs.Items.{Num, num, map_num, read_ub}
use Rattle.format.proofs.Promises.{one_answer}
use Rattle.std.specs.Prelude.{Result, Ok, Err}
use Rattle.reasons.specs.declared.Reason.{Reason}
use Rattle.reasons.specs.Numbers.{number_of}
use Rattle.reasons.proofs.NumberLaws.{number_one}
use Rattle.bits.specs.declared.BitPlace.{BitPlace}
use Rattle.bits.specs.declared.Number.{Number}
use Rattle.bits.specs.Places.{num_of}
use Rattle.bits.proofs.FieldLaws.{IsField, map_got, num_one}
use Rattle.bit_reader.specs.declared.BitReader.{BitReader}
use Rattle.bit_reader.specs.Fields.{value_of, in_bytes, field_of, Step, step_at}
use Rattle.bit_reader.specs.Near.{read_field}
use Rattle.bit_reader.specs.Readers.{at_start, Taken, taken, answer_of, left}

-- ---- the bytes near a field

-- the bytes from i to e are in the len bytes, and what runs past them runs past all bytes, if it is no longer than five
pub record Near (i len e : ℕ) : Type 0 where
  pub after : i < e
  pub inside : e ≤ len
  pub five : e ≤ i + 5
  pub past : (m : ℕ) → m ≤ 40 → 8 * (e - i) < m → 8 * (len - i) < m

pub near_end : (i len : ℕ) {e : ℕ} → i < len → e ≡ min len (i + 5) → Near i len e
near_end i len {e} h s = record { after = omega arith; inside = omega arith; five = omega arith; past = λ m l k. omega arith }

pub near_length : (b : List ℕ) (i e : ℕ) → e ≤ length b → length (take (e - i) (drop i b)) ≡ e - i
near_length b i e h = length-take-le (e - i) (drop i b) (rw length-drop (omega arith))

near_bit : (o : Order) (b : List ℕ) (i m q : ℕ) → q < 8 * m → bit_at o (take m (drop i b)) q ≡ bit_at o b (8 * i + q)
unfolding bit_at
near_bit o b i m q h =
    let e : (8 * i + q) / 8 ≡ i + q / 8 = omega arith in
    let f : (8 * i + q) % 8 ≡ q % 8 = omega arith in
    rw (e, f, get_or-take m (drop i b) (q / 8) 0 (omega arith), get_or-drop i b (q / 8) 0)

-- a field that the m bytes from i on have whole
near_ub : (o : Order) (b : List ℕ) (i m q n : ℕ) → q + n ≤ 8 * m → ub o (take m (drop i b)) q n ≡ ub o b (8 * i + q) n
unfolding ub
near_ub o b i m q zero h = refl
near_ub o b i m q (suc n) h = rw (near_bit o b i m q (omega arith), near_ub o b i m (suc q) n (omega arith), add-suc (8 * i) q)

-- ---- a field of both kinds, as its number turned

field_turned : (o : Order) (s : Bool) (b : List ℕ) (p n : ℕ) → read_field o s b p n ≡ map_num (value_of s n) (read_ub o b p n)
field_turned o true b p n = refl
field_turned o false b p n = go (leb (p + n) (8 * length b)) refl
  where
    go : (t : Bool) → leb (p + n) (8 * length b) ≡ t → read_ub o b p n ≡ map_num (value_of false n) (read_ub o b p n)
    go true t = rw t
    go false t = rw t

-- ---- what the code answers for a width from 1 to 32

pub near_value : (o : Order) (s : Bool) (b : List ℕ) (p n i e : ℕ) {v q : ℕ} → p / 8 ≡ i → Near i (length b) e → p + n < 2 ^ 64
    → num v q ≡ read_field o s (take (e - i) (drop i b)) (p % 8) n → num v (p + n) ≡ in_bytes o s b p n
near_value o s b p n i e {v} {q} d k l r =
    let c : List ℕ = take (e - i) (drop i b) in
    let g : IsField o (value_of s n) c (p % 8) n v q = map_got o (value_of s n) c (p % 8) n (r ∙ field_turned o s c (p % 8) n) in
    let h : p % 8 + n ≤ 8 * (e - i) = rw (g.next, near_length b i e k.inside) at g.inside in
    let j : 8 * i + p % 8 ≡ p = omega arith in
    let x : ub o c (p % 8) n ≡ ub o b p n = rw j at (near_ub o b i (e - i) (p % 8) n h) in
    rw (le-leb (p + n) (8 * length b) (omega (arith, k.inside)), lt-ltb (p + n) (2 ^ 64) l, g.value, x)

module _ (order : ℕ) (s : Bool) (b : List ℕ) (p n : ℕ) (ordered : order ≤ 1) where
  pub width_right : {x : Num} → 1 ≤ n → n ≤ 32 → x ≡ in_bytes (order_named order) s b p n → x ≡ field_of order s b p n
  width_right h k e = rw (le-ltb 1 order ordered, le-leb 1 n h, le-leb n 32 k) e

  -- a field that is in the bytes is what the definitions of the format read
  pub field_read : 1 ≤ n → n ≤ 32 → p + n < 2 ^ 64 → field_of order s b p n ≡ read_field (order_named order) s b p n
  field_read h k l = sym (width_right h k (field_turned (order_named order) s b p n ∙ go (leb (p + n) (8 * length b)) refl))
    where
      go : (t : Bool) → leb (p + n) (8 * length b) ≡ t → map_num (value_of s n) (read_ub (order_named order) b p n) ≡ in_bytes (order_named order) s b p n
      go true t = rw (t, lt-ltb (p + n) (2 ^ 64) l)
      go false t = rw t

-- ---- no second answer fits

pub one_field : (order : ℕ) (s : Bool) (b : List ℕ) (p n : ℕ) (x y : Result Number Reason) → num_of x ≡ field_of order s b p n → num_of y ≡ field_of order s b p n → x ≡ y
one_field order s b p n = one_answer num_of num_one (field_of order s b p n)

-- the same of a field's answer with the place where a reader then stands
pub one_step : (order : ℕ) (s : Bool) (b : List ℕ) (at : BitPlace) (n : ℕ) (x y : Step) → x ≡ step_at order s b at n → y ≡ step_at order s b at n → x ≡ y
one_step order s b at n = one_answer (λ x. x) (λ x y e. e) (step_at order s b at n)

-- the reader and the answer
pub left_one : (r r' : BitReader) (x y : Result ℕ Reason) → left r x ≡ left r' y → (r ≡ r') × (x ≡ y)
left_one r r' x y e = (ap (λ (t : Taken). t.reader) e, answers x y (ap (λ (t : Taken). t.field) e))
  where
    answers : (x y : Result ℕ Reason) → answer_of x ≡ answer_of y → x ≡ y
    answers (Ok v) (Ok w) e = cc
    answers (Ok v) (Err a) e = cc
    answers (Err a) (Ok v) e = cc
    answers (Err a) (Err d) e = let n : number_of a ≡ number_of d = cc in let q : a ≡ d = number_one a d n in cc

pub one_taken : (s : Bool) (r : BitReader) (n : ℕ) (p q : BitReader) (x y : Result ℕ Reason) → left p x ≡ taken s r n → left q y ≡ taken s r n → (p ≡ q) × (x ≡ y)
one_taken s r n p q x y d e = left_one p q x y (d ∙ sym e)

pub one_start : (order : ℕ) (b : Bor (List ℕ)) (x y : BitReader) → x ≡ at_start order b → y ≡ at_start order b → x ≡ y
one_start order b = one_answer (λ x. x) (λ x y e. e) (at_start order b)
