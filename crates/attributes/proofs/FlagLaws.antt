-- The rows of a block, one by one; flag bits; and the flags of all rows, step by step. Assumes nothing.
use Prim.Native.Nat.{ℕ, zero, suc, ◌+◌, ◌-◌, ◌*◌, ◌/◌, ◌%◌, ◌^◌, ◌≤◌, ◌<◌}
use mathlib.Core.List.{List, [], ◌∷◌, ◌++◌, append-nil, append_assoc}
use mathlib.Core.Path.{◌≡◌, refl, ap, sym, ◌∙◌}
use mathlib.Core.Bool as truth
use mathlib.Core.Bool.{true, false}
use native.Mathlib.Numerals.{add-one}
use native.Mathlib.Omega.{arith}
use native.Mathlib.Nat.{pow-suc, mul-le-mul_right, pow-le-pow_right, div-div-eq-div-mul}
use lib.Pow.{pow_pos, pow_mono}
use lib.ListN.{length, get_or, take, drop, drop_of_length-le}
use lib.Seq.{drop-cons}
use lib.Dec.{leb}
use borrow.Author.Tests.{le-leb, lt-leb, ne_eqb}
use Rattle.std.proofs.Common.{Result, Ok, Err}
use Rattle.std.proofs.lemmas.List.{length-map}
use Rattle.format.specs.Tests.{pick}
use Rattle.format.specs.Bits.{Order, ub}
use Rattle.format.specs.Reading.{Ending, Reading, At, Fault, shows, follow}
use Rattle.format.specs.Formats.{Item, item, ◌▸◌, the}
use Rattle.format.specs.Items.{Num, num, bad, exist, read_flag, read_item, show_num, run}
use Rattle.format.specs.Bodies.{flags_of, all_flags}
use Rattle.format.proofs.Absurd.{clash}
use Rattle.reasons.specs.Numbers.{number_of}
use Rattle.reasons.specs.declared.Reason.{Reason}
use Rattle.reasons.proofs.NumberLaws.{number_one}
use Rattle.bits.specs.Places.{bit_of}
use Rattle.bits.specs.declared.Number.{Number}
use Rattle.bits.proofs.FieldLaws.{bit_in, set_inside}
use Rattle.attributes.specs.Flags.{num_in, FlagRead, digits, flags_as, FlagsRead}
use Rattle.attributes.specs.Rows.{kind_of, attribute_of, attributes_in}
use Rattle.attributes.specs.declared.Attribute.{Attribute}
use Rattle.attributes.specs.declared.DataType.TheVariants.{U32}
use Rattle.attributes.specs.declared.Kind.TheVariants.{Value}

-- ---- the rows of a block
abbrev pub row_at : List Attribute → ℕ → Attribute
row_at rows i = get_or rows i (record { kind = Value; data_type = U32 })

-- the rows from here on are the row here and the rows after it
pub rows_next : {i : ℕ} (rows : List Attribute) → i < length rows → attributes_in (drop i rows) ≡ attribute_of (row_at rows i) ∷ attributes_in (drop (i + 1) rows)
rows_next {i} rows h = rw (add-one i) (ap attributes_in (drop-cons rows i (record { kind = Value; data_type = U32 }) h))

pub rows_none : (rows : List Attribute) (i : ℕ) → length rows ≤ i → attributes_in (drop i rows) ≡ []
rows_none rows i h = ap attributes_in (drop_of_length-le rows h)

pub rows_many : (rows : List Attribute) → length (attributes_in rows) ≡ length rows
rows_many rows = length-map rows attribute_of

-- ---- the digits of a number
abbrev head_or : ℕ → List ℕ → ℕ
head_or d [] = d
head_or d (x ∷ xs) = x

abbrev tail_of : List ℕ → List ℕ
tail_of [] = []
tail_of (x ∷ xs) = xs

pub digits_many : (x n : ℕ) → length (digits x n) ≡ n
unfolding digits
digits_many x zero = refl
digits_many x (suc n) = ap suc (digits_many (x / 8) n)

-- a digit behind all others
digits_more : (x v i : ℕ) → x < 8 ^ i → v < 8 → digits (x + v * 8 ^ i) (suc i) ≡ digits x i ++ (v ∷ [])
unfolding digits
digits_more x v zero h d =
    let a : (x + v * 1) % 8 ≡ v = omega (arith, h) in
    rw a
digits_more x v (suc i) h d =
    let w : ℕ = v * 8 ^ i in
    let e : v * 8 ^ suc i ≡ 8 * w = ap (λ (y : ℕ). v * y) (pow-suc 8 i) ∙ omega arith in
    let a : (x + v * 8 ^ suc i) % 8 ≡ x % 8 = omega (arith, e) in
    let b : (x + v * 8 ^ suc i) / 8 ≡ x / 8 + w = omega (arith, e) in
    let f : x / 8 < 8 ^ i = omega (arith, h, pow-suc 8 i) in
    rw (a, b) (ap (λ (l : List ℕ). x % 8 ∷ l) (digits_more (x / 8) v i f d))

-- one of them alone
pub digit_at : (x i n : ℕ) → i < n → get_or (digits x n) i 0 ≡ x / 8 ^ i % 8
unfolding digits
digit_at x zero (suc n) h = let e : x / 1 ≡ x = omega arith in rw e
digit_at x (suc i) (suc n) h =
    let e : 8 * 8 ^ i ≡ 8 ^ suc i = omega (arith, pow-suc 8 i) in
    digit_at (x / 8) i n (omega arith) ∙ ap (λ (y : ℕ). y % 8) (div-div-eq-div-mul x 8 (8 ^ i) ∙ ap (λ (y : ℕ). x / y) e)
digit_at x i zero h = absurd (omega arith)

-- digits are taken off one by one: what is left of x are the digits of y, from digit i on
module _ (x y i : ℕ) (some : i < 12) (left : drop i (flags_as x) ≡ digits y (12 - i)) where
  digits_left : get_or (flags_as x) i 0 ∷ drop (i + 1) (flags_as x) ≡ y % 8 ∷ digits (y / 8) (12 - (i + 1))
  unfolding digits
  digits_left =
      let n : 12 - i ≡ suc (12 - (i + 1)) = omega arith in
      let m : i < length (flags_as x) = omega (arith, digits_many x 12) in
      rw (add-one i) (sym (drop-cons (flags_as x) i 0 m)) ∙ left ∙ ap (digits y) n

  pub digit_here : y % 8 ≡ get_or (flags_as x) i 0
  digit_here = sym (ap (head_or 0) digits_left)

  pub digits_after : drop (i + 1) (flags_as x) ≡ digits (y / 8) (12 - (i + 1))
  digits_after = ap tail_of digits_left

-- ---- flag bits

-- the number that a reading shows
abbrev num_from : Ending → ℕ → Num
num_from (At p) v = num v p
num_from (Fault e) v = bad e

num_from_lem : (x : Num) → num_from (show_num x).ended (the (show_num x).shown) ≡ x
num_from_lem (num v p) = refl
num_from_lem (bad e) = refl

same_num : (x y : Num) → show_num x ≡ show_num y → x ≡ y
same_num x y e = sym (num_from_lem x) ∙ ap (λ (r : Reading). num_from r.ended (the r.shown)) e ∙ num_from_lem y

-- a reading of flags, as `FlagRead` has it
abbrev Means : Order → ℕ → ℕ → ℕ → ℕ → ℕ → Type 0
Means o x n p v q = (b : List ℕ) → x ≡ ub o b 0 40 → p ≤ 8 * length b → num_in b v q ≡ read_flag o b p n

means_shown : (o : Order) (x n p v q : ℕ) → Means o x n p v q → (b : List ℕ) → x ≡ ub o b 0 40 → p ≤ 8 * length b → show_num (num_in b v q) ≡ run o b (item (Item.flag n)) p
unfolding run read_item
means_shown o x n p v q h b e l = ap show_num (h b e l)

shown_means : (o : Order) (x n p m v q : ℕ) → FlagRead o x (Item.flag n) p m v q → Means o x n p v q
unfolding run read_item
shown_means o x n p m v q h b e l = same_num (num_in b v q) (read_flag o b p n) (h.means b e l)

exist_in : (b : List ℕ) (v q : ℕ) → exist (num_in b v q) ≡ num_in b (1 + 2 * v) q
exist_in b v q = go (leb q (8 * length b))
  where
    go : (t : truth.Bool) → exist (pick t (num v q) (bad 13)) ≡ pick t (num (1 + 2 * v) q) (bad 13)
    go true = refl
    go false = refl

-- flags up to n + 1, by their first bit v
module _ (o : Order) (x p : ℕ) {v : ℕ} (few : p < 40) (first : (v ≡ bit_of o x p) × (v < 2)) where
  first_is : (b : List ℕ) → x ≡ ub o b 0 40 → v ≡ ub o b p 1
  first_is b e = first.0 ∙ bit_in o b p e few

  -- it is 0
  means_none : (n : ℕ) {q : ℕ} → v ≡ 0 → p + 1 ≡ q → Means o x (suc n) p 0 q
  unfolding read_flag
  means_none n z s b e l = let y : ub o b p 1 ≡ 0 = sym (first_is b e) ∙ z in rw (← s, y)

  pub flag_none : (n : ℕ) {q : ℕ} → v ≡ 0 → p + 1 ≡ q → FlagRead o x (Item.flag (suc n)) p (suc n) 0 q
  flag_none n {q} z s = record { means = means_shown o x (suc n) p 0 q (means_none n z s); small = pow_pos (suc n); near = omega arith }

  -- it is 1, so it is there, and w is what those after it gave
  module _ (n : ℕ) {w q r y : ℕ} (one : v ≡ 0 → ⊥) (rest : FlagRead o x (Item.flag n) r n w q) (next : p + 1 ≡ r) (sum : y ≡ 1 + 2 * w) where
    means_more : Means o x (suc n) p y q
    unfolding read_flag
    means_more b e l =
        let on : ub o b p 1 ≡ 0 → ⊥ = λ z. one (first_is b e ∙ z) in
        let here : p < 8 * length b = set_inside o b p 1 on in
        let after : num_in b w q ≡ read_flag o b r n = shown_means o x n r n w q rest b e (omega arith) in
        rw (sum, le-leb (p + 1) (8 * length b) (omega arith), ne_eqb (ub o b p 1) 0 on, next, ← after) (sym (exist_in b w q))

    pub flag_more : FlagRead o x (Item.flag (suc n)) p (suc n) y q
    flag_more = record { means = means_shown o x (suc n) p y q means_more; small = omega (arith, rest.small, pow-suc 2 n); near = omega (arith, rest.near) }

-- no bit
flag_end : (o : Order) (x p : ℕ) → FlagRead o x (Item.flag 0) p 0 0 p
unfolding run read_item read_flag
flag_end o x p = record { means = λ b e l. rw (le-leb p (8 * length b) l); small = omega arith; near = omega arith }

-- the first k of up to n bits are set, and count for v: whatever those after them give counts 2 ^ k times
pub record Flagging (o : Order) (x p n v k : ℕ) : Type 0 where
  pub rest : (w q : ℕ) → FlagRead o x (Item.flag (n - k)) (p + k) (n - k) w q → FlagRead o x (Item.flag n) p n (v + 2 ^ k * w) q
  pub set : v + 1 ≡ 2 ^ k

module _ (o : Order) (x p n : ℕ) where
  pub flagging_start : Flagging o x p n 0 0
  flagging_start = record {
    rest = λ w q f. let a : n - 0 ≡ n = omega arith in let b : p + 0 ≡ p = omega arith in let c : 0 + 1 * w ≡ w = omega arith in rw c (rw (a, b) at f);
    set = refl;
  }

  module _ {v k b : ℕ} (some : k < n) (few : p + k < 40) (g : Flagging o x p n v k) (bit : (b ≡ bit_of o x (p + k)) × (b < 2)) where
    one_more : n - k ≡ suc (n - (k + 1))
    one_more = omega arith

    pub flagging_next : (b ≡ 0 → ⊥) → Flagging o x p n (2 * v + 1) (k + 1)
    flagging_next one =
        let e : k + 1 ≡ suc k = omega arith in
        let z : 2 ^ (k + 1) ≡ 2 ^ k * 2 = rw e (pow-suc 2 k) in
        record {
          rest = λ w q f.
              let t : v + 2 ^ k * (1 + 2 * w) ≡ 2 * v + 1 + 2 ^ (k + 1) * w = omega (arith, ap (λ (y : ℕ). y * w) z, g.set) in
              let m : FlagRead o x (Item.flag (suc (n - (k + 1)))) (p + k) (suc (n - (k + 1))) (1 + 2 * w) q = flag_more o x (p + k) few bit (n - (k + 1)) one f (omega arith) refl in
              rw t at (g.rest (1 + 2 * w) q (rw one_more m));
          set = omega (arith, z, g.set);
        }

    pub flagging_stop : b ≡ 0 → FlagRead o x (Item.flag n) p n v (p + k + 1)
    flagging_stop none =
        let t : v + 2 ^ k * 0 ≡ v = omega arith in
        rw t at (g.rest 0 (p + k + 1) (rw one_more (flag_none o x (p + k) few bit (n - (k + 1)) none refl)))

  pub flagging_done : {v k : ℕ} → n ≤ k → k ≤ n → Flagging o x p n v k → FlagRead o x (Item.flag n) p n v (p + n)
  flagging_done {v} {k} h l g =
      let t : v + 2 ^ k * 0 ≡ v = omega arith in
      let z : n - k ≡ 0 = omega arith in
      let e : k ≡ n = omega arith in
      rw t at (g.rest 0 (p + n) (rw (z, e) (flag_end o x (p + n))))

-- at most three are set
pub few_bits : {o : Order} {x p n v k : ℕ} → Flagging o x p n v k → k < 3 → v ≤ 3
few_bits {k = k} g h = let h' : k ≤ 2 = omega arith in omega (arith, g.set, pow_mono {j = 2} h')

-- no bit, and the number 1
pub flag_fixed : (o : Order) (x p : ℕ) → FlagRead o x (Item.echo 1) p 3 1 p
unfolding run read_item
flag_fixed o x p = record { means = λ b e l. rw (le-leb p (8 * length b) l); small = omega arith; near = omega arith }

-- ---- the flags of all rows, one after the other, as the digits of one number
pub eight_few : (i : ℕ) → i < 12 → 8 ^ i ≤ 8589934592
eight_few i h = let l : i ≤ 11 = omega arith in let z : 0 < 8 = omega arith in pow-le-pow_right {n = 8} z {i = i} {j = 11} l

digits_taken : (x m n : ℕ) → m ≤ n → take m (digits x n) ≡ digits x m
unfolding digits
digits_taken x zero n h = refl
digits_taken x (suc m) (suc n) h = ap (λ (l : List ℕ). x % 8 ∷ l) (digits_taken (x / 8) m n (omega arith))
digits_taken x (suc m) zero h = absurd (omega arith)

module _ (o : Order) (s : List ℕ) (rows : List Attribute) where
  -- the flags of the rows from row i on
  abbrev flags_from : ℕ → ℕ → Reading
  flags_from i p = run o s (all_flags (attributes_in (drop i rows))) p

  abbrev whole : Reading
  whole = run o s (all_flags (attributes_in rows)) 0

  -- the whole is the digits of x for the rows before row i, and what is left from there; a digit more counts for u
  pub record Gathering (x u p i : ℕ) : Type 0 where
    pub rest : whole ≡ follow (digits x i) (At p) (λ xs q. flags_from i q)
    pub place : p ≤ 8 * length s
    pub near : p ≤ 3 * i
    pub less : x < 8 ^ i
    pub unit : u ≡ 8 ^ i
    pub below : i ≤ length rows

  pub gathering_start : Gathering 0 1 0 0
  unfolding digits
  gathering_start = record { rest = refl; place = omega arith; near = omega arith; less = omega arith; unit = refl; below = omega arith }

  -- the kind of the row here tells its flag, which was read out of the first 40 bits
  module _ {x u p i y v q : ℕ} (few : length rows ≤ 12) (some : i < length rows) (g : Gathering x u p i) (first : y ≡ ub o s 0 40) (f : FlagRead o y (flags_of (kind_of (row_at rows i).kind)) p 3 v q) where
    product_le : v * u ≤ 7 * 8 ^ i
    product_le = let h : v ≤ 7 = omega (arith, f.small) in rw g.unit (mul-le-mul_right (8 ^ i) h)

    -- nothing wraps
    pub product_few : v * u ≤ 60129542144
    product_few = omega (arith, product_le, eight_few i (omega arith))

    flags_here : flags_from i p ≡ run o s (item (flags_of (kind_of (row_at rows i).kind)) ▸ all_flags (attributes_in (drop (i + 1) rows))) p
    unfolding all_flags
    flags_here = rw (rows_next rows some)

    -- its bits are in the body
    pub gathering_next : q ≤ 8 * length s → Gathering (x + v * u) (u * 8) q (i + 1)
    unfolding run
    gathering_next l =
        let n : i + 1 ≡ suc i = omega arith in
        let r : show_num (num v q) ≡ run o s (item (flags_of (kind_of (row_at rows i).kind))) p = rw (le-leb q (8 * length s) l) at (f.means s first g.place) in
        let w : flags_from i p ≡ follow (v ∷ []) (At q) (λ xs q'. flags_from (i + 1) q') = flags_here ∙ rw (← r) in
        let d : digits (x + v * u) (i + 1) ≡ digits x i ++ (v ∷ []) = rw (n, g.unit) (digits_more x v i g.less (omega (arith, f.small))) in
        record {
          rest = g.rest ∙ ap (λ (r : Reading). follow (digits x i) (At p) (λ xs q'. r)) w ∙ rw (d, append_assoc);
          place = l;
          near = omega (arith, f.near, g.near);
          less = rw n (omega (arith, g.less, product_le, pow-suc 8 i));
          unit = rw (n, g.unit) (sym (pow-suc 8 i));
          below = omega arith;
        }

    -- or one of them is past it
    pub gathering_stop : 8 * length s < q → whole.ended ≡ Fault 13
    unfolding run
    gathering_stop l =
        let r : show_num (bad 13) ≡ run o s (item (flags_of (kind_of (row_at rows i).kind))) p = rw (lt-leb q (8 * length s) l) at (f.means s first g.place) in
        let w : flags_from i p ≡ follow [] (Fault 13) (λ xs q'. flags_from (i + 1) q') = flags_here ∙ rw (← r) in
        ap (λ (r : Reading). r.ended) g.rest ∙ ap (λ (r : Reading). r.ended) w

  pub gathering_done : {x u p i : ℕ} → length rows ≤ 12 → length rows ≤ i → Gathering x u p i → (whole ≡ shows (take (length rows) (flags_as x)) p) × (x < 8 ^ length rows)
  unfolding run all_flags
  gathering_done {x} {u} {p} {i} few h g =
      let z : i ≡ length rows = omega (arith, g.below) in
      let n : flags_from i p ≡ shows [] p = rw (rows_none rows i h) in
      (g.rest ∙ ap (λ (r : Reading). follow (digits x i) (At p) (λ xs q'. r)) n ∙ rw (append-nil, z, digits_taken x (length rows) 12 few), rw z at g.less)

-- ---- no second answer fits the promise of `read_flags`
digits_one : (x y n : ℕ) → x < 8 ^ n → y < 8 ^ n → digits x n ≡ digits y n → x ≡ y
unfolding digits
digits_one x y zero h k e = omega (arith, h, k)
digits_one x y (suc n) h k e =
    let a : x % 8 ≡ y % 8 = ap (head_or 0) e in
    let b : x / 8 ≡ y / 8 = digits_one (x / 8) (y / 8) n (omega (arith, h, pow-suc 8 n)) (omega (arith, k, pow-suc 8 n)) (ap tail_of e) in
    omega (arith, a, b)

abbrev place_of : Ending → ℕ
place_of (At p) = p
place_of (Fault e) = e

pub flags_one : (count : ℕ) (R : Reading) (a b : Result Number Reason) → count ≤ 12 → FlagsRead count R a → FlagsRead count R b → a ≡ b
flags_one count R (Ok n) (Ok m) h f g =
    let e : shows (take count (flags_as n.value)) n.next.0 ≡ shows (take count (flags_as m.value)) m.next.0 = sym f.0 ∙ g.0 in
    let d : digits n.value count ≡ digits m.value count = sym (digits_taken n.value count 12 h) ∙ ap (λ (r : Reading). r.shown) e ∙ digits_taken m.value count 12 h in
    let v : n.value ≡ m.value = digits_one n.value m.value count f.1 g.1 d in
    let s : n.next.0 ≡ m.next.0 = ap (λ (r : Reading). place_of r.ended) e in
    λ i. Ok (record { value = v i; next = record { 0 = s i } })
flags_one count R (Ok n) (Err x) h f g = let z : At n.next.0 ≡ Fault (number_of x) = sym (ap (λ (r : Reading). r.ended) f.0) ∙ g in clash cc
flags_one count R (Err x) (Ok n) h f g = let z : At n.next.0 ≡ Fault (number_of x) = sym (ap (λ (r : Reading). r.ended) g.0) ∙ f in clash cc
flags_one count R (Err x) (Err y) h f g = ap Err (number_one x y (ap place_of (sym f ∙ g)))
