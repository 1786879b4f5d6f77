-- Bit fields of each kind: what one reads as, and what a run of them leaves and announces.
use Prim.Native.Nat.{ℕ, zero, suc, ◌+◌, ◌-◌, ◌*◌, ◌/◌, ◌^◌, ◌≤◌, ◌<◌, min}
use mathlib.Core.List.{List, [], ◌∷◌}
use mathlib.Core.Path.{◌≡◌, refl, ap, ap₂, sym, subst, ◌∙◌}
use mathlib.Core.Bool.{Bool, true, false}
use lib.ListN.{length, set, get_or}
use lib.Seq.{sets}
use native.Mathlib.Nat.{add-zero, zero-add, suc-add, add-mul, one-mul, suc-mul, mul-le-mul, mul-le-mul_right, le-div_iff_mul-le, div-lt_iff_lt-mul}
use lib.Dec.{eqb, ltb}
use borrow.Author.Tests.{ne_eqb, le-leb, leb-true, ltb-true, ltb-false}
use native.Mathlib.Omega.{arith}
use lib.Pow.{pow_mono}
use Rattle.format.specs.Tests.{pick}
use Rattle.format.specs.Bits.{Order, ub}
use Rattle.format.specs.Reading.{At, Fault, Reading, shows, stop, follow}
use Rattle.format.specs.Formats.{Item, item, times, the}
use Rattle.format.specs.Items.{Num, num, bad, map_num, show_num, read_ub, read_width, read_item, sign_extend, judge, run, coordinates_of, coordinates}
use Rattle.format.specs.Bodies.{how_many}
use Rattle.format.proofs.Absurd.{clash}
use Rattle.format.proofs.BitLaws.{ub_lt}
use Rattle.format.proofs.SizeLaws.{Fair, fair_item, fair_only}
use Rattle.bits.proofs.FieldLaws.{IsField, map_got, ub_in, ub_past, extended, unsigned}
use Rattle.bits.specs.Places.{with_sign}
use Rattle.reasons.specs.declared.Reason.{Reason}
use Rattle.reasons.specs.declared.Reason.TheVariants.{ItemPastTheBody}
use Rattle.std.specs.Prelude.{Result, Ok, Err, IfOk}
use Rattle.table.specs.State.{shown_over}
use Rattle.table.specs.Readers.{state_of, Room}
use Rattle.table.specs.declared.reader.Reader.{Reader}
use Rattle.table.specs.Fields.{allows, judge_num, field_of, signed, shows_all, announces, announced, weights, LaysFields}
use Rattle.table.specs.declared.fields.Field.{Field}
use Rattle.table.specs.declared.fields.Field.TheVariants.{Verb, Interpolation, SpatialFlag, Plain, ByteValue, Coordinate}
use Rattle.table.proofs.StoringLaws.{Storing, storing_start, storing_next, storing_done}
use Rattle.table.proofs.EngineLaws.{state, after_none, after_one, after_stop, after_follow, times_next, times_stop}

-- ---- one field

-- its reading, from the UB that its bits are
abbrev field_by : ℕ → Field → Num → Reading
field_by w Verb n = show_num n
field_by w Interpolation n = judge (λ ns. allows Interpolation (the ns)) 16 (show_num n).shown (show_num n).ended
field_by w SpatialFlag n = show_num n
field_by w Plain n = show_num n
field_by w ByteValue n = judge (λ ns. allows ByteValue (the ns)) 16 (show_num n).shown (show_num n).ended
field_by w Coordinate n = show_num (map_num (sign_extend w) n)

field_by_lem : (o : Order) (kind : Field) (b : List ℕ) (p w : ℕ) → field_by w kind (read_ub o b p w) ≡ run o b (field_of kind w) p
unfolding run read_item
field_by_lem o Verb b p w = refl
field_by_lem o Interpolation b p w = refl
field_by_lem o SpatialFlag b p w = refl
field_by_lem o Plain b p w = refl
field_by_lem o ByteValue b p w = refl
field_by_lem o Coordinate b p w = refl

-- its bits, shown by its kind and judged
field_is : (o : Order) (kind : Field) (b : List ℕ) (p w : ℕ) → show_num (judge_num kind (map_num (λ x. pick (signed kind) (sign_extend w x) x) (read_ub o b p w))) ≡ run o b (field_of kind w) p
field_is o kind b p w = go kind (read_ub o b p w) ∙ field_by_lem o kind b p w
  where
    test : (c : Bool) (v q : ℕ) → show_num (pick c (num v q) (bad 16)) ≡ pick c (shows (v ∷ []) q) (stop 16)
    test true v q = refl
    test false v q = refl

    go : (kind : Field) (n : Num) → show_num (judge_num kind (map_num (λ x. pick (signed kind) (sign_extend w x) x) n)) ≡ field_by w kind n
    go Verb (num v q) = refl
    go Verb (bad e) = refl
    go Interpolation (num v q) = test (allows Interpolation v) v q
    go Interpolation (bad e) = refl
    go SpatialFlag (num v q) = refl
    go SpatialFlag (bad e) = refl
    go Plain (num v q) = refl
    go Plain (bad e) = refl
    go ByteValue (num v q) = test (allows ByteValue v) v q
    go ByteValue (bad e) = refl
    go Coordinate (num v q) = refl
    go Coordinate (bad e) = refl

module _ (o : Order) (kind : Field) (b : List ℕ) (p w : ℕ) where
  -- it runs past the bytes
  pub field_past : 8 * length b < p + w → show_num (bad 13) ≡ run o b (field_of kind w) p
  field_past h = ap (λ (n : Num). show_num (judge_num kind (map_num (λ x. pick (signed kind) (sign_extend w x) x) n))) (ub_past o b p w h) ∙ field_is o kind b p w

  -- it stands in them, and its bits x show v
  module _ {x v : ℕ} (inside : p + w ≤ 8 * length b) (bits : x ≡ ub o b p w) (shown : v ≡ pick (signed kind) (sign_extend w x) x) where
    field_judged : show_num (judge_num kind (num v (p + w))) ≡ run o b (field_of kind w) p
    field_judged =
        ap (λ (y : ℕ). show_num (judge_num kind (num y (p + w)))) shown
        ∙ ap (λ (n : Num). show_num (judge_num kind (map_num (λ x. pick (signed kind) (sign_extend w x) x) n))) (ub_in o b p w inside (sym bits))
        ∙ field_is o kind b p w

    pub field_in : allows kind v ≡ true → show_num (num v (p + w)) ≡ run o b (field_of kind w) p
    field_in h = ap (λ (c : Bool). show_num (pick c (num v (p + w)) (bad 16))) (sym h) ∙ field_judged

    pub field_out : allows kind v ≡ false → show_num (bad 16) ≡ run o b (field_of kind w) p
    field_out h = ap (λ (c : Bool). show_num (pick c (num v (p + w)) (bad 16))) (sym h) ∙ field_judged

-- a width, from the code's answer
module _ (o : Order) (b : List ℕ) (p : ℕ) where
  pub width_one : {v q : ℕ} → num v q ≡ read_width o b p → run o b (item Item.width) p ≡ shows (v ∷ []) q
  unfolding run read_item
  width_one read = sym (ap show_num read)

  pub width_stop : {e : ℕ} → bad e ≡ read_width o b p → run o b (item Item.width) p ≡ stop e
  unfolding run read_item
  width_stop read = sym (ap show_num read)

  -- it is 1 to 32, and takes 5 bits
  pub width_fits : {v q : ℕ} → num v q ≡ read_width o b p → (p < q) × (q ≤ 8 * length b) × (1 ≤ v) × (v ≤ 32)
  width_fits read =
      let i : IsField o suc b p 5 _ _ = map_got o suc b p 5 read in
      (omega (arith, i.next), i.inside, omega (arith, i.value), omega (arith, i.value, i.below))

-- the bits of a kind that is not signed show as they are
pub unsigned_shown : (kind : Field) (w x : ℕ) → signed kind ≡ false → x ≡ pick (signed kind) (sign_extend w x) x
unsigned_shown kind w x h = ap (λ (c : Bool). pick c (sign_extend w x) x) (sym h)

-- a kind that does not show whatever its bits are is not signed
pub judged_unsigned : (kind : Field) (w : ℕ) → shows_all kind w ≡ false → signed kind ≡ false
judged_unsigned Verb w h = refl
judged_unsigned Interpolation w h = refl
judged_unsigned SpatialFlag w h = refl
judged_unsigned Plain w h = refl
judged_unsigned ByteValue w h = refl
judged_unsigned Coordinate w h = clash cc

-- ---- what a field announces

abbrev zeros : ℕ → List ℕ
zeros zero = []
zeros (suc n) = 0 ∷ zeros n

zero_at : (n v : ℕ) → get_or (zeros n) v 0 ≡ 0
zero_at zero v = refl
zero_at (suc n) zero = refl
zero_at (suc n) (suc v) = zero_at n v

weighed : (kind : Field) (v : ℕ) → get_or (weights kind) v 0 ≡ announces kind v
weighed Verb v = refl
weighed Interpolation zero = refl
weighed Interpolation (suc zero) = refl
weighed Interpolation (suc (suc zero)) = refl
weighed Interpolation (suc (suc (suc v))) = zero_at 5 v ∙ sym (ap (λ (c : Bool). pick c 4 0) (ne_eqb (suc (suc (suc v))) 2 (λ e. omega arith)))
weighed SpatialFlag zero = refl
weighed SpatialFlag (suc zero) = refl
weighed SpatialFlag (suc (suc v)) = zero_at 6 v ∙ sym (ap (λ (c : Bool). pick c 2 0) (ne_eqb (suc (suc v)) 1 (λ e. omega arith)))
weighed Plain v = zero_at 8 v
weighed ByteValue v = zero_at 8 v
weighed Coordinate v = zero_at 8 v

abbrev All6 : List ℕ → Type 0
All6 [] = Unit {0}
All6 (x ∷ l) = (x ≤ 6) × All6 l

all_few : (l : List ℕ) → All6 l → (v : ℕ) → get_or l v 0 ≤ 6
all_few [] h v = omega arith
all_few (x ∷ l) h zero = h.0
all_few (x ∷ l) h (suc v) = all_few l h.1 v

zeros_few : (n : ℕ) → All6 (zeros n)
zeros_few zero = tt
zeros_few (suc n) = (omega arith, zeros_few n)

weights_few : (kind : Field) → All6 (weights kind)
weights_few Verb = (omega arith, (omega arith, (omega arith, (omega arith, (omega arith, (omega arith, (omega arith, (omega arith, tt))))))))
weights_few Interpolation = (omega arith, (omega arith, (omega arith, zeros_few 5)))
weights_few SpatialFlag = (omega arith, (omega arith, zeros_few 6))
weights_few Plain = zeros_few 8
weights_few ByteValue = zeros_few 8
weights_few Coordinate = zeros_few 8

-- the code's list, and the number that it looked up
pub weight_is : (kind : Field) (v : ℕ) {ws : List ℕ} {c : ℕ} → ws ≡ weights kind → c ≡ get_or ws v 0 → (c ≡ announces kind v) × (c ≤ 6)
weight_is kind v {ws} {c} e h =
    let d : c ≡ get_or (weights kind) v 0 = h ∙ ap (λ (l : List ℕ). get_or l v 0) e in
    (d ∙ weighed kind v, omega (arith, d, all_few (weights kind) (weights_few kind) v))

pub announced_verbs : (vs : List ℕ) → announced Verb vs ≡ coordinates vs
announced_verbs [] = refl
announced_verbs (v ∷ vs) = ap (λ (n : ℕ). coordinates_of v + n) (announced_verbs vs)

-- fields whose one number v announces c others
announced_by : (kind : Field) (v c : ℕ) → ((x : ℕ) → announces kind x ≡ pick (eqb x v) c 0) → (xs : List ℕ) → announced kind xs ≡ how_many v xs * c
announced_by kind v c h [] = omega arith
announced_by kind v c h (x ∷ xs) = rw (h x, announced_by kind v c h xs) (go (eqb x v))
  where
    go : (t : Bool) → pick t c 0 + how_many v xs * c ≡ pick t (suc (how_many v xs)) (how_many v xs) * c
    go true = omega (arith, suc-mul (how_many v xs) c)
    go false = omega arith

pub announced_frames : (vs : List ℕ) → announced Interpolation vs ≡ how_many 2 vs * 4
announced_frames vs = announced_by Interpolation 2 4 (λ x. refl) vs

pub announced_points : (vs : List ℕ) → announced SpatialFlag vs ≡ how_many 1 vs * 2
announced_points vs = announced_by SpatialFlag 1 2 (λ x. refl) vs

-- ---- a run of fields, step by step

-- a field takes a bit at least
pub fair_field : (o : Order) (kind : Field) (w : ℕ) → 1 ≤ w → Fair o 0 (field_of kind w)
fair_field o Verb w h = fair_item o (Item.UB w) h
fair_field o Interpolation w h = fair_only o 0 (λ ns. allows Interpolation (the ns)) 16 (item (Item.UB w)) (fair_item o (Item.UB w) h)
fair_field o SpatialFlag w h = fair_item o (Item.UB w) h
fair_field o Plain w h = fair_item o (Item.UB w) h
fair_field o ByteValue w h = fair_only o 0 (λ ns. allows ByteValue (the ns)) 16 (item (Item.UB w)) (fair_item o (Item.UB w) h)
fair_field o Coordinate w h = fair_item o (Item.SB w) h

-- what is announced by one field and the rest
shown_next : (o : Order) (kind : Field) (w : ℕ) (s : List ℕ) (p m v q : ℕ) → 0 < m → show_num (num v q) ≡ run o s (field_of kind w) p
    → announced kind (run o s (times m (field_of kind w)) p).shown ≡ announces kind v + announced kind (run o s (times (m - 1) (field_of kind w)) q).shown
unfolding run times
shown_next o kind w s p zero v q h e = absurd (omega arith)
shown_next o kind w s p (suc m) v q h e = let z : suc m - 1 ≡ m = omega arith in rw (z, ← e)

shown_stop : (o : Order) (kind : Field) (w : ℕ) (s : List ℕ) (p m e : ℕ) → 0 < m → show_num (bad e) ≡ run o s (field_of kind w) p
    → announced kind (run o s (times m (field_of kind w)) p).shown ≡ 0
unfolding run times
shown_stop o kind w s p zero e h q = absurd (omega arith)
shown_stop o kind w s p (suc m) e h q = rw (← q)

-- ---- fields of which so many stand in the bytes, and the next does not

-- all of the n, or as many whole ones as there are bits z for
module _ (n w z : ℕ) (wide : 1 ≤ w) where
  pub fits_all : n * w ≤ z → n ≡ min n (z / w)
  fits_all h = let l : n ≤ z / w = (le-div_iff_mul-le wide).1 h in omega arith

  pub fits_some : {b : ℕ} → b ≡ z → z < n * w → b / w ≡ min n (z / w)
  fits_some {b} e h = let l : z / w < n = (div-lt_iff_lt-mul wide).1 h in rw e (omega arith)

-- m of n fields of w bits from p on stand in s
pub record Inside (w : ℕ) (s : List ℕ) (p n m : ℕ) : Type 0 where
  pub upto : m ≤ n
  pub inside : p + m * w ≤ 8 * length s

-- and no more of them
pub record Stand (w : ℕ) (s : List ℕ) (p n m : ℕ) : Type 0 where
  pub upto : m ≤ n
  pub inside : p + m * w ≤ 8 * length s
  pub past : m < n → 8 * length s < p + m * w + w

pub stand : {w : ℕ} {s : List ℕ} {p n m : ℕ} → 1 ≤ w → p ≤ 8 * length s → m ≡ min n ((8 * length s - p) / w) → Stand w s p n m
stand {w} {s} {p} {n} {m} wide l e =
    let z : ℕ = 8 * length s - p in
    let h : m * w ≤ z = (le-div_iff_mul-le wide).0 (omega (arith, e)) in
    let j : m < n → z < m * w + w = λ i. subst (λ (x : ℕ). z < x) (suc-mul m w) ((div-lt_iff_lt-mul wide).0 (omega (arith, e, i))) in
    record { upto = omega (arith, e); inside = omega (arith, h, l); past = λ i. omega (arith, j i, l) }

-- so many fields have as many bits at least
pub more_bits : (m w : ℕ) → 1 ≤ w → m ≤ m * w
more_bits zero w h = omega arith
more_bits (suc m) w h = omega (arith, more_bits m w h, suc-mul m w)

-- one field more is w bits more
pub step_more : (i w : ℕ) → (i + 1) * w ≡ i * w + w
step_more i w = add-mul i 1 w ∙ ap (λ (y : ℕ). i * w + y) (one-mul w)

-- one of m fields ends where the m fields end, or before
step_in : (i m w : ℕ) → i < m → i * w + w ≤ m * w
step_in i m w h = subst (λ (x : ℕ). x ≤ m * w) (suc-mul i w) (mul-le-mul_right w h)

module _ (o : Order) (kind : Field) {w : ℕ} {s : List ℕ} {p n m q : ℕ} (st : Stand w s p n m) (place : q ≡ p + m * w) where
  -- what is left after them is 13, where something is left
  rest_is : run o s (times (n - m) (field_of kind w)) q ≡ pick (ltb m n) (stop 13) (shows [] q)
  unfolding run times
  rest_is = go (n - m) refl (ltb m n) refl
    where
      go : (left : ℕ) → n - m ≡ left → (t : Bool) → ltb m n ≡ t → run o s (times left (field_of kind w)) q ≡ pick t (stop 13) (shows [] q)
      go zero e true h = absurd (omega (arith, e, ltb-true m n h))
      go zero e false h = refl
      go (suc left) e true h = rw (← field_past o kind s q w (omega (arith, place, st.past (ltb-true m n h))))
      go (suc left) e false h = absurd (omega (arith, e, ltb-false m n h))

  rest_announced : announced kind (run o s (times (n - m) (field_of kind w)) q).shown ≡ 0
  rest_announced = rw rest_is (go (ltb m n))
    where
      go : (t : Bool) → announced kind (pick t (stop 13) (shows [] q)).shown ≡ 0
      go true = refl
      go false = refl

  -- the code's answer is what is left, laid over the table
  pub rest_left : (k : ℕ) (b : Reader) {r : Result (Unit {0}) Reason} → b.index ≡ k + m → b.place.0 ≡ q → r ≡ pick (ltb m n) (Err ItemPastTheBody) (Ok tt)
      → state_of b r ≡ shown_over b.table.now (k + m) (run o s (times (n - m) (field_of kind w)) q)
  rest_left k b {r} j l e = ap (state_of b) e ∙ go (ltb m n) ∙ ap (shown_over b.table.now (k + m)) (sym rest_is)
    where
      go : (c : Bool) → state_of {A = Unit {0}} b (pick c (Err ItemPastTheBody) (Ok (tt {0}))) ≡ shown_over b.table.now (k + m) (pick c (stop 13) (shows [] q))
      go true = ap (λ (x : ℕ). state b.table.now x (Fault 13)) j ∙ sym (after_stop b.table.now (k + m) 13)
      go false = ap₂ (λ (x y : ℕ). state b.table.now x (At y)) j l ∙ sym (after_none b.table.now (k + m) q)

-- ---- a run of fields that may be refused, step by step: m of its n fields stand in the bytes

abbrev pub fields_from : Order → Field → ℕ → List ℕ → ℕ → ℕ → Reading
fields_from o kind w s left p = run o s (times left (field_of kind w)) p

-- after i fields: the whole from the start is what is left from here
pub record Going (o : Order) (kind : Field) (w : ℕ) (s t₀ : List ℕ) (k n p₀ m : ℕ) (t : List ℕ) (p i count : ℕ) : Type 0 where
  pub rest : shown_over t₀ k (fields_from o kind w s n p₀) ≡ shown_over t (k + i) (fields_from o kind w s (n - i) p)
  pub counts : announced kind (fields_from o kind w s n p₀).shown ≡ count + announced kind (fields_from o kind w s (n - i) p).shown
  pub upto : i ≤ m
  pub place : p ≡ p₀ + i * w
  pub few : count ≤ 6 * i

pub going_start : {o : Order} {kind : Field} {w : ℕ} {s t₀ : List ℕ} {k n p₀ m p : ℕ} → p ≡ p₀ + 0 * w → Going o kind w s t₀ k n p₀ m t₀ p 0 0
going_start {w = w} {k = k} {n} {p₀} e = let z : n - 0 ≡ n = omega arith in let y : p₀ + 0 * w ≡ p₀ = omega arith in record { rest = rw (add-zero k, z, e, y); counts = rw (z, e, y) (sym (zero-add _)); upto = omega arith; place = e; few = omega arith }

module _ {o : Order} {kind : Field} {w : ℕ} {s t₀ : List ℕ} {k n p₀ m : ℕ} {t : List ℕ} {p i count : ℕ} (st : Inside w s p₀ n m) (g : Going o kind w s t₀ k n p₀ m t p i count) where
  module _ (some : i < m) where
    pub fields_in : p + w ≤ 8 * length s
    fields_in = omega (arith, g.place, step_in i m w some, st.inside)

    pub fields_next : {v c : ℕ} {u : List ℕ} → show_num (num v (p + w)) ≡ run o s (field_of kind w) p → u ≡ set t (k + i) v → (c ≡ announces kind v) × (c ≤ 6)
        → Going o kind w s t₀ k n p₀ m u (p + w) (i + 1) (count + c)
    fields_next {v} {c} {u} e d h =
        let more : 0 < n - i = omega (arith, st.upto) in
        let j : k + i + 1 ≡ k + (i + 1) = omega arith in
        let l : n - i - 1 ≡ n - (i + 1) = omega arith in
        let r : shown_over t (k + i) (fields_from o kind w s (n - i) p) ≡ shown_over u (k + i + 1) (fields_from o kind w s (n - i - 1) (p + w)) = times_next o s t (k + i) (n - i) (field_of kind w) p more (rw d (sym (after_one t (k + i) v (p + w)) ∙ ap (shown_over t (k + i)) e)) in
        record {
          rest = g.rest ∙ (rw (j, l) at r);
          counts = g.counts ∙ ap (λ (y : ℕ). count + y) (shown_next o kind w s p (n - i) v (p + w) more e) ∙ rw (l, h.0) (omega arith);
          upto = omega arith;
          place = omega (arith, g.place, step_more i w);
          few = omega (arith, h.1, g.few);
        }

    pub fields_stop : {e : ℕ} → show_num (bad e) ≡ run o s (field_of kind w) p
        → (state t (k + i) (Fault e) ≡ shown_over t₀ k (fields_from o kind w s n p₀)) × ((count ≡ announced kind (fields_from o kind w s n p₀).shown) × (count ≤ 6 * n))
    fields_stop {e} h =
        let more : 0 < n - i = omega (arith, st.upto) in (
          sym (g.rest ∙ times_stop o s t (k + i) (n - i) (field_of kind w) p more (sym (after_stop t (k + i) e) ∙ ap (shown_over t (k + i)) h)),
          (sym (g.counts ∙ ap (λ (y : ℕ). count + y) (shown_stop o kind w s p (n - i) e more h) ∙ add-zero count), omega (arith, g.few, st.upto)),
        )

-- those that stand there are all read, and what is left of them is passed over
pub fields_end : {o : Order} {kind : Field} {w : ℕ} {s t₀ : List ℕ} {k n p₀ m count : ℕ} {t : List ℕ} → Stand w s p₀ n m → Going o kind w s t₀ k n p₀ m t (p₀ + m * w) m count
    → (b : Reader) {r : Result (Unit {0}) Reason} → b.table.now ≡ t → b.index ≡ k + m → b.place.0 ≡ p₀ + m * w → r ≡ pick (ltb m n) (Err ItemPastTheBody) (Ok tt)
    → (state_of b r ≡ shown_over t₀ k (fields_from o kind w s n p₀)) × ((count ≡ announced kind (fields_from o kind w s n p₀).shown) × (count ≤ 6 * n))
fields_end {o} {kind} {w} {s} {t₀} {k} {n} {p₀} {m} {count} {t} st g b {r} u j l e = (
  rest_left o kind st refl k b j l e ∙ ap (λ (z : List ℕ). shown_over z (k + m) (fields_from o kind w s (n - m) (p₀ + m * w))) u ∙ sym g.rest,
  (sym (g.counts ∙ ap (λ (y : ℕ). count + y) (rest_announced o kind st refl) ∙ add-zero count), omega (arith, g.few, st.upto)),
)

-- what the code tells of them, as `Going` has it
pub told_going : {o : Order} {kind : Field} {w : ℕ} {s t₀ : List ℕ} {k p₀ m sum : ℕ} {t : List ℕ} → LaysFields o kind w s t₀ k p₀ m t (Ok sum) → (n : ℕ) → m ≤ n → Going o kind w s t₀ k n p₀ m t (p₀ + m * w) m sum
told_going h n l = record { rest = (h n l).0; counts = (h n l).1; upto = omega arith; place = refl; few = (h n l).2 }

pub going_told : {o : Order} {kind : Field} {w : ℕ} {s t₀ : List ℕ} {k p₀ m i sum p : ℕ} {t : List ℕ} → m ≤ i → ((n : ℕ) → m ≤ n → Going o kind w s t₀ k n p₀ m t p i sum) → LaysFields o kind w s t₀ k p₀ m t (Ok sum)
going_told {o} {kind} {w} {s} {t₀} {k} {p₀} {m} {i} {sum} {p} {t} d g n l =
    let x = g n l in
    let e : i ≡ m = omega (arith, x.upto) in
    let q : p ≡ p₀ + m * w = x.place ∙ ap (λ (y : ℕ). p₀ + y * w) e in
    (rw (e, q) at x.rest, rw (e, q) at x.counts, omega (arith, x.few, e))

-- ---- a run of fields that show whatever their bits are

-- what the bits of a field show
abbrev shown_by : Field → ℕ → ℕ → ℕ
shown_by kind w x = pick (signed kind) (sign_extend w x) x

-- the code's size z is 2 ^ w, and it has h for how many of the numbers below it are negative
pub shown_by_lem : (kind : Field) (w : ℕ) {z h : ℕ} → z ≡ 2 ^ w → 1 ≤ w → h ≡ pick (signed kind) (z / 2) 0 → (x : ℕ) → x < 2 ^ w → with_sign z h x ≡ shown_by kind w x
shown_by_lem kind w {z} {h} e o n x l = go (signed kind) refl
  where
    go : (t : Bool) → signed kind ≡ t → with_sign z h x ≡ shown_by kind w x
    go true t = let f : h ≡ z / 2 = rw t at n in rw t (extended w x e o l (ap (λ (y : ℕ). with_sign z y x) f))
    go false t = let f : h ≡ 0 = rw t at n in rw t (unsigned x z (omega (arith, e)) (ap (λ (y : ℕ). with_sign z y x) f))

pub negatives_le : (kind : Field) {z h : ℕ} → h ≡ pick (signed kind) (z / 2) 0 → h ≤ z
negatives_le kind {z} {h} e = go (signed kind) refl
  where
    go : (t : Bool) → signed kind ≡ t → h ≤ z
    go true t = let f : h ≡ z / 2 = rw t at e in omega arith
    go false t = let f : h ≡ 0 = rw t at e in omega arith

-- what f makes of n fields from p on
abbrev steps : Order → (ℕ → ℕ) → ℕ → List ℕ → ℕ → ℕ → List ℕ
steps o f w s zero p = []
steps o f w s (suc n) p = f (ub o s p w) ∷ steps o f w s n (p + w)

all_allowed : (kind : Field) (w x : ℕ) → shows_all kind w ≡ true → x < 2 ^ w → allows kind (shown_by kind w x) ≡ true
all_allowed Verb w x h l = refl
all_allowed Interpolation w x h l = clash cc
all_allowed SpatialFlag w x h l = refl
all_allowed Plain w x h l = refl
all_allowed ByteValue w x h l = le-leb x 255 (omega (arith, l, pow_mono (leb-true w 8 h)))
all_allowed Coordinate w x h l = refl

-- n fields of w bits are few bits
pub run_small : (n w : ℕ) → n < 2 ^ 32 → w ≤ 32 → n * w ≤ 2 ^ 37
run_small n w h l = let m : n * w ≤ 2 ^ 32 * 32 = mul-le-mul {n₂ = 2 ^ 32} (omega arith) l in omega (arith, m)

-- those that stand in the bytes, and what is left after them
steps_run : (o : Order) (kind : Field) (f : ℕ → ℕ) (w : ℕ) (s : List ℕ) (m left p : ℕ) → shows_all kind w ≡ true → ((x : ℕ) → x < 2 ^ w → f x ≡ shown_by kind w x) → p + m * w ≤ 8 * length s
    → run o s (times (m + left) (field_of kind w)) p ≡ follow (steps o f w s m p) (At (p + m * w)) (λ xs q. run o s (times left (field_of kind w)) q)
unfolding run times
steps_run o kind f w s zero left p a b h = let e : p + 0 * w ≡ p = omega arith in rw (e, zero-add)
steps_run o kind f w s (suc m) left p a b h =
    let y : suc m * w ≡ m * w + w = suc-mul m w in
    let e : p + w + m * w ≡ p + suc m * w = omega (arith, y) in
    let x : ℕ = ub o s p w in
    let l : x < 2 ^ w = ub_lt o s p w in
    let one : shows (f x ∷ []) (p + w) ≡ run o s (field_of kind w) p = field_in o kind s p w (omega (arith, h, y)) refl (b x l) (rw (b x l) (all_allowed kind w x a l)) in
    rw (suc-add, ← one, steps_run o kind f w s m left (p + w) a b (omega (arith, h, y)), e)

steps_length : (o : Order) (f : ℕ → ℕ) (w : ℕ) (s : List ℕ) (n p : ℕ) → length (steps o f w s n p) ≡ n
steps_length o f w s zero p = refl
steps_length o f w s (suc n) p = ap suc (steps_length o f w s n (p + w))

step_at_lem : (o : Order) (f : ℕ → ℕ) (w : ℕ) (s : List ℕ) (n p i : ℕ) → i < n → get_or (steps o f w s n p) i 0 ≡ f (ub o s (p + i * w) w)
step_at_lem o f w s zero p i h = absurd (omega arith)
step_at_lem o f w s (suc n) p zero h = let e : p + 0 * w ≡ p = omega arith in rw e
step_at_lem o f w s (suc n) p (suc i) h = let e : p + suc i * w ≡ p + w + i * w = omega (arith, suc-mul i w) in rw e (step_at_lem o f w s n (p + w) i (omega arith))

-- of m fields the first i numbers are stored
pub record Laying (o : Order) (f : ℕ → ℕ) (w : ℕ) (s t₀ : List ℕ) (k m p₀ : ℕ) (t : List ℕ) (i : ℕ) : Type 0 where
  pub stored : Storing t₀ (steps o f w s m p₀) k t i

pub laying_start : {o : Order} {f : ℕ → ℕ} {w : ℕ} {s t₀ : List ℕ} {k m p₀ : ℕ} → Laying o f w s t₀ k m p₀ t₀ 0
laying_start {o} {f} {w} {s} {t₀} {k} {m} {p₀} = record { stored = storing_start t₀ (steps o f w s m p₀) k }

module _ {o : Order} {f : ℕ → ℕ} {w : ℕ} {s t₀ : List ℕ} {k m p₀ : ℕ} {t : List ℕ} {i : ℕ} (g : Laying o f w s t₀ k m p₀ t i) where
  pub laying_in : i < m → p₀ + m * w ≤ 8 * length s → p₀ + i * w + w ≤ 8 * length s
  laying_in h l = omega (arith, step_in i m w h, l)

  pub laying_next : {x v : ℕ} → i < m → x ≡ ub o s (p₀ + i * w) w → v ≡ f x → Laying o f w s t₀ k m p₀ (set t (k + i) v) (i + 1)
  laying_next {x} {v} h e d =
      let z : v ≡ get_or (steps o f w s m p₀) i 0 = d ∙ ap f e ∙ sym (step_at_lem o f w s m p₀ i h) in
      record { stored = storing_next t₀ (steps o f w s m p₀) k g.stored (omega (arith, h, steps_length o f w s m p₀)) z }

  -- all are stored, or there is no more room
  pub laying_end : {n j : ℕ} (b : Reader) {r : Result (Unit {0}) Reason} (kind : Field) → Stand w s p₀ n m → shows_all kind w ≡ true → ((x : ℕ) → x < 2 ^ w → f x ≡ shown_by kind w x) → j ≡ min m (length t₀ - k) → j ≤ i
      → b.table.now ≡ t → b.index ≡ k + m → b.place.0 ≡ p₀ + m * w → r ≡ pick (ltb m n) (Err ItemPastTheBody) (Ok tt) → state_of b r ≡ shown_over t₀ k (run o s (times n (field_of kind w)) p₀)
  laying_end {n} {j} b {r} kind st a z h l u x y e =
      let xs : List ℕ = steps o f w s m p₀ in
      let c : length xs ≡ m = steps_length o f w s m p₀ in
      let full : t ≡ sets t₀ k xs = storing_done t₀ xs k g.stored (h ∙ ap₂ (λ (y i : ℕ). min y (i - k)) (sym c) (sym g.stored.size)) l in
      let all : n ≡ m + (n - m) = omega (arith, st.upto) in
      let left : Reading = run o s (times (n - m) (field_of kind w)) (p₀ + m * w) in
      rest_left o kind st refl k b x y e
      ∙ ap (λ (z : List ℕ). shown_over z (k + m) left) u
      ∙ ap (λ (y : ℕ). shown_over t (k + y) left) (sym c)
      ∙ ap (λ (u : List ℕ). shown_over u (k + length xs) left) full
      ∙ sym (ap (λ (y : ℕ). shown_over t₀ k (run o s (times y (field_of kind w)) p₀)) all
      ∙ ap (shown_over t₀ k) (steps_run o kind f w s m (n - m) p₀ a z st.inside)
      ∙ after_follow t₀ k xs (At (p₀ + m * w)) (λ ys q. run o s (times (n - m) (field_of kind w)) q))

-- after fields that were passed over there is room still
pub told_room : {w : ℕ} (m : ℕ) (r : Result (Unit {0}) Reason) (a b : Reader) → Room a → 1 ≤ w → b.index ≡ a.index + m → b.place.0 ≡ a.place.0 + m * w → IfOk r (λ x. Room b)
told_room {w} m r a b z o j l = go r
  where
    go : (r : Result (Unit {0}) Reason) → IfOk r (λ x. Room b)
    go (Ok x) = omega (arith, z, j, l, more_bits m w o)
    go (Err e) = tt
