-- The laws of `lay`, once over the order. Whoever cites them need not unfold it. Assumes nothing.
use mathlib.Core.Path.{◌≡◌, refl, sym, ap, ap₂, ◌∙◌}
use mathlib.Core.List.{List, [], ◌∷◌, ◌++◌}
use mathlib.Core.Bool.{Bool, true, false}
use Prim.Native.Nat.{ℕ, zero, suc, ◌+◌, ◌-◌, ◌*◌, ◌/◌, ◌%◌, ◌^◌, ◌≤◌, ◌<◌}
use native.Mathlib.Nat.{add-zero, mul_assoc, mul_comm, pow-zero, pow-suc, mod-lt, add-mul, div-add-mod'}
use native.Mathlib.Omega.{arith}
use lib.ListN.{length, set, drop, length-drop, take-append-drop, drop_of_length-le}
use lib.Seq.{sets}
use lib.Pow.{pow_pos, pow-lt, pow-add, shr_lt}
use lib.Dec.{eqb, ltb}
use borrow.Author.Tests.{eq-eqb, ne_eqb, eqb-true, eqb-false, lt-ltb, le-ltb, ltb-true, ltb-false}
use Rattle.bits.proofs.StoreLaws.{sets_out}
use Rattle.format.specs.Bits.{Order, high, low, join}
use Rattle.format.specs.Items.{skipped}
use Rattle.format.specs.WritingItems.{dig, first, rest, glue}
use Rattle.format.proofs.BitLaws.{bit_of_lem, length_dig, first_lt, rest_lt, join_rest, glue_lt, dig_append}
use Rattle.format.specs.WritingBodies.{bit, val, bytes_of}
use Rattle.format.specs.Tests.{pick}
use Rattle.format.proofs.ByteLaws.{val_lt, dig_val}
use Rattle.sink.specs.Laying.{State, mk, push, lay, Holds, Skipped, Split}

pub mk_eq : {u w : List ℕ} {p q a b : ℕ} → u ≡ w → p ≡ q → a ≡ b → mk u p a ≡ mk w q b
mk_eq e f g = λ i. mk (e i) (f i) (g i)

-- ---- gluing: these unfold the order, and so do the two of code below; whoever cites them need not

-- one bit more, before n others
glue_bit : (o : Order) (m n a x v : ℕ) → glue o (m + 1) n (glue o m 1 a x) v ≡ glue o m (suc n) a (join o n x v)
glue_bit high m n a x v = rw (add-mul (a * 2) x (2 ^ n), mul_assoc a 2 (2 ^ n), mul_comm 2 (2 ^ n), ← pow-suc 2 n) (omega arith)
glue_bit low m n a x v = rw (pow-add 2 m 1, mul_comm (2 ^ m) 2, ← mul_assoc v 2 (2 ^ m), add-mul (v * 2) x (2 ^ m)) (omega arith)

-- nothing behind
glue_none : (o : Order) (m a : ℕ) → glue o m 0 a 0 ≡ a
glue_none high m a = rw pow-zero (omega arith)
glue_none low m a = omega arith

-- nothing before
glue_alone : (o : Order) (n v : ℕ) → glue o 0 n 0 v ≡ v
glue_alone high n v = omega arith
glue_alone low n v = rw pow-zero (omega arith)

-- THE law: one list of bits and then another
pub lay_append : (o : Order) (st : State) (xs ys : List Bool) → lay o st (xs ++ ys) ≡ lay o (lay o st xs) ys
unfolding lay
lay_append o st [] ys = refl
lay_append o st (x ∷ xs) ys = lay_append o (push o st x) xs ys

pub lay_none : (o : Order) (st : State) → lay o st [] ≡ st
unfolding lay
lay_none o st = refl

-- ---- a bit that fills its byte, and one that does not, with room for it and past the end
push_in : (o : Order) (u : List ℕ) (p a : ℕ) (b : Bool) → p / 8 < length u → (p % 8 ≡ 7 → ⊥) → push o (mk u p a) b ≡ mk u (p + 1) (glue o (p % 8) 1 a (bit b))
unfolding push
push_in o u p a b r h = rw (ne_eqb _ _ h, lt-ltb (p / 8) (length u) r)

push_full : (o : Order) (u : List ℕ) (p a : ℕ) (b : Bool) → p % 8 ≡ 7 → push o (mk u p a) b ≡ mk (set u (p / 8) (glue o (p % 8) 1 a (bit b))) (p + 1) 0
unfolding push
push_full o u p a b h = rw (eq-eqb _ _ h)

push_dropped : (o : Order) (u : List ℕ) (p a : ℕ) (b : Bool) → length u ≤ p / 8 → (p % 8 ≡ 7 → ⊥) → push o (mk u p a) b ≡ mk u (p + 1) 0
unfolding push
push_dropped o u p a b r h = rw (ne_eqb _ _ h, le-ltb (p / 8) (length u) r)

push_past : (o : Order) (u : List ℕ) (p a : ℕ) (b : Bool) → length u ≤ p / 8 → push o (mk u p a) b ≡ mk u (p + 1) 0
push_past o u p a b r = go (eqb (p % 8) 7) refl
  where
    go : (c : Bool) → eqb (p % 8) 7 ≡ c → push o (mk u p a) b ≡ mk u (p + 1) 0
    go true e = push_full o u p a b (eqb-true (p % 8) 7 e) ∙ mk_eq (sets_out u (p / 8) (glue o (p % 8) 1 a (bit b) ∷ []) r) refl refl
    go false e = push_dropped o u p a b r (eqb-false (p % 8) 7 e)

-- past the end bits are dropped, and nothing waits
lay_past : (o : Order) (u : List ℕ) (p : ℕ) (bs : List Bool) → length u ≤ p / 8 → lay o (mk u p 0) bs ≡ mk u (p + length bs) 0
unfolding lay
lay_past o u p [] r = mk_eq refl (sym (add-zero p)) refl
lay_past o u p (b ∷ bs) r =
    ap (λ (st : State). lay o st bs) (push_past o u p 0 b r) ∙ lay_past o u (p + 1) bs (omega arith) ∙ mk_eq refl (omega arith) refl

pub lay_some_past : (o : Order) (u : List ℕ) (p a : ℕ) (bs : List Bool) → length u ≤ p / 8 → 0 < length bs → lay o (mk u p a) bs ≡ mk u (p + length bs) 0
unfolding lay
lay_some_past o u p a [] r h = absurd (omega arith)
lay_some_past o u p a (b ∷ bs) r h =
    ap (λ (st : State). lay o st bs) (push_past o u p a b r) ∙ lay_past o u (p + 1) bs (omega arith) ∙ mk_eq refl (omega arith) refl

-- ---- what does not fill a byte waits; what does is stored
first_bit : (o : Order) (n v : ℕ) → v < 2 ^ suc n → bit (eqb (first o n v) 1) ≡ first o n v
first_bit o n v h = bit_of_lem (first o n v) (first_lt o n v h)

-- the part after the first bit, and then the others
glue_first : (o : Order) (p n a v : ℕ) → p % 8 < 7 → glue o ((p + 1) % 8) n (glue o (p % 8) 1 a (first o n v)) (rest o n v) ≡ glue o (p % 8) (suc n) a v
glue_first o p n a v h =
    let m : (p + 1) % 8 ≡ p % 8 + 1 = omega arith in
    rw m (glue_bit o (p % 8) n a (first o n v) (rest o n v)) ∙ ap (glue o (p % 8) (suc n) a) (join_rest o n v)

lay_few : (o : Order) (u : List ℕ) (n p a v : ℕ) → p / 8 < length u → p % 8 + n < 8 → v < 2 ^ n → lay o (mk u p a) (dig o n v) ≡ mk u (p + n) (glue o (p % 8) n a v)
unfolding lay dig
lay_few o u zero p a v r h l = mk_eq refl (sym (add-zero p)) (let z : v ≡ 0 = omega (arith, rw pow-zero at l) in rw z (sym (glue_none o (p % 8) a)))
lay_few o u (suc n) p a v r h l =
    ap (λ (st : State). lay o st (dig o n (rest o n v))) (push_in o u p a (eqb (first o n v) 1) r (λ e. omega arith) ∙ mk_eq refl refl (ap (glue o (p % 8) 1 a) (first_bit o n v l)))
    ∙ (lay_few o u n (p + 1) (glue o (p % 8) 1 a (first o n v)) (rest o n v) (omega arith) (omega arith) (rest_lt o n v l)
    ∙ mk_eq refl (omega arith) (glue_first o p n a v (omega arith)))

lay_filled : (o : Order) (u : List ℕ) (n p a v : ℕ) → p / 8 < length u → p % 8 + suc n ≡ 8 → v < 2 ^ suc n → lay o (mk u p a) (dig o (suc n) v) ≡ mk (set u (p / 8) (glue o (p % 8) (suc n) a v)) (p + suc n) 0
unfolding lay dig
lay_filled o u zero p a v r h l =
    push_full o u p a (eqb (first o 0 v) 1) (omega arith) ∙ mk_eq (ap (λ (x : ℕ). set u (p / 8) (glue o (p % 8) 1 a x)) (first_bit o 0 v l ∙ first_only o v l)) refl refl
  where
    first_only : (o : Order) (v : ℕ) → v < 2 ^ 1 → first o 0 v ≡ v
    first_only high v l = omega arith
    first_only low v l = omega arith
lay_filled o u (suc n) p a v r h l =
    let q : (p + 1) / 8 ≡ p / 8 = omega arith in
    ap (λ (st : State). lay o st (dig o (suc n) (rest o (suc n) v))) (push_in o u p a (eqb (first o (suc n) v) 1) r (λ e. omega arith) ∙ mk_eq refl refl (ap (glue o (p % 8) 1 a) (first_bit o (suc n) v l)))
    ∙ (lay_filled o u n (p + 1) (glue o (p % 8) 1 a (first o (suc n) v)) (rest o (suc n) v) (omega arith) (omega arith) (rest_lt o (suc n) v l)
    ∙ mk_eq (ap₂ (set u) q (glue_first o p (suc n) a v (omega arith))) (omega arith) refl)

-- a byte that is full, with room for it or past the end
lay_full : (o : Order) (u : List ℕ) (n p a v : ℕ) → p % 8 + suc n ≡ 8 → v < 2 ^ suc n → lay o (mk u p a) (dig o (suc n) v) ≡ mk (set u (p / 8) (glue o (p % 8) (suc n) a v)) (p + suc n) 0
lay_full o u n p a v h l = go (ltb (p / 8) (length u)) refl
  where
    go : (c : Bool) → ltb (p / 8) (length u) ≡ c → lay o (mk u p a) (dig o (suc n) v) ≡ mk (set u (p / 8) (glue o (p % 8) (suc n) a v)) (p + suc n) 0
    go true e = lay_filled o u n p a v (ltb-true (p / 8) (length u) e) h l
    go false e =
        let r : length u ≤ p / 8 = ltb-false (p / 8) (length u) e in
        lay_some_past o u p a (dig o (suc n) v) r (omega (arith, length_dig o (suc n) v))
        ∙ mk_eq (sym (sets_out u (p / 8) (glue o (p % 8) (suc n) a v ∷ []) r)) (ap (λ (m : ℕ). p + m) (length_dig o (suc n) v)) refl

-- ---- n bits x that wait from a whole byte on: what code that gathers bits does
flow_start : (o : Order) (u : List ℕ) (p a w v : ℕ) → p / 8 < length u → Holds p a → v < 2 ^ w → lay o (mk u p a) (dig o w v) ≡ lay o (mk u (p / 8 * 8) 0) (dig o (p % 8 + w) (glue o (p % 8) w a v))
flow_start o u p a w v r h l =
    let z : p / 8 * 8 % 8 ≡ 0 = omega arith in
    let k : p / 8 * 8 % 8 + p % 8 < 8 = omega arith in
    let m : p / 8 * 8 / 8 < length u = omega arith in
    rw (dig_append o (p % 8) w a v h l, lay_append, lay_few o u (p % 8) (p / 8 * 8) 0 a m k h)
    (ap (λ (st : State). lay o st (dig o w v)) (mk_eq refl (omega arith) (sym (rw z (glue_alone o (p % 8) a)))))

-- the first m bits of them are the field x, after which the state is st', and the others the field y
pub flow_on : (o : Order) (st : State) (m n v x y : ℕ) {st' : State} → Split o m n v x y → lay o st (dig o m x) ≡ st' → lay o st (dig o (m + n) v) ≡ lay o st' (dig o n y)
flow_on o st m n v x y s e =
    ap (λ (k : ℕ). lay o st (dig o (m + n) k)) s.glued ∙ ap (lay o st) (dig_append o m n x y s.first s.last) ∙ lay_append o st (dig o m x) (dig o n y)
    ∙ ap (λ (z : State). lay o z (dig o n y)) e

pub flow_few : (o : Order) (u : List ℕ) (i n x : ℕ) {q : ℕ} → i < length u → n < 8 → x < 2 ^ n → i * 8 + n ≡ q → lay o (mk u (i * 8) 0) (dig o n x) ≡ mk u q x
flow_few o u i n x r h l e =
    let z : i * 8 % 8 ≡ 0 = omega arith in
    lay_few o u n (i * 8) 0 x (omega arith) (omega arith) l ∙ mk_eq refl e (rw z (glue_alone o n x))

-- past the end
pub flow_past : (o : Order) (u : List ℕ) (i n x : ℕ) {q : ℕ} → length u ≤ i → i * 8 + n ≡ q → lay o (mk u (i * 8) 0) (dig o n x) ≡ mk u q 0
flow_past o u i n x r e = lay_past o u (i * 8) (dig o n x) (omega arith) ∙ mk_eq refl (ap (λ (m : ℕ). i * 8 + m) (length_dig o n x) ∙ e) refl

-- ---- what stays true
pub lay_place : (o : Order) (st : State) (bs : List Bool) → (lay o st bs).place ≡ st.place + length bs
unfolding lay push
lay_place o st [] = sym (add-zero _)
lay_place o st (b ∷ bs) = lay_place o (push o st b) bs ∙ rw (one (eqb (st.place % 8) 7)) (omega arith)
  where
    one : (c : Bool)
        → (pick c (mk (set st.bytes (st.place / 8) (glue o (st.place % 8) 1 st.part (bit b))) (st.place + 1) 0)
        (mk st.bytes (st.place + 1) (pick (ltb (st.place / 8) (length st.bytes)) (glue o (st.place % 8) 1 st.part (bit b)) 0))).place ≡ st.place + 1
    one true = refl
    one false = refl

pub bit_lt2 : (b : Bool) → bit b < 2
bit_lt2 true = omega arith
bit_lt2 false = omega arith

push_ok : (o : Order) (u : List ℕ) (p a : ℕ) (b : Bool) → Holds p a → Holds (push o (mk u p a) b).place (push o (mk u p a) b).part
push_ok o u p a b h = go (eqb (p % 8) 7) refl (ltb (p / 8) (length u)) refl
  where
    go : (c : Bool) → eqb (p % 8) 7 ≡ c → (r : Bool) → ltb (p / 8) (length u) ≡ r → Holds (push o (mk u p a) b).place (push o (mk u p a) b).part
    go true e r f = rw (push_full o u p a b (eqb-true (p % 8) 7 e)) (pow_pos ((p + 1) % 8))
    go false e true f =
        let z : (p + 1) % 8 ≡ p % 8 + 1 = omega (arith, eqb-false (p % 8) 7 e) in
        rw (push_in o u p a b (ltb-true (p / 8) (length u) f) (eqb-false (p % 8) 7 e), z) (glue_lt o (p % 8) 1 a (bit b) h (bit_lt2 b))
    go false e false f = rw (push_past o u p a b (ltb-false (p / 8) (length u) f)) (pow_pos ((p + 1) % 8))

pub lay_ok : (o : Order) (st : State) (bs : List Bool) → Holds st.place st.part → Holds (lay o st bs).place (lay o st bs).part
unfolding lay
lay_ok o st [] h = h
lay_ok o st (b ∷ bs) h = lay_ok o (push o st b) bs (push_ok o st.bytes st.place st.part b h)

-- ---- whole bytes, from a whole byte on
pub lay_byte : (o : Order) (u : List ℕ) (i v : ℕ) {w : List ℕ} {p : ℕ} → v < 256 → p ≡ 8 * i → w ≡ set u i v → lay o (mk u p 0) (dig o 8 v) ≡ mk w (p + 8) 0
lay_byte o u i v h e d =
    let z : 8 * i % 8 ≡ 0 = omega arith in
    rw (e, d)
    (lay_full o u 7 (8 * i) 0 v (omega arith) h ∙ mk_eq (ap₂ (set u) (omega arith) (rw z (glue_alone o 8 v))) refl refl)

pub lay_bytes_of : (o : Order) (u : List ℕ) (i k : ℕ) (bs : List Bool) → length bs ≡ 8 * k → lay o (mk u (8 * i) 0) bs ≡ mk (sets u i (bytes_of o k bs)) (8 * (i + k)) 0
unfolding bytes_of
lay_bytes_of o u i zero bs h = let e : bs ≡ [] = drop_of_length-le bs {i = 0} (omega arith) in rw (e, lay_none, add-zero)
lay_bytes_of o u i (suc k) bs h =
    let v : ℕ = val o 8 bs in
    let s : bs ≡ dig o 8 v ++ drop 8 bs = sym (take-append-drop 8 bs) ∙ ap (λ (x : List Bool). x ++ drop 8 bs) (sym (dig_val o 8 bs (omega arith))) in
    ap (lay o (mk u (8 * i) 0)) s ∙ lay_append o (mk u (8 * i) 0) (dig o 8 v) (drop 8 bs)
    ∙ ap (λ (st : State). lay o st (drop 8 bs)) (lay_byte o u i v (val_lt o 8 bs) refl refl ∙ mk_eq refl (omega arith) refl)
    ∙ lay_bytes_of o (set u i v) (suc i) k (drop 8 bs) (rw length-drop (omega arith))
    ∙ mk_eq refl (omega arith) refl

-- ---- the same as the code has it: each number that it computes is known by an equation
pub glued_high : (m n x y s : ℕ) → m + n < 64 → x < 2 ^ m → y < 2 ^ n → s ≡ 2 ^ n → (x * s + y < 2 ^ (m + n)) × (x * s + y < 2 ^ 64)
glued_high m n x y s h hx hy e = rw e (let g : x * 2 ^ n + y < 2 ^ (m + n) = glue_lt high m n x y hx hy in (g, omega (arith, g, pow-lt h)))

pub glued_low : (m n x y s : ℕ) → m + n < 64 → x < 2 ^ m → y < 2 ^ n → s ≡ 2 ^ m → (y * s + x < 2 ^ (m + n)) × (y * s + x < 2 ^ 64)
glued_low m n x y s h hx hy e = rw e (let g : y * 2 ^ m + x < 2 ^ (m + n) = glue_lt low m n x y hx hy in (g, omega (arith, g, pow-lt h)))

pub split_high : (m n v s : ℕ) → v < 2 ^ (m + n) → s ≡ 2 ^ n → Split high m n v (v / s) (v % s)
split_high m n v s h e = rw e (record { glued = sym (div-add-mod' v (2 ^ n)); first = shr_lt m n h; last = mod-lt v (pow_pos n) })

pub split_low : (m n v s : ℕ) → v < 2 ^ (m + n) → s ≡ 2 ^ m → Split low m n v (v % s) (v / s)
split_low m n v s h e =
    let c : m + n ≡ n + m = omega arith in
    rw e (record { glued = sym (div-add-mod' v (2 ^ m)); first = mod-lt v (pow_pos m); last = shr_lt n m (rw c at h) })

pub flow_next : (o : Order) (u : List ℕ) (i n v x y : ℕ) {w : List ℕ} → 8 ≤ n → Split o 8 (n - 8) v x y → w ≡ set u i x
    → lay o (mk u (i * 8) 0) (dig o n v) ≡ lay o (mk w ((i + 1) * 8) 0) (dig o (n - 8) y)
flow_next o u i n v x y h s d =
    let c : n ≡ 8 + (n - 8) = omega arith in
    ap (λ (j : ℕ). lay o (mk u (i * 8) 0) (dig o j v)) c
    ∙ flow_on o (mk u (i * 8) 0) 8 (n - 8) v x y s (lay_byte o u i x s.first (mul_comm i 8) d ∙ mk_eq refl (omega arith) refl)

pub flow_done : (o : Order) (u : List ℕ) (p a w v x : ℕ) {st : State} → p / 8 < length u → Holds p a → v < 2 ^ w → x ≡ glue o (p % 8) w a v → lay o (mk u (p / 8 * 8) 0) (dig o (p % 8 + w) x) ≡ st → st ≡ lay o (mk u p a) (dig o w v)
flow_done o u p a w v x r h l e d = sym (flow_start o u p a w v r h l ∙ rw (← e) d)

-- four bytes: a to d, by themselves; or as one field
pub word_stored : (o : Order) (u : List ℕ) (i v : ℕ) {a b c d x y : ℕ} → Split o 8 24 v a x → Split o 8 16 x b y → Split o 8 8 y c d
    → mk (set (set (set (set u i a) (i + 1) b) (i + 2) c) (i + 3) d) (8 * i + 32) 0 ≡ lay o (mk u (8 * i) 0) (dig o 32 v)
word_stored o u i v {a} {b} {c} {d} {x} {y} s t r =
    let p : ℕ = 8 * i in
    let u1 : List ℕ = set u i a in
    let u2 : List ℕ = set u1 (i + 1) b in
    let u3 : List ℕ = set u2 (i + 2) c in
    sym
    (flow_on o (mk u p 0) 8 24 v a x s (lay_byte o u i a s.first refl refl)
    ∙ flow_on o (mk u1 (p + 8) 0) 8 16 x b y t (lay_byte o u1 (i + 1) b t.first (omega arith) refl)
    ∙ flow_on o (mk u2 (p + 8 + 8) 0) 8 8 y c d r (lay_byte o u2 (i + 2) c r.first (omega arith) refl)
    ∙ lay_byte o u3 (i + 3) d r.last (omega arith) refl
    ∙ mk_eq refl (omega arith) refl)

pub word_laid : (o : Order) (u w : List ℕ) (i v p q a : ℕ) → p ≡ 8 * i → mk w q a ≡ lay o (mk u p 0) (dig o 32 v) → mk w (8 * i + 32) 0 ≡ lay o (mk u (8 * i) 0) (dig o 32 v)
word_laid o u w i v p q a e d =
    let whole : lay o (mk u (8 * i) 0) (dig o 32 v) ≡ mk (sets u i (bytes_of o 4 (dig o 32 v))) (8 * (i + 4)) 0 = lay_bytes_of o u i 4 (dig o 32 v) (length_dig o 32 v) in
    let there : mk w q a ≡ lay o (mk u (8 * i) 0) (dig o 32 v) = d ∙ ap (λ (j : ℕ). lay o (mk u j 0) (dig o 32 v)) e in
    mk_eq (ap (λ (z : State). z.bytes) (there ∙ whole)) (omega arith) refl ∙ sym whole

-- ---- the skip to a whole byte: none is skipped; or some are
module _ (o : Order) (u : List ℕ) (p a : ℕ) {i q : ℕ} (h : Holds p a) (at : q ≡ p + skipped p) (whole : q ≡ 8 * i) where
  pub skip_none : p % 8 ≡ 0 → Skipped o (mk u p a) u i q
  unfolding lay dig
  skip_none f =
      let s : skipped p ≡ 0 = omega arith in
      let z : a ≡ 0 = omega (arith, rw (f, pow-zero) at h) in
      let t : q ≡ p = omega (arith, at, s) in
      record { whole = whole; laid = rw (s, z, t) }

  pub skip_some : (x : ℕ) {w : List ℕ} → (p % 8 ≡ 0 → ⊥) → x ≡ glue o (p % 8) (8 - p % 8) a 0 → w ≡ set u (p / 8) x → Skipped o (mk u p a) w i q
  skip_some x n e d =
      let k : skipped p ≡ suc (7 - p % 8) = omega (arith, n) in
      let v : 8 - p % 8 ≡ suc (7 - p % 8) = omega arith in
      let t : q ≡ p + suc (7 - p % 8) = omega (arith, at, k) in
      record {
        whole = whole;
        laid = rw (d, e, k, v, t) (sym (lay_full o u (7 - p % 8) p a 0 (omega arith) (pow_pos (suc (7 - p % 8)))));
      }

-- ---- a field past the end of the output; and one of no bits
pub field_past : (o : Order) (u : List ℕ) (p a w v : ℕ) {q : ℕ} → length u ≤ p / 8 → (w ≡ 0 → ⊥) → p + w ≡ q → mk u q 0 ≡ lay o (mk u p a) (dig o w v)
field_past o u p a w v r n e =
    let s : 0 < length (dig o w v) = omega (arith, length_dig o w v, n) in
    sym (lay_some_past o u p a (dig o w v) r s ∙ mk_eq refl (ap (λ (m : ℕ). p + m) (length_dig o w v) ∙ e) refl)

pub field_none : (o : Order) (st : State) (w v : ℕ) → w ≡ 0 → st ≡ lay o st (dig o w v)
unfolding lay dig
field_none o st w v e = rw e
