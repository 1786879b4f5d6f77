-- Strings: the bytes are stored first, and their count before them last.
use Prim.Native.Nat.{ℕ, zero, suc, ◌+◌, ◌-◌, ◌*◌, ◌≤◌, ◌<◌, min}
use mathlib.Core.List.{List, [], ◌∷◌}
use mathlib.Core.Path.{◌≡◌, refl, ap, ap₂, sym, ◌∙◌}
use lib.ListN.{length, length-set, set, get_or, take, drop, length-drop}
use Rattle.std.proofs.Common.{take_all, get_or-drop}
use mir.Syntax.{w8}
use mir.Val.{Fits}
use lib.Seq.{sets, set_comm, set_out}
use Rattle.std.specs.List.{AllWithin, HoldsAt}
use borrow.Author.Tests.{le-leb, lt-leb, eq-eqb, ne_eqb}
use native.Mathlib.Nat.{add-zero, mod-eq_of_lt}
use native.Mathlib.Omega.{arith}
use Rattle.format.specs.Bits.{Order, ub}
use Rattle.format.specs.Reading.{At, Fault}
use Rattle.format.specs.Items.{Text, text, cut, add_text, read_text, show_text}
use Rattle.format.proofs.ByteLaws.{ub_byte}
use Rattle.table.specs.State.{State, shown_over}
use Rattle.table.proofs.EngineLaws.{state, state_eq}

-- a store below a run of stores may come last
pub set_sets : (t : List ℕ) (k j v : ℕ) (xs : List ℕ) → k < j → set (sets t j xs) k v ≡ sets (set t k v) j xs
set_sets t k j v [] h = refl
set_sets t k j v (x ∷ xs) h = set_sets (set t j x) k (suc j) v xs (omega arith) ∙ ap (λ (u : List ℕ). sets u (suc j) xs) (set_comm t j k x v (λ e. absurd (omega arith)))

-- where the rest r of a text of n bytes so far leads: its bytes from index k + 1 + n on, and the count at k
abbrev pub closes : List ℕ → ℕ → ℕ → Text → State
closes t k n (text xs q) = state (set (sets t (k + 1 + n) xs) k (n + length xs)) (k + 1 + n + length xs) (At q)
closes t k n (cut xs) = state (set (sets t (k + 1 + n) xs) k (n + length xs)) (k + 1 + n + length xs) (Fault 13)

-- none so far
pub closes_none : (t : List ℕ) (k : ℕ) (r : Text) → shown_over t k (show_text r) ≡ closes t k 0 r
unfolding shown_over
closes_none t k r = go r
  where
    stored : (xs : List ℕ) → sets (set t k (length xs)) (suc k) xs ≡ set (sets t (k + 1 + 0) xs) k (0 + length xs)
    stored xs =
        let e : k + 1 + 0 ≡ suc k = omega arith in
        let f : 0 + length xs ≡ length xs = omega arith in
        rw (e, f) (sym (set_sets t k (suc k) (length xs) xs (omega arith)))

    counted : (xs : List ℕ) → k + suc (length xs) ≡ k + 1 + 0 + length xs
    counted xs = omega arith

    go : (r : Text) → shown_over t k (show_text r) ≡ closes t k 0 r
    go (text xs q) = state_eq (stored xs) (counted xs) refl
    go (cut xs) = state_eq (stored xs) (counted xs) refl

-- one byte more
pub closes_more : (t : List ℕ) (k n x : ℕ) (r : Text) → closes t k n (add_text x r) ≡ closes (set t (k + 1 + n) x) k (n + 1) r
closes_more t k n x r = go r
  where
    stored : (xs : List ℕ) → set (sets (set t (k + 1 + n) x) (suc (k + 1 + n)) xs) k (n + suc (length xs)) ≡ set (sets (set t (k + 1 + n) x) (k + 1 + (n + 1)) xs) k (n + 1 + length xs)
    stored xs =
        let e : suc (k + 1 + n) ≡ k + 1 + (n + 1) = omega arith in
        let f : n + suc (length xs) ≡ n + 1 + length xs = omega arith in
        rw (e, f)

    counted : (xs : List ℕ) → k + 1 + n + suc (length xs) ≡ k + 1 + (n + 1) + length xs
    counted xs = omega arith

    go : (r : Text) → closes t k n (add_text x r) ≡ closes (set t (k + 1 + n) x) k (n + 1) r
    go (text xs q) = state_eq (stored xs) (counted xs) refl
    go (cut xs) = state_eq (stored xs) (counted xs) refl

-- nothing more: the zero byte, or the end of the body
pub closes_text : (t : List ℕ) (k n q : ℕ) → closes t k n (text [] q) ≡ state (set t k n) (k + 1 + n) (At q)
closes_text t k n q = state_eq (ap (set t k) (add-zero n)) (add-zero (k + 1 + n)) refl

pub closes_cut : (t : List ℕ) (k n : ℕ) → closes t k n (cut []) ≡ state (set t k n) (k + 1 + n) (Fault 13)
closes_cut t k n = state_eq (ap (set t k) (add-zero n)) (add-zero (k + 1 + n)) refl

-- ---- a text's step, from what the code has of the byte at i
module _ (o : Order) (s : List ℕ) (i : ℕ) {p b : ℕ} (whole : p ≡ 8 * i) (read : (b ≡ get_or s i 0) × (b < 256)) (there : i < length s) where
  byte_is : ub o s p 8 ≡ b
  byte_is = rw whole (ub_byte o s i ∙ rw (← read.0) (mod-eq_of_lt read.1))

  pub text_ends : (m : ℕ) → 0 < m → b ≡ 0 → read_text o s p m ≡ text [] (p + 8)
  unfolding read_text
  text_ends zero h z = absurd (omega arith)
  text_ends (suc m) h z = rw (le-leb (p + 8) (8 * length s) (omega arith), byte_is, eq-eqb b 0 z)

  pub text_more : (m : ℕ) → 0 < m → (b ≡ 0 → ⊥) → read_text o s p m ≡ add_text b (read_text o s (p + 8) (m - 1))
  unfolding read_text
  text_more zero h z = absurd (omega arith)
  text_more (suc m) h z = let e : suc m - 1 ≡ m = omega arith in rw (le-leb (p + 8) (8 * length s) (omega arith), byte_is, ne_eqb b 0 z, e)

pub text_cut : (o : Order) (s : List ℕ) (p m : ℕ) → 8 * length s < p + 8 → read_text o s p m ≡ cut []
unfolding read_text
text_cut o s p zero h = refl
text_cut o s p (suc m) h = rw (lt-leb (p + 8) (8 * length s) h)

-- what is left of the bytes from i on, as the code slices it
rest_is : (s : List ℕ) (i : ℕ) → take (length s - i) (drop i s) ≡ drop i s
rest_is s i = take_all (length s - i) (drop i s) (omega (arith, length-drop i s))

pub rest_length : (s : List ℕ) (i : ℕ) → length (take (length s - i) (drop i s)) ≡ length s - i
rest_length s i = ap length (rest_is s i) ∙ length-drop i s

-- the byte that comes next in it
pub rest_byte : (s : List ℕ) (i n : ℕ) → ((k : ℕ) → Fits w8 (get_or s k 0)) → (get_or (take (length s - i) (drop i s)) n 0 ≡ get_or s (i + n) 0) × (get_or (take (length s - i) (drop i s)) n 0 < 256)
rest_byte s i n h = let e : get_or (take (length s - i) (drop i s)) n 0 ≡ get_or s (i + n) 0 = rw (rest_is s i) (get_or-drop i s n 0) in (e, omega (arith, e, h (i + n)))

-- ---- the loop: the whole from the start is what is left after n bytes
pub record Going (o : Order) (s t₀ : List ℕ) (k i p : ℕ) (t : List ℕ) (n : ℕ) : Type 0 where
  pub size : length t ≡ length t₀
  pub rest : shown_over t₀ k (show_text (read_text o s p (length s))) ≡ closes t k n (read_text o s (p + 8 * n) (length s - n))
  pub whole : p ≡ 8 * i
  pub inside : i + n ≤ length s

module _ (o : Order) {s t₀ : List ℕ} {k i p : ℕ} {t : List ℕ} {n : ℕ} (g : Going o s t₀ k i p t n) where
  module _ {b : ℕ} (there : i + n < length s) (read : (b ≡ get_or s (i + n) 0) × (b < 256)) where
    on_byte : p + 8 * n ≡ 8 * (i + n)
    on_byte = omega (arith, g.whole)

    -- a byte more is stored
    pub going_stored : {u : List ℕ} → (b ≡ 0 → ⊥) → u ≡ set t (k + 1 + n) b → Going o s t₀ k i p u (n + 1)
    going_stored z d =
        let m : length s - n - 1 ≡ length s - (n + 1) = omega arith in
        let q : p + 8 * n + 8 ≡ p + 8 * (n + 1) = omega arith in
        record {
          size = ap length d ∙ length-set t (k + 1 + n) b ∙ g.size;
          rest = g.rest ∙ ap (closes t k n) (text_more o s (i + n) on_byte read there (length s - n) (omega arith) z)
              ∙ closes_more t k n b (read_text o s (p + 8 * n + 8) (length s - n - 1)) ∙ rw (m, q, d);
          whole = g.whole;
          inside = omega arith;
        }

    -- or there is no room for it
    pub going_dropped : (b ≡ 0 → ⊥) → min (length s - i) (length t₀ - (k + 1)) ≤ n → Going o s t₀ k i p t (n + 1)
    going_dropped z l = going_stored z (sym (set_out t (k + 1 + n) b (omega (arith, g.size, l))))

    pub going_ends : {u : List ℕ} → b ≡ 0 → u ≡ set t k n → state u (k + 1 + n) (At (p + 8 * n + 8)) ≡ shown_over t₀ k (show_text (read_text o s p (length s)))
    going_ends z d = rw d (sym (g.rest ∙ ap (closes t k n) (text_ends o s (i + n) on_byte read there (length s - n) (omega arith) z) ∙ closes_text t k n (p + 8 * n + 8)))

  pub going_cut : {u : List ℕ} → length s ≤ i + n → u ≡ set t k n → state u (k + 1 + n) (Fault 13) ≡ shown_over t₀ k (show_text (read_text o s p (length s)))
  going_cut l d = rw d (sym (g.rest ∙ ap (closes t k n) (text_cut o s (p + 8 * n) (length s - n) (omega (arith, g.whole))) ∙ closes_cut t k n))

pub going_start : (o : Order) (s t : List ℕ) (k i p : ℕ) → p ≡ 8 * i → i ≤ length s → Going o s t k i p t 0
going_start o s t k i p w l =
    let m : length s ≡ length s - 0 = omega arith in
    let q : p ≡ p + 8 * 0 = omega arith in
    record { size = refl; rest = closes_none t k (read_text o s p (length s)) ∙ ap₂ (λ (r n : ℕ). closes t k 0 (read_text o s r n)) q m; whole = w; inside = omega arith }

-- ---- the bytes there is no room for: the code slices them once more, and looks for the first zero among them
abbrev pub past : List ℕ → ℕ → ℕ → List ℕ
past s i n = take (length (take (length s - i) (drop i s)) - n) (drop n (take (length s - i) (drop i s)))

past_byte : (s : List ℕ) (i n j : ℕ) → get_or (past s i n) j 0 ≡ get_or s (i + n + j) 0
past_byte s i n j =
    let r = take (length s - i) (drop i s) in
    let e : i + (n + j) ≡ i + n + j = omega arith in
    ap (λ (l : List ℕ). get_or l j 0) (rest_is r n) ∙ get_or-drop n r j 0 ∙ ap (λ (l : List ℕ). get_or l (n + j) 0) (rest_is s i) ∙ get_or-drop i s (n + j) 0 ∙ ap (λ (m : ℕ). get_or s m 0) e

module _ (o : Order) {s t₀ : List ℕ} {k i p : ℕ} {t : List ℕ} {n : ℕ} (g : Going o s t₀ k i p t n) (bytes : (j : ℕ) → Fits w8 (get_or s j 0)) (room : n ≡ min (length (take (length s - i) (drop i s))) (length t₀ - (k + 1))) where
  -- m of them are no zero
  going_past : (m : ℕ) → i + n + m ≤ length s → AllWithin (λ b. b ≡ 0 → ⊥) (past s i n) 0 m → Going o s t₀ k i p t (n + m)
  going_past zero l a = let e : n + 0 ≡ n = omega arith in rw e g
  going_past (suc m) l a =
      let e : n + suc m ≡ n + m + 1 = omega arith in
      let b : get_or (past s i n) m 0 ≡ get_or s (i + (n + m)) 0 = past_byte s i n m ∙ ap (λ (j : ℕ). get_or s j 0) (omega arith) in
      rw e (going_dropped o (going_past m (omega arith) (λ j d z h. a j d z (omega arith))) (omega arith) (b, omega (arith, b, bytes (i + (n + m)))) (a m 0 (omega arith) (omega arith)) (omega (arith, room, rest_length s i)))

  past_length : length (past s i n) ≡ length s - i - n
  past_length = rest_length (take (length s - i) (drop i s)) n ∙ ap (λ (m : ℕ). m - n) (rest_length s i)

  -- the first zero among them ends the text
  pub going_found : {u : List ℕ} (m : ℕ) → (m < length (past s i n)) × HoldsAt (λ b. b ≡ 0) (past s i n) m × AllWithin (λ b. b ≡ 0 → ⊥) (past s i n) 0 m → u ≡ set t k (n + m)
      → state u (k + 1 + (n + m)) (At (p + 8 * (n + m) + 8)) ≡ shown_over t₀ k (show_text (read_text o s p (length s)))
  going_found m f d =
      let l : i + (n + m) < length s = omega (arith, f.0, past_length) in
      let b : get_or (past s i n) m 0 ≡ get_or s (i + (n + m)) 0 = past_byte s i n m ∙ ap (λ (j : ℕ). get_or s j 0) (omega arith) in
      going_ends o (going_past m (omega arith) f.2) l (b, omega (arith, b, bytes (i + (n + m)))) (f.1 0) d

  -- and where there is none, the body's end cuts it
  pub going_lost : {u : List ℕ} → AllWithin (λ b. b ≡ 0 → ⊥) (past s i n) 0 (length (past s i n)) → u ≡ set t k (length s - i)
      → state u (k + 1 + (length s - i)) (Fault 13) ≡ shown_over t₀ k (show_text (read_text o s p (length s)))
  going_lost a d =
      let m : n + length (past s i n) ≡ length s - i = omega (arith, past_length, g.inside) in
      rw (← m) (going_cut o (going_past (length (past s i n)) (omega (arith, past_length, g.inside)) a) (omega (arith, m)) (rw m d))
