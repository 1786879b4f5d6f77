-- Coordinates one after the other, each its bits.
use Prim.Native.Nat.{ℕ, suc, ◌+◌, ◌-◌, ◌*◌, ◌≤◌, ◌<◌}
use mathlib.Core.Bool.{Bool, true, false, ◌||◌}
use mathlib.Core.List.{List, [], ◌∷◌, ◌++◌, map, append_assoc, append-nil}
use mathlib.Core.Path.{◌≡◌, refl, ap, ap₂, sym, ◌∙◌}
use native.Mathlib.Numerals.{add-one}
use native.Mathlib.Omega.{arith}
use lib.ListN.{length, get_or, set, take, drop, length-set, take-append-drop, drop_of_length-le}
use lib.Seq.{take_all, drop-cons, drop-drop, take-suc-set, drop-set-lt}
use Rattle.format.specs.Tests.{◌or◌}
use Rattle.format.specs.Items.{coordinates}
use Rattle.path_singles.specs.Coordinates.{Singled, as_single, is_beyond, any_beyond}
use Rattle.path_singles.specs.Converting.{left, over}

-- ---- the loop: the whole from the start is what is left from here, beside what was beyond so far
abbrev pub beside : Bool → Singled → Singled
beside b s = left s.shown (b or s.beyond)

-- Rust's `|` is the definitions' `or`
pub or_is : (a b : Bool) → (a || b) ≡ (a or b)
or_is true b = refl
or_is false b = refl

pub or_assoc : (a b c : Bool) → a or (b or c) ≡ (a or b) or c
or_assoc true b c = refl
or_assoc false b c = refl

pub or_false : (a : Bool) → a or false ≡ a
or_false true = refl
or_false false = refl

pub record Going (v₀ v : List ℕ) (i : ℕ) (b : Bool) : Type 0 where
  pub size : length v ≡ length v₀
  pub same : left (map as_single v₀) (any_beyond v₀) ≡ beside b (over v i (length v₀))

pub starts : (v : List ℕ) → Going v v 0 false
unfolding over
starts v =
    let t : take (length v - 0) v ≡ v = take_all (length v - 0) v (omega arith) in
    let d : drop (length v) v ≡ [] = drop_of_length-le v (omega arith) in
    record { size = refl; same = ap₂ left (sym (ap₂ (λ (x y : List ℕ). map as_single x ++ y) t d ∙ append-nil (map as_single v))) (sym (ap any_beyond t)) }

over_step : (v : List ℕ) (i j : ℕ) → i < j → j ≤ length v → over v i j ≡ beside (is_beyond (get_or v i 0)) (over (set v i (as_single (get_or v i 0))) (suc i) j)
unfolding over any_beyond
over_step v i j h l =
    let n : j - i ≡ suc (j - suc i) = omega arith in
    let a : ℕ = as_single (get_or v i 0) in
    let t : List ℕ = take (j - suc i) (drop (suc i) v) in
    let d : drop i v ≡ get_or v i 0 ∷ drop (suc i) v = drop-cons v i 0 (omega arith) in
    let x : take (suc i) (set v i a) ≡ take i v ++ a ∷ [] = take-suc-set v i a (omega arith) in
    let y : drop (suc i) (set v i a) ≡ drop (suc i) v = drop-set-lt (suc i) v i a (omega arith) in
    let z : drop j (set v i a) ≡ drop j v = drop-set-lt j v i a h in
    rw (n, d, x, y, z) (ap (λ (w : List ℕ). left w (is_beyond (get_or v i 0) or any_beyond t)) (sym (append_assoc (take i v) (a ∷ []) (map as_single t ++ drop j v))))

pub goes : (v₀ : List ℕ) {v u : List ℕ} {i : ℕ} {b c : Bool} → Going v₀ v i b → i < length v₀ → u ≡ set v i (as_single (get_or v i 0)) → c ≡ b or is_beyond (get_or v i 0)
    → Going v₀ u (i + 1) c
goes v₀ {v} {u} {i} {b} {c} g h e d = record {
  size = ap length e ∙ length-set v i (as_single (get_or v i 0)) ∙ g.size;
  same = rw (e, d, add-one i) (g.same ∙ ap (beside b) (over_step v i (length v₀) h (omega (arith, g.size)))
      ∙ ap (left (over (set v i (as_single (get_or v i 0))) (suc i) (length v₀)).shown) (or_assoc b (is_beyond (get_or v i 0)) (over (set v i (as_single (get_or v i 0))) (suc i) (length v₀)).beyond));
}

pub gone : (v₀ : List ℕ) {v : List ℕ} {i : ℕ} {b : Bool} → Going v₀ v i b → i ≡ length v₀ → left v b ≡ left (map as_single v₀) (any_beyond v₀)
unfolding over any_beyond
gone v₀ {v} {i} {b} g e =
    let n : length v₀ - i ≡ 0 = omega arith in
    sym (g.same ∙ rw (n, e) (ap₂ left (take-append-drop (length v₀) v) (or_false b)))

-- coordinates that are lent as a part of the numbers
pub over_part : (v : List ℕ) {i j : ℕ} {u x : List ℕ} {b : Bool} → i ≤ j → u ≡ take i v ++ (x ++ drop (j - i) (drop i v))
    → left x b ≡ left (map as_single (take (j - i) (drop i v))) (any_beyond (take (j - i) (drop i v))) → left u b ≡ over v i j
unfolding over
over_part v {i} {j} {u} {x} {b} h e d =
    let k : i + (j - i) ≡ j = omega arith in
    let o : drop (j - i) (drop i v) ≡ drop j v = drop-drop (j - i) i v ∙ ap (λ (m : ℕ). drop m v) k in
    ap (λ (q : List ℕ). left q b) (e ∙ ap (λ (m : List ℕ). take i v ++ (x ++ m)) o) ∙ ap (λ (s : Singled). left (take i v ++ (s.shown ++ drop j v)) s.beyond) d

-- ---- the coordinates of verbs
-- the loop: the count so far, and what is left
pub record Counting (v : List ℕ) (i n : ℕ) : Type 0 where
  pub few : n ≤ 6 * i
  pub same : coordinates v ≡ n + coordinates (drop i v)
