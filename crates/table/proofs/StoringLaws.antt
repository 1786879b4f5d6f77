-- Numbers stored one by one from an index on, as far as there is room.
use Prim.Native.Nat.{ℕ, suc, ◌+◌, ◌-◌, ◌≤◌, ◌<◌, min}
use mathlib.Core.List.{List, [], ◌∷◌}
use mathlib.Core.Path.{◌≡◌, refl, ap, sym, ◌∙◌}
use native.Mathlib.Nat.{add-zero}
use native.Mathlib.Omega.{arith}
use lib.ListN.{length, set, get_or, drop, length-set, length-drop}
use lib.Seq.{sets, drop-cons}
use Rattle.bits.proofs.StoreLaws.{sets_out}

module _ (t₀ xs : List ℕ) (k : ℕ) where
  -- the first i are stored, and the others would go from here on
  pub record Storing (t : List ℕ) (i : ℕ) : Type 0 where
    pub size : length t ≡ length t₀
    pub upto : i ≤ length xs
    pub rest : sets t₀ k xs ≡ sets t (k + i) (drop i xs)

  pub storing_start : Storing t₀ 0
  storing_start = record { size = refl; upto = omega arith; rest = rw (add-zero k) }

  module _ {t : List ℕ} {i : ℕ} (g : Storing t i) where
    pub storing_next : {x : ℕ} → i < length xs → x ≡ get_or xs i 0 → Storing (set t (k + i) x) (i + 1)
    storing_next {x} h e =
        let one : i + 1 ≡ suc i = omega arith in
        let j : k + suc i ≡ suc (k + i) = omega arith in
        record {
          size = length-set t (k + i) x ∙ g.size;
          upto = omega arith;
          rest = g.rest ∙ ap (sets t (k + i)) (drop-cons xs i 0 h) ∙ ap (λ (y : ℕ). sets (set t (k + i) y) (suc (k + i)) (drop (suc i) xs)) (sym e) ∙ sym (ap (λ (y : ℕ). sets (set t (k + i) x) (k + y) (drop y xs)) one ∙ ap (λ (y : ℕ). sets (set t (k + i) x) y (drop (suc i) xs)) j);
        }

    -- all are stored, or there is no more room
    pub storing_done : {m : ℕ} → m ≡ min (length xs) (length t - k) → m ≤ i → t ≡ sets t₀ k xs
    storing_done h l = sym (g.rest ∙ stored (drop i xs) (length-drop i xs))
      where
        stored : (ys : List ℕ) → length ys ≡ length xs - i → sets t (k + i) ys ≡ t
        stored [] e = refl
        stored (y ∷ ys) e = sets_out t (k + i) (y ∷ ys) (omega (arith, h, l))
