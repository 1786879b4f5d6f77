-- Floats in turn that stand on whole bytes: what they are, and what is left of them where there is no more room.
use Prim.Native.Nat.{ℕ, zero, suc, ◌+◌, ◌-◌, ◌*◌, ◌≤◌, ◌<◌, min}
use mathlib.Core.List.{List, [], ◌∷◌}
use mathlib.Core.Path.{◌≡◌, refl, ap, sym, ◌∙◌}
use lib.ListN.{length, set, get_or}
use lib.Seq.{sets}
use borrow.Author.Tests.{le-leb}
use native.Mathlib.Omega.{arith}
use Rattle.format.specs.Bits.{Order, high, ub}
use Rattle.format.specs.Reading.{At, shows}
use Rattle.format.specs.Formats.{Item, Format, nothing, item, ◌▹◌, times}
use Rattle.format.specs.Items.{Num, num, bad, read_le, read_item, run, float}
use Rattle.bits.specs.Places.{InEither}
use Rattle.items.proofs.ItemLaws.{whole_skips}
use Rattle.table.specs.State.{shown_over}
use Rattle.table.proofs.StoringLaws.{Storing, storing_start, storing_next, storing_done}
use Rattle.table.proofs.EngineLaws.{state, state_eq, none_then}
use Rattle.table.proofs.ReaderLaws.{align_is}

abbrev number_of : Num → ℕ
number_of (num v q) = v
number_of (bad e) = 0

-- n bytes that are there are a number
le_in : (o : Order) (s : List ℕ) (n p : ℕ) → p + 8 * n ≤ 8 * length s → read_le o s p n ≡ num (number_of (read_le o s p n)) (p + 8 * n)
unfolding read_le
le_in o s zero p h = let e : p + 8 * 0 ≡ p = omega arith in rw e
le_in o s (suc n) p h =
    let e : p + 8 * suc n ≡ p + 8 + 8 * n = omega arith in
    rw (le-leb (p + 8) (8 * length s) (omega arith), le_in o s n (p + 8) (omega arith), e)

-- a Float on a whole byte
float_one : (o : Order) (s : List ℕ) (i p : ℕ) → p ≡ 8 * i → i + 4 ≤ length s → run o s float p ≡ shows (number_of (read_le o s p 4) ∷ []) (p + 32)
unfolding run read_item ub
float_one o s i p at h = none_then o s (item Item.align) (λ xs. item (Item.Le 4)) p p (align_is o s p ∙ whole_skips o s i p at) ∙ rw (le_in o s 4 p (omega arith))

abbrev floats : Order → List ℕ → ℕ → ℕ → List ℕ
floats o s zero p = []
floats o s (suc n) p = number_of (read_le o s p 4) ∷ floats o s n (p + 32)

one_then : (o : Order) (b : List ℕ) (f : Format) (g : List ℕ → Format) (p : ℕ) {v q e : ℕ} {vs : List ℕ} → run o b f p ≡ shows (v ∷ []) q → run o b (g (v ∷ [])) q ≡ shows vs e
    → run o b (f ▹ g) p ≡ shows (v ∷ vs) e
unfolding run
one_then o b f g p d e = rw (d, e)

none_run : (o : Order) (s : List ℕ) (p q : ℕ) → p ≡ q → run o s nothing p ≡ shows [] q
unfolding run
none_run o s p q e = rw e

floats_run : (o : Order) (s : List ℕ) (n i p : ℕ) → p ≡ 8 * i → i + 4 * n ≤ length s → run o s (times n float) p ≡ shows (floats o s n p) (p + 32 * n)
unfolding times
floats_run o s zero i p at h = let e : p ≡ p + 32 * 0 = omega arith in none_run o s p (p + 32 * 0) e
floats_run o s (suc n) i p at h =
    let e : p + 32 + 32 * n ≡ p + 32 * suc n = omega arith in
    one_then o s float (λ xs. times n float) p (float_one o s i p at (omega arith)) (floats_run o s n (i + 4) (p + 32) (omega arith) (omega arith) ∙ ap (shows (floats o s n (p + 32))) e)

floats_length : (o : Order) (s : List ℕ) (n p : ℕ) → length (floats o s n p) ≡ n
floats_length o s zero p = refl
floats_length o s (suc n) p = ap suc (floats_length o s n (p + 32))

float_at : (o : Order) (s : List ℕ) (n p i : ℕ) → i < n → get_or (floats o s n p) i 0 ≡ number_of (read_le o s (p + 32 * i) 4)
float_at o s zero p i h = absurd (omega arith)
float_at o s (suc n) p zero h = let e : p + 32 * 0 ≡ p = omega arith in rw e
float_at o s (suc n) p (suc i) h = let e : p + 32 * suc i ≡ p + 32 + 32 * i = omega arith in rw e (float_at o s n (p + 32) i (omega arith))

-- Whole bytes are the same in either order, so the loop that stores them knows none: the first i of n from byte i₀ on are stored.
pub record Floating (s t₀ : List ℕ) (k n i₀ : ℕ) (t : List ℕ) (i : ℕ) : Type 0 where
  pub stored : InEither (λ o. Storing t₀ (floats o s n (8 * i₀)) k t i)

pub floating_start : (s t₀ : List ℕ) (k n i₀ : ℕ) → Floating s t₀ k n i₀ t₀ 0
floating_start s t₀ k n i₀ = record { stored = λ o. storing_start t₀ (floats o s n (8 * i₀)) k }

module _ {s t₀ : List ℕ} {k n i₀ : ℕ} {t : List ℕ} {i : ℕ} (g : Floating s t₀ k n i₀ t i) where
  pub floating_size : length t ≡ length t₀
  floating_size = (g.stored high).size

  pub floating_next : {v : ℕ} → i < n → InEither (λ o. num v (8 * (i₀ + 4 * i) + 32) ≡ read_le o s (8 * (i₀ + 4 * i)) 4) → Floating s t₀ k n i₀ (set t (k + i) v) (i + 1)
  floating_next {v} h e =
      let d : 8 * (i₀ + 4 * i) ≡ 8 * i₀ + 32 * i = omega arith in
      record {
        stored = λ o. storing_next t₀ (floats o s n (8 * i₀)) k (g.stored o) (omega (arith, h, floats_length o s n (8 * i₀)))
            (ap number_of (e o) ∙ ap (λ (y : ℕ). number_of (read_le o s y 4)) d ∙ sym (float_at o s n (8 * i₀) i h));
      }

  -- all are stored, or there is no more room
  pub floating_done : (o : Order) {m p e : ℕ} → p ≡ 8 * i₀ → m ≡ min n (length t - k) → m ≤ i → e ≡ p + n * 32 → e ≤ 8 * length s
      → state t (k + n) (At e) ≡ shown_over t₀ k (run o s (times n float) p)
  unfolding shown_over
  floating_done o {m} {p} {e} at h l f inside =
      let xs : List ℕ = floats o s n (8 * i₀) in
      let full : t ≡ sets t₀ k xs = storing_done t₀ xs k (g.stored o) (h ∙ ap (λ (y : ℕ). min y (length t - k)) (sym (floats_length o s n (8 * i₀)))) l in
      let z : e ≡ 8 * i₀ + 32 * n = omega (arith, f, at) in
      rw (at, floats_run o s n i₀ (8 * i₀) refl (omega (arith, f, inside, at))) (state_eq full (ap (λ (c : ℕ). k + c) (sym (floats_length o s n (8 * i₀)))) (ap At z))
