-- Paths in turn, keyframed paths, and an attribute's content, by indexes that are never past the end.
use Prim.Native.Nat.{ℕ, zero, suc, ◌+◌, ◌-◌, ◌≤◌, ◌<◌, min}
use mathlib.Core.Bool.{Bool, true, false}
use mathlib.Core.List.{List, [], ◌∷◌, ◌++◌, map, append_assoc}
use mathlib.Core.Path.{◌≡◌, refl, ap, ap₂, sym, ◌∙◌}
use native.Mathlib.Numerals.{add-one}
use native.Mathlib.Omega.{arith}
use lib.ListN.{length, get_or, take, drop, length-append, length-take, length-drop, take-append-drop, drop_of_length-le, length-map}
use lib.Seq.{take_all, take-suc, drop-cons, drop-drop, take-add, take_at, drop_at}
use lib.Dec.{leb}
use borrow.Author.Tests.{leb-true, leb-false, ne_eqb}
use Rattle.format.specs.Tests.{◌or◌}
use Rattle.format.specs.Items.{coordinates}
use Rattle.path_singles.specs.Coordinates.{Singled, as_single, any_beyond, plain, paths, frames, content, behind_flag}
use Rattle.path_singles.specs.Converting.{left, from, over, verbs_of, first_of, behind_of}
use Rattle.path_singles.proofs.StepLaws.{beside, or_assoc, or_false}

-- ---- no index is past the end
pub take_min : (x : ℕ) (v : List ℕ) → take (min x (length v)) v ≡ take x v
take_min x v = go (leb x (length v)) refl
  where
    go : (b : Bool) → leb x (length v) ≡ b → take (min x (length v)) v ≡ take x v
    go true t = let h : x ≤ length v = leb-true x (length v) t in let e : min x (length v) ≡ x = omega arith in rw e
    go false t = let h : length v < x = leb-false x (length v) t in let e : min x (length v) ≡ length v = omega arith in rw e (take_all (length v) v (omega arith) ∙ sym (take_all x v (omega arith)))

pub drop_min : (x : ℕ) (v : List ℕ) → drop (min x (length v)) v ≡ drop x v
drop_min x v = go (leb x (length v)) refl
  where
    go : (b : Bool) → leb x (length v) ≡ b → drop (min x (length v)) v ≡ drop x v
    go true t = let h : x ≤ length v = leb-true x (length v) t in let e : min x (length v) ≡ x = omega arith in rw e
    go false t = let h : length v < x = leb-false x (length v) t in let e : min x (length v) ≡ length v = omega arith in rw e (drop_of_length-le v {i = length v} (omega arith) ∙ sym (drop_of_length-le v {i = x} (omega arith)))

-- n numbers from index k on, or all that there are
pub take_up_to : (k n : ℕ) (v : List ℕ) → k ≤ length v → take (min (k + n) (length v) - k) (drop k v) ≡ take n (drop k v)
take_up_to k n v h =
    let l : length (drop k v) ≡ length v - k = length-drop k v in
    let e : min (k + n) (length v) - k ≡ min n (length (drop k v)) = omega arith in
    rw e (take_min n (drop k v))

-- the number at index k, and x more
module _ (v : List ℕ) (k x : ℕ) (h : k < length v) where
  pub take_cut : take (min (suc k + x) (length v)) v ≡ take k v ++ (get_or v k 0 ∷ take x (drop (suc k) v))
  take_cut =
      take_min (suc k + x) v ∙ take-add (suc k) x v
      ∙ ap (λ (w : List ℕ). w ++ take x (drop (suc k) v)) (take-suc v k 0 h) ∙ append_assoc (take k v) (get_or v k 0 ∷ []) (take x (drop (suc k) v))

  pub drop_cut : drop (min (suc k + x) (length v)) v ≡ drop x (drop (suc k) v)
  drop_cut = drop_min (suc k + x) v ∙ sym (drop-drop x (suc k) v)

-- ---- nothing changed
from_plain : (v : List ℕ) (k : ℕ) → from v k (plain (drop k v)) ≡ left v false
unfolding from
from_plain v k = ap (λ (w : List ℕ). left w false) (take-append-drop k v)

paths_nil : (m : ℕ) → paths m [] ≡ plain []
unfolding paths
paths_nil zero = refl
paths_nil (suc m) = refl

pub from_end : (v : List ℕ) (k m : ℕ) → length v ≤ k → from v k (paths m (drop k v)) ≡ left v false
from_end v k m h = let d : drop k v ≡ [] = drop_of_length-le v h in ap (λ (w : List ℕ). from v k (paths m w)) d ∙ ap (from v k) (paths_nil m) ∙ ap (λ (w : List ℕ). from v k (plain w)) (sym d) ∙ from_plain v k

from_none : (v : List ℕ) (k : ℕ) → from v k (paths 0 (drop k v)) ≡ left v false
unfolding paths
from_none v k = from_plain v k

pub from_zero : (v : List ℕ) (k m : ℕ) → m ≤ 0 → from v k (paths m (drop k v)) ≡ left v false
from_zero v k m h = let e : m ≡ 0 = omega arith in ap (λ (i : ℕ). from v k (paths i (drop k v))) e ∙ from_none v k

-- ---- one path, and those behind it
module _ (v : List ℕ) (k : ℕ) (h : k < length v) where
  abbrev count_of : ℕ
  count_of = coordinates (verbs_of v k)

  abbrev steps_of : List ℕ
  steps_of = take count_of (drop (suc (get_or v k 0)) (drop (suc k) v))

  abbrev rest_of : List ℕ
  rest_of = drop count_of (drop (suc (get_or v k 0)) (drop (suc k) v))

  steps_are : take (behind_of v k - first_of v k) (drop (first_of v k) v) ≡ steps_of
  steps_are = take_up_to (first_of v k) count_of v (omega arith) ∙ ap (take count_of) (drop_cut v k (suc (get_or v k 0)) h)

  rest_is : drop (behind_of v k) v ≡ rest_of
  rest_is = drop_min (first_of v k + count_of) v ∙ sym (drop-drop count_of (first_of v k) v) ∙ ap (drop count_of) (drop_cut v k (suc (get_or v k 0)) h)

  front_long : length (take (first_of v k) v ++ map as_single steps_of) ≡ behind_of v k
  front_long =
      let a : length (take (first_of v k) v) ≡ min (first_of v k) (length v) = length-take (first_of v k) v in
      let b : length steps_of ≡ min (behind_of v k - first_of v k) (length (drop (first_of v k) v)) = ap length (sym steps_are) ∙ length-take (behind_of v k - first_of v k) (drop (first_of v k) v) in
      omega (arith, a, b, length-append (take (first_of v k) v) (map as_single steps_of), length-map steps_of as_single, length-drop (first_of v k) v)

  module _ {u : List ℕ} {c : Bool} (e : left u c ≡ over v (first_of v k) (behind_of v k)) where
    u_is : u ≡ (take (first_of v k) v ++ map as_single steps_of) ++ rest_of
    unfolding over
    u_is =
        ap (λ (s : Singled). s.shown) e ∙ ap₂ (λ (x y : List ℕ). take (first_of v k) v ++ (map as_single x ++ y)) steps_are rest_is
        ∙ sym (append_assoc (take (first_of v k) v) (map as_single steps_of) rest_of)

    c_is : c ≡ any_beyond steps_of
    unfolding over
    c_is = ap (λ (s : Singled). s.beyond) e ∙ ap any_beyond steps_are

    pub path_length : length u ≡ length v
    path_length =
        omega (arith, ap length u_is, length-append (take (first_of v k) v ++ map as_single steps_of) rest_of, front_long, ap length rest_is, length-drop (behind_of v k) v)

    front_is : take (behind_of v k) u ≡ take (first_of v k) v ++ map as_single steps_of
    front_is = ap (take (behind_of v k)) u_is ∙ take_at (take (first_of v k) v ++ map as_single steps_of) rest_of (behind_of v k) front_long

    back_is : drop (behind_of v k) u ≡ rest_of
    back_is = ap (drop (behind_of v k)) u_is ∙ drop_at (take (first_of v k) v ++ map as_single steps_of) rest_of (behind_of v k) front_long

    pub path_step : (m : ℕ) → from v k (paths (suc m) (drop k v)) ≡ beside c (from u (behind_of v k) (paths m (drop (behind_of v k) u)))
    unfolding from paths
    path_step m =
        let P : Singled = paths m rest_of in
        let X : List ℕ = get_or v k 0 ∷ take (suc (get_or v k 0)) (drop (suc k) v) in
        let M : List ℕ = map as_single steps_of in
        let w : (take (first_of v k) v ++ M) ++ P.shown ≡ take k v ++ (X ++ (M ++ P.shown)) =
        ap (λ (z : List ℕ). (z ++ M) ++ P.shown) (take_cut v k (suc (get_or v k 0)) h) ∙ append_assoc (take k v ++ X) M P.shown ∙ append_assoc (take k v) X (M ++ P.shown) in
        ap (λ (z : List ℕ). from v k (paths (suc m) z)) (drop-cons v k 0 h)
        ∙ ap₂ left (sym w) refl
        ∙ ap₂ (λ (x : List ℕ) (b : Bool). left (x ++ P.shown) (b or P.beyond)) (sym front_is) (sym c_is)
        ∙ ap (λ (z : List ℕ). left (take (behind_of v k) u ++ (paths m z).shown) (c or (paths m z).beyond)) (sym back_is)

-- the path, by the indexes that the code finds
pub path_over : (v : List ℕ) (k : ℕ) {w c i j : ℕ} {x : Singled} → k < length v → w ≡ min (k + 1 + get_or v k 0) (length v) → c ≡ coordinates (take (w - (k + 1)) (drop (k + 1) v))
    → i ≡ min (w + 1) (length v) → j ≡ min (i + c) (length v) → x ≡ over v i j → (x ≡ over v (first_of v k) (behind_of v k)) × (j ≡ behind_of v k)
path_over v k {w} {c} {i} {j} h e d f g p =
    let a : c ≡ coordinates (verbs_of v k) = d ∙ ap (λ (x : ℕ). coordinates (take (x - (k + 1)) (drop (k + 1) v))) e ∙ ap coordinates (take_up_to (k + 1) (get_or v k 0) v (omega arith) ∙ ap (λ (x : ℕ). take (get_or v k 0) (drop x v)) (add-one k)) in
    let b : i ≡ first_of v k = omega arith in
    let l : j ≡ behind_of v k = omega arith in
    (p ∙ ap₂ (over v) b l, l)

-- ---- the loop: the whole from the start is what is left from here, beside what was beyond so far
pub record Turning (v₀ : List ℕ) (k₀ m₀ : ℕ) (v : List ℕ) (k m : ℕ) (b : Bool) : Type 0 where
  pub size : length v ≡ length v₀
  pub inside : k ≤ length v
  pub same : from v₀ k₀ (paths m₀ (drop k₀ v₀)) ≡ beside b (from v k (paths m (drop k v)))

pub turns_from : (v : List ℕ) {k m : ℕ} → k ≤ length v → Turning v k m v k m false
turns_from v h = record { size = refl; inside = h; same = refl }

pub turns : (v₀ : List ℕ) {k₀ m₀ : ℕ} {v u : List ℕ} {k m n j : ℕ} {b c d : Bool} → Turning v₀ k₀ m₀ v k m b → m ≡ suc n → k < length v
    → left u c ≡ over v (first_of v k) (behind_of v k) → j ≡ behind_of v k → d ≡ b or c → Turning v₀ k₀ m₀ u j n d
turns v₀ {k₀} {m₀} {v} {u} {k} {m} {n} {j} {b} {c} {d} g h l e f x = record {
  size = path_length v k l e ∙ g.size;
  inside = omega (arith, path_length v k l e, f);
  same =
      g.same ∙ ap (λ (z : ℕ). beside b (from v k (paths z (drop k v)))) h ∙ ap (beside b) (path_step v k l e n)
      ∙ ap (left (from u (behind_of v k) (paths n (drop (behind_of v k) u))).shown) (or_assoc b c (from u (behind_of v k) (paths n (drop (behind_of v k) u))).beyond)
      ∙ ap₂ (λ (z : Bool) (i : ℕ). beside z (from u i (paths n (drop i u)))) (sym x) (sym f);
}

pub turned : (v₀ : List ℕ) {k₀ m₀ : ℕ} {v : List ℕ} {k m : ℕ} {b : Bool} → Turning v₀ k₀ m₀ v k m b → from v k (paths m (drop k v)) ≡ left v false
    → left v b ≡ from v₀ k₀ (paths m₀ (drop k₀ v₀))
turned v₀ {v = v} {b = b} g e = sym (g.same ∙ ap (beside b) e ∙ ap (left v) (or_false b))

-- ---- keyframed paths
module _ (v : List ℕ) (k : ℕ) where
  pub frames_none : length v ≤ k → left v false ≡ from v k (frames (drop k v))
  unfolding frames
  frames_none h = let d : drop k v ≡ [] = drop_of_length-le v h in sym (ap (λ (w : List ℕ). from v k (frames w)) d ∙ ap (λ (w : List ℕ). from v k (plain w)) (sym d) ∙ from_plain v k)

  module _ (h : k < length v) where
    pub frames_at : (x : Singled) → x ≡ from v (min (suc k + (get_or v k 0 + suc (get_or v k 0))) (length v)) (paths (suc (get_or v k 0)) (drop (min (suc k + (get_or v k 0 + suc (get_or v k 0))) (length v)) v))
        → x ≡ from v k (frames (drop k v))
    unfolding frames from any_beyond
    frames_at x e =
        let n : ℕ = get_or v k 0 in
        let P : Singled = paths (suc n) (drop (n + suc n) (drop (suc k) v)) in
        e ∙ ap₂ (λ (y z : List ℕ). left (y ++ (paths (suc n) z).shown) (paths (suc n) z).beyond) (take_cut v k (n + suc n) h) (drop_cut v k (n + suc n) h)
        ∙ ap (λ (w : List ℕ). left w P.beyond) (append_assoc (take k v) (n ∷ take (n + suc n) (drop (suc k) v)) P.shown)
        ∙ sym (ap (λ (w : List ℕ). from v k (frames w)) (drop-cons v k 0 h))

    pub frames_beyond : length v ≤ get_or v k 0 → left v false ≡ from v k (frames (drop k v))
    frames_beyond l = frames_at (left v false) (sym (from_end v (min (suc k + (get_or v k 0 + suc (get_or v k 0))) (length v)) (suc (get_or v k 0)) (omega arith)))

    -- as the code finds them
    pub frames_from : {n i : ℕ} {x : Singled} → n ≡ get_or v k 0 → i ≡ min (k + 1 + (n + n + 1)) (length v) → x ≡ from v i (paths (n + 1) (drop i v)) → x ≡ from v k (frames (drop k v))
    frames_from {n} {i} {x} e d f =
        let a : i ≡ min (suc k + (get_or v k 0 + suc (get_or v k 0))) (length v) = omega arith in
        let b : n + 1 ≡ suc (get_or v k 0) = omega arith in
        frames_at x (f ∙ ap₂ (λ (j m : ℕ). from v j (paths m (drop j v))) a b)

-- ---- an attribute, by its flag number
module _ (v : List ℕ) (k : ℕ) where
  flag_is : (s : Singled) → content (get_or v k 0) (drop (suc k) v) ≡ s → behind_flag k v ≡ from v (suc k) s
  unfolding behind_flag from any_beyond
  flag_is s e = ap (λ (s : Singled). left (take (suc k) v ++ s.shown) s.beyond) e

  pub attribute_none : get_or v k 0 ≡ 0 → left v false ≡ behind_flag k v
  unfolding content
  attribute_none e = sym (flag_is (plain (drop (suc k) v)) (rw e) ∙ from_plain v (suc k))

  pub attribute_one : {x : Singled} → get_or v k 0 ≡ 1 → x ≡ from v (k + 1) (paths 1 (drop (k + 1) v)) → x ≡ behind_flag k v
  unfolding content
  attribute_one e d = d ∙ ap (λ (i : ℕ). from v i (paths 1 (drop i v))) (add-one k) ∙ sym (flag_is (paths 1 (drop (suc k) v)) (rw e))

  pub attribute_frames : {x : Singled} → (get_or v k 0 ≡ 0 → ⊥) → (get_or v k 0 ≡ 1 → ⊥) → x ≡ from v (k + 1) (frames (drop (k + 1) v)) → x ≡ behind_flag k v
  unfolding content
  attribute_frames y z d = d ∙ ap (λ (i : ℕ). from v i (frames (drop i v))) (add-one k) ∙ sym (flag_is (frames (drop (suc k) v)) (rw (ne_eqb (get_or v k 0) 0 y, ne_eqb (get_or v k 0) 1 z)))
