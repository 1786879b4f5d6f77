-- The answer lies between the smallest and the largest of the values; no second answer fits the promise; and of the keyframes one covers t, and only one.
use Prim.Native.Nat.{ℕ, zero, suc, ◌+◌, ◌-◌, ◌*◌, ◌^◌, ◌≤◌, ◌<◌, min, max}
use mathlib.Core.List.{List}
use mathlib.Core.Bool.{Bool, true, false}
use mathlib.Core.Path.{◌≡◌, refl, ap, sym, subst, ◌∙◌}
use native.Mathlib.Nat.{mul-add, mul-le-mul_right}
use native.Mathlib.Omega.{arith}
use lib.ListN.{length, get_or}
use lib.Dec.{ltb, leb, eqb}
use borrow.Author.Tests.{ltb-false, leb-true, leb-false, lt-ltb, lt-leb, le-leb}
use Rattle.format.specs.Tests.{pick, ◌or◌}
use Rattle.format.specs.Bits.{order_named}
use Rattle.format.specs.Reading.{Ending, At, Fault}
use Rattle.format.specs.Bodies.{mask_block, attributes, read_body}
use Rattle.format.proofs.Absurd.{clash}
use Rattle.opacity.specs.Opacity.{Opacity, fraction, over1, refused_by, from_opacity, Keyframes, keyframes_of, covers, covering, linear, in_frame, at_frame, any, late, falls, keyframed_at, shown_at, judged, of_mask, opacity_at}
use Rattle.opacity.specs.Range.{smallest, largest, smallest_of, largest_of, Lies}
use Rattle.opacity.specs.Answers.{opacity_of}
use Rattle.opacity.specs.Inner.{seen_of}
use Rattle.opacity.specs.declared.Fraction.{Fraction}
use Rattle.opacity.specs.declared.frames.Span.{Span}
use Rattle.reasons.specs.Numbers.{number_of}
use Rattle.reasons.specs.declared.Reason.{Reason}
use Rattle.reasons.proofs.NumberLaws.{number_one}
use Rattle.std.proofs.Common.{Some, Result, Ok, Err}
use Rattle.opacity.proofs.FrameLaws.{frame_of, seen_frame, Covered, seen_covered}

-- ---- the smallest and the largest are bounds
pub smallest_le : (v : ℕ → ℕ) (n k : ℕ) → k ≤ n → smallest v n ≤ v k
unfolding smallest
smallest_le v zero k h = let z : k ≡ 0 = omega arith in rw z (omega arith)
smallest_le v (suc n) k h = by (leb k n) refl (smallest_le v n k)
  where
    by : (s : Bool) → leb k n ≡ s → (k ≤ n → smallest v n ≤ v k) → min (smallest v n) (v (suc n)) ≤ v k
    by true e i = omega (arith, i (leb-true k n e))
    by false e i = let z : k ≡ suc n = omega (arith, leb-false k n e) in rw z (omega arith)

pub le_largest : (v : ℕ → ℕ) (n k : ℕ) → k ≤ n → v k ≤ largest v n
unfolding largest
le_largest v zero k h = let z : k ≡ 0 = omega arith in rw z (omega arith)
le_largest v (suc n) k h = by (leb k n) refl (le_largest v n k)
  where
    by : (s : Bool) → leb k n ≡ s → (k ≤ n → v k ≤ largest v n) → v k ≤ max (largest v n) (v (suc n))
    by true e i = omega (arith, i (leb-true k n e))
    by false e i = let z : k ≡ suc n = omega (arith, leb-false k n e) in rw z (omega arith)

-- ---- a fraction that is made of values between lo and hi
module _ (lo hi : ℕ) where
  lies_one : (v : ℕ) → lo ≤ v → v ≤ hi → Lies lo hi (over1 v)
  lies_one v h l = (omega arith, omega arith, omega arith)

  -- d and e: how far t is from the end, and from the start
  share : (u v d e q : ℕ) → lo ≤ u → u ≤ hi → lo ≤ v → v ≤ hi → q ≡ d + e → 0 < q → Lies lo hi (fraction (u * d + v * e) q)
  share u v d e q a b c f s h = rw s (
    omega (arith, mul-add lo d e, mul-le-mul_right d a, mul-le-mul_right e c),
    omega (arith, mul-add hi d e, mul-le-mul_right d b, mul-le-mul_right e f),
    omega arith,
  )

  lies_pick : (s : Bool) (x y : Opacity) → (s ≡ true → Lies lo hi x) → (s ≡ false → Lies lo hi y) → Lies lo hi (pick s x y)
  lies_pick true x y f g = f refl
  lies_pick false x y f g = g refl

  -- a call: 24, a body that is too long, and how the body ended
  lies_call : (s r : Bool) (z : Ending) (x : Opacity) → Lies lo hi x → Lies lo hi (pick s (refused_by 24) (pick r (refused_by 18) (judged z x)))
  lies_call true r z x h = refl
  lies_call false true z x h = refl
  lies_call false false (At p) x h = h
  lies_call false false (Fault e) x h = refl

-- ---- keyframes
module _ (K : Keyframes) (t lo hi : ℕ) (down : (k : ℕ) → k ≤ K.count → lo ≤ K.value k) (up : (k : ℕ) → k ≤ K.count → K.value k ≤ hi) where
  lies_linear : (k : ℕ) → k < K.count → K.time k ≤ t → t < K.time (suc k) → Lies lo hi (linear K t k)
  lies_linear k h a z = share lo hi (K.value k) (K.value (suc k)) (K.time (suc k) - t) (t - K.time k) (K.time (suc k) - K.time k)
      (down k (omega arith)) (up k (omega arith)) (down (suc k) (omega arith)) (up (suc k) (omega arith)) (omega arith) (omega arith)

  lies_in : (k : ℕ) → k < K.count → K.time k ≤ t → t < K.time (suc k) → Lies lo hi (in_frame K t k)
  lies_in k h a z = lies_pick lo hi (eqb (K.kind k) 3) (over1 (K.value k)) (pick (eqb (K.kind k) 1) (linear K t k) (refused_by 28))
      (λ e. lies_one lo hi (K.value k) (down k (omega arith)) (up k (omega arith)))
      (λ e. lies_pick lo hi (eqb (K.kind k) 1) (linear K t k) (refused_by 28) (λ f. lies_linear k h a z) (λ f. refl))

  lies_covering : K.time 0 ≤ t → t < K.time K.count → Lies lo hi (in_frame K t (covering K t K.count))
  lies_covering h l =
      let w : (s : Span) × ((seen_of K t K.count).covering ≡ Some s) × Covered K t K.count s = seen_covered K t K.count h l in
      let c : Covered K t K.count w.0 = w.2 in
      let e : w.0.frame ≡ covering K t K.count = ap frame_of (sym w.1) ∙ seen_frame K t K.count in
      subst (λ (k : ℕ). Lies lo hi (in_frame K t k)) e
      (lies_in w.0.frame c.inside (omega (arith, c.start, c.from)) (omega (arith, c.end, c.before)))

  lies_frame : Lies lo hi (at_frame K t)
  unfolding at_frame
  lies_frame =
      lies_pick lo hi (ltb t (K.time 0)) (over1 (K.value 0)) (pick (leb (K.time K.count) t) (over1 (K.value K.count)) (in_frame K t (covering K t K.count))) (λ e. lies_one lo hi (K.value 0) (down 0 (omega arith)) (up 0 (omega arith)))
      (λ e. lies_pick lo hi (leb (K.time K.count) t) (over1 (K.value K.count)) (in_frame K t (covering K t K.count))
      (λ f. lies_one lo hi (K.value K.count) (down K.count (omega arith)) (up K.count (omega arith)))
      (λ f. lies_covering (ltb-false t (K.time 0) e) (leb-false (K.time K.count) t f)))

  lies_keyframed : Lies lo hi (keyframed_at K t)
  unfolding keyframed_at
  lies_keyframed =
      lies_pick lo hi (late t or any (suc K.count) (λ k. late (K.time k))) (refused_by 26) (pick (any K.count (falls K)) (refused_by 27) (at_frame K t))
      (λ e. refl) (λ e. lies_pick lo hi (any K.count (falls K)) (refused_by 27) (at_frame K t) (λ f. refl) (λ f. lies_frame))

-- ---- the numbers of an opacity
lies_one_of : (s r : Bool) (a z v : ℕ) (x : Opacity) → Lies a z x → Lies (pick s 255 (pick r v a)) (pick s 255 (pick r v z)) (pick s (over1 255) (pick r (over1 v) x))
lies_one_of true r a z v x h = (omega arith, omega arith, omega arith)
lies_one_of false true a z v x h = (omega arith, omega arith, omega arith)
lies_one_of false false a z v x h = h

lies_shown : (ns : List ℕ) (t : ℕ) → Lies (smallest_of ns) (largest_of ns) (shown_at ns t)
unfolding shown_at
lies_shown ns t =
    let K : Keyframes = keyframes_of (get_or ns 1 0) ns in
    lies_one_of (eqb (get_or ns 0 0) 0) (eqb (get_or ns 0 0) 1) (smallest K.value K.count) (largest K.value K.count) (get_or ns 1 0) (keyframed_at K t)
    (lies_keyframed K t (smallest K.value K.count) (largest K.value K.count) (smallest_le K.value K.count) (le_largest K.value K.count))

-- THE theorem: of every order, every body and every frame
pub between : (order : ℕ) (b : List ℕ) (t : ℕ) → Lies (smallest_of (from_opacity (order_named order) b)) (largest_of (from_opacity (order_named order) b)) (opacity_at order b t)
unfolding opacity_at of_mask
between order b t =
    let ns : List ℕ = from_opacity (order_named order) b in
    lies_call (smallest_of ns) (largest_of ns) (ltb 1 order) (leb (2 ^ 60) (length b)) (read_body (order_named order) (attributes mask_block) b).ended (shown_at ns t) (lies_shown ns t)

-- ---- no second answer fits the promise of `opacity`
pub opacity_one : (a b : Result Fraction Reason) → opacity_of a ≡ opacity_of b → a ≡ b
opacity_one (Ok f) (Ok g) e =
    let c : f.above ≡ g.above = cc in
    let d : f.below ≡ g.below = cc in
    λ i. Ok (record { above = c i; below = d i })
opacity_one (Ok f) (Err r) e = clash cc
opacity_one (Err r) (Ok f) e = clash cc
opacity_one (Err r) (Err s) e =
    let c : number_of r ≡ number_of s = cc in
    ap Err (number_one r s c)

-- ---- where times rise, the keyframe that covers t is the one that is taken
module _ (K : Keyframes) (t : ℕ) where
  rise_one : (n : ℕ) (s : Bool) → s or falls K n ≡ false → (s ≡ false) × (K.time n < K.time (suc n))
  rise_one n true h = clash cc
  rise_one n false h = (refl, leb-false (K.time (suc n)) (K.time n) h)

  rises : (n : ℕ) → any n (falls K) ≡ false → (j : ℕ) → j ≤ n → K.time j ≤ K.time n
  unfolding any
  rises zero h j l = let z : j ≡ 0 = omega arith in rw z (omega arith)
  rises (suc n) h j l =
      let m : (any n (falls K) ≡ false) × (K.time n < K.time (suc n)) = rise_one n (any n (falls K)) h in
      by (leb j n) refl m.1 (rises n m.0 j)
    where
      by : (s : Bool) → leb j n ≡ s → K.time n < K.time (suc n) → (j ≤ n → K.time j ≤ K.time n) → K.time j ≤ K.time (suc n)
      by true e m i = omega (arith, i (leb-true j n e))
      by false e m i = let z : j ≡ suc n = omega (arith, leb-false j n e) in rw z (omega arith)

  pub only_cover : (n : ℕ) → any n (falls K) ≡ false → (k : ℕ) → k < n → K.time k ≤ t → t < K.time (suc k) → covering K t n ≡ k
  unfolding any covering
  only_cover zero h k l a z = absurd (omega arith)
  only_cover (suc n) h k l a z =
      let m : (any n (falls K) ≡ false) × (K.time n < K.time (suc n)) = rise_one n (any n (falls K)) h in
      by (leb n k) refl (λ g. only_cover n m.0 k g a z) (λ g. rises n m.0 (suc k) g)
    where
      by : (s : Bool) → leb n k ≡ s → (k < n → covering K t n ≡ k) → (suc k ≤ n → K.time (suc k) ≤ K.time n) → pick (covers K t n) n (covering K t n) ≡ k
      by true e i r = let q : n ≡ k = omega (arith, leb-true n k e) in rw (q, le-leb (K.time k) t a, lt-ltb t (K.time (suc k)) z)
      by false e i r =
          let g : k < n = leb-false n k e in
          rw (lt-leb (K.time n) t (omega (arith, r (omega arith)))) (i g)
