-- Keyframes: what a walk over their times has seen, and the frame that covers t.
use Prim.Native.Nat.{ℕ, zero, suc, ◌≤◌, ◌<◌}
use mathlib.Core.Bool.{Bool, true, false}
use mathlib.Core.Path.{◌≡◌, refl, ap, sym, subst, ◌∙◌}
use native.Mathlib.Omega.{arith}
use Rattle.std.proofs.Common.{Option, Some, None}
use Rattle.std.specs.Option.{is_some}
use lib.Dec.{ltb, leb}
use borrow.Author.Tests.{lt-ltb, le-ltb, le-leb, lt-leb, ltb-true, ltb-false, leb-true, leb-false}
use Rattle.format.specs.Tests.{pick, ◌or◌}
use Rattle.format.proofs.Absurd.{clash}
use Rattle.opacity.specs.Opacity.{Keyframes, over1, refused_by, covers, covering, in_frame, at_frame, any, late, falls, keyframed_at}
use Rattle.opacity.specs.Inner.{span_of, seen_of, Within}
use Rattle.opacity.specs.declared.frames.Seen.{Seen}
use Rattle.opacity.specs.declared.frames.Span.{Span}

-- the number of the keyframe that was seen, 0 where none was
abbrev pub frame_of : Option Span → ℕ
frame_of None = 0
frame_of (Some s) = s.frame

module _ (K : Keyframes) (t : ℕ) where
  pub seen_late : (n : ℕ) → (seen_of K t n).late ≡ any (suc n) (λ k. late (K.time k))
  unfolding seen_of any
  seen_late zero = refl
  seen_late (suc n) = ap (λ (s : Bool). s or late (K.time (suc n))) (seen_late n)

  pub seen_falls : (n : ℕ) → (seen_of K t n).falls ≡ any n (falls K)
  unfolding seen_of any
  seen_falls zero = refl
  seen_falls (suc n) = ap (λ (s : Bool). s or falls K n) (seen_falls n)

  pub seen_frame : (n : ℕ) → frame_of (seen_of K t n).covering ≡ covering K t n
  unfolding seen_of covering
  seen_frame zero = refl
  seen_frame (suc n) = by (covers K t n) ∙ ap (λ (f : ℕ). pick (covers K t n) n f) (seen_frame n)
    where
      by : (b : Bool) → frame_of (pick b (Some (span_of K n)) (seen_of K t n).covering) ≡ pick b n (frame_of (seen_of K t n).covering)
      by true = refl
      by false = refl

  -- no time is above the limit
  none_more : (n : ℕ) (s : Bool) → s or late (K.time n) ≡ false → (s ≡ false) × (K.time n ≤ 4294967295)
  none_more n true h = clash cc
  none_more n false h = (refl, ltb-false 4294967295 (K.time n) h)

  pub none_late : (n : ℕ) → any (suc n) (λ k. late (K.time k)) ≡ false → (k : ℕ) → k ≤ n → K.time k ≤ 4294967295
  unfolding any
  none_late zero h k l = let z : k ≡ 0 = omega arith in rw z (none_more 0 false h).1
  none_late (suc n) h k l =
      let m : (any (suc n) (λ k. late (K.time k)) ≡ false) × (K.time (suc n) ≤ 4294967295) = none_more (suc n) (any (suc n) (λ k. late (K.time k))) h in
      by (leb k n) refl m.1 (none_late n m.0 k)
    where
      by : (s : Bool) → leb k n ≡ s → K.time (suc n) ≤ 4294967295 → (k ≤ n → K.time k ≤ 4294967295) → K.time k ≤ 4294967295
      by true e h i = i (leb-true k n e)
      by false e h i = let z : k ≡ suc n = omega (arith, leb-false k n e) in rw z h

  -- from the first start up to the last end a keyframe was seen that covers t
  pub record Covered (n : ℕ) (s : Span) : Type 0 where
    pub inside : s.frame < n
    pub start : s.start ≡ K.time s.frame
    pub end : s.end ≡ K.time (suc s.frame)
    pub from : s.start ≤ t
    pub before : t < s.end

  pub seen_covered : (n : ℕ) → K.time 0 ≤ t → t < K.time n → (s : Span) × ((seen_of K t n).covering ≡ Some s) × Covered n s
  unfolding seen_of
  seen_covered zero h l = absurd (omega arith)
  seen_covered (suc n) h l = by (leb (K.time n) t) (ltb t (K.time (suc n))) refl refl (seen_covered n h)
    where
      by : (a z : Bool) → leb (K.time n) t ≡ a → ltb t (K.time (suc n)) ≡ z → (t < K.time n → (s : Span) × ((seen_of K t n).covering ≡ Some s) × Covered n s)
          → (s : Span) × ((seen_of K t (suc n)).covering ≡ Some s) × Covered (suc n) s
      by true true a z i =
          (span_of K n, rw (a, z) refl, record { inside = omega arith; start = refl; end = refl; from = leb-true (K.time n) t a; before = ltb-true t (K.time (suc n)) z })
      by true false a z i = absurd (omega (arith, ltb-false t (K.time (suc n)) z))
      by false z a e i =
          let c : (s : Span) × ((seen_of K t n).covering ≡ Some s) × Covered n s = i (leb-false (K.time n) t a) in
          let d : Covered n c.0 = c.2 in
          (c.0, rw a c.1, record { inside = omega (arith, d.inside); start = d.start; end = d.end; from = d.from; before = d.before })

-- ---- what the tests of the code tell
module _ (K : Keyframes) (n t : ℕ) (count : K.count ≡ n) where
  pub frame_before : t < K.time 0 → over1 (K.value 0) ≡ at_frame K t
  unfolding at_frame
  frame_before h = rw (lt-ltb t (K.time 0) h)

  pub frame_behind : K.time 0 ≤ t → K.time n ≤ t → over1 (K.value n) ≡ at_frame K t
  unfolding at_frame
  frame_behind h l = rw (le-ltb t (K.time 0) h, count, le-leb (K.time n) t l)

  pub frame_inside : {s : Span} → Within K n t s → K.time 0 ≤ t → t < K.time n → in_frame K t s.frame ≡ at_frame K t
  unfolding at_frame
  frame_inside {s} w h l =
      let z : K.time K.count ≡ K.time n = ap K.time count in
      let e : covering K t K.count ≡ s.frame = ap (covering K t) count ∙ w.which in
      rw (le-ltb t (K.time 0) h, lt-leb (K.time K.count) t (omega arith), e)

  pub late_frame : 4294967295 < t → refused_by 26 ≡ keyframed_at K t
  unfolding keyframed_at
  late_frame h = rw (lt-ltb 4294967295 t h)

  -- the walk's verdict on the times, t being in the limit
  module _ (small : t ≤ 4294967295) {s : Seen} (saw : s ≡ seen_of K t n) where
    pub late_time : s.late ≡ true → refused_by 26 ≡ keyframed_at K t
    unfolding keyframed_at
    late_time h =
        let e : any (suc n) (λ k. late (K.time k)) ≡ true = sym (seen_late K t n) ∙ ap (λ (x : Seen). x.late) (sym saw) ∙ h in
        rw (le-ltb 4294967295 t small, count, e)

    module _ (early : s.late ≡ false) where
      none : any (suc n) (λ k. late (K.time k)) ≡ false
      none = sym (seen_late K t n) ∙ ap (λ (x : Seen). x.late) (sym saw) ∙ early

      pub falling : s.falls ≡ true → refused_by 27 ≡ keyframed_at K t
      unfolding keyframed_at
      falling h =
          let e : any n (falls K) ≡ true = sym (seen_falls K t n) ∙ ap (λ (x : Seen). x.falls) (sym saw) ∙ h in
          rw (le-ltb 4294967295 t small, count, none, e)

      pub rising : s.falls ≡ false → at_frame K t ≡ keyframed_at K t
      unfolding keyframed_at
      rising h =
          let e : any n (falls K) ≡ false = sym (seen_falls K t n) ∙ ap (λ (x : Seen). x.falls) (sym saw) ∙ h in
          rw (le-ltb 4294967295 t small, count, none, e)

  -- t is inside
  module _ {s : Seen} (saw : s ≡ seen_of K t n) (h : K.time 0 ≤ t) (l : t < K.time n) where
    covered : (k : Span) × ((seen_of K t n).covering ≡ Some k) × Covered K t n k
    covered = seen_covered K t n h l

    pub some_covers : is_some s.covering ≡ true
    some_covers = rw saw (ap is_some covered.1)

    pub seen_within : {k : Span} → s.late ≡ false → s.covering ≡ Some k → Within K n t k
    seen_within {k} early e =
        let none : any (suc n) (λ k. late (K.time k)) ≡ false = sym (seen_late K t n) ∙ ap (λ (x : Seen). x.late) (sym saw) ∙ early in
        let w : Some covered.0 ≡ Some k = sym covered.1 ∙ ap (λ (x : Seen). x.covering) (sym saw) ∙ e in
        let z : covered.0 ≡ k = cc in
        let c : Covered K t n k = subst (Covered K t n) z covered.2 in
        record {
          which = sym (seen_frame K t n) ∙ ap (λ (x : Seen). frame_of x.covering) (sym saw) ∙ ap frame_of e;
          inside = c.inside;
          start = c.start;
          end = c.end;
          from = c.from;
          before = c.before;
          small = omega (arith, c.end, none_late K t n none (suc k.frame) (omega (arith, c.inside)));
        }
