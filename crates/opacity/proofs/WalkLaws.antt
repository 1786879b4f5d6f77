-- A walk over the times of n keyframes, one time after the other.
use Prim.Native.Nat.{ℕ, suc, ◌+◌, ◌-◌, ◌*◌, ◌^◌, ◌≤◌, ◌<◌}
use mathlib.Core.List.{List, [], ◌∷◌}
use mathlib.Core.Bool.{false}
use Rattle.std.proofs.Common.{None}
use mathlib.Core.Path.{◌≡◌, ap, sym, ◌∙◌}
use native.Mathlib.Numerals.{add-one}
use native.Mathlib.Omega.{arith}
use lib.ListN.{length, get_or, drop}
use lib.Seq.{drop-cons}
use Rattle.format.specs.Bits.{Order}
use Rattle.format.specs.Reading.{Reading, shows}
use Rattle.format.specs.Formats.{times, the}
use Rattle.format.specs.Items.{run, time}
use Rattle.format.proofs.WalkLaws.{run_le}
use Rattle.opacity.specs.Opacity.{Keyframes, late}
use Rattle.opacity.specs.Inner.{place_in, is_at, IsAt, TimesAt, noted, seen_of, Walked}
use Rattle.opacity.specs.declared.frames.Seen.{Seen}
use Rattle.opacity.proofs.ReadLaws.{Timed, timed, times_many, at_one}

-- the times after the first, ts, stand from p₀ on; those of the first keyframes were read, and those of the others stand from p on
pub record Going (o : Order) (b : List ℕ) (K : Keyframes) (n t p₀ start p : ℕ) (seen : Seen) (frame : ℕ) : Type 0 where
  pub few : length b < 2 ^ 60
  pub place : p ≤ 8 * length b
  pub below : frame ≤ n
  pub ts : List ℕ
  pub end : ℕ
  pub many : length ts ≡ n
  pub all : run o b (times n time) p₀ ≡ shows ts end
  pub each : (k : ℕ) → k < n → K.time (suc k) ≡ get_or ts k 0
  pub rest : run o b (times (n - frame) time) p ≡ shows (drop frame ts) end
  pub starts : start ≡ K.time frame
  pub saw : seen ≡ seen_of K t frame

nothing_read : (o : Order) (b : List ℕ) (i : ℕ) → i ≡ 0 → (q : ℕ) {xs : List ℕ} {e : ℕ} → run o b (times i time) q ≡ shows xs e → q ≡ e
unfolding run times
nothing_read o b i z q h = at_one (ap (λ (r : Reading). r.ended) (rw z at h))

-- a time that was read is there
timed_there : (o : Order) (b : List ℕ) (p : ℕ) {v q : ℕ} → run o b time p ≡ shows (v ∷ []) q → IsAt (run o b time p).ended
timed_there o b p e = ap (λ (r : Reading). is_at r.ended) e

pub first_there : (o : Order) (b : List ℕ) (K : Keyframes) (n : ℕ) {p : ℕ} → TimesAt o b K n p → IsAt (run o b time p).ended
first_there o b K n {p} T = timed_there o b p (timed o b n p T.end T.ts T.reads).one

module _ (o : Order) (b : List ℕ) (K : Keyframes) (n t : ℕ) where
  pub next_there : {p₀ start p : ℕ} {seen : Seen} {frame : ℕ} → Going o b K n t p₀ start p seen frame → frame < n → IsAt (run o b time p).ended
  next_there {p = p} {frame = frame} g h =
      let i : n - frame ≡ suc (n - suc frame) = omega arith in
      timed_there o b p (timed o b (n - suc frame) p g.end (drop frame g.ts) (rw i at g.rest)).one

  -- the first time was read
  module _ {p : ℕ} (T : TimesAt o b K n p) {v m : ℕ} (number : v ≡ the (run o b time p).shown) (next : m ≡ place_in (run o b time p).ended) where
    abbrev D : Timed o b n p T.end T.ts
    D = timed o b n p T.end T.ts T.reads

    v_is : v ≡ D.v
    v_is = number ∙ ap (λ (r : Reading). the r.shown) D.one

    pub first_is : v ≡ K.time 0
    first_is = v_is ∙ sym (T.each 0 (omega arith) ∙ ap (λ (l : List ℕ). get_or l 0 0) D.all)

    m_is : m ≡ D.mid
    m_is = next ∙ ap (λ (r : Reading). place_in r.ended) D.one

    pub going_start : {seen : Seen} → seen ≡ record { late = late v; falls = false; covering = None } → Going o b K n t m v m seen 0
    unfolding seen_of
    going_start e =
        let l : (p ≤ D.mid) × (D.mid ≤ 8 * length b) = run_le o b time p D.mid T.place (ap (λ (r : Reading). r.ended) D.one) in
        let r : run o b (times n time) m ≡ shows D.later T.end = rw m_is D.rest in
        let z : n - 0 ≡ n = omega arith in
        record {
          few = T.few;
          place = omega (arith, m_is, l.1);
          below = omega arith;
          ts = D.later;
          end = T.end;
          many = times_many o b n m T.end D.later r;
          all = r;
          each = λ k h. T.each (suc k) (omega arith) ∙ ap (λ (l : List ℕ). get_or l (suc k) 0) D.all;
          rest = rw z r;
          starts = first_is;
          saw = e ∙ ap (λ (x : ℕ). record { late = late x; falls = false; covering = None }) first_is;
        }

    -- all were read
    pub going_done : {start q : ℕ} {seen : Seen} {frame : ℕ} → Going o b K n t m start q seen frame → n ≤ frame
        → Walked K n t seen v start × (q ≡ place_in (run o b (times (suc n) time) p).ended)
    going_done {start} {q} {seen} {frame} g h =
        let z : frame ≡ n = omega (arith, g.below) in
        let r : run o b (times n time) m ≡ shows D.later T.end = rw m_is D.rest in
        let x : shows g.ts g.end ≡ shows D.later T.end = sym g.all ∙ r in
        let e : g.end ≡ T.end = at_one (ap (λ (r : Reading). r.ended) x) in (
          record { saw = g.saw ∙ ap (seen_of K t) z; first = first_is; last = g.starts ∙ ap K.time z },
          nothing_read o b (n - frame) (omega arith) q g.rest ∙ e ∙ ap (λ (r : Reading). place_in r.ended) (sym T.reads),
        )

  -- one more
  pub going_next : {p₀ start p v m : ℕ} {seen s : Seen} {frame : ℕ} → Going o b K n t p₀ start p seen frame → frame < n
      → v ≡ the (run o b time p).shown → m ≡ place_in (run o b time p).ended → s ≡ noted seen (record { frame = frame; start = start; end = v }) t → Going o b K n t p₀ v m s (frame + 1)
  unfolding seen_of
  going_next {p₀} {start} {p} {v} {m} {seen} {s} {frame} g h number next saw =
      let i : n - frame ≡ suc (n - suc frame) = omega arith in
      let D : Timed o b (n - suc frame) p g.end (drop frame g.ts) = timed o b (n - suc frame) p g.end (drop frame g.ts) (rw i at g.rest) in
      let c : D.v ∷ D.later ≡ get_or g.ts frame 0 ∷ drop (suc frame) g.ts = sym D.all ∙ drop-cons g.ts frame 0 (omega (arith, g.many)) in
      let x : v ≡ K.time (suc frame) = number ∙ ap (λ (r : Reading). the r.shown) D.one ∙ ap (λ (l : List ℕ). get_or l 0 0) c ∙ sym (g.each frame h) in
      let y : m ≡ D.mid = next ∙ ap (λ (r : Reading). place_in r.ended) D.one in
      let l : (p ≤ D.mid) × (D.mid ≤ 8 * length b) = run_le o b time p D.mid g.place (ap (λ (r : Reading). r.ended) D.one) in
      let d : D.later ≡ drop (suc frame) g.ts = ap (drop 1) c in
      let w : run o b (times (n - suc frame) time) m ≡ shows (drop (suc frame) g.ts) g.end = rw (y, ← d) D.rest in
      let u : s ≡ seen_of K t (suc frame) = saw ∙ rw (g.saw, g.starts, x) in
      rw (add-one frame) (record {
        few = g.few;
        place = omega (arith, y, l.1);
        below = omega arith;
        ts = g.ts;
        end = g.end;
        many = g.many;
        all = g.all;
        each = g.each;
        rest = w;
        starts = x;
        saw = u;
      })
