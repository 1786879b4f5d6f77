-- What the functions below `opacity` suppose and answer: where the parts of a judged body stand, and what a walk over the times has seen. Not to be believed,
-- only used.
use Rattle.std.specs.Prelude.{ℕ, zero, suc, ◌+◌, ◌*◌, ◌^◌, ◌≤◌, ◌<◌, List, ◌∷◌, ◌++◌, Bool, true, false, ◌≡◌, length, get_or, ltb, leb, Some, None}
use Rattle.format.specs.Tests.{pick, ◌and◌, ◌or◌}
use Rattle.format.specs.Bits.{Order, ub}
use Rattle.format.specs.Reading.{Ending, At, Fault, shows}
use Rattle.format.specs.Formats.{times}
use Rattle.format.specs.Items.{run, time, skipped}
use Rattle.format.specs.Bodies.{Attribute, Simple, Bytes, ◌of◌, content, mask_block, attributes, read_body}
use Rattle.opacity.specs.Opacity.{Keyframes, from_opacity, keyframes_of, covering, late}
use Rattle.opacity.specs.declared.frames.Seen.{Seen}
use Rattle.opacity.specs.declared.frames.Span.{Span}

-- the place where a reading ended; 0 where it did not
abbrev pub place_in : Ending → ℕ
place_in (At p) = p
place_in (Fault e) = 0

-- it was read
abbrev pub is_at : Ending → Bool
is_at (At p) = true
is_at (Fault e) = false

abbrev pub IsAt : Ending → Type 0
IsAt z = is_at z ≡ true

-- the body was judged, and is a mask's
pub record Judged (o : Order) (b : List ℕ) : Type 0 where
  pub few : length b < 2 ^ 60
  pub reads : IsAt (read_body o (attributes mask_block) b).ended

-- the opacity's row of the attribute list
abbrev pub opacity_row : Attribute
opacity_row = Simple of Bytes

-- the opacity has the flag number φ, and its content stands at p
pub record Finds (o : Order) (b : List ℕ) (φ p : ℕ) : Type 0 where
  pub few : length b < 2 ^ 60
  pub place : p ≤ 8 * length b
  pub reads : IsAt (run o b (content opacity_row φ) p).ended
  pub after : List ℕ
  pub shown : from_opacity o b ≡ (φ ∷ (run o b (content opacity_row φ) p).shown) ++ after

-- the same, keyframed
pub record Framed (o : Order) (b : List ℕ) (p : ℕ) : Type 0 where
  pub flag : ℕ
  pub more : 1 < flag
  pub finds : Finds o b flag p

-- the mask's keyframes
unfoldable pub mask_frames : Order → List ℕ → Keyframes
mask_frames o b = keyframes_of (get_or (from_opacity o b) 1 0) (from_opacity o b)

-- the whole byte at or after p
abbrev pub whole : ℕ → ℕ
whole p = p + skipped p

-- the n + 1 times of K stand from p on
pub record TimesAt (o : Order) (b : List ℕ) (K : Keyframes) (n p : ℕ) : Type 0 where
  pub few : length b < 2 ^ 60
  pub place : p ≤ 8 * length b
  pub ts : List ℕ
  pub end : ℕ
  pub reads : run o b (times (suc n) time) p ≡ shows ts end
  pub each : (k : ℕ) → k ≤ n → K.time k ≡ get_or ts k 0

-- at p stand a width, and the n + 1 values of K
abbrev pub width_at : Order → List ℕ → ℕ → ℕ
width_at o b p = ub o b p 5 + 1

pub record ValuesAt (o : Order) (b : List ℕ) (K : Keyframes) (n p : ℕ) : Type 0 where
  pub few : length b < 2 ^ 60
  pub within : p + 5 + width_at o b p * suc n ≤ 8 * length b
  pub each : (k : ℕ) → k ≤ n → K.value k ≡ ub o b (p + 5 + width_at o b p * k) (width_at o b p)
  pub small : (k : ℕ) → k ≤ n → K.value k ≤ 255

-- the n interpolations of K stand at p
pub record KindsAt (o : Order) (b : List ℕ) (K : Keyframes) (n p : ℕ) : Type 0 where
  pub few : length b < 2 ^ 60
  pub within : p + 2 * n ≤ 8 * length b
  pub each : (k : ℕ) → k < n → K.kind k ≡ ub o b (p + 2 * k) 2

-- the parts that are cut out, once the times were walked over
pub record PartsAt (o : Order) (b : List ℕ) (K : Keyframes) (n p q : ℕ) : Type 0 where
  pub count : K.count ≡ n
  pub some : 1 ≤ n
  pub most : n ≤ 4096
  pub kinds : KindsAt o b K n p
  pub values : ValuesAt o b K n q

-- the n keyframes K stand, without their count, from p on
pub record Stands (o : Order) (b : List ℕ) (K : Keyframes) (n p : ℕ) : Type 0 where
  pub times : TimesAt o b K n (p + 2 * n)
  pub parts : PartsAt o b K n p (whole times.end)

-- ---- a walk over the times: what the first n keyframes say

-- one keyframe more is seen
abbrev pub noted : Seen → Span → ℕ → Seen
noted s k t = record {
  late = s.late or late k.end;
  falls = s.falls or leb k.end k.start;
  covering = pick (leb k.start t and ltb t k.end) (Some k) s.covering;
}

-- keyframe k, with its start and its end
abbrev pub span_of : Keyframes → ℕ → Span
span_of K k = record { frame = k; start = K.time k; end = K.time (suc k) }

unfoldable pub seen_of : Keyframes → ℕ → ℕ → Seen
seen_of K t zero = record { late = late (K.time 0); falls = false; covering = None }
seen_of K t (suc n) = noted (seen_of K t n) (span_of K n) t

-- the walk saw them all; its first time is a, and its last z
pub record Walked (K : Keyframes) (n t : ℕ) (seen : Seen) (a z : ℕ) : Type 0 where
  pub saw : seen ≡ seen_of K t n
  pub first : a ≡ K.time 0
  pub last : z ≡ K.time n

-- a keyframe of K covers t
pub record Within (K : Keyframes) (n t : ℕ) (span : Span) : Type 0 where
  pub which : covering K t n ≡ span.frame
  pub inside : span.frame < n
  pub start : span.start ≡ K.time span.frame
  pub end : span.end ≡ K.time (suc span.frame)
  pub from : span.start ≤ t
  pub before : t < span.end
  pub small : span.end ≤ 4294967295
