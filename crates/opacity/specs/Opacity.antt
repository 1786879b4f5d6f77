-- Document 02, C-22, sentence by sentence: the opacity of a mask at a frame t. b is the mask's body.
use Rattle.std.specs.Prelude.{ℕ, zero, suc, ◌+◌, ◌-◌, ◌*◌, ◌^◌, List, Bool, false, length, get_or, take, drop, ltb, leb, eqb}
use Rattle.format.specs.Tests.{pick, ◌and◌, ◌or◌}
use Rattle.format.specs.Bits.{Order, order_named}
use Rattle.format.specs.Reading.{Ending, At, Fault, Reading}
use Rattle.format.specs.Items.{run}
use Rattle.format.specs.Bodies.{mask_block, all_flags, rows, hand_on, attributes, read_body}

-- ---- For the body of a mask and a frame t, answer its opacity as an exact fraction of two whole numbers, over 1 where nothing is interpolated.
-- (A refusal has a reason, and the number 0.)
pub data Opacity : Type 0 where
  fraction : ℕ → ℕ → Opacity
  refused : ℕ → ℕ → Opacity

abbrev pub over1 : ℕ → Opacity
over1 v = fraction v 1

abbrev pub refused_by : ℕ → Opacity
refused_by e = refused e 0

-- ---- Where the numbers of the opacity stand among those that the body shows: after those of id, inverted, maskMode and path.

-- the flag numbers of the mask's attributes, and the place after them
abbrev pub mask_flags : Order → List ℕ → Reading
mask_flags o b = run o b (all_flags mask_block) 0

-- what the first four attributes show
unfoldable pub earlier : Order → List ℕ → List ℕ
earlier o b = (hand_on (mask_flags o b).shown (mask_flags o b).ended (λ φs p. run o b (rows (take 4 mask_block) φs) p)).shown

-- the numbers of the body from the opacity's flag number on
unfoldable pub from_opacity : Order → List ℕ → List ℕ
from_opacity o b = drop (length (earlier o b)) (read_body o (attributes mask_block) b).shown

-- keyframe k, counted from 0, has interpolation k (1 linear, 2 Bezier, 3 hold); it starts at time k with value k, and ends at time k + 1 with value k + 1
pub record Keyframes : Type 0 where
  pub count : ℕ
  pub kind : ℕ → ℕ
  pub time : ℕ → ℕ
  pub value : ℕ → ℕ

-- the keyframes of the numbers ns: after the flag number stand n, n interpolations, n + 1 times, a width and n + 1 values (document 01, 'Bodies')
abbrev pub keyframes_of : ℕ → List ℕ → Keyframes
keyframes_of n ns = record {
  count = n;
  kind = λ k. get_or ns (2 + k) 0;
  time = λ k. get_or ns (2 + n + k) 0;
  value = λ k. get_or ns (2 + n + (n + 1) + 1 + k) 0;
}

-- ---- Before the first start it is the first value, at or after the last end the last value. A keyframe covers its start and not its end.
abbrev pub covers : Keyframes → ℕ → ℕ → Bool
covers K t k = leb (K.time k) t and ltb t (K.time (suc k))

-- which of the first n keyframes covers t (0 if none does; where times rise, there is one from the first start up to the last end)
unfoldable pub covering : Keyframes → ℕ → ℕ → ℕ
covering K t zero = 0
covering K t (suc n) = pick (covers K t n) n (covering K t n)

-- ---- Hold gives the start value; linear gives (start × (end time - t) + end × (t - start time)) over (end time - start time), not reduced.
-- 28 when t falls in a Bezier keyframe.
abbrev pub linear : Keyframes → ℕ → ℕ → Opacity
linear K t k = fraction (K.value k * (K.time (suc k) - t) + K.value (suc k) * (t - K.time k)) (K.time (suc k) - K.time k)

abbrev pub in_frame : Keyframes → ℕ → ℕ → Opacity
in_frame K t k = pick (eqb (K.kind k) 3) (over1 (K.value k)) (pick (eqb (K.kind k) 1) (linear K t k) (refused_by 28))

unfoldable pub at_frame : Keyframes → ℕ → Opacity
at_frame K t =
    pick (ltb t (K.time 0)) (over1 (K.value 0))
    (pick (leb (K.time K.count) t) (over1 (K.value K.count))
    (in_frame K t (covering K t K.count)))

-- ---- Then, for keyframed opacity, 26 for a time or t above 4,294,967,295, 27 for times that don't rise strictly, 28 (above).

-- one of the numbers below n passes the test
unfoldable pub any : ℕ → (ℕ → Bool) → Bool
any zero test = false
any (suc n) test = any n test or test n

abbrev pub late : ℕ → Bool
late t = ltb 4294967295 t

-- keyframe k does not rise
abbrev pub falls : Keyframes → ℕ → Bool
falls K k = leb (K.time (suc k)) (K.time k)

unfoldable pub keyframed_at : Keyframes → ℕ → Opacity
keyframed_at K t =
    pick (late t or any (suc K.count) (λ k. late (K.time k))) (refused_by 26)
    (pick (any K.count (falls K)) (refused_by 27)
    (at_frame K t))

-- ---- Without keyframes it is the value or the default 255. (The flag number: 0 none, 1 one value, 3 keyframed.)
unfoldable pub shown_at : List ℕ → ℕ → Opacity
shown_at ns t = pick (eqb (get_or ns 0 0) 0) (over1 255) (pick (eqb (get_or ns 0 0) 1) (over1 (get_or ns 1 0)) (keyframed_at (keyframes_of (get_or ns 1 0) ns) t))

-- ---- Refusals, all with number 0: the reader's 13 to 18 for that body. (C-18: before them 24, for an order that is neither. A body of 2 ^ 60 bytes or
-- more, which no memory holds and no mask uses up, is refused by 18 whatever stands in it.)
abbrev pub judged : Ending → Opacity → Opacity
judged (At p) z = z
judged (Fault e) z = refused_by e

unfoldable pub of_mask : Order → List ℕ → ℕ → Opacity
of_mask o b t = judged (read_body o (attributes mask_block) b).ended (shown_at (from_opacity o b) t)

-- the promise of `opacity`
unfoldable pub opacity_at : ℕ → List ℕ → ℕ → Opacity
opacity_at order b t =
    pick (ltb 1 order) (refused_by 24)
    (pick (leb (2 ^ 60) (length b)) (refused_by 18)
    (of_mask (order_named order) b t))
