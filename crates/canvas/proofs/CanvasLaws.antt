-- The walk that stops, of walks: what comes before, and then what follows; and the same from a table's numbers.
use Prim.Native.Nat.{ℕ, zero, suc, ◌+◌, ◌≤◌, ◌<◌}
use mathlib.Core.List.{List, [], ◌∷◌, ◌++◌}
use mathlib.Core.Path.{◌≡◌, refl, ap, sym, ◌∙◌}
use mathlib.Core.Bool.{Bool, true, false}
use native.Mathlib.Omega.{arith}
use lib.ListN.{length, take, drop, length-append}
use lib.Seq.{take-append_seam, drop-append_seam}
use lib.Dec.{leb}
use borrow.Author.Tests.{leb-true}
use Rattle.format.specs.Tests.{pick}
use Rattle.format.specs.FileAndTags.{Tag, Outcome, whole, fault, Walk, chain}
use Rattle.format.specs.TableOfNumbers.{numbers, table}
use Rattle.format.specs.Reasons.{walk_file, gives, result, read_file}
use Rattle.format.proofs.Absurd.{clash}
use Rattle.canvas.specs.Canvas.{is_canvas, Seen, found, none, refused, Canvas, canvas, more, seen_in, canvas_in, canvas_of, canvas_file, in_numbers, in_table}

-- ---- what follows is looked at only where nothing was found before
abbrev pub then_seen : Seen → ℕ → Canvas → Canvas
then_seen none n d = more n d
then_seen (found vs) n d = canvas (found vs) n
then_seen (refused e m) n d = canvas (refused e m) n

abbrev pub then_look : Canvas → Canvas → Canvas
then_look c d = then_seen c.seen c.headers d

then_more : (c d : Canvas) → then_look (more 1 c) d ≡ more 1 (then_look c d)
then_more c d = go c.seen
  where
    go : (s : Seen) → then_seen s (1 + c.headers) d ≡ more 1 (then_seen s c.headers d)
    go none = ap (canvas d.seen) (omega arith)
    go (found vs) = refl
    go (refused e m) = refl

-- ---- a walk that has no tag ended by no reason of bodies
abbrev pub Headed : List Tag → Outcome → Type 0
Headed [] whole = Unit {0}
Headed [] (fault e n) = e < 13
Headed (t ∷ ts) z = Unit {0}

-- so nothing after the tag that is looked for is taken for a fault in it
pub headed_found : (vs : List ℕ) (ts : List Tag) (z : Outcome) → Headed ts z → seen_in vs ts z ≡ found vs
headed_found vs [] whole h = refl
headed_found vs [] (fault e n) h = go (leb 13 e) refl
  where
    go : (b : Bool) → leb 13 e ≡ b → pick b (refused e n) (found vs) ≡ found vs
    go true q = absurd (omega (arith, h, leb-true 13 e q))
    go false q = refl
headed_found vs (t ∷ ts) z h = refl

-- one tag more
abbrev tagged : Bool → List ℕ → List Tag → Outcome → Canvas → Canvas
tagged b vs ts z c = more 1 (pick b (canvas (seen_in vs ts z) 0) c)

fault_seen : (vs : List ℕ) (ts : List Tag) (e n : ℕ) (d : Canvas) → then_seen (seen_in vs ts (fault e n)) 1 d ≡ canvas (seen_in vs ts (fault e n)) 1
fault_seen vs [] e n d = go (leb 13 e)
  where
    go : (b : Bool) → then_seen (pick b (refused e n) (found vs)) 1 d ≡ canvas (pick b (refused e n) (found vs)) 1
    go true = refl
    go false = refl
fault_seen vs (t ∷ ts) e n d = refl

-- after a fault nothing follows
fault_stays : (ts : List Tag) (e n : ℕ) (d : Canvas) → then_look (canvas_in ts (fault e n)) d ≡ canvas_in ts (fault e n)
unfolding canvas_in
fault_stays [] e n d = refl
fault_stays (t ∷ ts) e n d = go (is_canvas t.code t.state) (fault_stays ts e n d)
  where
    go : (b : Bool) → then_look (canvas_in ts (fault e n)) d ≡ canvas_in ts (fault e n)
        → then_look (tagged b t.values ts (fault e n) (canvas_in ts (fault e n))) d ≡ tagged b t.values ts (fault e n) (canvas_in ts (fault e n))
    go true s = fault_seen t.values ts e n d
    go false s = then_more (canvas_in ts (fault e n)) d ∙ ap (more 1) s

whole_found : (vs : List ℕ) (ts : List Tag) → seen_in vs ts whole ≡ found vs
whole_found vs [] = refl
whole_found vs (t ∷ ts) = refl

whole_then : (ts : List Tag) (w : Walk) → Headed w.tags w.ended → canvas_in (ts ++ w.tags) w.ended ≡ then_look (canvas_in ts whole) (canvas_of w)
unfolding canvas_in
whole_then [] w h =
    let n : (canvas_of w).headers ≡ 0 + (canvas_of w).headers = omega arith in
    ap (canvas (canvas_of w).seen) n
whole_then (t ∷ ts) w h = go (is_canvas t.code t.state) (whole_then ts w h)
  where
    here : (ts : List Tag) → seen_in t.values (ts ++ w.tags) w.ended ≡ found t.values
    here [] = headed_found t.values w.tags w.ended h
    here (u ∷ us) = refl

    go : (b : Bool) → canvas_in (ts ++ w.tags) w.ended ≡ then_look (canvas_in ts whole) (canvas_of w)
        → tagged b t.values (ts ++ w.tags) w.ended (canvas_in (ts ++ w.tags) w.ended) ≡ then_look (tagged b t.values ts whole (canvas_in ts whole)) (canvas_of w)
    go true s = ap (λ (s : Seen). canvas s 1) (here ts) ∙ sym (ap (λ (s : Seen). then_seen s 1 (canvas_of w)) (whole_found t.values ts))
    go false s = ap (more 1) s ∙ sym (then_more (canvas_in ts whole) (canvas_of w))

pub canvas_chain : (ts : List Tag) (z : Outcome) (w : Walk) → Headed w.tags w.ended → canvas_of (chain ts z w) ≡ then_look (canvas_in ts z) (canvas_of w)
canvas_chain ts whole w h = whole_then ts w h
canvas_chain ts (fault e n) w h = sym (fault_stays ts e n (canvas_of w))

-- ---- no more headers than tags
pub headers_le : (ts : List Tag) (z : Outcome) → (canvas_in ts z).headers ≤ length ts
unfolding canvas_in
headers_le [] z = omega arith
headers_le (t ∷ ts) z = go (is_canvas t.code t.state) (headers_le ts z)
  where
    go : (b : Bool) → (canvas_in ts z).headers ≤ length ts → (tagged b t.values ts z (canvas_in ts z)).headers ≤ suc (length ts)
    go true l = omega arith
    go false l = omega (arith, l)

-- ---- For every file that the full reader accepts at that level, the answer equals the one taken from the full table, "none" included.
in_numbers_lem : (k : ℕ) (ts : List Tag) → length (numbers ts) ≤ k → in_numbers k (numbers ts) ≡ canvas_in ts whole
unfolding canvas_in in_numbers
in_numbers_lem zero [] h = refl
in_numbers_lem (suc k) [] h = refl
in_numbers_lem zero (t ∷ ts) h = absurd (omega (arith, h))
in_numbers_lem (suc k) (t ∷ ts) h =
    let c : take (length t.values) (t.values ++ numbers ts) ≡ t.values = take-append_seam t.values (numbers ts) in
    let d : drop (length t.values) (t.values ++ numbers ts) ≡ numbers ts = drop-append_seam t.values (numbers ts) in
    let l : length (numbers ts) ≤ k = omega (arith, h, length-append t.values (numbers ts)) in
    rw (c, d, in_numbers_lem k ts l, whole_found t.values ts)

pub from_table : (order level : ℕ) (f t : List ℕ) → read_file order level f ≡ gives t → canvas_file order level f ≡ in_table t
unfolding read_file
from_table order level f t e = go (walk_file order level f).ended refl e
  where
    go : (z : Outcome) → (walk_file order level f).ended ≡ z → result (table f (walk_file order level f)) z ≡ gives t → canvas_file order level f ≡ in_table t
    go whole q g =
        let n : table f (walk_file order level f) ≡ t = cc in
        ap (canvas_in (walk_file order level f).tags) q ∙ sym (in_numbers_lem (length (numbers (walk_file order level f).tags)) (walk_file order level f).tags (omega arith)) ∙ ap in_table n
    go (fault x y) q g = clash cc
