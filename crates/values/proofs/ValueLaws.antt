-- Values and keyframed content: the formats of their parts, and what a `match` tells.
use Rattle.std.proofs.Common.{◌≡◌, ℕ, zero, suc, ◌+◌, ◌*◌, ◌^◌, ◌<◌, ◌≤◌, Bool, true, false, List, [], ◌∷◌, ◌++◌, refl, sym, ap, ap₂, ◌∙◌, arith, Result, Ok, Err}
use mathlib.Core.Path.{subst}
use native.Mathlib.Nat.{mul-le-mul}
use native.Mathlib.Numerals.{add-one}
use borrow.Author.Tests.{eq-eqb, ne_eqb}
use lib.Dec.{eqb}
use Rattle.format.specs.Tests.{pick}
use Rattle.format.specs.Bits.{Order, ub}
use Rattle.format.specs.Reading.{Ending, At, Fault, Reading, shows, stop, follow}
use Rattle.format.specs.Formats.{Item, Format, nothing, item, ◌▹◌, ◌▸◌, times, the}
use Rattle.format.specs.Items.{run, read_item, skipped, Num, num, bad, map_num, show_num, read_ub, byte, uint16, time, color, count, scaled, coordinates, alpha_stop, color_stop, gradient_color}
use Rattle.format.specs.Bodies as bodies
use Rattle.format.specs.Bodies.{values, interpolations, how_many, aligned, spatial, has_spatial}
use Rattle.bits.specs.Places.{order_of}
use Rattle.bits.specs.declared.Order.{Order as Code}
use Rattle.bits.proofs.FieldLaws.{IsField, ub_got}
use Rattle.reasons.specs.Numbers.{number_of}
use Rattle.reasons.specs.declared.Reason.{Reason}
use Rattle.items.specs.Kinds.{format_of}
use Rattle.items.specs.declared.Item.TheVariants.{Count}
use Rattle.items.proofs.ItemLaws.{count_range}
use Rattle.table.specs.Fields.{field_of, announced}
use Rattle.table.specs.Readers.{state_of, Reads, Room}
use Rattle.table.specs.State.{State, shown_over}
use Rattle.table.specs.declared.fields.Field.TheVariants.{Verb, Interpolation, SpatialFlag}
use Rattle.table.specs.declared.reader.Reader.{Reader}
use Rattle.table.proofs.EngineLaws.{Alike, none_then, never_then, alike_nothing, alike_assoc, alike_after}
use Rattle.table.proofs.FieldLaws.{announced_verbs, announced_frames, announced_points}
use Rattle.table.proofs.ReaderLaws.{reading, reads_as, on_start, on_done}
use Rattle.attributes.specs.Contents.{interpolated}
use Rattle.attributes.proofs.ContentLaws.{interpolations_some, interpolations_none}
use Rattle.values.specs.Parts.{announcing, frames_of, stop_of, stops_of, after_alphas}

-- ---- a format under another name
pub reads_is : {A : Type 0} {a b : Reader} {r : Result A Reason} {f g : Format} → f ≡ g → Reads a b r f → Reads a b r g
reads_is {a = a} {b = b} {r = r} e h = subst (Reads a b r) e h

-- nothing was read
pub reads_nothing : {A : Type 0} {a : Reader} {x : A} → Room a → Reads a a (Ok x) nothing
reads_nothing z = on_done (on_start z refl) refl

-- what was shown, and where it ended, is the reading
pub reads_shows : {A : Type 0} {a b : Reader} {r : Result A Reason} {f : Format} {xs : List ℕ} {x : A} → Reads a b r f → r ≡ Ok x → (reading a f).shown ≡ xs → reading a f ≡ shows xs b.place.0
unfolding shown_over
reads_shows {b = b} h e shown = ap₂ (λ (ys : List ℕ) (z : Ending). record { shown = ys; ended = z }) shown (ap (λ (s : State). s.ended) (sym h.left ∙ ap (state_of b) e))

-- a count is not above 4,096
pub count_few : {a b : Reader} {r : Result ℕ Reason} {v : ℕ} (lo : ℕ) → Reads a b r (format_of (Count lo)) → r ≡ Ok v → (reading a (format_of (Count lo))).shown ≡ v ∷ [] → v ≤ 4096
count_few {a = a} lo h e shown = (count_range (order_of a.order) a.body.now a.place.0 lo (reads_shows h e shown)).1

-- ---- fields that announce others

-- a path after its count of n verbs; the sixth part after its skip
pub path_is : (n : ℕ) → announcing Verb 3 n ≡ times n (item (Item.UB 3)) ▹ (λ verbs. scaled (coordinates verbs))
path_is n = λ i. times n (item (Item.UB 3)) ▹ λ verbs. scaled (announced_verbs verbs i)

pub spatial_is : (n : ℕ) → aligned ▸ announcing SpatialFlag 1 (n * 2) ≡ spatial n
spatial_is n = λ i. aligned ▸ times (n * 2) (item (Item.UB 1)) ▹ λ flags. scaled (announced_points flags i)

-- hasSpatial is not set, or it is
pub spatial_none : (φ n : ℕ) → (φ ≡ 7 → ⊥) → nothing ≡ pick (has_spatial φ) (spatial n) nothing
spatial_none φ n h = rw (ne_eqb φ 7 h)

pub spatial_some : (φ n : ℕ) → φ ≡ 7 → aligned ▸ announcing SpatialFlag 1 (n * 2) ≡ pick (has_spatial φ) (spatial n) nothing
spatial_some φ n h = rw (eq-eqb φ 7 h) (spatial_is n)

-- ---- the interpolations of n frames, behind the skip to a whole byte: how many easing numbers they announce for a curve

-- a skip shows nothing
skip_shows : (o : Order) (b : List ℕ) (p : ℕ) → (run o b aligned p).shown ≡ []
unfolding run read_item
skip_shows o b p = go (eqb (ub o b p (skipped p)) 0)
  where
    go : (t : Bool) → (pick t (shows [] (p + skipped p)) (stop 15)).shown ≡ []
    go true = refl
    go false = refl

module _ {A : Type 0} {a b : Reader} {r : Result A Reason} {x : A} (h : Reads a b r aligned) (e : r ≡ Ok x) where
  -- what follows it is read from there
  pub past_skip : (g : Format) → reading a (aligned ▸ g) ≡ reading b g
  past_skip g =
      none_then (order_of a.order) a.body.now aligned (λ xs. g) a.place.0 b.place.0 (reads_shows h e (skip_shows (order_of a.order) a.body.now a.place.0))
      ∙ sym (ap₂ (λ (o : Code) (y : List ℕ). run (order_of o) y g b.place.0) h.same.order h.same.body)

  module _ (kind : bodies.Kind) (n : ℕ) where
    pub eases_none : false ≡ interpolated kind → (0 ≡ how_many 2 (reading a (aligned ▸ interpolations kind n)).shown * 4) × (0 ≤ 6 * n)
    unfolding run
    eases_none none = (rw (past_skip (interpolations kind n), interpolations_none kind n none), omega arith)

    pub eases_some : {m : ℕ} → true ≡ interpolated kind → (m ≡ announced Interpolation (reading b (times n (field_of Interpolation 2))).shown) × (m ≤ 6 * n)
        → (m ≡ how_many 2 (reading a (aligned ▸ interpolations kind n)).shown * 4) × (m ≤ 6 * n)
    eases_some some k =
        let f : reading a (aligned ▸ interpolations kind n) ≡ reading b (times n (field_of Interpolation 2)) = past_skip (interpolations kind n) ∙ ap (reading b) (interpolations_some kind n some) in
        (k.0 ∙ announced_frames _ ∙ ap (λ (y : Reading). how_many 2 y.shown * 4) (sym f), k.1)

-- a skipped bit is not zero
pub eases_never : {A : Type 0} {a b : Reader} {r : Result A Reason} {e : Reason} → Reads a b r aligned → r ≡ Err e → (kind : bodies.Kind) (n : ℕ)
    → (0 ≡ how_many 2 (reading a (aligned ▸ interpolations kind n)).shown * 4) × (0 ≤ 6 * n)
unfolding shown_over
eases_never {a = a} {b = b} {e = e} h d kind n =
    let z : (reading a aligned).ended ≡ Fault (number_of e) = ap (λ (s : State). s.ended) (sym h.left ∙ ap (state_of b) d) in
    let f : reading a aligned ≡ stop (number_of e) = ap₂ (λ (ys : List ℕ) (z : Ending). record { shown = ys; ended = z }) (skip_shows (order_of a.order) a.body.now a.place.0) z in
    (rw (never_then (order_of a.order) a.body.now aligned (λ xs. interpolations kind n) a.place.0 (number_of e) f), omega arith)

-- the easing numbers of n frames are few
pub easing_small : {m c : ℕ} (n : ℕ) → m ≤ 6 * n → c ≤ 2 → n ≤ 4096 → m * c ≤ 49152
easing_small {m} {c} n h l e = let f : m * c ≤ 24576 * 2 = mul-le-mul {n₂ = 24576} (omega arith) l in omega (arith, f)

-- ---- the parts of keyframed content

-- the parts as the code reads them, each with the skip before it
pub alike_parts : (f g h e : Format) → Alike (f ▸ (aligned ▸ g) ▸ ((aligned ▸ h) ▸ e)) (f ▸ aligned ▸ g ▸ aligned ▸ h ▸ e)
alike_parts f g h e =
    alike_after f _ _ (λ o b p. alike_assoc aligned g ((aligned ▸ h) ▸ e) o b p ∙ alike_after aligned _ _ (alike_after g _ _ (alike_assoc aligned h e)) o b p)

-- the code counts n + 1
pub frames_is : {A : Type 0} {a b : Reader} {r : Result A Reason} (kind : bodies.Kind) (d : bodies.DataType) (φ n m : ℕ)
    → Reads a b r (times (n + 1) time ▸ (aligned ▸ values kind d (n + 1)) ▸ ((aligned ▸ scaled m) ▸ pick (has_spatial φ) (spatial n) nothing)) → Reads a b r (frames_of kind d φ n m)
frames_is {a = a} kind d φ n m h =
    reads_as (alike_parts (times (suc n) time) (values kind d (suc n)) (scaled m) (pick (has_spatial φ) (spatial n) nothing) (order_of a.order) a.body.now a.place.0)
    (reads_is (ap (λ (i : ℕ). times i time ▸ (aligned ▸ values kind d i) ▸ ((aligned ▸ scaled m) ▸ pick (has_spatial φ) (spatial n) nothing)) (add-one n)) h)

-- ---- GradientColors: a stop as the code reads it is one of the paper's
alike_stop : (n : ℕ) (f : Format) → Alike (times n byte) f → Alike (stop_of n) (uint16 ▸ uint16 ▸ f)
alike_stop n f h o b p = alike_assoc uint16 uint16 (times n byte) o b p ∙ alike_after uint16 _ _ (alike_after uint16 _ _ h) o b p

alike_alpha : Alike (stop_of 1) alpha_stop
unfolding times
alike_alpha = alike_stop 1 byte (alike_nothing byte)

alike_color : Alike (stop_of 3) color_stop
alike_color = alike_stop 3 color (λ o b p. refl)

-- what follows is alike, whatever was shown
alike_each : (f : Format) (g h : List ℕ → Format) → ((xs : List ℕ) → Alike (g xs) (h xs)) → Alike (f ▹ g) (f ▹ h)
unfolding run
alike_each f g h e o b p = go (run o b f p).shown (run o b f p).ended
  where
    go : (xs : List ℕ) (z : Ending) → follow xs z (λ ys q. run o b (g ys) q) ≡ follow xs z (λ ys q. run o b (h ys) q)
    go xs (At q) = ap (λ (r : Reading). record { shown = xs ++ r.shown; ended = r.ended }) (e xs o b q)
    go xs (Fault z) = refl

alike_times : (f g : Format) (n : ℕ) → Alike f g → Alike (times n f) (times n g)
unfolding run times
alike_times f g zero h o b p = refl
alike_times f g (suc n) h o b p = rw (h o b p) (alike_after g (times n f) (times n g) (alike_times f g n h) o b p)

alike_stops : (n m : ℕ) → Alike (stops_of n m) (times n alpha_stop ▸ times m color_stop)
unfolding run
alike_stops n m o b p =
    rw (alike_times (stop_of 1) alpha_stop n alike_alpha o b p) (alike_after (times n alpha_stop) (times m (stop_of 3)) (times m color_stop) (alike_times (stop_of 3) color_stop m alike_color) o b p)

-- a GradientColor after its count of alpha stops, and as a whole
pub alike_gradient : (n : ℕ) → Alike (after_alphas n) (count 0 4096 ▹ λ colors. times n alpha_stop ▸ times (the colors) color_stop)
alike_gradient n = alike_each (count 0 4096) (λ colors. stops_of n (the colors)) (λ colors. times n alpha_stop ▸ times (the colors) color_stop) (λ colors. alike_stops n (the colors))

pub gradient_is : {A : Type 0} {a b : Reader} {r : Result A Reason} → Reads a b r (count 0 4096 ▹ λ alphas. after_alphas (the alphas)) → Reads a b r gradient_color
gradient_is {a = a} h =
    reads_as (alike_each (count 0 4096) (λ alphas. after_alphas (the alphas)) (λ alphas. count 0 4096 ▹ λ colors. times (the alphas) alpha_stop ▸ times (the colors) color_stop) (λ alphas. alike_gradient (the alphas)) (order_of a.order) a.body.now a.place.0) h

-- ---- a bit field, and the length of dashes, from the code's answer
module _ (o : Order) (b : List ℕ) (p : ℕ) where
  pub ub_one : (n : ℕ) {v q : ℕ} → num v q ≡ read_ub o b p n → run o b (item (Item.UB n)) p ≡ shows (v ∷ []) q
  unfolding run read_item
  ub_one n e = ap show_num (sym e)

  pub ub_stop : (n : ℕ) {e : ℕ} → bad e ≡ read_ub o b p n → run o b (item (Item.UB n)) p ≡ stop e
  unfolding run read_item
  ub_stop n e = ap show_num (sym e)

  pub dash_one : {v q : ℕ} → num v q ≡ read_ub o b p 3 → run o b (item Item.dash_length) p ≡ shows ((v + 1) ∷ []) q
  unfolding run read_item
  dash_one {v} {q} e = rw (add-one v) (ap (λ (z : Num). show_num (map_num suc z)) (sym e))

  pub dash_stop : {e : ℕ} → bad e ≡ read_ub o b p 3 → run o b (item Item.dash_length) p ≡ stop e
  unfolding run read_item
  dash_stop e = ap (λ (z : Num). show_num (map_num suc z)) (sym e)

  -- its number ends behind its place, and fits its bits
  pub ub_behind : (n : ℕ) {v q : ℕ} → 1 ≤ n → num v q ≡ read_ub o b p n → (p < q) × (v < 2 ^ n)
  ub_behind n l e = let i : IsField o (λ x. x) b p n _ _ = ub_got o b p n e in (omega (arith, i.next), omega (arith, i.value, i.below))

-- ---- Points in turn are twice as many Floats
pub alike_pairs : (f : Format) (n : ℕ) → Alike (times (n * 2) f) (times n (f ▸ f))
unfolding times
alike_pairs f zero o b p = refl
alike_pairs f (suc n) o b p =
    let e : suc n * 2 ≡ suc (suc (n * 2)) = omega arith in
    rw e (sym (alike_assoc f f (times (n * 2) f) o b p) ∙ alike_after (f ▸ f) (times (n * 2) f) (times n (f ▸ f)) (alike_pairs f n) o b p)
