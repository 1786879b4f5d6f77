-- Whole bodies: their items, the skipped bits at their end, and what may follow.
use Prim.Native.Nat.{ℕ, ◌+◌, ◌*◌, ◌/◌, ◌%◌}
use mathlib.Core.List.{List, [], ◌++◌, append-nil}
use mathlib.Core.Bool.{Bool, true, false}
use mathlib.Core.Path.{◌≡◌, refl, ap, ap₂, sym, subst, ◌∙◌}
use native.Mathlib.Omega.{arith}
use lib.ListN.{length, get_or, take}
use lib.Seq.{get_or-take}
use lib.Dec.{eqb}
use borrow.Author.Tests.{eq-eqb, ne_eqb, eqb-true}
use Rattle.std.proofs.Common.{Result, Ok, Err, Option, Some, None}
use Rattle.std.specs.Prelude.{IfOk}
use Rattle.format.specs.Tests.{pick}
use Rattle.format.specs.Bits.{Order as PaperOrder, ub}
use Rattle.format.specs.Reading.{Ending, At, Fault, Reading, shows, stop, follow}
use Rattle.format.specs.Formats.{Format}
use Rattle.format.specs.Items.{skipped, read_align, run}
use Rattle.format.specs.Bodies.{Attribute, Body, all_flags, read_block, read_part, to_end, used_up, read_body}
use Rattle.format.proofs.Absurd.{clash}
use Rattle.reasons.specs.declared.Reason.{Reason}
use Rattle.reasons.specs.declared.Reason.TheVariants.{BodyNotUsedUp}
use Rattle.reasons.proofs.NumberLaws.{number_one}
use Rattle.reasons.specs.Numbers.{number_of}
use Rattle.bits.specs.Places.{order_of}
use Rattle.bits.specs.declared.BytePlace.{BytePlace}
use Rattle.bits.specs.declared.Number.{Number}
use Rattle.bits.specs.declared.Order.{Order}
use Rattle.table.specs.State.{State, shown_over}
use Rattle.table.specs.Readers.{Reads, Same, state_of}
use Rattle.table.specs.declared.reader.Reader.{Reader}
use Rattle.table.proofs.EngineLaws.{state, resume, after_follow, after_none, one_stopped}
use Rattle.table.proofs.ReaderLaws.{reading, same_refl, same_then}
use Rattle.table.proofs.OneLaws.{ended_one}
use Rattle.attributes.specs.Rows.{attributes_of}
use Rattle.attributes.specs.Flags.{flags_as, FlagsRead}
use Rattle.attributes.proofs.FlagLaws.{digit_at}
use Rattle.fixed.specs.Fixed.{fixed_of}
use Rattle.bodies.specs.Leaf.{is_block, body_by, leaf_body, group, container_body, has_list_in, own_part}
use Rattle.bodies.specs.Shown.{Lays, Opens, Shows}
use Rattle.bodies.proofs.ListFlagLaws.{last_of, group_last}

-- ---- a reading that is laid over a table
module _ {A : Type 0} {a b : Reader} {r : Result A Reason} where
  pub lays_as : {R S : Reading} → R ≡ S → Lays a b r R → Lays a b r S
  lays_as e h = record { same = h.same; left = h.left ∙ ap (shown_over a.table.now a.index) e }

  pub reads_lays : {f : Format} → Reads a b r f → Lays a b r (reading a f)
  reads_lays h = record { same = h.same; left = h.left }

  module _ {R : Reading} (h : Lays a b r R) where
    -- another answer that ends alike
    pub lays_ok : {B : Type 0} {x : A} (y : B) → r ≡ Ok x → Lays a b (Ok y) R
    lays_ok y e = record { same = h.same; left = ap (state_of b) (sym e) ∙ h.left }

    pub lays_err : {B : Type 0} {s : Result B Reason} {e : Reason} → r ≡ Err e → s ≡ Err e → Lays a b s R
    lays_err {s = s} e d = record { same = h.same; left = ap (state_of b) d ∙ ap (state_of b) (sym e) ∙ h.left }

    -- and what follows it, from there
    module _ (g : List ℕ → ℕ → Reading) where
      pub then_lays : {B : Type 0} {s : Result B Reason} {c : Reader} {x : A} → r ≡ Ok x → Lays b c s (g R.shown b.place.0) → Lays a c s (follow R.shown R.ended g)
      unfolding shown_over
      then_lays e k = record {
        same = same_then h.same k.same;
        left = k.left ∙ ap (λ (s : State). resume s.table s.count s.ended (g R.shown)) (ap (state_of b) (sym e) ∙ h.left) ∙ sym (after_follow a.table.now a.index R.shown R.ended g);
      }

      pub stop_lays : {B : Type 0} {s : Result B Reason} {e : Reason} → r ≡ Err e → s ≡ Err e → Lays a b s (follow R.shown R.ended g)
      unfolding shown_over
      stop_lays e d = record {
        same = h.same;
        left = ap (state_of b) d ∙ ap (λ (s : State). resume s.table s.count s.ended (g R.shown)) (ap (state_of b) (sym e) ∙ h.left) ∙ sym (after_follow a.table.now a.index R.shown R.ended g);
      }

-- nothing was shown, and the place is the next; or it was refused
pub lays_none : {A : Type 0} {a b : Reader} {x : A} {R : Reading} → Same a b → b.table.now ≡ a.table.now → b.index ≡ a.index → R ≡ shows [] b.place.0 → Lays a b (Ok x) R
lays_none {a = a} {b = b} h t i e = record { same = h; left = ap₂ (λ (u : List ℕ) (j : ℕ). state u j (At b.place.0)) t i ∙ sym (ap (shown_over a.table.now a.index) e ∙ after_none a.table.now a.index b.place.0) }

pub lays_never : {A : Type 0} {a : Reader} {r : Result A Reason} {e : Reason} {R : Reading} → r ≡ Err e → R ≡ stop (number_of e) → Lays a a r R
lays_never {a = a} d h = record { same = same_refl a; left = ap (state_of a) d ∙ one_stopped a.table.now a.index h }

-- ---- the items, by the code
module _ {A : Type 0} {a b : Reader} {r : Result A Reason} (code : ℕ) {block : Bool} where
  pub part_block : {attrs : List Attribute} → block ≡ true → attrs ≡ attributes_of code → Lays a b r (read_block (order_of a.order) a.body.now attrs 0) → Lays a b r (read_part (order_of a.order) a.body.now (body_by block code) 0)
  unfolding read_part
  part_block c e = lays_as (rw (c, e))

  pub part_fixed : block ≡ false → a.place.0 ≡ 0 → Reads a b r (fixed_of code) → Lays a b r (read_part (order_of a.order) a.body.now (body_by block code) 0)
  unfolding read_part
  part_fixed c z h = lays_as (rw (c, z)) (reads_lays h)

-- ---- after the items
abbrev pub end_at : PaperOrder → List ℕ → ℕ → Reading
end_at o b p = used_up (8 * length b) (read_align o b p).shown (read_align o b p).ended

-- a body without a list is read as its items and then its end
body_is : (o : PaperOrder) (b : List ℕ) (y : Body) → read_body o y b ≡ follow (read_part o b y 0).shown (read_part o b y 0).ended (λ xs p. end_at o b p)
unfolding read_body
body_is o b y = go (read_part o b y 0).shown (read_part o b y 0).ended
  where
    both : (xs ys : List ℕ) (z : Ending) → used_up (8 * length b) (xs ++ ys) z ≡ record { shown = xs ++ (used_up (8 * length b) ys z).shown; ended = (used_up (8 * length b) ys z).ended }
    both xs ys (At q) = refl
    both xs ys (Fault e) = refl

    go : (xs : List ℕ) (z : Ending) → used_up (8 * length b) (follow xs z (λ xs p. read_align o b p)).shown (follow xs z (λ xs p. read_align o b p)).ended ≡ follow xs z (λ xs p. end_at o b p)
    go xs (At p) = both xs (read_align o b p).shown (read_align o b p).ended
    go xs (Fault e) = refl

-- what was laid of a reading, judged at the end of n bits
abbrev judged : ℕ → Ending → Ending
judged n (At p) = pick (eqb p n) (At p) (Fault 18)
judged n (Fault e) = Fault e

judged_over : (t : List ℕ) (k n : ℕ) (xs : List ℕ) (z : Ending) → shown_over t k (used_up n xs z) ≡ state (shown_over t k (record { shown = xs; ended = z })).table (shown_over t k (record { shown = xs; ended = z })).count (judged n (shown_over t k (record { shown = xs; ended = z })).ended)
unfolding shown_over
judged_over t k n xs (At p) = refl
judged_over t k n xs (Fault e) = refl

-- the next whole byte is the end of the body; or it is not; or there was none
module _ {a b : Reader} {r : Result BytePlace Reason} (h : Lays a b r (read_align (order_of a.order) a.body.now a.place.0)) where
  abbrev end_here : Reading
  end_here = end_at (order_of a.order) a.body.now a.place.0

  ends : {s : Result Unit Reason} → state_of b s ≡ state b.table.now b.index (judged (8 * length a.body.now) (state_of b r).ended) → Lays a b s end_here
  ends e = record {
    same = h.same;
    left = e ∙ ap (λ (s : State). state s.table s.count (judged (8 * length a.body.now) s.ended)) h.left
        ∙ sym (judged_over a.table.now a.index (8 * length a.body.now) (read_align (order_of a.order) a.body.now a.place.0).shown (read_align (order_of a.order) a.body.now a.place.0).ended);
  }

  pub end_err : {s : Result Unit Reason} {e : Reason} → r ≡ Err e → s ≡ Err e → Lays a b s end_here
  end_err z d = ends (rw (z, d))

  module _ {q : BytePlace} (z : r ≡ Ok q) (at : b.place.0 ≡ 8 * q.0) where
    pub end_in : q.0 ≡ length b.body.now → Lays a b (Ok (tt {0})) end_here
    end_in l = ends (rw (z, eq-eqb b.place.0 (8 * length a.body.now) (omega (arith, at, l, ap length h.same.body))))

    pub end_over : (q.0 ≡ length b.body.now → ⊥) → Lays {A = Unit {0}} a b (Err BodyNotUsedUp) end_here
    end_over n = ends (rw (z, ne_eqb b.place.0 (8 * length a.body.now) (λ e. n (omega (arith, at, e, ap length h.same.body)))))

-- a body that was read ends behind its last byte
used_end : (n : ℕ) (xs : List ℕ) (z : Ending) {p : ℕ} → (used_up n xs z).ended ≡ At p → p ≡ n
used_end n xs (At q) {p} e = go (eqb q n) refl e
  where
    go : (c : Bool) → eqb q n ≡ c → pick c (At q) (Fault 18) ≡ At p → p ≡ n
    go true d h = let z : q ≡ p = cc in sym z ∙ eqb-true q n d
    go false d h = clash cc
used_end n xs (Fault e) h = clash cc

pub leaf_ends : {a b : Reader} {r : Result Unit Reason} {u : Unit} (y : Body) → Lays a b r (read_body (order_of a.order) y a.body.now) → r ≡ Ok u → b.place.0 ≡ 8 * length b.body.now
unfolding read_body shown_over
leaf_ends {a} {b} y h e =
    let o : PaperOrder = order_of a.order in
    used_end (8 * length a.body.now) (to_end o a.body.now y).shown (to_end o a.body.now y).ended (ap (λ (s : State). s.ended) (sym h.left ∙ ap (state_of b) e))
    ∙ ap (λ (b : List ℕ). 8 * length b) (sym h.same.body)

-- ---- so a body is read
module _ {A : Type 0} {a b : Reader} {r : Result A Reason} (y : Body) (h : Lays a b r (read_part (order_of a.order) a.body.now y 0)) where
  abbrev o : PaperOrder
  o = order_of a.order

  -- with a list, and without one
  abbrev pub either : Bool → Reading
  either list = pick list (to_end o a.body.now y) (read_body o y a.body.now)

  pub open_lays : {B : Type 0} {s : Result B Reason} {c : Reader} {x : A} → r ≡ Ok x → Lays b c s (read_align (order_of b.order) b.body.now b.place.0) → Lays a c s (to_end o a.body.now y)
  open_lays e k = then_lays h (λ xs p. read_align o a.body.now p) e
      (lays_as (ap₂ (λ (u : Order) (z : List ℕ). read_align (order_of u) z b.place.0) h.same.order h.same.body) k)

  pub leaf_lays : {B : Type 0} {s : Result B Reason} {c : Reader} {x : A} → r ≡ Ok x → Lays b c s (end_at (order_of b.order) b.body.now b.place.0) → Lays a c s (read_body o y a.body.now)
  leaf_lays e k = lays_as (sym (body_is o a.body.now y))
      (then_lays h (λ xs p. end_at o a.body.now p) e (lays_as (ap₂ (λ (u : Order) (z : List ℕ). end_at (order_of u) z b.place.0) h.same.order h.same.body) k))

  -- refused before its end, it is the same both ways
  pub either_stop : {B : Type 0} {s : Result B Reason} {e : Reason} (list : Bool) → r ≡ Err e → s ≡ Err e → Lays a b s (either list)
  either_stop true e d = stop_lays h (λ xs p. read_align o a.body.now p) e d
  either_stop false e d = lays_as (sym (body_is o a.body.now y)) (stop_lays h (λ xs p. end_at o a.body.now p) e d)

  -- whether its list is still to be read
  pub part_stop : {s : Result (Option BytePlace) Reason} {e : Reason} (list : Bool) → r ≡ Err e → s ≡ Err e → Shows a b s (either list) list
  part_stop list e d = record { lays = either_stop list e d; opened = rw d tt }

  module _ {x : A} (e : r ≡ Ok x) {list : Bool} where
    module _ {c : Reader} {s : Result BytePlace Reason} (is : list ≡ true) (k : Lays b c s (read_align (order_of b.order) b.body.now b.place.0)) where
      pub open_shows : {q : BytePlace} → s ≡ Ok q → c.place.0 ≡ 8 * q.0 → Shows a c (Ok (Some q)) (either list) list
      open_shows {q} z at = rw is (record { lays = lays_ok (open_lays e k) (Some q) z; opened = (refl, at) })

      pub open_stop : {t : Result (Option BytePlace) Reason} {n : Reason} → s ≡ Err n → t ≡ Err n → Shows a c t (either list) list
      open_stop z d = rw is (record { lays = lays_err (open_lays e k) z d; opened = rw d tt })

    module _ {c : Reader} {s : Result Unit Reason} (is : list ≡ false) (k : Lays b c s (end_at (order_of b.order) b.body.now b.place.0)) where
      pub closed_shows : {u : Unit} → s ≡ Ok u → Shows a c (Ok None) (either list) list
      closed_shows z = rw is (record { lays = lays_ok (leaf_lays e k) None z; opened = (refl, omega (arith, leaf_ends y (leaf_lays e k) z)) })

      pub closed_stop : {t : Result (Option BytePlace) Reason} {n : Reason} → s ≡ Err n → t ≡ Err n → Shows a c t (either list) list
      closed_stop z d = rw is (record { lays = lays_err (leaf_lays e k) z d; opened = rw d tt })

-- ---- by the code
-- a leaf by its code alone
pub leaf_code : {a b : Reader} {r : Result Unit Reason} (code : ℕ) {block : Bool} → block ≡ is_block code → Lays a b r (read_body (order_of a.order) (body_by block code) a.body.now) → Lays a b r (read_body (order_of a.order) (leaf_body code) a.body.now)
unfolding leaf_body
leaf_code {a} {b} {r} code e h = subst (λ (v : Bool). Lays a b r (read_body (order_of a.order) (body_by v code) a.body.now)) e h

module _ {a b : Reader} {r : Result (Option BytePlace) Reason} (code : ℕ) where
  pub container_group : code ≡ 15 → Shows a b r (own_part (order_of a.order) group a.body.now) (has_list_in (order_of a.order) group a.body.now)
      → Shows a b r (own_part (order_of a.order) (container_body code) a.body.now) (has_list_in (order_of a.order) (container_body code) a.body.now)
  unfolding container_body
  container_group z h = rw (eq-eqb code 15 z) h

  -- others have a list always
  pub container_items : (code ≡ 15 → ⊥) → Shows a b r (to_end (order_of a.order) a.body.now (body_by false code)) true
      → Shows a b r (own_part (order_of a.order) (container_body code) a.body.now) (has_list_in (order_of a.order) (container_body code) a.body.now)
  unfolding container_body
  container_items z h = rw (ne_eqb code 15 z) h

-- ---- a group: its flags are n, and it has a list where digit 8 is set
end_shown : (o : PaperOrder) (b : List ℕ) (y : Body) → (to_end o b y).shown ≡ (read_part o b y 0).shown
end_shown o b y = go (read_part o b y 0).shown (read_part o b y 0).ended
  where
    skip : (xs : List ℕ) (p : ℕ) (c : Bool) → (follow xs (At p) (λ xs p. pick c (shows [] (p + skipped p)) (stop 15))).shown ≡ xs
    skip xs p true = append-nil xs
    skip xs p false = append-nil xs

    go : (xs : List ℕ) (z : Ending) → (follow xs z (λ xs p. read_align o b p)).shown ≡ xs
    go xs (At p) = skip xs p (eqb (ub o b p (skipped p)) 0)
    go xs (Fault e) = refl

pub group_part : {A : Type 0} {a b : Reader} {r : Result A Reason} {rows : List Attribute} → rows ≡ attributes_of 15 → Lays a b r (read_block (order_of a.order) a.body.now rows 0) → Lays a b r (read_part (order_of a.order) a.body.now group 0)
unfolding attributes_of read_part
group_part is = lays_as (rw is)

pub group_list : {a b : Reader} {n : Number} {r : Result Number Reason} (rows : List Attribute) (count : ℕ) → rows ≡ attributes_of 15 → count ≡ length rows → Lays a b r (read_block (order_of a.order) a.body.now rows 0) → r ≡ Ok n
    → FlagsRead count (run (order_of a.order) a.body.now (all_flags rows) 0) (Ok n) → has_list_in (order_of a.order) group a.body.now ≡ eqb (n.value / 16777216 % 8) 1
unfolding attributes_of read_part shown_over
group_list {a} {b} {n} {r} rows count is many h e flags =
    let nine : count ≡ 9 = many ∙ ap length is in
    let o : PaperOrder = order_of a.order in
    let ended : (read_block o a.body.now rows 0).ended ≡ At b.place.0 = sym (ap (λ (s : State). s.ended) (ap (state_of b) (sym e) ∙ h.left)) in
    let digit : n.value / 16777216 % 8 ≡ get_or (take count (flags_as n.value)) 8 0 = sym (rw nine (get_or-take 9 (flags_as n.value) 8 0 (omega arith) ∙ digit_at n.value 8 12 (omega arith))) in
    let last : get_or (take count (flags_as n.value)) 8 0 ≡ last_of (read_part o a.body.now group 0).shown = group_last o a.body.now 0 b.place.0 (ap (λ (l : List Attribute). run o a.body.now (all_flags l) 0) (sym is) ∙ flags.0) (ap (λ (l : List Attribute). (read_block o a.body.now l 0).ended) (sym is) ∙ ended) in
    ap (λ (v : ℕ). eqb v 1) (ap last_of (end_shown o a.body.now group) ∙ sym (digit ∙ last))

-- ---- no second answer fits a promise on the values of a tag: what was left, seen as a state, tells the table, the index and the answer, and the place where there is one; with whether a list follows, the place of that
pub one_laid : {a b c : Reader} {r s : Result Unit Reason} {R : Reading} → Lays a b r R → Lays a c s R → (b.table.now ≡ c.table.now) × (b.index ≡ c.index) × (r ≡ s) × IfOk r (λ x. b.place.0 ≡ c.place.0)
one_laid {a} {b} {c} {r} {s} h k =
    let e : state_of b r ≡ state_of c s = h.left ∙ sym k.left in
    (ap (λ (s : State). s.table) e, ap (λ (s : State). s.count) e, go r s (ap (λ (s : State). s.ended) e), (ended_one b c r s (ap (λ (s : State). s.ended) e)).1)
  where
    go : (r s : Result Unit Reason) → (state_of b r).ended ≡ (state_of c s).ended → r ≡ s
    go (Ok x) (Ok y) z = refl
    go (Err x) (Err y) z = ap Err (number_one x y (let d : number_of x ≡ number_of y = cc in d))
    go (Ok x) (Err y) z = clash cc
    go (Err x) (Ok y) z = clash cc

pub one_shown : {a b c : Reader} {r s : Result (Option BytePlace) Reason} {R : Reading} {list : Bool} → Shows a b r R list → Shows a c s R list → (b.table.now ≡ c.table.now) × (b.index ≡ c.index) × (r ≡ s) × IfOk r (λ x. b.place.0 ≡ c.place.0)
one_shown {a} {b} {c} {r} {s} {R} {list} h k =
    let e : state_of b r ≡ state_of c s = h.lays.left ∙ sym k.lays.left in
    (ap (λ (s : State). s.table) e, ap (λ (s : State). s.count) e, go r s (ap (λ (s : State). s.ended) e) h.opened k.opened, (ended_one b c r s (ap (λ (s : State). s.ended) e)).1)
  where
    go : (r s : Result (Option BytePlace) Reason) → (state_of b r).ended ≡ (state_of c s).ended → Opens list b.place.0 r → Opens list c.place.0 s → r ≡ s
    go (Ok (Some p)) (Ok (Some q)) z h k =
        let m : b.place.0 ≡ c.place.0 = cc in
        let d : p.0 ≡ q.0 = omega (arith, h.1, k.1, m) in
        λ i. Ok (Some (record { 0 = d i }))
    go (Ok None) (Ok None) z h k = refl
    go (Ok (Some p)) (Ok None) z h k = let e : true ≡ false = sym h.0 ∙ k.0 in clash cc
    go (Ok None) (Ok (Some q)) z h k = let e : true ≡ false = sym k.0 ∙ h.0 in clash cc
    go (Err x) (Err y) z h k = ap Err (number_one x y (let d : number_of x ≡ number_of y = cc in d))
    go (Ok x) (Err y) z h k = clash cc
    go (Err x) (Ok y) z h k = clash cc
