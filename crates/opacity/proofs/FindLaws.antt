-- For code: what the calls of the readers tell of a mask's body, and where the opacity is found.
use Prim.Native.Nat.{ℕ, ◌*◌, ◌/◌, ◌%◌, ◌^◌, ◌≤◌, ◌<◌}
use mathlib.Core.Bool.{true}
use mathlib.Core.List.{List}
use mathlib.Core.Path.{◌≡◌, refl, ap, sym, subst, ◌∙◌}
use native.Mathlib.Omega.{arith}
use lib.ListN.{length, get_or, take}
use lib.Seq.{take-take, get_or-take}
use borrow.Author.Tests.{lt-ltb, le-ltb, le-leb, lt-leb}
use Rattle.std.proofs.Common.{Result, Ok, Err}
use Rattle.std.specs.Result.{is_ok}
use Rattle.std.proofs.lemmas.List.{length-take-le, take-map}
use Rattle.format.specs.Bits.{Order, order_named}
use Rattle.format.specs.Reading.{Ending, At, Fault, Reading, shows}
use Rattle.format.specs.Formats.{Format}
use Rattle.format.specs.Items.{run}
use Rattle.format.proofs.Absurd.{clash}
use Rattle.format.specs.Bodies as bodies
use Rattle.format.specs.Bodies.{mask_block, all_flags, rows, attributes, read_body}
use Rattle.reasons.specs.Numbers.{number_of}
use Rattle.reasons.specs.declared.Reason.{Reason}
use Rattle.bits.specs.Places.{order_of}
use Rattle.bits.specs.declared.Number.{Number}
use Rattle.table.specs.State.{State, shown_over}
use Rattle.table.specs.Readers.{Reads, ending_of, state_of}
use Rattle.table.specs.declared.reader.Reader.{Reader}
use Rattle.attributes.specs.Rows.{attribute_of, attributes_in, attributes_of}
use Rattle.attributes.specs.declared.Attribute.{Attribute}
use Rattle.attributes.specs.Flags.{flags_as, FlagsRead}
use Rattle.attributes.proofs.FlagLaws.{digit_at, rows_many}
use Rattle.bodies.specs.Leaf.{leaf_body}
use Rattle.bodies.specs.Shown.{Lays}
use Rattle.opacity.specs.Opacity.{Opacity, refused_by, from_opacity, shown_at, of_mask, opacity_at}
use Rattle.opacity.specs.Inner.{place_in, is_at, IsAt, Judged, Finds}
use Rattle.opacity.proofs.ReadLaws.{ended_at}
use Rattle.opacity.proofs.MaskLaws.{Block, block, flags_in_lem, four, four_there, rows_take, finds}

-- how a reader's call ended
ended_is : {A : Type 0} (x y : Reader) (a : Result A Reason) (r : Reading) → state_of y a ≡ shown_over x.table.now x.index r → ending_of y.place a ≡ r.ended
unfolding shown_over
ended_is x y a r e = ap (λ (s : State). s.ended) e

is_there : {A : Type 0} (y : Reader) (a : Result A Reason) {z : Ending} → ending_of y.place a ≡ z → IsAt z → is_ok a ≡ true
is_there y (Ok x) e i = refl
is_there y (Err e) h i = ap is_at h ∙ i

-- ---- the rows before the opacity's
module _ (o : Order) (b : List ℕ) (J : Judged o b) (R : List Attribute) (is : attributes_in R ≡ attributes_of 14) where
  mask_is : attributes_in R ≡ mask_block
  unfolding attributes_of
  mask_is = is

  pub six : length R ≡ 6
  six = sym (rows_many R) ∙ ap length mask_is

  pub four_rows : length (take 4 R) ≡ 4
  four_rows = length-take-le 4 R (omega (arith, six))

  pub flags_there : (g : Result Number Reason) → FlagsRead (length R) (run o b (all_flags (attributes_in R)) 0) g → is_ok g ≡ true
  flags_there (Ok n) h = refl
  flags_there (Err x) h =
      let B : Block o b mask_block = block o b mask_block (ended_at (read_body o (attributes mask_block) b).ended J.reads).1 in
      let e : At B.p ≡ Fault (number_of x) = sym (ap (λ (y : Reading). y.ended) B.flags) ∙ ap (λ (l : List bodies.Attribute). (run o b (all_flags l) 0).ended) (sym mask_is) ∙ h in
      clash cc

  module _ {g : Result Number Reason} {n : Number} (told : g ≡ Ok n) (left : FlagsRead (length R) (run o b (all_flags (attributes_in R)) 0) g) where
    abbrev φs : List ℕ
    φs = flags_as n.value

    -- the flags were read: they are the first six digits
    flagged : run o b (all_flags mask_block) 0 ≡ shows (take 6 φs) n.next.0
    flagged =
        let h : FlagsRead (length R) (run o b (all_flags (attributes_in R)) 0) (Ok n) = subst (FlagsRead (length R) (run o b (all_flags (attributes_in R)) 0)) told left in
        ap (λ (l : List bodies.Attribute). run o b (all_flags l) 0) (sym mask_is) ∙ h.0 ∙ ap (λ (k : ℕ). shows (take k φs) n.next.0) six

    -- the place after the flags
    pub behind_in : n.next.0 ≤ 8 * length b
    behind_in = flags_in_lem o b J flagged

    -- the four rows before the opacity's were read, and flag is the fifth
    abbrev before : Format
    before = rows (attributes_in (take 4 R)) (take (length (take 4 R)) φs)

    before_is : before ≡ rows four (take 6 φs)
    before_is =
        let first : attributes_in (take 4 R) ≡ four = sym (take-map attribute_of 4 R) ∙ ap (take 4) mask_is in
        ap (λ (i : ℕ). rows (attributes_in (take 4 R)) (take i φs)) four_rows ∙ ap (λ (l : List bodies.Attribute). rows l (take 4 φs)) first
        ∙ ap (rows four) (sym (take-take 4 6 φs (omega arith))) ∙ rows_take four (take 6 φs)

    module _ {x y : Reader} {a : Result (Unit {0}) Reason} (d : Reads x y a before) (order : order_of x.order ≡ o) (body : x.body.now ≡ b) (place : x.place.0 ≡ n.next.0) where
      ended : ending_of y.place a ≡ (run o b (rows four (take 6 φs)) n.next.0).ended
      ended = ended_is x y a _ d.left ∙ rw (order, body, place) (ap (λ (f : Format). (run o b f n.next.0).ended) before_is)

      pub contents_there : is_ok a ≡ true
      contents_there = is_there y a ended (four_there o b J flagged)

      pub found : {u : Unit {0}} → a ≡ Ok u → {flag : ℕ} → flag ≡ n.value / 4096 % 8 → Finds o b flag y.place.0
      found {u} e {flag} is-flag =
          let f : flag ≡ get_or (take 6 φs) 4 0 = is-flag ∙ sym (get_or-take 6 φs 4 0 (omega arith) ∙ digit_at n.value 4 12 (omega arith)) in
          let z : y.place.0 ≡ place_in (run o b (rows four (take 6 φs)) n.next.0).ended = ap (λ (r : Result (Unit {0}) Reason). place_in (ending_of y.place r)) (sym e) ∙ ap place_in ended in
          rw f (finds o b J flagged z)

-- ---- the whole body, by what `read_body` left
module _ (o : Order) (b : List ℕ) {x y : Reader} {a : Result (Unit {0}) Reason} (left : Lays x y a (read_body o (leaf_body 14) b)) where
  ends_at : ending_of y.place a ≡ (read_body o (attributes mask_block) b).ended
  unfolding leaf_body attributes_of
  ends_at = ended_is x y a _ left.left

  pub mask_refused : (t : ℕ) {e : Reason} → a ≡ Err e → refused_by (number_of e) ≡ of_mask o b t
  unfolding of_mask
  mask_refused t {e} is =
      let z : (read_body o (attributes mask_block) b).ended ≡ Fault (number_of e) = sym ends_at ∙ ap (ending_of y.place) is in
      rw z refl

  pub mask_judged : {u : Unit {0}} → length b < 2 ^ 60 → a ≡ Ok u → Judged o b
  mask_judged {u} h is =
      let z : (read_body o (attributes mask_block) b).ended ≡ At y.place.0 = sym ends_at ∙ ap (ending_of y.place) is in
      record { few = h; reads = ap is_at z }

pub mask_shown : (o : Order) (b : List ℕ) (t : ℕ) → Judged o b → shown_at (from_opacity o b) t ≡ of_mask o b t
unfolding of_mask
mask_shown o b t J = rw (ended_at (read_body o (attributes mask_block) b).ended J.reads).1

-- ---- 24, and a body of 2 ^ 60 bytes
module _ (order : ℕ) (b : List ℕ) (t : ℕ) where
  pub order_refused : 1 < order → refused_by 24 ≡ opacity_at order b t
  unfolding opacity_at
  order_refused h = rw (lt-ltb 1 order h)

  pub length_refused : order ≤ 1 → 2 ^ 60 ≤ length b → refused_by 18 ≡ opacity_at order b t
  unfolding opacity_at
  length_refused h l = rw (le-ltb 1 order h, le-leb (2 ^ 60) (length b) l)

  pub mask_answered : {o : Order} {z : Opacity} → order ≤ 1 → length b < 2 ^ 60 → o ≡ order_named order → z ≡ of_mask o b t → z ≡ opacity_at order b t
  unfolding opacity_at
  mask_answered h l e d = rw (le-ltb 1 order h, lt-leb (2 ^ 60) (length b) l) (d ∙ ap (λ (o : Order). of_mask o b t) e)
