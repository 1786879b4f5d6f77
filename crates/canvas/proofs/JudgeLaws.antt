-- One tag: its values, and what its header and they tell.
use Prim.Native.Nat.{ℕ, ◌+◌, ◌-◌, ◌/◌, ◌≤◌, ◌<◌, ◌^◌}
use mathlib.Core.List.{List}
use mathlib.Core.Path.{◌≡◌, refl, ap, sym, subst, ◌∙◌}
use mathlib.Core.Bool.{Bool, true, false}
use mathlib.Core.Logic.{◌⊎◌, inl, inr}
use native.Mathlib.Omega.{arith}
use lib.ListN.{length, take, drop, length-drop}
use lib.Seq.{drop-drop, length-take-le}
use Rattle.std.specs.Option.{IfSome}
use Rattle.std.proofs.Common.{Result, Ok, Err, Option, Some, None}
use Rattle.format.specs.Bits.{Order}
use Rattle.format.specs.Reading.{Ending, At, Fault, Reading}
use Rattle.format.specs.Bodies.{read_body}
use Rattle.format.specs.FileAndTags as paper
use Rattle.reasons.specs.declared.Reason.{Reason}
use Rattle.bits.specs.Places.{order_of}
use Rattle.bits.specs.declared.BytePlace.{BytePlace}
use Rattle.table.specs.State.{State, shown_over}
use Rattle.table.specs.Readers.{ending_of}
use Rattle.table.specs.declared.reader.Reader.{Reader}
use Rattle.bodies.specs.Leaf.{body_by}
use Rattle.bodies.specs.Shown.{Lays, Opens, Shows}
use Rattle.classes.specs.declared.Class.{Class}
use Rattle.classes.specs.declared.Class.TheVariants.{Fixed, Attributes}
use Rattle.headers.specs.declared.Header.{Header}
use Rattle.tags.specs.Shown.{values_of, list_of}
use Rattle.tags.proofs.TagLaws.{whole_leaf_shown, leaf_refused, values_le}
use Rattle.canvas.specs.Looking.{span, judged_by, Valued, numbered, judged_end, judged_at}
use Rattle.canvas.specs.declared.Judged.{Judged}

-- ---- judge_values: as reading with no table ended
pub valued : {a b : Reader} {y : Result (Option BytePlace) Reason} {R : Reading} {list : Bool} → Shows a b y R list → Valued R.ended list y
unfolding shown_over
valued {a} {b} {y} {R} {list} s = go y (ap (λ (z : State). z.ended) s.lays.left) s.opened
  where
    go : (y : Result (Option BytePlace) Reason) → ending_of b.place y ≡ R.ended → Opens list b.place.0 y → Valued R.ended list y
    go (Ok (Some q)) e v = subst (λ (z : Ending). Valued z list (Ok (Some q))) e v
    go (Ok None) e v = subst (λ (z : Ending). Valued z list (Ok None)) e v.0
    go (Err x) e v = subst (λ (z : Ending). Valued z list (Err x)) e refl

-- by the class that a `match` tells
pub valued_told : (o : Order) (body : List ℕ) (code : ℕ) (y : Result (Option BytePlace) Reason) {class : Class} (told : Class) → class ≡ told
    → Valued (values_of o told code body).ended (list_of o told code body) y → Valued (values_of o class code body).ended (list_of o class code body) y
valued_told o body code y told e v = subst (λ (c : Class). Valued (values_of o c code body).ended (list_of o c code body) y) (sym e) v

-- a leaf is read as an attribute block or as another body
module _ {a b : Reader} {y : Result (Unit {0}) Reason} (code : ℕ) (class : Class) {block : Bool} (leaf : (class ≡ Fixed) ⊎ (class ≡ Attributes)) (fixed_so : class ≡ Fixed → block ≡ false) (attributes_so : class ≡ Attributes → block ≡ true)
    (laid : Lays a b y (read_body (order_of a.order) (body_by block code) a.body.now)) where
  abbrev V : Result (Option BytePlace) Reason → Type 0
  V z = Valued (values_of (order_of a.order) class code a.body.now).ended (list_of (order_of a.order) class code a.body.now) z

  leaf_valued : (z : Result (Option BytePlace) Reason) → Valued (read_body (order_of a.order) (body_by block code) a.body.now).ended false z → V z
  leaf_valued z v = go leaf
    where
      go : (class ≡ Fixed) ⊎ (class ≡ Attributes) → V z
      go (inl e) = valued_told (order_of a.order) a.body.now code z Fixed e (subst (λ (b : Bool). Valued (read_body (order_of a.order) (body_by b code) a.body.now).ended false z) (fixed_so e) v)
      go (inr e) = valued_told (order_of a.order) a.body.now code z Attributes e (subst (λ (b : Bool). Valued (read_body (order_of a.order) (body_by b code) a.body.now).ended false z) (attributes_so e) v)

  pub leaf_ok : {x : Unit {0}} → y ≡ Ok x → V (Ok None)
  leaf_ok q = leaf_valued (Ok None) (valued (whole_leaf_shown (body_by block code) laid q))

  pub leaf_err : {e : Reason} {z : Result (Option BytePlace) Reason} → y ≡ Err e → z ≡ Err e → V z
  leaf_err {e} {z} q w = leaf_valued z (valued (leaf_refused laid q w))

-- ---- judge_body: its values ended so
end_ok : (class : Class) (code start stop : ℕ) (z : Ending) (list : Bool) (q : Option BytePlace) → Valued z list (Ok q) → Ok (judged_by class code (span start stop) q) ≡ judged_end class list code start stop z
end_ok class code start stop (At p) list (Some q) v = let n : p / 8 ≡ q.0 = omega (arith, v.1) in rw (v.0, n)
end_ok class code start stop (At p) list None v = rw v
end_ok class code start stop (Fault n) list q v = absurd v

-- the tag with this header at i of the list r
module _ (o : Order) (class : Class) (r : List ℕ) (i : ℕ) (header : Header) where
  abbrev start : ℕ
  start = i + header.size

  abbrev stop : ℕ
  stop = start + header.length

  abbrev body : List ℕ
  body = take (stop - start) (drop start r)

  abbrev Ran : List ℕ → Result (Option BytePlace) Reason → Type 0
  Ran b y = Valued (values_of o class header.code b).ended (list_of o class header.code b) y

  body_is : body ≡ take header.length (drop header.size (drop i r))
  body_is =
      let n : stop - start ≡ header.length = omega arith in
      rw n (ap (take header.length) (sym (drop-drop header.size i r)))

  module _ {y : Result (Option BytePlace) Reason} (ran : Ran body y) where
    pub judged_ok : {list : Option BytePlace} {J : Judged} → y ≡ Ok list → J ≡ judged_by class header.code (span start stop) list
        → numbered {A = Judged} (Ok J) ≡ (judged_at o class r i (paper.head header.code header.length header.size)).judged
    judged_ok {list} q e = ap Ok e ∙ end_ok class header.code start stop _ _ list (subst (λ (b : List ℕ). Ran b (Ok list)) body_is (subst (Ran body) q ran))

    -- its list starts in the room
    pub judged_fits : {list : Option BytePlace} → y ≡ Ok list → stop ≤ length r → length r ≤ 16777216 → IfSome list (λ place. start + place.0 < 2 ^ 60)
    judged_fits {list} q l m = go (values_of o class header.code body).ended refl list (subst (Ran body) q ran)
      where
        size : length body ≡ header.length
        size = let n : length body ≡ stop - start = length-take-le (stop - start) (drop start r) (rw length-drop (omega arith)) in omega (arith, n)

        go : (z : Ending) → (values_of o class header.code body).ended ≡ z → (list : Option BytePlace) → Valued z (list_of o class header.code body) (Ok list) → IfSome list (λ place. start + place.0 < 2 ^ 60)
        go z e None v = tt
        go (At p) e (Some q) v = omega (arith, v.1, values_le o class header.code body p e, size, l, m)
        go (Fault n) e (Some q) v = absurd v
