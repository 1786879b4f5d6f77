-- One tag: its header, its row, its own numbers, and what comes after them.
use Prim.Native.Nat.{ℕ, ◌+◌, ◌-◌, ◌*◌, ◌/◌, ◌≤◌}
use mathlib.Core.List.{List, [], ◌∷◌}
use mathlib.Core.Bool.{true}
use mathlib.Core.Path.{◌≡◌, ap, sym, subst, ◌∙◌}
use native.Mathlib.Omega.{arith}
use lib.ListN.{length, take, drop, length-drop}
use lib.Seq.{sets, drop-drop, length-take-le}
use Rattle.std.proofs.Common.{Result, Ok, Err, Option, Some, None}
use Rattle.bits.specs.declared.BytePlace.{BytePlace}
use Rattle.reasons.specs.declared.Reason.{Reason}
use Rattle.reasons.specs.Numbers.{number_of}
use Rattle.format.specs.Bits.{Order}
use Rattle.format.specs.Reading.{At}
use Rattle.format.specs.FileAndTags as paper
use Rattle.format.specs.FileAndTags.{le16, state_of}
use Rattle.table.specs.State.{State, shown_over}
use Rattle.table.specs.Readers.{state_of as state_left, ending_of}
use Rattle.table.specs.declared.reader.Reader.{Reader}
use Rattle.bodies.specs.Shown.{Opens, Shows}
use Rattle.format.proofs.WalkLaws.{Fits, head_fits}
use Rattle.classes.specs.Classes.{bare}
use Rattle.classes.specs.declared.Class.{Class}
use Rattle.headers.specs.Heads.{as_head, head_by}
use Rattle.headers.specs.declared.Header.{Header}
use Rattle.lists.specs.Lists.{byte_at, tag_shown, next_by, step_with, step_as, step_of, Stepped, stepped, tag_at, tag_in, SameTables, Steps}
use Rattle.lists.specs.declared.Lent.{Lent}
use Rattle.lists.specs.declared.Step.{Step as Told}
use Rattle.lists.specs.Steps.{Step}
use Rattle.lists.specs.Steps as step
use Rattle.tags.specs.Lent.{class_in}
use Rattle.tags.specs.Shown.{values_of, list_of, headed}
use Rattle.tags.proofs.TagLaws.{values_le}

stepped_eq : {t t' g g' : List ℕ} {x x' : Step} → t ≡ t' → g ≡ g' → x ≡ x' → stepped t g x ≡ stepped t' g' x'
stepped_eq p q r = λ i. record { table = p i; rows = q i; step = r i }

-- how a tag's values ended: they end in its body
pub values_fit : (o : Order) (class : Class) (code : ℕ) (body : List ℕ) {p : ℕ} → At (8 * p) ≡ (values_of o class code body).ended → p ≤ length body
values_fit o class code body {p} e = omega (arith, values_le o class code body (8 * p) (sym e))

-- what a call left of a tag, field by field
pub steps_are : {old new : Lent} {told : Result Told Reason} {u g : List ℕ} {S : Stepped} {x : Step} → SameTables old new → new.row ≡ old.row → new.table.now ≡ u → new.rows.now ≡ g → step_as new.index told ≡ x
    → stepped u g x ≡ S → Steps old new told S
steps_are same row t g x h = record { same = same; row = row; left = stepped_eq t g x ∙ h }

pub steps_as : {old new : Lent} {told : Result Told Reason} {S S' : Stepped} → Steps old new told S → S ≡ S' → Steps old new told S'
steps_as h e = record { same = h.same; row = h.row; left = h.left ∙ e }

-- the tag at i of the list r at place a
module _ (o : Order) (class : Class) (depths a : ℕ) (r : List ℕ) (i : ℕ) (t : List ℕ) (k : ℕ) (g : List ℕ) (m : ℕ) where
  -- its header, by its class, is refused
  pub tag_none : {e : ℕ} → head_by class depths (drop i r) ≡ paper.no_head e → stepped t g (step.Fault e) ≡ tag_at o class depths a r i t k g m (head_by class depths (drop i r))
  tag_none is = ap (tag_at o class depths a r i t k g m) (sym is)

  -- it stands in the room with its body
  pub tag_stands : {head : Header} → head_by class depths (drop i r) ≡ as_head (Ok head) → i ≤ length r → i + head.size + head.length ≤ length r
  tag_stands {head} e l =
      let u : Fits (λ code. bare class) depths (drop i r) (as_head (Ok head)) =
      subst (Fits (λ code. bare class) depths (drop i r)) e (head_fits (λ code. bare class) depths (drop i r)) in
      omega (arith, u.1, length-drop i r)

  -- it passes, and the row and the numbers are stored
  module _ (head : Header) {start stop : ℕ} {body g' : List ℕ} {A B : Reader} {R : Result (Option BytePlace) Reason} (begin : start ≡ i + head.size) (end : stop ≡ start + head.length)
      (part : body ≡ take (stop - start) (drop start r)) (row : g' ≡ sets g m ((8 - depths) ∷ head.code ∷ (a + i) ∷ head.size ∷ head.length ∷ []))
      (room : start + head.length ≤ length r) (starts : A.table.now ≡ t) (first : A.index ≡ k)
      (ran : Shows A B R (headed head.code (state_of (bare class) head.size (length body)) (values_of o class head.code body)) (list_of o class head.code body)) where
    abbrev code : ℕ
    code = head.code

    abbrev len : ℕ
    len = head.length

    abbrev size : ℕ
    size = head.size

    body_is : body ≡ take len (drop size (drop i r))
    body_is =
        let n : stop - start ≡ len = omega arith in
        part ∙ rw (n, begin) (ap (take len) (sym (drop-drop size i r)))

    full : length body ≡ len
    full = ap length part ∙ length-take-le (stop - start) (drop start r) (rw length-drop (omega arith)) ∙ omega arith

    abbrev whole : List ℕ
    whole = take len (drop size (drop i r))

    ran_is : Shows A B R (tag_shown o class code len size whole) (list_of o class code whole)
    ran_is = subst (λ (b : List ℕ). Shows A B R (tag_shown o class code len size b) (list_of o class code b)) body_is
        (subst (λ (n : ℕ). Shows A B R (headed code (state_of (bare class) size n) (values_of o class code body)) (list_of o class code body)) full ran)

    left_is : state_left B R ≡ shown_over t k (tag_shown o class code len size whole)
    left_is = ran_is.lays.left ∙ rw (starts, first)

    tag_done : {x : Step} → x ≡ step_of class (list_of o class code whole) start stop B.index (state_left B R).ended → stepped B.table.now g' x ≡ tag_at o class depths a r i t k g m (paper.head code len size)
    unfolding shown_over
    tag_done {x} e =
        let b : start + len ≡ i + size + len = omega arith in
        stepped_eq (ap (λ (s : State). s.table) left_is) row
        (e ∙ ap (λ (s : State). step_of class (list_of o class code whole) start stop s.count s.ended) left_is ∙ rw (end, b, begin))

    -- how its values ended, and whether a list follows
    ended_is : (state_left B R).ended ≡ (values_of o class code whole).ended
    unfolding shown_over
    ended_is = ap (λ (s : State). s.ended) left_is

    pub tag_stop : {e : Reason} → R ≡ Err e → stepped B.table.now g' (step.Fault (number_of e)) ≡ tag_at o class depths a r i t k g m (paper.head code len size)
    tag_stop e = tag_done (ap (λ (q : Result (Option BytePlace) Reason). step_of class (list_of o class code whole) start stop B.index (ending_of B.place q)) (sym e))

    opens_is : {s : Option BytePlace} → R ≡ Ok s → Opens (list_of o class code whole) B.place.0 (Ok s)
    opens_is e = subst (Opens (list_of o class code whole) B.place.0) e ran_is.opened

    pub tag_shown_lem : R ≡ Ok None → stepped B.table.now g' (step_with B.index (next_by class (byte_at stop))) ≡ tag_at o class depths a r i t k g m (paper.head code len size)
    tag_shown_lem e = let l = (opens_is e).0 in tag_done (rw (e, l))

    pub tag_open : {p : BytePlace} → R ≡ Ok (Some p) → stepped B.table.now g' (step.Open (record { list = byte_at (start + p.0); stop = byte_at stop; behind = B.index })) ≡ tag_at o class depths a r i t k g m (paper.head code len size)
    tag_open {p} e =
        let l : list_of o class code whole ≡ true = (opens_is e).0 in
        let n : B.place.0 / 8 ≡ p.0 = omega (arith, (opens_is e).1) in
        tag_done (rw (e, l, n))

    -- its list starts in the room
    pub list_fits : {p : BytePlace} → R ≡ Ok (Some p) → start + p.0 ≤ length r
    list_fits {p} e = omega (arith, values_fit o class code whole (sym (ap At (opens_is e).1) ∙ sym (ap (λ (q : Result (Option BytePlace) Reason). ending_of B.place q) e) ∙ ended_is), full, ap length body_is)

-- the class was looked up
pub tag_in_lem : (o : Order) (ns : List Class) (depths a : ℕ) (r : List ℕ) (i : ℕ) (t : List ℕ) (k : ℕ) (g : List ℕ) (m : ℕ) {class : Class} {code : ℕ} {x : Stepped} → class ≡ class_in ns code → code ≡ le16 (drop i r) / 64
    → x ≡ tag_at o class depths a r i t k g m (head_by class depths (drop i r)) → x ≡ tag_in o ns depths a r i t k g m
tag_in_lem o ns depths a r i t k g m e f h = h ∙ ap (λ (c : Class). tag_at o c depths a r i t k g m (head_by c depths (drop i r))) (e ∙ ap (class_in ns) f)
