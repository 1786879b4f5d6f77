-- The public call: what it answers, by what looking through the tags at depth 0 gave.
use Prim.Native.Nat.{ℕ, ◌+◌, ◌-◌, ◌^◌, ◌≤◌, ◌<◌}
use mathlib.Core.List.{List, [], ◌++◌, append-nil}
use mathlib.Core.Path.{◌≡◌, ap, ap₂, sym, subst, ◌∙◌}
use native.Mathlib.Omega.{arith}
use lib.ListN.{length, take, drop, length-drop, length-take}
use lib.Seq.{sets, sets-eq, drop-drop}
use borrow.Author.Tests.{ne_eqb}
use Rattle.std.proofs.Common.{Result, Ok, Err, Option, Some, None}
use Rattle.format.specs.Bits.{Order, order_named}
use Rattle.format.specs.Reading.{At}
use Rattle.format.specs.Bodies.{Body, composition_attributes, fixed, read_body}
use Rattle.format.specs.FileAndTags as paper
use Rattle.format.specs.FileAndTags.{class_of, Walk, broken, file, walk_list}
use Rattle.format.specs.Reasons.{start_fault, walk_file}
use Rattle.format.proofs.Absurd.{clash}
use Rattle.format.proofs.StartLaws.{good_start}
use Rattle.reasons.specs.declared.Reason.{Reason}
use Rattle.reasons.specs.Numbers.{number_of}
use Rattle.reasons.proofs.NumberLaws.{number_one, positive}
use Rattle.table.specs.State.{State, shown_over}
use Rattle.table.specs.declared.reader.Reader.{Reader}
use Rattle.bodies.specs.Leaf.{leaf_body}
use Rattle.bodies.specs.Shown.{Lays}
use Rattle.classes.specs.Classes.{Classed}
use Rattle.classes.specs.declared.Class.{Class}
use Rattle.classes.specs.declared.Scope.TheVariants.{All}
use Rattle.tags.specs.Lent.{classes_in}
use Rattle.tags.proofs.LentLaws.{class_level}
use Rattle.lists.specs.declared.Fault.{Fault as Refused}
use Rattle.lists.proofs.ListLaws.{piece, piece_rest}
use Rattle.canvas.specs.Canvas.{Seen, found, Canvas, canvas, canvas_in, canvas_of, canvas_file}
use Rattle.canvas.specs.Looking.{refusal, body_at, Sees, Looks, zeros, seen_of, answered, Answers}
use Rattle.canvas.specs.declared.CanvasSize.{CanvasSize}
use Rattle.canvas.specs.declared.Refusal.{Refusal}
use Rattle.canvas.specs.declared.Span.{Span}
use Rattle.canvas.proofs.LookLaws.{leaf_is}
use Rattle.canvas.proofs.SureLaws.{SureEnd, canvas_sure}

-- ---- seven values over seven zeros
over_zeros : (xs : List ℕ) → length xs ≡ 7 → sets zeros 0 xs ≡ xs
over_zeros xs h =
    let d : drop (0 + length xs) zeros ≡ [] = rw h in
    sets-eq xs zeros 0 (omega (arith, h)) ∙ ap (λ (ys : List ℕ). xs ++ ys) d ∙ append-nil xs

pub filled_is : {a b : Reader} {r : Result (Unit {0}) Reason} (o : Order) (body : List ℕ) {t : List ℕ} → Lays a b r (read_body o (leaf_body 3) body) → a.table.now ≡ zeros → a.index ≡ 0 → t ≡ b.table.now → t ≡ sets zeros 0 (read_body o (fixed composition_attributes) body).shown
unfolding shown_over
filled_is {a} {b} {r} o body {t} e z k q =
    q ∙ ap (λ (s : State). s.table) e.left ∙ rw (z, k) (ap (λ (y : Body). sets zeros 0 (read_body o y body).shown) leaf_is)

module _ (order level : ℕ) (f : List ℕ) where
  -- a refusal before any tag
  pub call_start : {h : ℕ} (e : Reason) {x : Result (Option (List ℕ)) Refusal} → number_of e ≡ start_fault order level f → h ≡ 0 → x ≡ Err (refusal e 0) → Answers h x (canvas_file order level f)
  unfolding walk_file canvas_in
  call_start e is z q = rw (z, q, ← is, ne_eqb (number_of e) 0 (λ w. omega (arith, w, positive e)))

  module _ (start : 0 ≡ start_fault order level f) {o : Order} (named : o ≡ order_named order) {cs : List Class} (made : Classed All level cs) where
    abbrev room : List ℕ
    room = piece 9 (length f) f

    -- by the classes of the level, and by those that are lent
    walk_at : walk_file order level f ≡ walk_list o (class_of level) 8 file 9 room
    unfolding walk_file
    walk_at = rw (← start, piece_rest 9 f, named)

    walk_is : walk_file order level f ≡ walk_list o (classes_in cs) 8 file 9 room
    walk_is = walk_at ∙ sym (ap (λ (class : ℕ → paper.Class). walk_list o class 8 file 9 room) (λ i. λ code. class_level cs All level made code i))

    module _ {h n : ℕ} {y : Result (Option Span) Refused} (none_before : h ≡ 0) (done : Looks o 9 room h n y (canvas_of (walk_list o (classes_in cs) 8 file 9 room))) where
      looks : Looks o 9 room h n y (canvas_file order level f)
      looks = subst (λ (w : Walk). Looks o 9 room h n y (canvas_of w)) (sym walk_is) done

      sees_as : {z : Result (Option Span) Refused} → y ≡ z → Sees o 9 room z (canvas_file order level f).seen
      sees_as e = subst (λ (z : Result (Option Span) Refused). Sees o 9 room z (canvas_file order level f).seen) e looks.sees

      told_as : {s : Seen} → (canvas_file order level f).seen ≡ s → canvas s n ≡ canvas_file order level f
      told_as p = let q : n ≡ (canvas_file order level f).headers = omega (arith, looks.headers, none_before) in ap₂ canvas (sym p) q

      pub call_whole : y ≡ Ok None → Answers n (Ok None) (canvas_file order level f)
      call_whole e = told_as (sees_as e)

      pub call_fault : {e : Refused} {x : Result (Option (List ℕ)) Refusal} → y ≡ Err e → x ≡ Err (refusal e.why e.place.0) → Answers n x (canvas_file order level f)
      call_fault q w = rw w (told_as (sees_as q))

      -- the body that was found, in the file
      module _ {s : Span} (e : y ≡ Ok (Some s)) where
        abbrev i : ℕ
        i = s.start.0

        abbrev j : ℕ
        j = s.stop.0

        at : Sees o 9 room (Ok (Some s)) (canvas_file order level f).seen
        at = sees_as e

        pub call_places : (i ≤ j) × (j ≤ length f)
        call_places = (at.0.order, omega (arith, at.0.inside, ap length (piece_rest 9 f), length-drop 9 f, (good_start order level f (sym start)).long))

        pub call_length : length (piece i j f) < 2 ^ 60
        call_length = omega (arith, length-take (j - i) (drop i f), length-drop i f, (good_start order level f (sym start)).limit)

        body_is : body_at 9 room i j ≡ piece i j f
        body_is =
            let n : 9 + (i - 9) ≡ i = omega (arith, at.0.after) in
            ap (λ (r : List ℕ). take (j - i) (drop (i - 9) r)) (piece_rest 9 f) ∙ ap (take (j - i)) (drop-drop (i - 9) 9 f ∙ ap (λ (m : ℕ). drop m f) n)

        pub call_found : {vs : List ℕ} → vs ≡ sets zeros 0 (read_body o (fixed composition_attributes) (piece i j f)).shown → Answers n (Ok (Some vs)) (canvas_file order level f)
        call_found {vs} q =
            let g : (read_body o (fixed composition_attributes) (piece i j f)).ended ≡ At at.0.place = sym (ap (λ (x : List ℕ). (read_body o (fixed composition_attributes) x).ended) body_is) ∙ at.0.good in
            let n : length (read_body o (fixed composition_attributes) (piece i j f)).shown ≡ 7 = subst (SureEnd 7 (read_body o (fixed composition_attributes) (piece i j f)).shown) g (canvas_sure o (piece i j f)) in
            let v : vs ≡ (read_body o (fixed composition_attributes) (piece i j f)).shown = q ∙ over_zeros (read_body o (fixed composition_attributes) (piece i j f)).shown n in
            rw v (told_as (at.1 ∙ ap (λ (x : List ℕ). found (read_body o (fixed composition_attributes) x).shown) body_is))

-- the list at depth 0 ends inside the longest file
pub call_inside : (f : List ℕ) → 9 ≤ length f → length f ≤ 16777216 → 9 + length (piece 9 (length f) f) ≤ 16777216
call_inside f h l = omega (arith, ap length (piece_rest 9 f), length-drop 9 f)

-- ---- no second answer fits the call's promise
seen_one : (a b : Result (Option (List ℕ)) Refusal) → seen_of a ≡ seen_of b → a ≡ b
seen_one (Ok (Some vs)) (Ok (Some ws)) e = let q : vs ≡ ws = cc in ap (λ (vs : List ℕ). Ok (Some vs)) q
seen_one (Ok (Some vs)) (Ok None) e = clash cc
seen_one (Ok (Some vs)) (Err y) e = clash cc
seen_one (Ok None) (Ok (Some ws)) e = clash cc
seen_one (Ok None) (Ok None) e = λ i. Ok None
seen_one (Ok None) (Err y) e = clash cc
seen_one (Err x) (Ok (Some ws)) e = clash cc
seen_one (Err x) (Ok None) e = clash cc
seen_one (Err x) (Err y) e =
    let r : number_of x.reason ≡ number_of y.reason = cc in
    let n : x.number ≡ y.number = cc in
    ap₂ (λ (r : Reason) (n : ℕ). Err (refusal r n)) (number_one x.reason y.reason r) n

pub answered_one : (a b : CanvasSize) → answered a ≡ answered b → a ≡ b
answered_one a b e = ap₂ (λ (s : Result (Option (List ℕ)) Refusal) (n : ℕ). record { size = s; headers = n }) (seen_one a.size b.size (ap (λ (c : Canvas). c.seen) e)) (ap (λ (c : Canvas). c.headers) e)
