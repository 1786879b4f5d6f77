-- One tag: an opaque body packed, its values by its class, and its code, state and count stored before them last.
use Prim.Native.Nat.{ℕ, suc, ◌+◌, ◌-◌, ◌*◌, ◌/◌, ◌≤◌, ◌<◌, min}
use mathlib.Core.List.{List, [], ◌∷◌, ◌++◌, append_assoc}
use mathlib.Core.Path.{◌≡◌, refl, ap, sym, subst, ◌∙◌}
use mathlib.Core.Bool.{Bool, true, false}
use native.Mathlib.Omega.{arith}
use lib.ListN.{length, take, drop, set, length-drop}
use lib.Seq.{sets, length-sets, take_all, set_out, drop-drop, length-take-le}
use native.Mathlib.Nat.{add-zero, add-suc, suc-add}
use lib.Dec.{eqb}
use borrow.Author.Tests.{eqb-true, eqb-false}
use borrow.Rule.Slice.PartMut.{put_mid}
use Rattle.std.proofs.Common.{Result, Ok, Err, Option, None, ◌==◌}
use Rattle.std.proofs.lemmas.List.{take-append-drop, set_comm}
use Rattle.std.proofs.lemmas.List.Edits.{sets-eq}
use Rattle.format.specs.Bits.{Order}
use Rattle.format.specs.Tests.{pick}
use Rattle.format.specs.Reading.{Ending, At, Fault, Reading, shows}
use Rattle.format.specs.Bodies.{Body, fixed, attributes, to_end, used_up, read_body}
use Rattle.format.specs.FileAndTags.{le64, eights, packed}
use Rattle.format.proofs.BodyLaws.{end_le}
use Rattle.format.proofs.PackLaws.{length_eights, eights_at}
use Rattle.format.proofs.Absurd.{clash}
use Rattle.reasons.specs.declared.Reason.{Reason}
use Rattle.attributes.specs.Rows.{attributes_of}
use Rattle.fixed.specs.Fixed.{fixed_of}
use Rattle.bodies.specs.Leaf.{container_body, has_list_in}
use Rattle.bits.specs.Places.{order_of}
use Rattle.bits.specs.declared.BitPlace.{BitPlace}
use Rattle.bits.specs.declared.BytePlace.{BytePlace}
use Rattle.table.specs.State.{State, shown_over}
use Rattle.table.specs.Readers.{Same, state_of, ending_of}
use Rattle.table.specs.declared.reader.Reader.{Reader}
use Rattle.table.proofs.EngineLaws.{state_eq, after_none}
use Rattle.table.proofs.ReaderLaws.{same_refl, same_then}
use Rattle.table.proofs.StoringLaws.{Storing, storing_next, storing_done}
use Rattle.bodies.specs.Shown.{Lays, Opens, Shows}
use Rattle.bodies.proofs.BodyLaws.{lays_ok, lays_err, leaf_ends}
use Rattle.classes.specs.declared.Class.{Class}
use Rattle.classes.specs.declared.Class.TheVariants.{Opaque, End, Container, Fixed, Attributes}
use Rattle.tags.specs.Shown.{values_of, list_of, headed}

-- ---- a body's length, and behind it eight bytes to a number: all are stored, or there is no more room
abbrev pub eights_of : List ℕ → List ℕ
eights_of b = eights ((length b + 7) / 8) b

pub packed_done : (t₀ b : List ℕ) (k : ℕ) {u t : List ℕ} {n i : ℕ} → n ≡ length b → u ≡ set t₀ k n → Storing u (eights_of b) (k + 1) t i
    → min ((length b + 7) / 8) (length t - (k + 1)) ≤ i → t ≡ sets t₀ k (packed b)
packed_done t₀ b k {u} {t} {n} {i} z e g l =
    let w : length (eights_of b) ≡ (length b + 7) / 8 = length_eights ((length b + 7) / 8) b in
    let one : k + 1 ≡ suc k = omega arith in
    storing_done u (eights_of b) (k + 1) g {m = min (length (eights_of b)) (length t - (k + 1))} refl (rw w l) ∙ rw (one, e, z)

-- the next number, of eight bytes; and the last one
pub packed_next : (b : List ℕ) (k : ℕ) {u t : List ℕ} {i x : ℕ} → Storing u (eights_of b) k t i → i < (length b + 7) / 8 → x ≡ le64 (drop (8 * i) b) → Storing u (eights_of b) k (set t (k + i) x) (i + 1)
packed_next b k {u} {t} {i} g h e =
    storing_next u (eights_of b) k g (omega (arith, length_eights ((length b + 7) / 8) b)) (e ∙ sym (eights_at ((length b + 7) / 8) b i h))

-- the bytes behind the last whole eight
pub packed_last : (b : List ℕ) (k : ℕ) {u t : List ℕ} {i m x : ℕ} → Storing u (eights_of b) k t i → i ≡ m → m < (length b + 7) / 8 → x ≡ le64 (take (length b - 8 * m) (drop (8 * m) b)) → Storing u (eights_of b) k (set t (k + m) x) (i + 1)
packed_last b k {u} {t} {i} {m} {x} g n h e =
    let all : take (length b - 8 * m) (drop (8 * m) b) ≡ drop (8 * m) b = take_all (length b - 8 * m) (drop (8 * m) b) (rw length-drop (omega arith)) in
    subst (λ (j : ℕ). Storing u (eights_of b) k (set t (k + j) x) (i + 1)) n (packed_next b k g (omega arith) (e ∙ ap le64 all ∙ ap (λ (j : ℕ). le64 (drop (8 * j) b)) (sym n)))

-- the bytes behind the last whole eight: some, or none
abbrev rest_of : List ℕ → List ℕ
rest_of b = take (length b - 8 * (length b / 8)) (drop (8 * (length b / 8)) b)

rest_many : (b : List ℕ) → length (rest_of b) ≡ length b - 8 * (length b / 8)
rest_many b = length-take-le (length b - 8 * (length b / 8)) (drop (8 * (length b / 8)) b) (rw length-drop (omega arith))

pub some_rest : (b : List ℕ) → false ≡ length (rest_of b) == 0 → 0 < length b - 8 * (length b / 8)
some_rest b e = omega (arith, rest_many b, eqb-false (length (rest_of b)) 0 (sym e))

pub no_rest : (b : List ℕ) → true ≡ length (rest_of b) == 0 → length b ≡ 8 * (length b / 8)
no_rest b e = omega (arith, rest_many b, eqb-true (length (rest_of b)) 0 (sym e))

-- ---- an opaque body is shown packed; End shows nothing
pub packed_shown : {a b : Reader} → Same a b → b.table.now ≡ sets a.table.now a.index (packed a.body.now) → b.index ≡ a.index + (1 + (length a.body.now + 7) / 8) → b.place.0 ≡ 0 → Shows a b (Ok None) (shows (packed a.body.now) 0) false
unfolding shown_over
packed_shown {a} h t i p = record {
  lays = record { same = h; left = state_eq t (i ∙ omega (arith, length_eights ((length a.body.now + 7) / 8) a.body.now)) (ap At p) };
  opened = (refl, rw p refl);
}

pub none_shown : (a : Reader) → a.place.0 ≡ 0 → Shows a a (Ok None) (shows [] 0) false
none_shown a p = record { lays = record { same = same_refl a; left = ap (λ (q : ℕ). record { table = a.table.now; count = a.index; ended = At q }) p ∙ sym (after_none a.table.now a.index 0) }; opened = (refl, rw p refl) }

-- a body without a list
pub leaf_shown : {a b : Reader} {r : Result Unit Reason} {x : Unit} {R : Reading} → Lays a b r R → r ≡ Ok x → b.place.0 ≡ 8 * length b.body.now → Shows a b (Ok None) R false
leaf_shown h e at = record { lays = lays_ok h None e; opened = (refl, omega (arith, at)) }

-- and one that was read as a body: it ends on a whole byte
pub whole_leaf_shown : {a b : Reader} {r : Result Unit Reason} {x : Unit} (y : Body) → Lays a b r (read_body (order_of a.order) y a.body.now) → r ≡ Ok x → Shows a b (Ok None) (read_body (order_of a.order) y a.body.now) false
whole_leaf_shown y h e = leaf_shown h e (leaf_ends y h e)

pub leaf_refused : {a b : Reader} {r : Result Unit Reason} {s : Result (Option BytePlace) Reason} {e : Reason} {R : Reading} → Lays a b r R → r ≡ Err e → s ≡ Err e → Shows a b s R false
leaf_refused h e d = record { lays = lays_err h e d; opened = rw d tt }

-- ---- the class that a `match` tells
pub values_of_lem : {a b : Reader} {r : Result (Option BytePlace) Reason} (code : ℕ) {class : Class} (told : Class) → class ≡ told → Shows a b r (values_of (order_of a.order) told code a.body.now) (list_of (order_of a.order) told code a.body.now)
    → Shows a b r (values_of (order_of a.order) class code a.body.now) (list_of (order_of a.order) class code a.body.now)
values_of_lem {a} {b} {r} code told e = subst (λ (z : Class). Shows a b r (values_of (order_of a.order) z code a.body.now) (list_of (order_of a.order) z code a.body.now)) (sym e)

-- ---- only a container has a list
pub list_container : (o : Order) (class : Class) (code : ℕ) (body : List ℕ) → list_of o class code body ≡ true → class ≡ Container
list_container o Opaque code body e = clash cc
list_container o End code body e = clash cc
list_container o Container code body e = refl
list_container o Fixed code body e = clash cc
list_container o Attributes code body e = clash cc

-- ---- values end in the body
body_le : (o : Order) (y : Body) (b : List ℕ) (p : ℕ) → (read_body o y b).ended ≡ At p → p ≤ 8 * length b
unfolding read_body
body_le o y b p = go (to_end o b y).shown (to_end o b y).ended
  where
    test : (q : ℕ) (c : Bool) → eqb q (8 * length b) ≡ c → pick c (At q) (Fault 18) ≡ At p → p ≤ 8 * length b
    test q true e h = let z : q ≡ p = cc in omega (arith, eqb-true q (8 * length b) e)
    test q false e h = clash cc

    go : (xs : List ℕ) (z : Ending) → (used_up (8 * length b) xs z).ended ≡ At p → p ≤ 8 * length b
    go xs (At q) h = test q (eqb q (8 * length b)) refl h
    go xs (Fault e) h = clash cc

pub values_le : (o : Order) (class : Class) (code : ℕ) (body : List ℕ) (p : ℕ) → (values_of o class code body).ended ≡ At p → p ≤ 8 * length body
values_le o Opaque code body p e = let z : 0 ≡ p = cc in omega arith
values_le o End code body p e = let z : 0 ≡ p = cc in omega arith
values_le o Container code body p e = go (has_list_in o (container_body code) body) e
  where
    go : (list : Bool) → (pick list (to_end o body (container_body code)) (read_body o (container_body code) body)).ended ≡ At p → p ≤ 8 * length body
    go true e = end_le o (container_body code) body p e
    go false e = body_le o (container_body code) body p e
values_le o Fixed code body p e = body_le o (fixed (fixed_of code)) body p e
values_le o Attributes code body p e = body_le o (attributes (attributes_of code)) body p e

-- ---- values in a row: all are stored, or those that there is room for
module _ {A : Type 0} where
  pub all_stored : (l vs ys : List A) (k n : ℕ) → k + length vs ≤ length l → ys ≡ vs → n ≡ length vs → put_mid k n l ys ≡ sets l k vs
  all_stored l vs ys k n h e f = rw (e, f, drop-drop (length vs) k l) (sym (sets-eq vs l k h ∙ append_assoc (take k l) vs (drop (k + length vs) l)))

  pub sets_past : (l : List A) (k : ℕ) (vs : List A) → length l ≤ k → sets l k vs ≡ l
  sets_past l k [] h = refl
  sets_past l k (v ∷ vs) h = rw (set_out l k v h) (sets_past l (suc k) vs (omega arith))

  sets_then : (t : List A) (k : ℕ) (xs ys : List A) → sets t k (xs ++ ys) ≡ sets (sets t k xs) (k + length xs) ys
  sets_then t k [] ys = rw (add-zero k)
  sets_then t k (x ∷ xs) ys = sets_then (set t k x) (suc k) xs ys ∙ rw (suc-add k (length xs), add-suc k (length xs))

  pub some_stored : (l vs ys : List A) (k n : ℕ) → k < length l → length l - k < length vs → ys ≡ take n vs → n ≡ length l - k → put_mid k n l ys ≡ sets l k vs
  some_stored l vs ys k n h o e f =
      let m : length (take n vs) ≡ n = length-take-le n vs (omega arith) in
      all_stored l (take n vs) ys k n (omega (arith, m)) e (sym m)
      ∙ sym (ap (sets l k) (sym (take-append-drop n vs)) ∙ sets_then l k (take n vs) (drop n vs) ∙ sets_past (sets l k (take n vs)) (k + length (take n vs)) (drop n vs) (omega (arith, m, length-sets l k (take n vs))))

  -- before others that were stored
  set_sets : (t : List A) (k j : ℕ) (v : A) (xs : List A) → k < j → set (sets t j xs) k v ≡ sets (set t k v) j xs
  set_sets t k j v [] h = refl
  set_sets t k j v (x ∷ xs) h = set_sets (set t j x) k (suc j) v xs (omega arith) ∙ ap (λ (u : List A). sets u (suc j) xs) (set_comm t j k x v (λ e. absurd (omega arith)))

  sets_before : (t : List A) (k : ℕ) (xs ys : List A) (j : ℕ) → k + length xs ≤ j → sets (sets t j ys) k xs ≡ sets (sets t k xs) j ys
  sets_before t k [] ys j h = refl
  sets_before t k (x ∷ xs) ys j h = ap (λ (u : List A). sets u (suc k) xs) (set_sets t k j x ys (omega arith)) ∙ sets_before (set t k x) (suc k) xs ys j (omega arith)

-- ---- three numbers before the values
pub headed_stored : {a b c d : Reader} {r : Result (Option BytePlace) Reason} {R : Reading} {list : Bool} (code s : ℕ) {e x n : ℕ} → e ≡ code → x ≡ s → Shows b c r R list → Same a b → b.table.now ≡ a.table.now → b.index ≡ a.index + 3
    → n ≡ c.index - (a.index + 3) → Same c d → d.table.now ≡ sets c.table.now a.index (e ∷ x ∷ n ∷ []) → d.index ≡ c.index → d.place ≡ c.place → Shows a d r (headed code s R) list
unfolding shown_over
headed_stored {a} {b} {c} {d} {r} {R} {list} code s {n = n} u v h w t i m w' t' i' p =
    let at : c.table.now ≡ sets a.table.now (a.index + 3) R.shown = ap (λ (z : State). z.table) h.lays.left ∙ rw (t, i) in
    let index : c.index ≡ a.index + 3 + length R.shown = ap (λ (z : State). z.count) h.lays.left ∙ rw i in
    let ended : (state_of c r).ended ≡ R.ended = ap (λ (z : State). z.ended) h.lays.left in
    let many : n ≡ length R.shown = omega (arith, m, index) in
    record {
      lays = record {
        same = same_then w (same_then h.lays.same w');
        left = state_eq
            (t' ∙ rw (at, many, u, v) (sets_before a.table.now a.index (code ∷ s ∷ length R.shown ∷ []) R.shown (a.index + 3) (omega arith) ∙ sym (sets_then a.table.now a.index (code ∷ s ∷ length R.shown ∷ []) R.shown)))
            (i' ∙ index ∙ omega arith)
            (ap (λ (q : BitPlace). ending_of q r) p ∙ ended);
      };
      opened = subst (λ (q : BitPlace). Opens list q.0 r) (sym p) h.opened;
    }

-- the index behind them does not fall
pub index_le : {a b : Reader} {r : Result (Option BytePlace) Reason} {R : Reading} {list : Bool} → Shows a b r R list → a.index ≤ b.index
unfolding shown_over
index_le h = omega (arith, ap (λ (z : State). z.count) h.lays.left)
