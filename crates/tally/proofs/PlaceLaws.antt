-- The tags of an accepted file stand flat behind its header; and what the code finds there.
use Prim.Native.Nat.{ℕ, ◌+◌, ◌/◌, ◌≤◌, ◌<◌}
use mathlib.Core.List.{List, [], append-nil}
use mathlib.Core.Path.{◌≡◌, refl, ap, sym, subst, ◌∙◌}
use mathlib.Core.Bool.{Bool, true, false}
use native.Mathlib.Omega.{arith}
use lib.ListN.{length, drop, length-drop}
use Rattle.std.proofs.Common.{Result, Ok, Err, Option, Some, None}
use Rattle.format.specs.Tests.{pick}
use Rattle.format.specs.Bits.{AllBytes, Order, order_named}
use Rattle.format.specs.Reading.{Ending, At, Fault}
use Rattle.format.specs.Bodies.{Body}
use Rattle.format.specs.FileAndTags as paper
use Rattle.format.specs.FileAndTags.{class_of, Tag, Outcome, whole, fault, Walk, head, raw_head, walk_list}
use Rattle.format.specs.FileAndTags.{file as own_file}
use Rattle.format.specs.Reasons.{start_fault, walk_file}
use Rattle.format.proofs.Absurd.{clash}
use Rattle.format.proofs.ByteLaws.{bytes_drop}
use Rattle.format.proofs.HeadLaws.{HeadIf, head_there}
use Rattle.format.proofs.StartLaws.{GoodStart, good_start, whole_start}
use Rattle.bodies.specs.Leaf.{container_body, has_list_in, own_part}
use Rattle.classes.specs.Classes.{class_at}
use Rattle.classes.specs.declared.Class.{Class}
use Rattle.classes.specs.declared.Class.TheVariants.{Opaque, End, Container, Fixed, Attributes}
use Rattle.classes.proofs.ClassLaws.{spelt, by_code_lem}
use Rattle.tags.proofs.LentLaws.{items_of, rows_of, right}
use Rattle.reasons.specs.declared.Reason.{Reason}
use Rattle.table.specs.State.{State, shown_over}
use Rattle.table.specs.Readers.{ending_of}
use Rattle.table.specs.declared.reader.Reader.{Reader}
use Rattle.bits.specs.declared.BytePlace.{BytePlace}
use Rattle.bodies.specs.Shown.{Opens, Shows}
use Rattle.tally.specs.Places.{list_start, list_in, next_by, walk_in, tags_in, Good}
use Rattle.tags.proofs.TagLaws.{values_le}
use Rattle.tally.proofs.WalkLaws.{Leads, Flat, over, Flattens, flattened}

-- ---- of a good file
module _ {o : Order} {level : ℕ} {f : List ℕ} (good : Good o level f) where
  pub good_flat : Flat o (class_of level) f 9 (tags_in o level f)
  good_flat = go (walk_in o level f).ended good.ended (flattened o (class_of level) f (length (drop 9 f)) 8 own_file 9 (drop 9 f) good.long (record { rest = []; stands = sym (append-nil (drop 9 f)) }))
    where
      n : 9 + length (drop 9 f) ≡ length f
      n = rw length-drop (omega (arith, good.long))

      go : (z : Outcome) → z ≡ whole → Flattens o (class_of level) f 9 (9 + length (drop 9 f)) (tags_in o level f) z → Flat o (class_of level) f 9 (tags_in o level f)
      go whole e x = subst (Flat o (class_of level) f 9) (append-nil (tags_in o level f)) (x [] (subst (λ (k : ℕ). Flat o (class_of level) f k []) (sym n) over))
      go (fault e m) q x = clash cc

-- ---- of an accepted file
module _ (order level : ℕ) (f : List ℕ) (ended : (walk_file order level f).ended ≡ whole) where
  pub file_start : GoodStart order level f
  file_start = good_start order level f (whole_start order level f ended)

  walked : walk_file order level f ≡ walk_in (order_named order) level f
  unfolding walk_file
  walked = let start : start_fault order level f ≡ 0 = whole_start order level f ended in rw start

  pub file_good : {o : Order} → o ≡ order_named order → Good o level f
  file_good e = rw e (record { ended = sym (ap (λ (w : Walk). w.ended) walked) ∙ ended; long = file_start.long; limit = file_start.limit })

  pub file_tags : {o : Order} → o ≡ order_named order → tags_in o level f ≡ (walk_file order level f).tags
  file_tags e = rw e (ap (λ (w : Walk). w.tags) (sym walked))

  pub file_flat : Flat (order_named order) (class_of level) f 9 (walk_file order level f).tags
  file_flat = subst (Flat (order_named order) (class_of level) f 9) (file_tags refl) (good_flat (file_good refl))

-- ---- the next place, by the name of the class
module _ (o : Order) (level : ℕ) (f : List ℕ) where
  pub leads_by : (code len s b : ℕ) → Leads o f (class_of level code) s len b → next_by o (class_at level code) code len s f ≡ b
  leads_by code len s b x = go (class_at level code) (subst (λ (c : paper.Class). Leads o f c s len b) (by_code_lem items_of rows_of container_body right level code) x)
    where
      go : (c : Class) → Leads o f (spelt items_of rows_of container_body c code) s len b → next_by o c code len s f ≡ b
      go Opaque x = sym x
      go End x = sym x
      go Container x = sym x
      go Fixed x = sym x
      go Attributes x = sym x

-- a header in bytes has one of the 1,024 codes
pub code_below : (f : List ℕ) (a : ℕ) {code len size : ℕ} → AllBytes f → raw_head (drop a f) ≡ head code len size → code < 1024
code_below f a h q = (subst (HeadIf (drop a f)) q (head_there (drop a f) (bytes_drop a f h))).coded

-- ---- where a list starts
module _ (o : Order) (code : ℕ) (body : List ℕ) {a b : Reader} {y : Result (Option BytePlace) Reason} (read : Shows a b y (own_part o (container_body code) body) (has_list_in o (container_body code) body)) where
  abbrev p : Body
  p = container_body code

  abbrev list : Bool
  list = has_list_in o p body

  ended : ending_of b.place y ≡ (own_part o p body).ended
  unfolding shown_over
  ended = ap (λ (z : State). z.ended) read.lays.left

  abbrev Starts : Result (Option BytePlace) Reason → Type 0
  Starts (Ok (Some q)) = q.0 ≡ list_in o code body
  Starts (Ok None) = length body ≡ list_in o code body
  Starts (Err e) = length body ≡ list_in o code body

  pub list_told : Starts y
  list_told = go y ended read.opened
    where
      go : (y : Result (Option BytePlace) Reason) → ending_of b.place y ≡ (own_part o p body).ended → Opens list b.place.0 y → Starts y
      go (Ok (Some q)) e v = sym (ap (list_start list (length body)) (sym e) ∙ ap (λ (c : Bool). pick c (b.place.0 / 8) (length body)) v.0 ∙ omega (arith, v.1))
      go (Ok None) e v = sym (ap (list_start list (length body)) (sym e) ∙ ap (λ (c : Bool). pick c (b.place.0 / 8) (length body)) v.0)
      go (Err x) e v = sym (ap (list_start list (length body)) (sym e))

  pub list_open : {q : BytePlace} → y ≡ Ok (Some q) → q.0 ≡ list_in o code body
  list_open e = subst Starts e list_told

  pub list_stop : {e : Reason} → y ≡ Err e → length body ≡ list_in o code body
  list_stop e = subst Starts e list_told

pub list_le : (o : Order) (code : ℕ) (body : List ℕ) {n : ℕ} → n ≡ list_in o code body → n ≤ length body
list_le o code body e = rw e (go (own_part o (container_body code) body).ended refl (has_list_in o (container_body code) body))
  where
    go : (z : Ending) → (own_part o (container_body code) body).ended ≡ z → (list : Bool) → list_start list (length body) z ≤ length body
    go (Fault x) q list = omega arith
    go (At p) q true = omega (arith, values_le o Container code body p q)
    go (At p) q false = omega arith
