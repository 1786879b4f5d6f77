-- Attribute blocks: an attribute's content by its kind and flag number, and the rows of a block one after the other.
use Prim.Native.Nat.{ℕ, suc, ◌+◌, ◌-◌, ◌*◌, ◌^◌, ◌≤◌, ◌<◌}
use mathlib.Core.List.{List, [], ◌∷◌}
use mathlib.Core.Path.{◌≡◌, refl, ap, ap₂, sym, ◌∙◌}
use native.Mathlib.Numerals.{add-one}
use native.Mathlib.Omega.{arith}
use lib.ListN.{length, get_or, take, drop, set}
use lib.Seq.{slice, slice-cons}
use Rattle.std.proofs.Common.{Result, Ok, Err}
use Rattle.format.specs.Bits.{Order}
use Rattle.format.specs.Reading.{At, Fault, Reading, shows}
use Rattle.format.specs.Formats.{Item, Format, nothing, item, ◌▸◌}
use Rattle.format.specs.Items.{run, read_item}
use Rattle.format.specs.Bodies as bodies
use Rattle.format.specs.Bodies.{content, rows, all_flags, read_block}
use Rattle.format.proofs.SizeLaws.{Fair, FairEnd, fair_echo, fair_then, fair_content}
use Rattle.format.proofs.WalkLaws.{run_le}
use Rattle.reasons.specs.declared.Reason.{Reason}
use Rattle.reasons.specs.Numbers.{number_of}
use Rattle.bits.specs.Places.{order_of}
use Rattle.bits.specs.declared.BitPlace.{BitPlace}
use Rattle.bits.specs.declared.Number.{Number}
use Rattle.table.specs.State.{State, shown_over}
use Rattle.table.specs.Readers.{Reads, Room, Same, state_of}
use Rattle.table.specs.declared.reader.Reader.{Reader}
use Rattle.table.proofs.EngineLaws.{state, one_stored, after_stop, alike_assoc}
use Rattle.table.proofs.ReaderLaws.{reading, reads_as, reads_then, same_refl, same_then, OnWay, on_start, on_next, on_stop, on_done}
use Rattle.attributes.specs.Rows.{attribute_of, attributes_in}
use Rattle.attributes.specs.declared.Attribute.{Attribute}
use Rattle.attributes.proofs.FlagLaws.{row_at, rows_next, rows_none}
use Rattle.bodies.specs.Shown.{Lays}

-- ---- a content: none, so nothing was read and nothing stored; or what stands of it was read
pub content_none : {a : Reader} (f : Format) → Room a → f ≡ nothing → Reads a a (Ok (tt {0})) f
content_none f z e = on_done (on_start z refl) e

pub content_is : {a b : Reader} {r : Result Unit Reason} (f g : Format) → g ≡ f → Reads a b r f → Reads a b r g
content_is {a} f g e = reads_as (ap (reading a) (sym e))

-- the flag number is shown, and takes no bits
pub echo_one : (o : Order) (b : List ℕ) (p φ : ℕ) → run o b (item (Item.echo φ)) p ≡ shows (φ ∷ []) p
unfolding run read_item
echo_one o b p φ = refl

-- ---- one row, and the rows after it
abbrev pub row_of : bodies.Attribute → ℕ → Format
row_of a φ = item (Item.echo φ) ▸ content a φ

fair_row : (o : Order) (a : bodies.Attribute) (φ : ℕ) → Fair o 1 (row_of a φ)
fair_row o a φ = fair_then o 1 0 (item (Item.echo φ)) (λ xs. content a φ) (fair_echo o φ) (λ b p q e. fair_content o a.kind a.data_type φ)

-- an attribute: its flag number was stored, and its content was read from there
pub attribute_read : {a b c : Reader} {r : Result Unit Reason} (d : bodies.Attribute) (φ : ℕ) → Room b → Same a b → b.table.now ≡ set a.table.now a.index φ → b.index ≡ a.index + 1 → b.place ≡ a.place
    → Reads b c r (content d φ) → Reads a c r (row_of d φ)
attribute_read {a} {b} d φ z h t i p k = reads_then (λ ns. content d φ) echo refl k
  where
    echo : Reads {A = Unit {0}} a b (Ok (tt {0})) (item (Item.echo φ))
    echo = record {
      same = h;
      left = ap₂ (λ (j q : ℕ). state b.table.now j (At q)) i (ap (λ (q : BitPlace). q.0) p) ∙ one_stored a.table.now a.index (echo_one (order_of a.order) a.body.now a.place.0 φ) t;
      room = z;
    }

-- m numbers may be stored for nothing; a row uses one of these
row_room : {a b : Reader} {r : Result Unit Reason} {x : Unit} (d : bodies.Attribute) (φ m : ℕ) → Reads a b r (row_of d φ) → r ≡ Ok x → a.index + suc m ≤ a.place.0 + 2 ^ 62 → b.index + m ≤ b.place.0 + 2 ^ 62
unfolding shown_over
row_room {a} {b} d φ m h e l =
    let s : state_of b (Ok (tt {0})) ≡ shown_over a.table.now a.index (reading a (row_of d φ)) = ap (state_of b) (sym e) ∙ h.left in
    let z : (reading a (row_of d φ)).ended ≡ At b.place.0 = ap (λ (s : State). s.ended) (sym s) in
    let n : FairEnd 1 (8 * length a.body.now) a.place.0 (length (reading a (row_of d φ)).shown) (At b.place.0) = rw z at (fair_row (order_of a.order) d φ a.body.now a.place.0 a.inside.0) in
    let c : b.index ≡ a.index + length (reading a (row_of d φ)).shown = ap (λ (s : State). s.count) s in
    omega (arith, n, c, l)

-- the loop: what is left from here reads the whole
module _ (a : Reader) (block : List Attribute) (flags : List ℕ) where
  abbrev rows_at : ℕ → Format
  rows_at i = rows (attributes_in (drop i block)) (slice i (length block) flags)

  abbrev whole : Format
  whole = rows (attributes_in block) (take (length block) flags)

  pub record RowsGoing (b : Reader) (i : ℕ) : Type 0 where
    pub way : OnWay a b whole (rows_at i)
    pub room : b.index + (length block - i) ≤ b.place.0 + 2 ^ 62

  -- the row here has the flag number φ
  module _ {b c : Reader} {i φ : ℕ} {r : Result Unit Reason} (some : i < length block) (lent : length block ≤ length flags) (flag : φ ≡ get_or flags i 0) (g : RowsGoing b i)
      (ran : Reads b c r (row_of (attribute_of (row_at block i)) φ)) where
    rows_here : OnWay a b whole (row_of (attribute_of (row_at block i)) φ ▸ rows_at (i + 1))
    unfolding rows
    rows_here =
        let f : slice i (length block) flags ≡ φ ∷ slice (i + 1) (length block) flags = slice-cons i (length block) flags 0 some lent ∙ rw (flag, add-one i) in
        record {
          same = g.way.same;
          room = g.way.room;
          left = g.way.left ∙ ap₂ (λ (l : List bodies.Attribute) (φs : List ℕ). shown_over b.table.now b.index (reading b (rows l φs))) (rows_next block some) f
              ∙ ap (shown_over b.table.now b.index) (sym (alike_assoc (item (Item.echo φ)) (content (attribute_of (row_at block i)) φ) (rows_at (i + 1)) (order_of b.order) b.body.now b.place.0));
        }

    pub rows_next_row : {x : Unit} → r ≡ Ok x → RowsGoing c (i + 1)
    rows_next_row e = record {
      way = on_next rows_here refl ran e;
      room = row_room (attribute_of (row_at block i)) φ (length block - (i + 1)) ran e (omega (arith, g.room));
    }

    pub rows_stop : {s : Result Unit Reason} {e : Reason} → r ≡ Err e → s ≡ Err e → Reads a c s whole
    rows_stop e d = on_stop rows_here refl ran e d

  pub rows_done : {b : Reader} {i : ℕ} → length block ≤ i → RowsGoing b i → Reads a b (Ok (tt {0})) whole
  unfolding rows
  rows_done {b} {i} h g = on_done g.way (rw (rows_none block i h))

  pub rows_start : length block ≤ 12 → a.index + 12 ≤ a.place.0 + 2 ^ 62 → RowsGoing a 0
  rows_start few h = record { way = on_start (omega (arith, h)) refl; room = omega arith }

-- ---- a block: its flags, and then its rows
module _ {a : Reader} (attrs : List bodies.Attribute) where
  -- they were read up to the place q, and the rows from there
  pub block_rows : {b c : Reader} {r : Result Unit Reason} (n : Number) {φs : List ℕ} → run (order_of a.order) a.body.now (all_flags attrs) 0 ≡ shows φs n.next.0 → Same a b → b.table.now ≡ a.table.now → b.index ≡ a.index → b.place ≡ n.next
      → Reads b c r (rows attrs φs) → Lays a c r (read_block (order_of a.order) a.body.now attrs 0)
  unfolding read_block
  block_rows n {φs} e h t i p k = record {
    same = same_then h k.same;
    left = k.left ∙ (λ j. shown_over (t j) (i j) (run (order_of (h.order j)) (h.body j) (rows attrs φs) (p j).0)) ∙ rw e;
  }

  pub block_stop : {A : Type 0} {r : Result A Reason} {e : Reason} → (run (order_of a.order) a.body.now (all_flags attrs) 0).ended ≡ Fault (number_of e) → r ≡ Err e → Lays a a r (read_block (order_of a.order) a.body.now attrs 0)
  unfolding read_block
  block_stop {e = e} h d = record { same = same_refl a; left = ap (state_of a) d ∙ rw h (sym (after_stop a.table.now a.index (number_of e))) }

-- flags take no room in the table
pub flags_in : (a : Reader) (attrs : List bodies.Attribute) {φs : List ℕ} {q : ℕ} → run (order_of a.order) a.body.now (all_flags attrs) 0 ≡ shows φs q → q ≤ 8 * length a.body.now
flags_in a attrs {φs} {q} e = (run_le (order_of a.order) a.body.now (all_flags attrs) 0 q (omega arith) (ap (λ (r : Reading). r.ended) e)).1
