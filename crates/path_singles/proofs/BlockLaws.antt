-- A block's rows one after the other, and how many numbers stand before each.
use Prim.Native.Nat.{ℕ, suc, ◌+◌, ◌*◌, ◌≤◌, ◌<◌}
use mathlib.Core.Bool.{Bool, true, false}
use mathlib.Core.List.{List, [], ◌∷◌}
use mathlib.Core.Path.{◌≡◌, refl, ap, sym, subst, ◌∙◌}
use native.Mathlib.Numerals.{add-one}
use native.Mathlib.Omega.{arith}
use lib.ListN.{length, take, drop}
use lib.Seq.{take-take}
use Rattle.std.proofs.Common.{Result}
use Rattle.std.proofs.lemmas.List.{length-take-le, take-map}
use Rattle.format.specs.Tests.{pick, ◌or◌}
use Rattle.format.specs.Bits.{high}
use Rattle.format.specs.Reading.{Ending, Fault, Reading, shows}
use Rattle.format.specs.Formats.{Item, Format, item, ◌▸◌}
use Rattle.format.specs.Items.{run}
use Rattle.format.specs.Bodies as bodies
use Rattle.format.specs.Bodies.{content, all_flags, rows, hand_on}
use Rattle.format.proofs.WalkLaws.{run_le}
use Rattle.reasons.specs.declared.Reason.{Reason}
use Rattle.bits.specs.Places.{order_of}
use Rattle.table.specs.State.{State, shown_over}
use Rattle.table.specs.Readers.{Reads}
use Rattle.table.specs.declared.reader.Reader.{Reader}
use Rattle.attributes.specs.Rows.{attribute_of, attributes_in}
use Rattle.attributes.specs.declared.Attribute.{Attribute}
use Rattle.attributes.proofs.FlagLaws.{row_at, rows_next, rows_none, rows_many}
use Rattle.path_singles.specs.Coordinates.{Singled, is_path, plain, onward, behind_flag, earlier, block}
use Rattle.path_singles.specs.Converting.{left}
use Rattle.path_singles.proofs.StepLaws.{beside, or_assoc, or_false}

-- ---- the rows before one
-- rows take as many flags as they are
rows_take : (xs : List bodies.Attribute) (φs : List ℕ) → rows xs (take (length xs) φs) ≡ rows xs φs
unfolding rows
rows_take [] φs = refl
rows_take (x ∷ xs) [] = refl
rows_take (x ∷ xs) (φ ∷ φs) = ap (λ (f : Format). item (Item.echo φ) ▸ content x φ ▸ f) (rows_take xs φs)

module _ (R : List Attribute) (b : List ℕ) {row : ℕ} (l : row ≤ length R) where
  rows_same : (u : List ℕ) → rows (attributes_in (take row R)) (take (length (take row R)) u) ≡ rows (take row (attributes_in R)) (take (length R) u)
  rows_same u =
      let n : length (take row R) ≡ row = length-take-le row R l in
      let m : length (attributes_in (take row R)) ≡ row = rows_many (take row R) ∙ n in
      let e : take row (take (length R) u) ≡ take row u = take-take row (length R) u l in
      ap (λ (i : ℕ). rows (attributes_in (take row R)) (take i u)) n ∙ ap (rows (attributes_in (take row R))) (sym e ∙ ap (λ (i : ℕ). take i (take (length R) u)) (sym m))
      ∙ rows_take (attributes_in (take row R)) (take (length R) u) ∙ ap (λ (xs : List bodies.Attribute). rows xs (take (length R) u)) (sym (take-map attribute_of row R))

  abbrev before : Reading → Reading
  before r = hand_on r.shown r.ended (λ φs p. run high b (rows (take row (attributes_in R)) φs) p)

  abbrev flags : Reading
  flags = run high b (all_flags (attributes_in R)) 0

  pub flags_inside : {u : List ℕ} {q : ℕ} → flags ≡ shows u q → q ≤ 8 * length b
  flags_inside e = (run_le high b (all_flags (attributes_in R)) 0 _ (omega arith) (ap (λ (r : Reading). r.ended) e)).1

  pub before_read : (u : List ℕ) {q : ℕ} {x y : Reader} {A : Type 0} {a : Result A Reason} → flags ≡ shows (take (length R) u) q → order_of x.order ≡ high → x.body.now ≡ b → x.place.0 ≡ q → x.index ≡ 0
      → Reads x y a (rows (attributes_in (take row R)) (take (length (take row R)) u)) → y.index ≡ length (earlier high b (attributes_in R) row)
  unfolding shown_over earlier
  before_read u {q} {x} {y} e o s p k d =
      let f : Format = rows (attributes_in (take row R)) (take (length (take row R)) u) in
      let z : y.index ≡ x.index + length (run (order_of x.order) x.body.now f x.place.0).shown = ap (λ (s : State). s.count) d.left in
      let w : length (run (order_of x.order) x.body.now f x.place.0).shown ≡ length (run high b f q).shown = rw (o, s, p) refl in
      let v : length (run high b f q).shown ≡ length (before flags).shown = ap (λ (f : Format). length (run high b f q).shown) (rows_same u) ∙ sym (ap (λ (r : Reading). length (before r).shown) e) in
      omega (arith, z, w, v, k)

  pub before_stopped : {e : ℕ} → flags.ended ≡ Fault e → 0 ≡ length (earlier high b (attributes_in R) row)
  unfolding earlier
  before_stopped h = sym (ap (λ (z : Ending). length (before (record { shown = flags.shown; ended = z })).shown) h)

-- ---- the loop: the whole from the start is what is left from here, beside what was beyond so far
-- the attribute a of the block attrs, of number i: its coordinates, if it is a path
unfoldable pub row_of : List ℕ → List bodies.Attribute → bodies.Attribute → ℕ → List ℕ → Singled
row_of b attrs a i v = pick (is_path a) (behind_flag (length (earlier high b attrs i)) v) (plain v)

row_then : (b : List ℕ) (attrs : List bodies.Attribute) (a : bodies.Attribute) (more : List bodies.Attribute) (i : ℕ) (v : List ℕ) → block high b attrs (a ∷ more) i v ≡ onward (row_of b attrs a i v) (block high b attrs more (suc i))
unfolding block row_of
row_then b attrs a more i v = go (is_path a)
  where
    go : (t : Bool) → pick t (onward (behind_flag (length (earlier high b attrs i)) v) (block high b attrs more (suc i))) (block high b attrs more (suc i) v)
        ≡ onward (pick t (behind_flag (length (earlier high b attrs i)) v) (plain v)) (block high b attrs more (suc i))
    go true = refl
    go false = refl

module _ (b v₀ : List ℕ) (R : List Attribute) where
  abbrev attrs : List bodies.Attribute
  attrs = attributes_in R

  pub record Blocking (v : List ℕ) (row : ℕ) (c : Bool) : Type 0 where
    pub size : length v ≡ length v₀
    pub same : block high b attrs attrs 0 v₀ ≡ beside c (block high b attrs (attributes_in (drop row R)) row v)

  pub blocks_on : {v u : List ℕ} {row : ℕ} {c d : Bool} → Blocking v row c → row < length R → length u ≡ length v → left u d ≡ row_of b attrs (attribute_of (row_at R row)) row v
      → Blocking u (row + 1) (c or d)
  blocks_on {v} {u} {row} {c} {d} g h n p = record {
    size = n ∙ g.size;
    same =
        let more : List bodies.Attribute = attributes_in (drop (row + 1) R) in
        g.same ∙ ap (λ (xs : List bodies.Attribute). beside c (block high b attrs xs row v)) (rows_next R h)
        ∙ ap (beside c) (row_then b attrs (attribute_of (row_at R row)) more row v ∙ ap (λ (s : Singled). onward s (block high b attrs more (suc row))) (sym p))
        ∙ ap (left (block high b attrs more (suc row) u).shown) (or_assoc c d (block high b attrs more (suc row) u).beyond)
        ∙ ap (λ (i : ℕ). beside (c or d) (block high b attrs more i u)) (sym (add-one row));
  }

  -- a row that is no path, and one that is
  pub blocks_past : {v : List ℕ} {row : ℕ} {c : Bool} → Blocking v row c → row < length R → is_path (attribute_of (row_at R row)) ≡ false → Blocking v (row + 1) c
  unfolding row_of
  blocks_past {v} {row} {c} g h e =
      let w : left v false ≡ row_of b attrs (attribute_of (row_at R row)) row v = rw e refl in
      subst (Blocking v (row + 1)) (or_false c) (blocks_on g h refl w)

  pub blocks_path : {v u : List ℕ} {row k : ℕ} {c d e : Bool} → Blocking v row c → row < length R → is_path (attribute_of (row_at R row)) ≡ true → length u ≡ length v
      → k ≡ length (earlier high b attrs row) → left u d ≡ behind_flag k v → e ≡ c or d → Blocking u (row + 1) e
  unfolding row_of
  blocks_path {v} {u} {row} {k} {c} {d} {e} g h t n i p q =
      let w : left u d ≡ row_of b attrs (attribute_of (row_at R row)) row v = rw t (p ∙ ap (λ (k : ℕ). behind_flag k v) i) in
      rw q (blocks_on g h n w)

  pub blocks_end : {v : List ℕ} {row : ℕ} {c : Bool} {ds : List bodies.Attribute} → attrs ≡ ds → Blocking v row c → length R ≤ row → left v c ≡ block high b ds ds 0 v₀
  unfolding block
  blocks_end {v} {row} {c} {ds} e g h =
      sym (g.same ∙ ap (λ (xs : List bodies.Attribute). beside c (block high b attrs xs row v)) (rows_none R row h) ∙ ap (left v) (or_false c))
      ∙ ap (λ (xs : List bodies.Attribute). block high b xs xs 0 v₀) e
