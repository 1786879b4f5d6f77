-- (C-24) "Path coordinates only (masks; with C-24 shape paths), single and keyframed": a ShapePath's values are the flag number of its path and the path's content; a
-- ShapeGroup's own values have no path.
use Prim.Native.Nat.{ℕ}
use mathlib.Core.List.{List, []}
use mathlib.Core.Path.{◌≡◌, refl, ap}
use lib.ListN.{length}
use Rattle.format.specs.Bits.{Order, high}
use Rattle.format.specs.Reading.{Ending, At, Fault}
use Rattle.format.specs.Items.{run}
use Rattle.format.specs.Bodies.{Attribute, all_flags, rows, hand_on, shape_path}
use Rattle.attributes.specs.Rows.{attributes_of}
use Rattle.path_singles.specs.Coordinates.{plain, earlier, behind_flag, block}
use Rattle.path_singles.specs.Converting.{left}
use Rattle.path_singles.specs.Tables.{values_by}
use Rattle.path_singles.proofs.StepLaws.{or_false}

-- before the first attribute stand no numbers
none_earlier : (o : Order) (b : List ℕ) (attrs : List Attribute) → length (earlier o b attrs 0) ≡ 0
unfolding earlier rows run
none_earlier o b attrs = go (run o b (all_flags attrs) 0).shown (run o b (all_flags attrs) 0).ended
  where
    go : (φs : List ℕ) (z : Ending) → length (hand_on φs z (λ φs p. run o b (rows [] φs) p)).shown ≡ 0
    go φs (At p) = refl
    go φs (Fault e) = refl

pub shape_path_lem : (b vs : List ℕ) → values_by 1 19 b vs ≡ behind_flag 0 vs
unfolding values_by attributes_of block
shape_path_lem b vs = rw (none_earlier high b shape_path) (ap (left (behind_flag 0 vs).shown) (or_false (behind_flag 0 vs).beyond))

pub shape_group_lem : (b vs : List ℕ) → values_by 1 15 b vs ≡ plain vs
unfolding values_by attributes_of block
shape_group_lem b vs = refl
