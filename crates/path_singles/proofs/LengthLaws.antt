-- Bits stand in place of steps: with them values, and a file's table, are as long as before.
use Prim.Native.Nat.{ℕ, zero, suc, ◌+◌}
use mathlib.Core.Bool.{Bool, true, false}
use mathlib.Core.List.{List, [], ◌∷◌, ◌++◌, map}
use mathlib.Core.Path.{◌≡◌, refl, ap, sym, ◌∙◌}
use native.Mathlib.Omega.{arith}
use lib.ListN.{length, get_or, take, drop, length-append, length-map, take-append-drop}
use lib.Dec.{eqb}
use Rattle.format.specs.Tests.{pick}
use Rattle.format.specs.Bits.{Order, high}
use Rattle.format.specs.Bodies.{Attribute}
use Rattle.format.specs.Items.{coordinates}
use Rattle.format.specs.FileAndTags.{Tag, Walk}
use Rattle.format.specs.TableOfNumbers.{numbers, table, is_opaque, body_in}
use Rattle.attributes.specs.Rows.{attributes_of}
use Rattle.path_singles.specs.Coordinates.{Singled, as_single, plain, joined, paths, frames, content, is_path, earlier, behind_flag, onward, block}
use Rattle.path_singles.specs.Tables.{values_by, singled_tag, with_singles, in_singles}

-- a list in two parts
parts_long : (k : ℕ) (ns : List ℕ) → length (take k ns) + length (drop k ns) ≡ length ns
parts_long k ns = sym (length-append (take k ns) (drop k ns)) ∙ ap length (take-append-drop k ns)

joined_long : (xs cs : List ℕ) (s : Singled) → length (joined xs cs s).shown ≡ length xs + (length cs + length s.shown)
joined_long xs cs s = omega (arith, length-append xs (map as_single cs ++ s.shown), length-append (map as_single cs) s.shown, length-map cs as_single)

pick_long : (b : Bool) (x y : Singled) {n : ℕ} → length x.shown ≡ n → length y.shown ≡ n → length (pick b x y).shown ≡ n
pick_long true x y p q = p
pick_long false x y p q = q

paths_long : (m : ℕ) (ns : List ℕ) → length (paths m ns).shown ≡ length ns
unfolding paths
paths_long zero ns = refl
paths_long (suc m) [] = refl
paths_long (suc m) (n ∷ ns) =
    let c : ℕ = coordinates (take n ns) in
    let d : List ℕ = drop (suc n) ns in
    omega (arith, joined_long (n ∷ take (suc n) ns) (take c d) (paths m (drop c d)), paths_long m (drop c d), parts_long c d, parts_long (suc n) ns)

frames_long : (ns : List ℕ) → length (frames ns).shown ≡ length ns
unfolding frames
frames_long [] = refl
frames_long (n ∷ ns) =
    let d : List ℕ = drop (n + suc n) ns in
    omega (arith, joined_long (n ∷ take (n + suc n) ns) [] (paths (suc n) d), paths_long (suc n) d, parts_long (n + suc n) ns)

content_long : (φ : ℕ) (ns : List ℕ) → length (content φ ns).shown ≡ length ns
unfolding content
content_long φ ns = pick_long (eqb φ 0) (plain ns) (pick (eqb φ 1) (paths 1 ns) (frames ns)) refl (pick_long (eqb φ 1) (paths 1 ns) (frames ns) (paths_long 1 ns) (frames_long ns))

flag_long : (k : ℕ) (vs : List ℕ) → length (behind_flag k vs).shown ≡ length vs
unfolding behind_flag
flag_long k vs =
    let d : List ℕ = drop (suc k) vs in
    omega (arith, joined_long (take (suc k) vs) [] (content (get_or vs k 0) d), content_long (get_or vs k 0) d, parts_long (suc k) vs)

block_long : (o : Order) (b : List ℕ) (attrs more : List Attribute) (i : ℕ) (vs : List ℕ) → length (block o b attrs more i vs).shown ≡ length vs
unfolding block
block_long o b attrs [] i vs = refl
block_long o b attrs (a ∷ more) i vs =
    let k : ℕ = length (earlier o b attrs i) in
    let next : List ℕ → Singled = block o b attrs more (suc i) in
    pick_long (is_path a) (onward (behind_flag k vs) next) (next vs) (block_long o b attrs more (suc i) (behind_flag k vs).shown ∙ flag_long k vs) (block_long o b attrs more (suc i) vs)

values_long : (state code : ℕ) (b vs : List ℕ) → length (values_by state code b vs).shown ≡ length vs
unfolding values_by
values_long state code b vs = pick_long (is_opaque state) (plain vs) (block high b (attributes_of code) (attributes_of code) 0 vs) refl (block_long high b (attributes_of code) (attributes_of code) 0 vs)

numbers_long : (f : List ℕ) (ts : List Tag) → length (numbers (map (with_singles f) ts)) ≡ length (numbers ts)
numbers_long f [] = refl
numbers_long f (t ∷ ts) =
    omega (arith, values_long t.state t.code (body_in f t) t.values, length-append (singled_tag f t).shown (numbers (map (with_singles f) ts)), length-append t.values (numbers ts), numbers_long f ts)

pub table_long : (f : List ℕ) (w : Walk) → length (table f (in_singles f w)) ≡ length (table f w)
table_long f w = ap suc (numbers_long f w.tags)
