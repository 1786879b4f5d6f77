-- A block whose last attribute is a TagBlock shows that attribute's flag last.
use Prim.Native.Nat.{ℕ, suc, ◌+◌, ◌-◌, ◌<◌}
use mathlib.Core.List.{List, [], ◌∷◌, ◌++◌}
use mathlib.Core.Bool.{Bool, true, false}
use mathlib.Core.Path.{◌≡◌, refl, ap, sym, ◌∙◌}
use native.Mathlib.Omega.{arith}
use lib.ListN.{length, get_or, take, length-append}
use lib.Seq.{get_or-append-add}
use lib.Dec.{eqb}
use Rattle.format.specs.Tests.{pick}
use Rattle.format.specs.Bits.{Order}
use Rattle.format.specs.Reading.{Ending, At, Fault, Reading, shows, follow}
use Rattle.format.specs.Formats.{nothing}
use Rattle.format.specs.Items.{run, read_item}
use Rattle.format.specs.Bodies.{Attribute, ◌of◌, Custom, TagBlocks, shape_group, content, all_flags, rows, read_block}
use Rattle.format.proofs.Absurd.{clash}
use Rattle.format.proofs.BlockLaws.{as_many}

-- the last number
abbrev pub last_of : List ℕ → ℕ
last_of xs = get_or xs (length xs - 1) 0

last_append : (xs ys : List ℕ) → 0 < length ys → last_of (xs ++ ys) ≡ last_of ys
last_append xs ys h =
    let n : length xs + length ys - 1 ≡ length xs + (length ys - 1) = omega arith in
    rw (length-append, n) (get_or-append-add xs ys (length ys - 1) 0)

-- a reading that ends shows φ last
abbrev LastIs : ℕ → Reading → Type 0
LastIs φ r = (q : ℕ) → r.ended ≡ At q → (0 < length r.shown) × (last_of r.shown ≡ φ)

last_follow : (φ : ℕ) (xs : List ℕ) (z : Ending) (g : List ℕ → ℕ → Reading) → ((p : ℕ) → LastIs φ (g xs p)) → LastIs φ (follow xs z g)
last_follow φ xs (At p) g h q e =
    let l : (0 < length (g xs p).shown) × (last_of (g xs p).shown ≡ φ) = h p q e in
    (rw length-append (omega (arith, l.0)), last_append xs (g xs p).shown l.0 ∙ l.1)
last_follow φ xs (Fault e) g h q f = clash cc

rows_last : (o : Order) (b : List ℕ) (attrs : List Attribute) (φs : List ℕ) (p : ℕ) → length φs ≡ suc (length attrs)
    → LastIs (get_or φs (length attrs) 0) (run o b (rows (attrs ++ (Custom of TagBlocks ∷ [])) φs) p)
unfolding run read_item rows
rows_last o b [] [] p n = absurd (omega (arith, n))
rows_last o b [] (φ ∷ φs) p n = last_none (eqb φ 0)
  where
    last_none : (c : Bool) → LastIs φ (follow (φ ∷ []) (At p) (λ xs q. follow (run o b (pick c nothing nothing) q).shown (run o b (pick c nothing nothing) q).ended (λ ys r. run o b nothing r)))
    last_none true q e = (omega arith, refl)
    last_none false q e = (omega arith, refl)
rows_last o b (a ∷ attrs) [] p n = absurd (omega (arith, n))
rows_last o b (a ∷ attrs) (φ ∷ φs) p n =
    last_follow (get_or φs (length attrs) 0) (φ ∷ []) (At p) (λ xs q. after q)
    (λ q. last_follow (get_or φs (length attrs) 0) (run o b (content a φ) q).shown (run o b (content a φ) q).ended (λ xs r. rest r) (λ r. rows_last o b attrs φs r (omega (arith, n))))
  where
    rest : ℕ → Reading
    rest r = run o b (rows (attrs ++ (Custom of TagBlocks ∷ [])) φs) r

    after : ℕ → Reading
    after q = follow (run o b (content a φ) q).shown (run o b (content a φ) q).ended (λ xs r. rest r)

-- the flags of a ShapeGroup, and its block
pub group_last : (o : Order) (b : List ℕ) (p q : ℕ) {r : ℕ} {φs : List ℕ} → run o b (all_flags shape_group) p ≡ shows φs r → (read_block o b shape_group p).ended ≡ At q
    → get_or φs 8 0 ≡ last_of (read_block o b shape_group p).shown
unfolding read_block
group_last o b p q {r} {φs} e z =
    let n : length φs ≡ 9 = sym (ap (λ (x : Reading). length x.shown) e) ∙ as_many o shape_group b p r (ap (λ (x : Reading). x.ended) e) in
    rw e (sym (rows_last o b (take 8 shape_group) φs r n q (rw e at z)).1)
