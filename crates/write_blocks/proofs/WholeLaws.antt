-- Contents start on a whole byte: written from any place, they are zero bits up to it, and then what they are from there on.
use Prim.Native.Nat.{ℕ, ◌+◌}
use mathlib.Core.List.{List, [], ◌∷◌, ◌++◌, append_assoc, append-nil}
use mathlib.Core.Path.{◌≡◌, refl, sym, ap, ◌∙◌}
use mathlib.Core.Bool.{Bool, true, false}
use native.Mathlib.Nat.{add-zero}
use native.Mathlib.Omega.{arith}
use lib.ListN.{length, length-append}
use lib.Dec.{eqb}
use Rattle.format.specs.Tests.{pick}
use Rattle.format.specs.Bits.{Order}
use Rattle.format.specs.Formats.{Item, Format, nothing, item, only, ◌▹◌, ◌▸◌, times}
use Rattle.format.specs.Items.{skipped, byte_item}
use Rattle.format.specs.Bodies.{Kind, Value, Fixed, BitFlag, Simple, Discrete, MultiDimension, Spatial, Custom, DataType, U32s, Times, Floats, Ratios, Bools, Bytes, BlendModes, Paths, Points, Colors, GradientColors, Enums, Dashes, TagBlocks, Attribute, value, keyframed, animated, content_of, content, rows}
use Rattle.format.specs.Possible.{Possible, this, cannot}
use Rattle.format.specs.WritingItems.{dig, Written, wrote, put, write_item}
use Rattle.format.specs.WritingFormats.{passing, adjoin, onward, unrun}
use Rattle.format.proofs.BitLaws.{length_dig}
use Rattle.spelling.proofs.EndLaws.{front}

-- ---- bits before what was written
pub adjoin_twice : (bs : List Bool) (xs : List ℕ) (cs : List Bool) (w : Possible Written) → adjoin [] bs (adjoin xs cs w) ≡ adjoin xs (bs ++ cs) w
adjoin_twice bs xs cs cannot = refl
adjoin_twice bs xs cs (this (wrote xs' bs' ys')) = ap (λ (l : List Bool). this (wrote (xs ++ xs') l ys')) (sym (append_assoc bs cs bs'))

pub onward_adjoin : (bs : List Bool) (w : Possible Written) (p : ℕ) (k : List ℕ → List ℕ → ℕ → Possible Written) → onward (adjoin [] bs w) p k ≡ adjoin [] bs (onward w (p + length bs) k)
onward_adjoin bs cannot p k = refl
onward_adjoin bs (this (wrote xs cs ys)) p k =
    let e : p + length (bs ++ cs) ≡ p + length bs + length cs = omega (arith, length-append bs cs) in
    ap (λ (q : ℕ). adjoin xs (bs ++ cs) (k xs ys q)) e ∙ sym (adjoin_twice bs xs cs (k xs ys (p + length bs + length cs)))

passing_adjoin : (t : List ℕ → Bool) (bs : List Bool) (w : Possible Written) → passing t (adjoin [] bs w) ≡ adjoin [] bs (passing t w)
passing_adjoin t bs cannot = refl
passing_adjoin t bs (this (wrote xs cs ys)) = go (t xs)
  where
    go : (c : Bool) → pick c (this (wrote xs (bs ++ cs) ys)) cannot ≡ adjoin [] bs (pick c (this (wrote xs cs ys)) cannot)
    go true = refl
    go false = refl

adjoin_none : (w : Possible Written) → adjoin [] [] w ≡ w
adjoin_none cannot = refl
adjoin_none (this (wrote xs bs ys)) = refl

-- ---- from a whole byte on
abbrev Whole : Order → (List ℕ → ℕ → Possible Written) → Type 0
Whole o w = (ns : List ℕ) (p : ℕ) → w ns p ≡ adjoin [] (dig o (skipped p) 0) (w ns (p + skipped p))

whole_align : (o : Order) → Whole o (unrun o (item Item.align))
unfolding unrun write_item dig
whole_align o ns p =
    let z : skipped (p + skipped p) ≡ 0 = omega arith in
    let e : dig o (skipped p) 0 ++ dig o (skipped (p + skipped p)) 0 ≡ dig o (skipped p) 0 = rw z (append-nil (dig o (skipped p) 0)) in
    ap (λ (bs : List Bool). this (wrote [] bs ns)) (sym e)

whole_on : (o : Order) (w : List ℕ → ℕ → Possible Written) (k : List ℕ → List ℕ → ℕ → Possible Written) → Whole o w → Whole o (λ ns p. onward (w ns p) p k)
whole_on o w k h ns p =
    ap (λ (x : Possible Written). onward x p k) (h ns p) ∙ onward_adjoin (dig o (skipped p) 0) (w ns (p + skipped p)) p k
    ∙ ap (λ (n : ℕ). adjoin [] (dig o (skipped p) 0) (onward (w ns (p + skipped p)) (p + n) k)) (length_dig o (skipped p) 0)

whole_then : (o : Order) (f : Format) (g : List ℕ → Format) → Whole o (unrun o f) → Whole o (unrun o (f ▹ g))
unfolding unrun
whole_then o f g h = whole_on o (unrun o f) (λ xs ys q. unrun o (g xs) ys q) h

whole_only : (o : Order) (t : List ℕ → Bool) (e : ℕ) (f : Format) → Whole o (unrun o f) → Whole o (unrun o (only t e f))
unfolding unrun
whole_only o t e f h ns p = ap (passing t) (h ns p) ∙ passing_adjoin t (dig o (skipped p) 0) (unrun o f ns (p + skipped p))

whole_item : (o : Order) (i : Item) → Whole o (unrun o (byte_item i))
whole_item o i = whole_then o (item Item.align) (λ xs. item i) (whole_align o)

whole_frames : (o : Order) (k : Kind) (d : DataType) (φ : ℕ) → Whole o (unrun o (keyframed k d φ))
whole_frames o k d φ = whole_then o _ _ (whole_only o _ _ _ (whole_item o Item.U32))

-- ---- what follows such contents starts there too
abbrev Passes : Order → Format → Type 0
Passes o f = (k : List ℕ → ℕ → Possible Written) → Whole o k → Whole o (λ ns p. onward (unrun o f ns p) p (λ xs ys q. k ys q))

passes_nothing : (o : Order) → Passes o nothing
unfolding unrun
passes_nothing o k h ns p =
    adjoin_none (k ns (p + 0)) ∙ ap (k ns) (add-zero p) ∙ h ns p
    ∙ ap (adjoin [] (dig o (skipped p) 0)) (sym (adjoin_none (k ns (p + skipped p + 0)) ∙ ap (k ns) (add-zero (p + skipped p))))

passes_whole : (o : Order) (f : Format) → Whole o (unrun o f) → Passes o f
passes_whole o f w k h = whole_on o (unrun o f) (λ xs ys q. k ys q) w

passes_pick : (o : Order) (c : Bool) (f g : Format) → Passes o f → Passes o g → Passes o (pick c f g)
passes_pick o true f g a b = a
passes_pick o false f g a b = b

-- all values but a TagBlock's, which has nothing there
passes_value : (o : Order) (d : DataType) → Passes o (value d)
unfolding times
passes_value o U32s = passes_whole o _ (whole_item o Item.U32)
passes_value o Times = passes_whole o _ (whole_item o Item.U64)
passes_value o Floats = passes_whole o _ (whole_item o (Item.Le 4))
passes_value o Ratios = passes_whole o _ (whole_then o _ _ (whole_item o Item.I32))
passes_value o Bools = passes_whole o _ (whole_only o _ _ _ (whole_item o (Item.UB 8)))
passes_value o Bytes = passes_whole o _ (whole_item o (Item.UB 8))
passes_value o BlendModes = passes_whole o _ (whole_only o _ _ _ (whole_item o (Item.UB 8)))
passes_value o Paths = passes_whole o _ (whole_then o _ _ (whole_only o _ _ _ (whole_item o Item.U32)))
passes_value o Points = passes_whole o _ (whole_then o _ _ (whole_item o (Item.Le 4)))
passes_value o Colors = passes_whole o _ (whole_then o _ _ (whole_item o (Item.UB 8)))
passes_value o GradientColors = passes_whole o _ (whole_then o _ _ (whole_only o _ _ _ (whole_item o Item.U32)))
passes_value o (Enums top) = passes_whole o _ (whole_only o _ _ _ (whole_item o (Item.UB 8)))
passes_value o Dashes = passes_whole o _ (whole_then o _ _ (whole_align o))
passes_value o TagBlocks = passes_nothing o

passes_content : (o : Order) (a : Attribute) (φ : ℕ) → Passes o (content a φ)
passes_content o a φ = go a.kind
  where
    one : Passes o (value a.data_type)
    one = passes_value o a.data_type

    some : (k : Kind) → Passes o (animated k a.data_type φ)
    some k =
        passes_pick o (eqb φ 0) nothing (pick (eqb φ 1) (value a.data_type) (keyframed k a.data_type φ)) (passes_nothing o)
        (passes_pick o (eqb φ 1) (value a.data_type) (keyframed k a.data_type φ) one (passes_whole o (keyframed k a.data_type φ) (whole_frames o k a.data_type φ)))

    go : (k : Kind) → Passes o (content_of k a.data_type φ)
    go Value = passes_pick o (eqb φ 0) nothing (value a.data_type) (passes_nothing o) one
    go Fixed = one
    go BitFlag = passes_nothing o
    go Simple = some Simple
    go Discrete = some Discrete
    go MultiDimension = some MultiDimension
    go Spatial = some Spatial
    go Custom = passes_pick o (eqb φ 0) nothing (value a.data_type) (passes_nothing o) one

-- one after the other
onward_twice : (w : Possible Written) (p : ℕ) (k k' : List ℕ → ℕ → Possible Written)
    → onward (onward w p (λ xs ys q. k ys q)) p (λ xs ys q. k' ys q) ≡ onward w p (λ xs ys q. onward (k ys q) q (λ xs ys q. k' ys q))
onward_twice cannot p k k' = refl
onward_twice (this (wrote xs bs ys)) p k k' = go (k ys (p + length bs))
  where
    both : (xs' : List ℕ) (bs' : List Bool) (w : Possible Written) → adjoin (xs ++ xs') (bs ++ bs') w ≡ adjoin xs bs (adjoin xs' bs' w)
    both xs' bs' cannot = refl
    both xs' bs' (this (wrote xs'' bs'' ys'')) = rw (append_assoc xs xs' xs'', append_assoc bs bs' bs'')

    go : (w : Possible Written) → onward (adjoin xs bs w) p (λ xs ys q. k' ys q) ≡ adjoin xs bs (onward w (p + length bs) (λ xs ys q. k' ys q))
    go cannot = refl
    go (this (wrote xs' bs' ys')) =
        let e : p + length (bs ++ bs') ≡ p + length bs + length bs' = omega (arith, length-append bs bs') in
        ap (λ (q : ℕ). adjoin (xs ++ xs') (bs ++ bs') (k' ys' q)) e ∙ both xs' bs' (k' ys' (p + length bs + length bs'))

passes_then : (o : Order) (f g : Format) → Passes o f → Passes o g → Passes o (f ▸ g)
unfolding unrun
passes_then o f g a b k h ns p =
    onward_twice (unrun o f ns p) p (unrun o g) k
    ∙ a (λ ys q. onward (unrun o g ys q) q (λ xs ys q. k ys q)) (b k h) ns p
    ∙ ap (adjoin [] (dig o (skipped p) 0)) (sym (onward_twice (unrun o f ns (p + skipped p)) (p + skipped p) (unrun o g) k))

-- a flag number has no bits there
passes_echo : (o : Order) (n : ℕ) → Passes o (item (Item.echo n))
unfolding unrun write_item
passes_echo o n k h [] p = refl
passes_echo o n k h (v ∷ ns) p = go (eqb v n)
  where
    moved : (w : Possible Written) → adjoin (v ∷ []) [] (adjoin [] (dig o (skipped p) 0) w) ≡ adjoin [] (dig o (skipped p) 0) (adjoin (v ∷ []) [] w)
    moved cannot = refl
    moved (this (wrote xs bs ys)) = refl

    go : (c : Bool) → onward (put (v ∷ []) (pick c (this []) cannot) ns) p (λ xs ys q. k ys q)
        ≡ adjoin [] (dig o (skipped p) 0) (onward (put (v ∷ []) (pick c (this []) cannot) ns) (p + skipped p) (λ xs ys q. k ys q))
    go false = refl
    go true =
        ap (λ (q : ℕ). adjoin (v ∷ []) [] (k ns q)) (add-zero p)
        ∙ ap (adjoin (v ∷ []) []) (h ns p)
        ∙ moved (k ns (p + skipped p))
        ∙ ap (λ (q : ℕ). adjoin [] (dig o (skipped p) 0) (adjoin (v ∷ []) [] (k ns q))) (sym (add-zero (p + skipped p)))

passes_rows : (o : Order) (ks : List Attribute) (φs : List ℕ) → Passes o (rows ks φs)
unfolding rows
passes_rows o [] φs = passes_nothing o
passes_rows o (a ∷ ks) [] = passes_nothing o
passes_rows o (a ∷ ks) (φ ∷ φs) =
    passes_then o (item (Item.echo φ)) (content a φ ▸ rows ks φs) (passes_echo o φ) (passes_then o (content a φ) (rows ks φs) (passes_content o a φ) (passes_rows o ks φs))

-- THE law
pub whole_rows : (o : Order) (ks : List Attribute) (φs ns : List ℕ) (p : ℕ)
    → unrun o (front (rows ks φs)) ns p ≡ adjoin [] (dig o (skipped p) 0) (unrun o (front (rows ks φs)) ns (p + skipped p))
unfolding unrun
whole_rows o ks φs ns p = passes_rows o ks φs (unrun o (item Item.align)) (whole_align o) ns p
