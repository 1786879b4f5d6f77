-- From the writer's definition, and how its tags stand over an output, to the promise of `write`.
use Prim.Native.Nat.{ℕ, ◌+◌, ◌≤◌, ◌<◌}
use mathlib.Core.Bool.{Bool, true, false}
use mathlib.Core.List.{List, [], ◌∷◌, ◌++◌}
use mathlib.Core.Path.{◌≡◌, refl, ap, sym, ◌∙◌, subst}
use native.Mathlib.Nat.{zero-add}
use native.Mathlib.Omega.{arith}
use lib.Dec.{leb}
use borrow.Author.Tests.{le-leb, lt-ltb, le-ltb}
use lib.ListN.{length, replicate, drop, length-append, length-drop}
use lib.Seq.{sets, sets-eq}
use Rattle.std.specs.Prelude.{Result, Ok, Err, Some, None}
use Rattle.std.specs.List.{slice_get}
use Rattle.format.specs.Tests.{pick}
use Rattle.format.specs.Bits.{Order}
use Rattle.format.specs.FileAndTags.{Class, class_of}
use Rattle.format.specs.Possible.{Possible, this, cannot}
use Rattle.format.specs.WritingFiles.{Made, made, spell32, unwalk_list, whole_file, write_file}
use Rattle.format.specs.Reasons as paper
use Rattle.format.specs.Reasons.{Left, accepted, refuses_with, FileOf, Writes, too_high, neither, too_short, written}
use Rattle.format.proofs.RoundTrip.{back, no_file}
use Rattle.format.proofs.Absurd.{clash}
use Rattle.table.proofs.EngineLaws.{sets_append}
use Rattle.reasons.specs.declared.Reason.{Reason}
use Rattle.bits.specs.declared.Order.{Order as Code}
use Rattle.bits.specs.Places.{order_of, order_by}
use Rattle.bits.proofs.FieldLaws.{order_told}
use Rattle.classes.specs.declared.Class as own
use Rattle.classes.specs.declared.Class.TheVariants.{Opaque}
use Rattle.classes.specs.Classes.{named_by}
use Rattle.classes.specs.Tables.{tab}
use Rattle.classes.proofs.FillLaws.{classed}
use Rattle.classes.specs.declared.Scope.{Scope}
use Rattle.classes.specs.declared.Scope.TheVariants.{All}
use Rattle.tags.specs.Lent.{classes_in, Tabled}
use Rattle.tags.proofs.LentLaws.{class_level}
use Rattle.sink.specs.Lain.{longest}
use Rattle.write_heads.proofs.StoreLaws.{sets_comm}
use Rattle.sink.specs.declared.Impossible.{Impossible}
use Rattle.write_lists.specs.declared.Reached.{Reached}
use Rattle.write_lists.specs.Stood.{Stood, stood, over, stood_as}
use Rattle.write_lists.proofs.StoodLaws.{StoodBy, stood_by, parts_of}
use Rattle.write_lists.proofs.ListLaws.{parts_list}
use Rattle.writer.specs.Files.{start}

-- the tags that follow the compression byte
abbrev pub tags : Order → ℕ → List ℕ → Possible Made
tags o level t = unwalk_list o (class_of level) 8 (drop 1 t)

-- the classes are lent, those of a level
pub tabled : (scope : Scope) (level : ℕ) {cs : List own.Class} → cs ≡ sets (replicate 1024 Opaque) 0 (tab (named_by scope level) 0 32) → Tabled cs
tabled scope level filled = record { scope = scope; level = level; classed = classed scope level filled }

-- and of this level
pub lent : (level : ℕ) {cs : List own.Class} → cs ≡ sets (replicate 1024 Opaque) 0 (tab (named_by All level) 0 32) → (o : Order) (t u : List ℕ) {x : Possible Stood}
    → x ≡ over u 9 1 (unwalk_list o (classes_in cs) 8 (drop 1 t)) → x ≡ over u 9 1 (tags o level t)
lent level {cs} filled o t u e = e ∙ ap (λ (class : ℕ → Class). over u 9 1 (unwalk_list o class 8 (drop 1 t))) (λ i. λ code. class_level cs All level (classed All level filled) code i)

module _ (order level : ℕ) (t : List ℕ) where
  -- ---- what the definition's two answers promise
  none : level ≤ 1023 → order ≤ 1 → write_file order level t ≡ cannot → (m : List ℕ) → Writes order level t m (refuses_with m 20 0)
  none h g e m = paper.impossible h g (λ f r. no_file order level t e f r.bytes r.reads)

  file_of_lem : (f : List ℕ) → write_file order level t ≡ this f → FileOf order level t f
  file_of_lem f e = let b = back order level f t e in record { bytes = b.0; reads = b.1 }

  -- ---- by the branches of `write`
  pub level_high : 1023 < level → (m : List ℕ) → Writes order level t m (refuses_with m 1 0)
  level_high h m = too_high h

  pub order_unknown : level ≤ 1023 → {e : Reason} → Err e ≡ order_by order → (m : List ℕ) → Writes order level t m (refuses_with m 24 0)
  order_unknown h named m = neither h (order_told order named).1

  -- p is the order that the number names
  module _ (h : level ≤ 1023) {p : Code} (named : Ok p ≡ order_by order) where
    abbrev o : Order
    o = order_of p

    g : order ≤ 1
    g = (order_told order named).1

    pub no_numbers : None ≡ slice_get t 0 → (m : List ℕ) → Writes order level t m (refuses_with m 20 0)
    unfolding write_file
    no_numbers z m = none h g (go t z) m
      where
        go : (t : List ℕ) → None ≡ slice_get t 0 → write_file order level t ≡ cannot
        go [] e = refl
        go (x ∷ t) e = clash cc

    -- x is the first number
    module _ {x : ℕ} (first : Some x ≡ slice_get t 0) where
      cons : t ≡ x ∷ drop 1 t
      cons = go t first
        where
          go : (t : List ℕ) → Some x ≡ slice_get t 0 → t ≡ x ∷ drop 1 t
          go [] e = clash cc
          go (y ∷ t) e = let z : x ≡ y = cc in ap (λ (n : ℕ). n ∷ t) (sym z)

      pub some : 1 ≤ length t
      some = omega (arith, ap length cons)

      pub no_byte : 255 < x → (m : List ℕ) → Writes order level t m (refuses_with m 20 0)
      unfolding write_file
      no_byte l m = none h g (ap (write_file order level) cons ∙ rw (le-ltb 1023 level h, le-ltb 1 order g, le-ltb x 256 (omega arith))) m

      module _ (l : x ≤ 255) where
        is : write_file order level t ≡ whole_file x (tags o level t)
        unfolding write_file
        is = ap (write_file order level) cons ∙ rw (le-ltb 1023 level h, le-ltb 1 order g, lt-ltb x 256 (omega arith), ← (order_told order named).0)

        pub no_list : cannot ≡ over [] 9 1 (tags o level t) → (m : List ℕ) → Writes order level t m (refuses_with m 20 0)
        unfolding over
        no_list e m = none h g (is ∙ go (tags o level t) e) m
          where
            lim : (b u : List ℕ) (p j : ℕ) (c : Bool) → cannot ≡ pick c (this (stood u p j)) cannot → pick c (this b) cannot ≡ cannot
            lim b u p j true w = clash cc
            lim b u p j false w = refl

            go : (m : Possible Made) → cannot ≡ over [] 9 1 m → whole_file x m ≡ cannot
            go cannot q = refl
            go (this (made xs b (y ∷ ys))) q = refl
            go (this (made xs b [])) q = lim (0x50 ∷ 0x41 ∷ 0x47 ∷ 1 ∷ (spell32 (9 + length b) ++ x ∷ b)) (sets [] 9 b) (9 + length b) (1 + length xs) (leb (9 + length b) longest) q

        -- the tags end at n, and their numbers at k
        module _ {u : List ℕ} {n k : ℕ} (e : this (stood u n k) ≡ over [] 9 1 (tags o level t)) where
          s : StoodBy [] 9 1 u n k (tags o level t)
          s = stood_by [] 9 1 u n k (tags o level t) e

          left : length s.ys + k ≡ length t
          left =
              let d : drop 1 t ≡ s.xs ++ s.ys = parts_of (drop 1 t) s.xs s.b s.ys (tags o level t) s.is (parts_list o (class_of level) 8 (drop 1 t)) in
              omega (arith, ap length d, length-append s.xs s.ys, length-drop 1 t, s.index, some)

          pub small : n ≤ longest
          small = s.small

          pub numbers_left_lem : k < length t → (m : List ℕ) → Writes order level t m (refuses_with m 20 0)
          numbers_left_lem q m = none h g (is ∙ ap (whole_file x) s.is ∙ go s.ys (omega (arith, left))) m
            where
              go : (ys : List ℕ) → 0 < length ys → whole_file x (this (made s.xs s.b ys)) ≡ cannot
              go [] w = absurd (omega arith)
              go (y ∷ ys) w = refl

          module _ (q : length t ≤ k) where
            -- the file
            file : List ℕ
            file = start n x ++ s.b

            long : length file ≡ n
            unfolding file
            long = omega (arith, s.place, length-append (start n x) s.b)

            file_is : FileOf order level t file
            unfolding file
            file_is = file_of_lem file (is ∙ ap (whole_file x) s.is ∙ go s.ys (omega (arith, left)))
              where
                go : (ys : List ℕ) → length ys ≡ 0 → whole_file x (this (made s.xs s.b ys)) ≡ this (start n x ++ s.b)
                go (y ∷ ys) w = absurd (omega arith)
                go [] w = rw (le-leb (9 + length s.b) longest (omega (arith, s.place, s.small)), ← s.place)

            pub no_room : (m : List ℕ) → length m < n → Writes order level t m (refuses_with m 21 n)
            no_room m w = subst (λ (y : ℕ). Writes order level t m (refuses_with m 21 y)) long (too_short file file_is (omega (arith, long)))

            -- the tags once more, on the lent output
            laid : (m v : List ℕ) (R : Result Reached Impossible) → stood_as v R ≡ over m 9 1 (tags o level t) → v ≡ sets m 9 s.b
            unfolding over
            laid m v (Ok r) e' =
                let s' = stood_by m 9 1 v r.place.0 r.index (tags o level t) e' in
                let z : this (made s'.xs s'.b s'.ys) ≡ this (made s.xs s.b s.ys) = sym s'.is ∙ s.is in
                let same : s'.b ≡ s.b = cc in
                s'.laid ∙ ap (sets m 9) same
            laid m v (Err z) e' =
                let w : cannot ≡ this (stood (sets m 9 s.b) (9 + length s.b) (1 + length s.xs)) =
                e' ∙ ap (over m 9 1) s.is ∙ rw (le-leb (9 + length s.b) longest (omega (arith, s.place, s.small))) in
                clash cc

            -- and the start before them
            pub file_put : (m v w : List ℕ) (R : Result Reached Impossible) → n ≤ length m → stood_as v R ≡ over m 9 1 (tags o level t) → w ≡ sets v 0 (start n x)
                → Writes order level t m (record { answer = accepted n; lent = w })
            unfolding file
            file_put m v w R room e' d =
                let put : w ≡ file ++ drop (length file) m =
                d ∙ ap (λ (y : List ℕ). sets y 0 (start n x)) (laid m v R e')
                ∙ sets_comm m 9 s.b 0 (start n x) (omega arith)
                ∙ sym (sets_append m 0 (start n x) s.b)
                ∙ sets-eq file m 0 (omega (arith, long))
                ∙ ap (λ (y : ℕ). file ++ drop y m) (zero-add (length file)) in
                subst (λ (y : Left). Writes order level t m y) (λ i. record { answer = accepted (long i); lent = sym put i }) (written file file_is (omega (arith, long)))
