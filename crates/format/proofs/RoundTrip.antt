-- The round trip of files: a table has a file exactly when it is the table of one, and that file is the only one.
use Prim.Native.Nat.{ℕ, suc, ◌+◌, ◌*◌, ◌/◌, ◌%◌, ◌^◌, ◌≤◌, ◌<◌}
use mathlib.Core.List.{List, [], ◌∷◌, ◌++◌, append-nil}
use mathlib.Core.Path.{◌≡◌, refl, ap, sym, ◌∙◌, subst}
use mathlib.Core.Bool.{Bool, true, false}
use lib.ListN.{length, get_or, drop}
use lib.Dec.{ltb, leb, eqb, lit<}
use borrow.Author.Tests.{ltb-true, ltb-false, leb-true, eqb-true, lt-ltb, le-ltb, le-leb, eq-eqb}
use native.Mathlib.Omega.{arith}
use Rattle.format.specs.Tests.{pick}
use Rattle.format.specs.Bits.{AllBytes, order_named}
use Rattle.format.specs.FileAndTags.{class_of, Outcome, whole, fault, le32, file, walk_list}
use Rattle.format.specs.TableOfNumbers.{numbers, table}
use Rattle.format.specs.Reasons.{start_fault, walk_file, gives, result, read_file, IsFile}
use Rattle.format.specs.Possible.{Possible, this, cannot}
use Rattle.format.specs.WritingFiles.{Made, made, spell32, unwalk_list, whole_file, write_file}
use Rattle.format.proofs.ListTrip.{WholeIf, Again, list_there, Spelt, ListIf, list_back}
use Rattle.format.proofs.StartLaws.{GoodStart, good_start, start_good, whole_start}
use Rattle.format.proofs.Absurd.{clash}

split9 : (P : List ℕ → Type 0) → ((a b c d e f g h i : ℕ) (r : List ℕ) → P (a ∷ b ∷ c ∷ d ∷ e ∷ f ∷ g ∷ h ∷ i ∷ r)) → (l : List ℕ) → 9 ≤ length l → P l
split9 P k [] h = absurd (omega arith)
split9 P k (a ∷ []) h = absurd (omega arith)
split9 P k (a ∷ b ∷ []) h = absurd (omega arith)
split9 P k (a ∷ b ∷ c ∷ []) h = absurd (omega arith)
split9 P k (a ∷ b ∷ c ∷ d ∷ []) h = absurd (omega arith)
split9 P k (a ∷ b ∷ c ∷ d ∷ e ∷ []) h = absurd (omega arith)
split9 P k (a ∷ b ∷ c ∷ d ∷ e ∷ f ∷ []) h = absurd (omega arith)
split9 P k (a ∷ b ∷ c ∷ d ∷ e ∷ f ∷ g ∷ []) h = absurd (omega arith)
split9 P k (a ∷ b ∷ c ∷ d ∷ e ∷ f ∷ g ∷ h₁ ∷ []) h = absurd (omega arith)
split9 P k (a ∷ b ∷ c ∷ d ∷ e ∷ f ∷ g ∷ h₁ ∷ i ∷ r) h = k a b c d e f g h₁ i r

spell_there : (a b c d l : ℕ) → a < 256 → b < 256 → c < 256 → d < 256 → a + 256 * b + 65536 * (c + 256 * d) ≡ l → spell32 l ≡ a ∷ b ∷ c ∷ d ∷ []
spell_there a b c d l ha hb hc hd e =
    let m1 : l / 256 ≡ b + 256 * (c + 256 * d) = omega arith in
    let m2 : l / 65536 ≡ c + 256 * d = omega arith in
    let l0 : l % 256 ≡ a = omega arith in
    let l1 : l / 256 % 256 ≡ b = rw m1 (omega arith) in
    let l2 : l / 65536 % 256 ≡ c = rw m2 (omega arith) in
    let l3 : l / 16777216 ≡ d = omega arith in
    rw (l0, l1, l2, l3)

spell_back : (l : ℕ) → l < 2 ^ 32 → le32 (spell32 l) ≡ l
spell_back l h = omega arith

module _ (order level : ℕ) where
  -- ---- what is read is written again
  abbrev FileIf : List ℕ → Outcome → List ℕ → Type 0
  FileIf f whole t = write_file order level t ≡ this f
  FileIf f (fault e n) t = Unit {0}

  -- what follows the first nine bytes
  rest_there : (a b c d e f g h i : ℕ) (r : List ℕ) → (bs : AllBytes (a ∷ b ∷ c ∷ d ∷ e ∷ f ∷ g ∷ h ∷ i ∷ r)) → GoodStart order level (a ∷ b ∷ c ∷ d ∷ e ∷ f ∷ g ∷ h ∷ i ∷ r)
      → FileIf (a ∷ b ∷ c ∷ d ∷ e ∷ f ∷ g ∷ h ∷ i ∷ r) (walk_list (order_named order) (class_of level) 8 file 9 r).ended (i ∷ numbers (walk_list (order_named order) (class_of level) 8 file 9 r).tags)
  unfolding write_file
  rest_there a b c d e f g h i r bs s =
      go (walk_list (order_named order) (class_of level) 8 file 9 r).ended (list_there (order_named order) (class_of level) (length r) 8 file 9 r (omega arith) bs.1.1.1.1.1.1.1.1.1)
    where
      xs : List ℕ
      xs = numbers (walk_list (order_named order) (class_of level) 8 file 9 r).tags

      go : (z : Outcome) → WholeIf z (Again (unwalk_list (order_named order) (class_of level) 8) xs r) → FileIf (a ∷ b ∷ c ∷ d ∷ e ∷ f ∷ g ∷ h ∷ i ∷ r) z (i ∷ xs)
      go (fault y y') u = tt
      go whole u =
          let n : 9 + length r ≡ suc (suc (suc (suc (suc (suc (suc (suc (suc (length r))))))))) = omega arith in
          let p : spell32 (9 + length r) ≡ e ∷ f ∷ g ∷ h ∷ [] = spell_there e f g h (9 + length r) bs.1.1.1.1.0 bs.1.1.1.1.1.0 bs.1.1.1.1.1.1.0 bs.1.1.1.1.1.1.1.0 (s.lengths ∙ sym n) in
          let q : unwalk_list (order_named order) (class_of level) 8 xs ≡ this (made xs r []) = rw append-nil at (u []) in
          let ed : 1 ≡ d = sym s.version in
          rw (le-ltb 1023 level (omega (arith, s.known)), le-ltb 1 order (omega (arith, s.ordered)), lt-ltb i 256 bs.1.1.1.1.1.1.1.1.0, q, le-leb (9 + length r) 16777216 (omega (arith, s.limit)))
          (ap (λ (k : List ℕ). this (0x50 ∷ 0x41 ∷ 0x47 ∷ 1 ∷ (k ++ i ∷ r))) p ∙ cc (s.signed.0, s.signed.1, s.signed.2, ed))

  walk_there : (f : List ℕ) → AllBytes f → FileIf f (walk_file order level f).ended (table f (walk_file order level f))
  unfolding walk_file
  walk_there f b = go (eqb (start_fault order level f) 0) refl
    where
      good : (s : GoodStart order level f) → AllBytes f → FileIf f (walk_list (order_named order) (class_of level) 8 file 9 (drop 9 f)).ended (get_or f 8 0 ∷ numbers (walk_list (order_named order) (class_of level) 8 file 9 (drop 9 f)).tags)
      good s = split9 (λ l. GoodStart order level l → AllBytes l → FileIf l (walk_list (order_named order) (class_of level) 8 file 9 (drop 9 l)).ended (get_or l 8 0 ∷ numbers (walk_list (order_named order) (class_of level) 8 file 9 (drop 9 l)).tags))
          (λ a b c d e f g h i r s bs. rest_there a b c d e f g h i r bs s) f s.long s

      go : (c : Bool) → eqb (start_fault order level f) 0 ≡ c → FileIf f (walk_file order level f).ended (table f (walk_file order level f))
      go false e = rw e tt
      go true e = rw e (good (good_start order level f (eqb-true (start_fault order level f) 0 e)) b)

  -- (there) a file that is accepted with the table t is what t is written as
  pub there : (f t : List ℕ) → IsFile f → read_file order level f ≡ gives t → write_file order level t ≡ this f
  unfolding read_file
  there f t b h = go (walk_file order level f).ended (walk_there f b) h
    where
      go : (z : Outcome) → FileIf f z (table f (walk_file order level f)) → result (table f (walk_file order level f)) z ≡ gives t → write_file order level t ≡ this f
      go whole u e = let q : table f (walk_file order level f) ≡ t = cc in rw q at u
      go (fault x y) u e = clash cc

  -- ---- what is written is read again
  abbrev TableIf : List ℕ → Possible (List ℕ) → Type 0
  TableIf t (this f) = AllBytes f × (read_file order level f ≡ gives t)
  TableIf t cannot = Unit {0}

  table_back : (comp : ℕ) (ns : List ℕ) → level ≤ 1023 → order ≤ 1 → comp < 256 → (x : Possible Made) → ListIf (order_named order) (class_of level) 8 ns x → TableIf (comp ∷ ns) (whole_file comp x)
  unfolding read_file walk_file
  table_back comp ns l n h cannot u = tt
  table_back comp ns l n h (this (made xs r (y ∷ ys))) u = tt
  table_back comp ns l n h (this (made xs r [])) u = go (leb (9 + length r) 16777216) refl
    where
      f : List ℕ
      f = 0x50 ∷ 0x41 ∷ 0x47 ∷ 1 ∷ (spell32 (9 + length r) ++ comp ∷ r)

      start : 9 + length r ≤ 16777216 → GoodStart order level f
      start s = record { known = l; ordered = n; long = omega arith; signed = (refl, refl, refl); version = refl; lengths = spell_back (9 + length r) (omega arith) ∙ omega arith; limit = omega arith }

      go : (c : Bool) → leb (9 + length r) 16777216 ≡ c → TableIf (comp ∷ ns) (pick (leb (9 + length r) 16777216) (this f) cannot)
      go false e = rw e tt
      go true e =
          let s : 9 + length r ≤ 16777216 = leb-true (9 + length r) 16777216 e in
          let z : ns ≡ xs = u.0 ∙ append-nil xs in
          let w : Spelt xs (walk_list (order_named order) (class_of level) 8 file 9 r) = u.2 file 9 in
          rw e (
            (lit< tt, (lit< tt, (lit< tt, (lit< tt, (omega arith, (omega arith, (omega arith, (omega arith, (h, u.1))))))))),
            rw (eq-eqb (start_fault order level f) 0 (start_good order level f (start s)), w.0, w.1, z),
          )

  table_there : (t : List ℕ) → TableIf t (write_file order level t)
  unfolding write_file
  table_there [] = tt
  table_there (comp ∷ ns) = go (ltb 1023 level) refl (ltb 1 order) refl (ltb comp 256) refl
    where
      go : (c : Bool) → ltb 1023 level ≡ c → (n : Bool) → ltb 1 order ≡ n → (d : Bool) → ltb comp 256 ≡ d → TableIf (comp ∷ ns) (write_file order level (comp ∷ ns))
      go true e n w d e' = rw e tt
      go false e true w d e' = rw (e, w) tt
      go false e false w false e' = rw (e, w, e') tt
      go false e false w true e' = rw (e, w, e')
          (table_back comp ns (omega (arith, ltb-false 1023 level e)) (omega (arith, ltb-false 1 order w)) (ltb-true comp 256 e') (unwalk_list (order_named order) (class_of level) 8 ns) (list_back (order_named order) (class_of level) (length ns) 8 ns (omega arith)))

  -- (back) what the table t is written as is a file, and it is accepted with t
  pub back : (f t : List ℕ) → write_file order level t ≡ this f → IsFile f × (read_file order level f ≡ gives t)
  back f t h = subst (TableIf t) h (table_there t)

  -- ---- what the writer's two answers mean, by the reader's definition alone
  -- where nothing is written, no file has the table
  pub no_file : (t : List ℕ) → write_file order level t ≡ cannot → (f : List ℕ) → IsFile f → read_file order level f ≡ gives t → ⊥
  no_file t h f b e =
      let g : write_file order level t ≡ this f = there f t b e in
      clash cc

  -- no two files have one table
  pub one_file : (t f g : List ℕ) → IsFile f → IsFile g → read_file order level f ≡ gives t → read_file order level g ≡ gives t → f ≡ g
  one_file t f g b c e h =
      let p : write_file order level t ≡ this f = there f t b e in
      let q : write_file order level t ≡ this g = there g t c h in
      cc

  -- a level that gives a table is one of 0 to 1023, and an order 0 or 1
  pub level_of : (f t : List ℕ) → read_file order level f ≡ gives t → (level ≤ 1023) × (order ≤ 1)
  unfolding read_file
  level_of f t h = go (walk_file order level f).ended refl h
    where
      go : (z : Outcome) → (walk_file order level f).ended ≡ z → result (table f (walk_file order level f)) z ≡ gives t → (level ≤ 1023) × (order ≤ 1)
      go whole e h = let s : GoodStart order level f = good_start order level f (whole_start order level f e) in (s.known, s.ordered)
      go (fault x y) e h = clash cc
