-- A table of classes that is filled, and what it says of each code.
use Prim.Native.Nat.{ℕ, zero, suc, ◌+◌, ◌-◌, ◌≤◌, ◌<◌}
use mathlib.Core.Bool.{Bool, true, false}
use mathlib.Core.List.{List, ◌++◌}
use mathlib.Core.Path.{◌≡◌, ◌∙◌, refl, ap, sym}
use native.Mathlib.Omega.{arith}
use native.Mathlib.Nat.{zero-add}
use lib.ListN.{length, get_or, set, replicate, drop, length-replicate}
use lib.Seq.{sets, sets-eq, length-sets, get_or-take, get_or-drop, get_or-append-add, take-append_seam}
use lib.Dec.{ltb}
use borrow.Author.Tests.{ltb-true, ltb-false}
use Rattle.classes.specs.declared.Class.{Class}
use Rattle.classes.specs.declared.Class.TheVariants.{Opaque}
use Rattle.classes.specs.declared.Scope.{Scope}
use Rattle.classes.specs.declared.Scope.TheVariants.{All, Lists}
use Rattle.classes.specs.Classes.{named_by, Classed}
use Rattle.classes.specs.Tables.{tab}
use Rattle.classes.proofs.Table.{at}
use Rattle.classes.proofs.ClassLaws.{past_codes}

-- ---- filled one after the other

-- the first of those that are still to be stored
pub stored_next : {A : Type 0} (f : ℕ → A) (u : List A) (i n : ℕ) {v : A} → i < n → v ≡ f i → sets (set u i v) (i + 1) (tab f (i + 1) (n - (i + 1))) ≡ sets u i (tab f i (n - i))
stored_next {A} f u i n h e =
    let k : n - i ≡ suc (n - (i + 1)) = omega arith in
    let s : i + 1 ≡ suc i = omega arith in
    ap (λ (x : A). sets (set u i x) (i + 1) (tab f (i + 1) (n - (i + 1)))) e
    ∙ ap (λ (j : ℕ). sets (set u i (f i)) j (tab f j (n - (i + 1)))) s
    ∙ ap (λ (m : ℕ). sets u i (tab f i m)) (sym k)

-- none is left
pub stored_all : {A : Type 0} (f : ℕ → A) (u : List A) (i n : ℕ) → n ≤ i → sets u i (tab f i (n - i)) ≡ u
stored_all f u i n h = let z : n - i ≡ 0 = omega arith in ap (λ (m : ℕ). sets u i (tab f i m)) z

-- ---- each entry

length_tab : {A : Type 0} (f : ℕ → A) (i n : ℕ) → length (tab f i n) ≡ n
length_tab f i zero = refl
length_tab f i (suc n) = ap suc (length_tab f (suc i) n)

-- of a table of d alone, whose first n entries are stored; past them f is d too
module _ {A : Type 0} (f : ℕ → A) (d : A) (n : ℕ) (l : List A) (fits : n ≤ length l) (blank : (j : ℕ) → get_or l j d ≡ d) where
  split : sets l 0 (tab f 0 n) ≡ tab f 0 n ++ drop n l
  split = sets-eq (tab f 0 n) l 0 (rw (zero-add, length_tab f 0 n) fits) ∙ rw (zero-add, length_tab f 0 n)

  entry : (code : ℕ) → (n ≤ code → d ≡ f code) → get_or (sets l 0 (tab f 0 n)) code d ≡ f code
  entry code past = ap (λ (m : List A). get_or m code d) split ∙ go (ltb code n) refl
    where
      go : (z : Bool) → ltb code n ≡ z → get_or (tab f 0 n ++ drop n l) code d ≡ f code
      go true e =
          let h : code < n = ltb-true code n e in
          sym (get_or-take (length (tab f 0 n)) (tab f 0 n ++ drop n l) code d (omega (arith, length_tab f 0 n)))
          ∙ ap (λ (m : List A). get_or m code d) (take-append_seam (tab f 0 n) (drop n l)) ∙ at f d n (tab f 0 n) refl code h
      go false e =
          let h : n ≤ code = ltb-false code n e in
          let q : code ≡ length (tab f 0 n) + (code - n) = omega (arith, length_tab f 0 n) in
          ap (λ (m : ℕ). get_or (tab f 0 n ++ drop n l) m d) q ∙ get_or-append-add (tab f 0 n) (drop n l) (code - n) d
          ∙ get_or-drop n l (code - n) d ∙ blank (n + (code - n)) ∙ past h

blank : (n j : ℕ) → get_or (replicate n Opaque) j Opaque ≡ Opaque
blank zero j = refl
blank (suc n) zero = refl
blank (suc n) (suc j) = blank n j

past_first : (scope : Scope) (level code : ℕ) → 32 ≤ code → Opaque ≡ named_by scope level code
past_first All level code h = rw (past_codes level code (omega arith))
past_first Lists level code h = rw (past_codes level code (omega arith))

-- so a table of 1,024 times opaque, whose first row is stored, has the class of every code
pub classed : (scope : Scope) (level : ℕ) {cs : List Class} → cs ≡ sets (replicate 1024 Opaque) 0 (tab (named_by scope level) 0 32) → Classed scope level cs
classed scope level e = record {
  size = ap length e ∙ length-sets l 0 (tab (named_by scope level) 0 32) ∙ size;
  each = λ code. ap (λ (m : List Class). get_or m code Opaque) e
      ∙ entry (named_by scope level) Opaque 32 l (omega (arith, size)) (blank 1024) code (past_first scope level code);
}
  where
    l : List Class
    l = replicate 1024 Opaque

    size : length l ≡ 1024
    size = length-replicate 1024 Opaque
