-- Tags put over an output, one part after the other.
use Prim.Native.Nat.{ℕ, ◌+◌, ◌≤◌}
use mathlib.Core.Bool.{Bool, true, false}
use mathlib.Core.List.{List, ◌++◌, append_assoc}
use mathlib.Core.Path.{◌≡◌, refl, ap, sym, ◌∙◌}
use native.Mathlib.Nat.{add_assoc}
use native.Mathlib.Omega.{arith}
use lib.Dec.{leb}
use borrow.Author.Tests.{leb-true, leb-false, lt-leb}
use lib.ListN.{length, drop, length-append, length-drop}
use lib.Seq.{sets, drop-drop, drop-append_seam}
use Rattle.format.specs.Tests.{pick}
use Rattle.format.specs.Possible.{Possible, this, cannot}
use Rattle.format.specs.WritingFiles.{Made, made, joined}
use Rattle.format.proofs.Absurd.{clash}
use Rattle.table.proofs.EngineLaws.{sets_append}
use Rattle.sink.specs.Lain.{longest}
use Rattle.write_lists.specs.Stood.{Stood, stood, over}

-- ---- what a place and an index say

-- what was made, and how it stands over out
pub record StoodBy (out : List ℕ) (a k : ℕ) (u : List ℕ) (p j : ℕ) (m : Possible Made) : Type 0 where
  pub xs : List ℕ
  pub b : List ℕ
  pub ys : List ℕ
  pub is : m ≡ this (made xs b ys)
  pub laid : u ≡ sets out a b
  pub place : p ≡ a + length b
  pub index : j ≡ k + length xs
  pub small : p ≤ longest

pub stood_by : (out : List ℕ) (a k : ℕ) (u : List ℕ) (p j : ℕ) (m : Possible Made) → this (stood u p j) ≡ over out a k m → StoodBy out a k u p j m
unfolding over
stood_by out a k u p j cannot e = clash cc
stood_by out a k u p j (this (made xs b ys)) e = go (leb (a + length b) longest) refl e
  where
    go : (c : Bool) → leb (a + length b) longest ≡ c → this (stood u p j) ≡ pick c (this (stood (sets out a b) (a + length b) (k + length xs))) cannot → StoodBy out a k u p j (this (made xs b ys))
    go true q h =
        let z : p ≡ a + length b = cc in
        record { xs = xs; b = b; ys = ys; is = refl; laid = cc; place = z; index = cc; small = omega (arith, leb-true (a + length b) longest q) }
    go false q h = clash cc

-- the numbers that were used up and those that are left are the numbers that were given
abbrev pub Parts : List ℕ → Possible Made → Type 0
Parts ns (this (made xs b ys)) = ns ≡ xs ++ ys
Parts ns cannot = Unit {0}

pub parts_of : (ns xs b ys : List ℕ) (m : Possible Made) → m ≡ this (made xs b ys) → Parts ns m → ns ≡ xs ++ ys
parts_of ns xs b ys (this (made xs' b' ys')) e h = let p : xs' ≡ xs = cc in let q : ys' ≡ ys = cc in rw (← p, ← q) h
parts_of ns xs b ys cannot e h = clash cc

-- places and indexes grow, and stay in their bounds
pub stood_index : (t out : List ℕ) (a k : ℕ) (u : List ℕ) (p j : ℕ) (m : Possible Made) → k ≤ length t → Parts (drop k t) m → this (stood u p j) ≡ over out a k m
    → (k ≤ j) × (j ≤ length t) × (a ≤ p) × (p ≤ longest)
stood_index t out a k u p j m h q e =
    let s = stood_by out a k u p j m e in
    let d : drop k t ≡ s.xs ++ s.ys = parts_of (drop k t) s.xs s.b s.ys m s.is q in
    (omega (arith, s.index), omega (arith, s.index, ap length d, length-append s.xs s.ys, length-drop k t), omega (arith, s.place), s.small)

-- ---- what was made, and what follows it
abbrev pub and_then : Possible Made → (List ℕ → Possible Made) → Possible Made
and_then (this (made xs b ys)) W = joined xs b (W ys)
and_then cannot W = cannot

pub parts_then : (ns : List ℕ) (m : Possible Made) (W : List ℕ → Possible Made) → Parts ns m → ((ys : List ℕ) → Parts ys (W ys)) → Parts ns (and_then m W)
parts_then ns cannot W h g = tt
parts_then ns (this (made xs b ys)) W h g = go (W ys) (g ys)
  where
    go : (m : Possible Made) → Parts ys m → Parts ns (joined xs b m)
    go cannot q = tt
    go (this (made xs' b' ys')) q = h ∙ ap (λ (l : List ℕ). xs ++ l) q ∙ sym (append_assoc xs xs' ys')

-- from where it stands, W writes the numbers of t that are left
abbrev pub again : (List ℕ → Possible Made) → List ℕ → Possible Stood → Possible Stood
again W t (this (stood u p j)) = over u p j (W (drop j t))
again W t cannot = cannot

-- THE law: what was made is put, and from there what follows it
pub over_then : (t out : List ℕ) (a k : ℕ) (m : Possible Made) (W : List ℕ → Possible Made) → Parts (drop k t) m → over out a k (and_then m W) ≡ again W t (over out a k m)
unfolding over
over_then t out a k cannot W h = refl
over_then t out a k (this (made xs b ys)) W h = go (W ys) refl (leb (a + length b) longest) refl
  where
    left : drop (k + length xs) t ≡ ys
    left = sym (drop-drop (length xs) k t) ∙ rw h (drop-append_seam xs ys)

    go : (m : Possible Made) → W ys ≡ m → (c : Bool) → leb (a + length b) longest ≡ c
        → over out a k (joined xs b (W ys)) ≡ again W t (pick c (this (stood (sets out a b) (a + length b) (k + length xs))) cannot)
    go cannot e true q = rw (e, left, e)
    go cannot e false q = rw e
    go (this (made xs' b' ys')) e true q =
        let p : a + length (b ++ b') ≡ a + length b + length b' = rw length-append (sym (add_assoc a (length b) (length b'))) in
        let i : k + length (xs ++ xs') ≡ k + length xs + length xs' = rw length-append (sym (add_assoc k (length xs) (length xs'))) in
        rw (e, left, e, p, i, sets_append out a b b')
    go (this (made xs' b' ys')) e false q =
        rw (e, lt-leb (a + length (b ++ b')) longest (omega (arith, leb-false (a + length b) longest q, length-append b b')))
