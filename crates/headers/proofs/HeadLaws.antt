-- What a header tells that stands at a place of a list, and whether it passes.
use Prim.Native.Nat.{ℕ, ◌+◌, ◌-◌, ◌/◌, ◌≤◌}
use mathlib.Core.List.{List}
use mathlib.Core.Bool.{Bool, true, false}
use mathlib.Core.Path.{◌≡◌, ◌∙◌, refl, ap, sym, subst}
use native.Mathlib.Omega.{arith}
use lib.ListN.{length, get_or, drop, length-drop}
use lib.Dec.{ltb, eqb}
use borrow.Author.Tests.{eq-eqb, ne_eqb}
use Rattle.std.proofs.Common.{Result, Ok, Err}
use Rattle.format.specs.Tests.{pick, ◌and◌}
use Rattle.format.specs.FileAndTags as paper
use Rattle.format.specs.FileAndTags.{head, no_head, le16, is_end, is_container, raw_head, passes, read_head}
use Rattle.format.proofs.WalkLaws.{RawFits, raw_fits}
use Rattle.format.proofs.Absurd.{clash}
use Rattle.reasons.specs.declared.Reason.{Reason}
use Rattle.reasons.specs.Numbers.{number_of}
use Rattle.reasons.proofs.NumberLaws.{number_one}
use Rattle.classes.specs.Classes.{bare, ends, contains}
use Rattle.classes.specs.declared.Class.{Class}
use Rattle.classes.specs.declared.Class.TheVariants.{Opaque}
use Rattle.headers.specs.declared.Header.{Header}
use Rattle.headers.specs.Heads.{as_head, class_here, head_by, fault_by}

-- ---- No second answer fits.

pub head_one : (a b : Result Header Reason) → as_head a ≡ as_head b → a ≡ b
head_one (Ok g) (Ok h) e = let c : g.code ≡ h.code = cc in let l : g.length ≡ h.length = cc in let z : g.size ≡ h.size = cc in λ i. Ok (record { code = c i; length = l i; size = z i })
head_one (Ok g) (Err r) e = clash cc
head_one (Err r) (Ok g) e = clash cc
head_one (Err r) (Err r') e = let f : number_of r ≡ number_of r' = cc in ap Err (number_one r r' f)

-- a reason is none of the numbers that say that a header passes
above_0 : (r : Reason) → number_of r ≡ 0 → ⊥
above_0 r h = grind arith

-- ---- A header that stands at i: its code, and that it fits.
pub record StandsAt (s : List ℕ) (i : ℕ) (H : Header) : Type 0 where
  pub raw : raw_head (drop i s) ≡ as_head (Ok H)
  pub inside : H.size ≤ length s - i
  pub coded : H.code ≡ le16 (drop i s) / 64

pub stands_at_lem : (s : List ℕ) (i : ℕ) (H : Header) → as_head (Ok H) ≡ raw_head (drop i s) → StandsAt s i H
stands_at_lem s i H at =
    let u : RawFits (drop i s) (as_head (Ok H)) = subst (RawFits (drop i s)) (sym at) (raw_fits (drop i s)) in
    record { raw = sym at; inside = omega (arith, u.1, length-drop i s); coded = u.2 }

-- ---- Whether a header passes, by the name of its class.
module _ (class : Class) (left : ℕ) (s : List ℕ) (i : ℕ) {H : Header} {rest e : ℕ} (at : StandsAt s i H) (follow : rest ≡ length s - (i + H.size)) (fault : e ≡ fault_by class left rest H.length) where
  rests : length (drop H.size (drop i s)) ≡ rest
  rests = rw (length-drop, length-drop) (omega (arith, follow))

  judged : (a b c : Bool) → ltb rest H.length ≡ a → (ends class and ltb 0 H.length) ≡ b → (contains class and eqb left 0) ≡ c
      → head_by class left (drop i s) ≡ pick (eqb e 0) (as_head (Ok H)) (no_head e)
  judged true b c p q r = rw (at.raw, rests, fault, p)
  judged false true c p q r = rw (at.raw, rests, fault, p, q)
  judged false false true p q r = rw (at.raw, rests, fault, p, q, r)
  judged false false false p q r = rw (at.raw, rests, fault, p, q, r)

  pub head_passes : e ≡ 0 → head_by class left (drop i s) ≡ as_head (Ok H)
  head_passes z = judged _ _ _ refl refl refl ∙ rw (eq-eqb e 0 z)

  pub head_fails : (e ≡ 0 → ⊥) → head_by class left (drop i s) ≡ no_head e
  head_fails z = judged _ _ _ refl refl refl ∙ rw (ne_eqb e 0 z)

-- the same of a refusal by its name
pub head_refused : (class : Class) (left : ℕ) (s : List ℕ) (i : ℕ) {H : Header} {rest : ℕ} → StandsAt s i H → rest ≡ length s - (i + H.size) → (r : Reason) → number_of r ≡ fault_by class left rest H.length
    → head_by class left (drop i s) ≡ no_head (number_of r)
head_refused class left s i at follow r f = head_fails class left s i at follow f (above_0 r)

pub head_none : (left : ℕ) (r : List ℕ) (e : Reason) (class : Class) → as_head (Err e) ≡ raw_head r → head_by class left r ≡ no_head (number_of e)
head_none left r e class at = rw (sym at)

-- the class that was looked up is that of the code there
pub head_here : (cs : List Class) (left : ℕ) (s : List ℕ) (i : ℕ) {H : Header} {h : paper.Head} → StandsAt s i H → head_by (get_or cs H.code Opaque) left (drop i s) ≡ h → h ≡ head_by (class_here cs (drop i s)) left (drop i s)
head_here cs left s i at e = sym e ∙ ap (λ (code : ℕ). head_by (get_or cs code Opaque) left (drop i s)) at.coded

-- ---- The definitions' header, by the name of the class of its code, whatever the classes are.
pub head_by_lem : (class : ℕ → paper.Class) (left : ℕ) (r : List ℕ) (c : Class) → is_end (class (le16 r / 64)) ≡ ends c → is_container (class (le16 r / 64)) ≡ contains c → read_head class left r ≡ head_by c left r
head_by_lem class left r c e f = go (raw_head r) (raw_fits r)
  where
    go : (h : paper.Head) → RawFits r h → passes class left r h ≡ passes (λ code. bare c) left r h
    go (no_head x) u = refl
    go (head code len size) u = rw (u.2, e, f)
