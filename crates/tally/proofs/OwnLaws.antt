-- A tag's own bytes are those from its place to the place of the next tag.
use Prim.Native.Nat.{ℕ, zero, suc, ◌+◌, ◌-◌, ◌≤◌, ◌<◌}
use mathlib.Core.List.{List, [], ◌∷◌, ◌++◌}
use mathlib.Core.Path.{◌≡◌, refl}
use mathlib.Core.Bool.{Bool, true, false}
use lib.Dec.{ltb}
use borrow.Author.Tests.{ltb-true, ltb-false, lt-ltb, le-leb, lt-leb}
use native.Mathlib.Omega.{arith}
use Rattle.format.specs.Tests.{pick}
use Rattle.format.specs.FileAndTags.{Tag}
use Rattle.format.specs.Levels.{end_of}
use Rattle.format.proofs.Absurd.{clash}
use Rattle.tally.specs.OwnBytes.{has, belongs, belonging_to_none, own_bytes}

-- ---- which bytes belong to tags
pub belongs_here : (t : Tag) (ts : List Tag) (p : ℕ) → t.place ≤ p → p < end_of t → belongs (t ∷ ts) p ≡ true
belongs_here t ts p l h = rw (le-leb t.place p l, lt-ltb p (end_of t) h)

pub belongs_not_here : (t : Tag) (ts : List Tag) (p : ℕ) → p < t.place → belongs ts p ≡ false → belongs (t ∷ ts) p ≡ false
belongs_not_here t ts p l h = rw (lt-leb t.place p l, h)

either : (c : Bool) → pick c true true ≡ true
either true = refl
either false = refl

pub belongs_later : (ts us : List Tag) (p : ℕ) → belongs us p ≡ true → belongs (ts ++ us) p ≡ true
belongs_later [] us p h = h
belongs_later (t ∷ ts) us p h = rw (belongs_later ts us p h) (either (has t p))

pub belongs_sooner : (ts us : List Tag) (p : ℕ) → belongs ts p ≡ true → belongs (ts ++ us) p ≡ true
belongs_sooner [] us p h = clash cc
belongs_sooner (t ∷ ts) us p h = go (has t p) (λ e. belongs_sooner ts us p e) h
  where
    go : (c : Bool) → (belongs ts p ≡ true → belongs (ts ++ us) p ≡ true) → pick c true (belongs ts p) ≡ true → pick c true (belongs (ts ++ us) p) ≡ true
    go true u e = refl
    go false u e = u e

-- ---- the bytes before b belong to none of the tags ts, those from b up to e to one of them
module _ (ts : List Tag) (b e : ℕ) (none : (p : ℕ) → p < b → belongs ts p ≡ false) (some : (p : ℕ) → b ≤ p → p < e → belongs ts p ≡ true) where
  counted : (p n : ℕ) → b ≤ p + n → p + n ≡ e → belonging_to_none ts p n ≡ b - p
  counted p zero l h = omega arith
  counted p (suc n) l h = go (counted (suc p) n (omega arith) (omega arith)) (ltb p b) refl
    where
      go : belonging_to_none ts (suc p) n ≡ b - suc p → (c : Bool) → ltb p b ≡ c → pick (belongs ts p) 0 1 + belonging_to_none ts (suc p) n ≡ b - p
      go u true q = rw (none p (ltb-true p b q)) (omega (arith, ltb-true p b q))
      go u false q = rw (some p (ltb-false p b q) (omega arith)) (omega (arith, ltb-false p b q))

pub own_is : (t : Tag) (ts : List Tag) (b : ℕ) → t.place + t.header_size ≤ b → b ≤ end_of t → ((p : ℕ) → p < b → belongs ts p ≡ false)
    → ((p : ℕ) → b ≤ p → p < end_of t → belongs ts p ≡ true) → own_bytes t ts ≡ b - t.place
unfolding own_bytes
own_is t ts b l h none some = rw (counted ts b (end_of t) none some (t.place + t.header_size) t.body_length h refl) (omega arith)
