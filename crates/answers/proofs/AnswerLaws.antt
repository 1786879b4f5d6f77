-- No second answer fits a promise that says what a call leaves; and what a call leaves that has numbers to show.
use mathlib.Core.List.{List, ◌++◌}
use mathlib.Core.Path.{◌≡◌, ap, ◌∙◌}
use Prim.Native.Nat.{ℕ, ◌≤◌, ◌<◌}
use lib.ListN.{length, drop}
use borrow.Author.Tests.{le-leb, lt-leb}
use Rattle.format.specs.Reasons as paper
use Rattle.reasons.specs.declared.Reason.TheVariants.{TableTooShort}
use Rattle.reasons.specs.Numbers.{number_of}
use Rattle.reasons.proofs.NumberLaws.{number_one}
use Rattle.answers.specs.declared.Answer.{Answer}
use Rattle.answers.specs.declared.Answer.TheVariants.{Accepted, Refused}
use Rattle.answers.specs.Answers.{answer_of, leaves}

pub answer_one : (a b : Answer) → answer_of a ≡ answer_of b → a ≡ b
answer_one (Accepted n) (Accepted n') e = cc
answer_one (Accepted n) (Refused r k) e = cc
answer_one (Refused r k) (Accepted n) e = cc
answer_one (Refused r k) (Refused r' k') e = let n : number_of r ≡ number_of r' = cc in let q : r ≡ r' = number_one r r' n in cc

-- the answers and the lent memory are equal
pub leaves_one : (m m' : List ℕ) (a b : Answer) → leaves m a ≡ leaves m' b → (m ≡ m') × (a ≡ b)
leaves_one m m' a b e = (ap (λ (l : paper.Left). l.lent) e, answer_one a b (ap (λ (l : paper.Left). l.answer) e))

-- a call that has the numbers ns to show, with the memory m lent to it: they stand in front of it, or there is no room for them
pub record Shows (ns m m' : List ℕ) (r : Answer) : Type 0 where
  pub room : length ns ≤ length m → (r ≡ Accepted (length ns)) × (m' ≡ ns ++ drop (length ns) m)
  pub full : length m < length ns → (r ≡ Refused TableTooShort (length ns)) × (m' ≡ m)

pub shows : (ns m : List ℕ) {m' : List ℕ} (r : Answer) → leaves m' r ≡ paper.into m (paper.gives ns) → Shows ns m m' r
shows ns m {m'} r p = record {
  room = λ h. let e = leaves_one m' (ns ++ drop (length ns) m) r (Accepted (length ns)) (p ∙ rw (le-leb (length ns) (length m) h)) in (e.1, e.0);
  full = λ h. let e = leaves_one m' m r (Refused TableTooShort (length ns)) (p ∙ rw (lt-leb (length ns) (length m) h)) in (e.1, e.0);
}
