-- No second answer fits a promise on values that were written; and where there is one, no second output, place or index.
use Rattle.std.proofs.Common.{◌≡◌, refl, sym, ap, ◌∙◌}
use Rattle.std.specs.Prelude.{Result, Ok, Err}
use Rattle.format.specs.Possible.{Possible, this, cannot}
use Rattle.format.proofs.Absurd.{clash}
use Rattle.table.proofs.OneLaws.{OneIf}
use Rattle.sink.specs.declared.Impossible.{Impossible}
use Rattle.spelling.specs.Writing.{Seen, here}
use Rattle.spelling.specs.Writer.{state, seen_of}
use Rattle.spelling.specs.declared.writer.Writer.{Writer}

-- of two answers with their writers, seen alike, at most the writers differ, and these only where no file has the values; and what is told besides
abbrev pub SameLeft : {T : Type 0} → Possible Seen → Writer → Result T Impossible → Writer → Result T Impossible → Type 0
SameLeft (this x) a r b q = (state a ≡ state b) × (a.index ≡ b.index) × OneIf r q
SameLeft cannot a r b q = OneIf r q

-- whatever an answer's value is: it is told besides, by an equation
pub seen_one : {T : Type 0} (a b : Writer) (r q : Result T Impossible) {x : Possible Seen} → seen_of a r ≡ x → seen_of b q ≡ x → SameLeft x a r b q
seen_one a b (Ok r) (Ok q) {x = this (here st k)} e d =
    let z : this (here (state a) a.index) ≡ this (here (state b) b.index) = e ∙ sym d in
    let s : state a ≡ state b = cc in
    let i : a.index ≡ b.index = cc in
    (s, i, λ v. ap Ok (v r q refl refl))
seen_one a b (Ok r) (Ok q) {x = cannot} e d = λ v. ap Ok (v r q refl refl)
seen_one a b (Ok r) (Err q) {x = x} e d = let z : this (here (state a) a.index) ≡ cannot = e ∙ sym d in clash cc
seen_one a b (Err r) (Ok q) {x = x} e d = let z : this (here (state b) b.index) ≡ cannot = d ∙ sym e in clash cc
seen_one a b (Err r) (Err q) {x = this y} e d = let z : cannot ≡ this y = e in clash cc
seen_one a b (Err r) (Err q) {x = cannot} e d = λ v. refl

-- so answers without a value of their own are one
abbrev pub SameDone : Possible Seen → Writer → Result (Unit {0}) Impossible → Writer → Result (Unit {0}) Impossible → Type 0
SameDone (this x) a r b q = (state a ≡ state b) × (a.index ≡ b.index) × (r ≡ q)
SameDone cannot a r b q = r ≡ q

pub seen_done : (a b : Writer) (r q : Result (Unit {0}) Impossible) {x : Possible Seen} → seen_of a r ≡ x → seen_of b q ≡ x → SameDone x a r b q
seen_done a b r q {x = this y} e d = let g = seen_one a b r q {x = this y} e d in (g.0, g.1, g.2 (λ x y d e. refl))
seen_done a b r q {x = cannot} e d = seen_one a b r q {x = cannot} e d (λ x y d e. refl)
