-- No second answer fits a promise that says what a call on a reader reads: it tells the lent table, the index, the answer, and the place where there is one.
use Rattle.std.proofs.Common.{◌≡◌, refl, sym, ap, ◌∙◌, Result, Ok, Err}
use Rattle.std.specs.Prelude.{IfOk}
use Rattle.format.specs.Formats.{Format}
use Rattle.format.proofs.Absurd.{clash}
use Rattle.reasons.specs.declared.Reason.{Reason}
use Rattle.reasons.specs.Numbers.{number_of}
use Rattle.reasons.proofs.NumberLaws.{number_one}
use Rattle.table.specs.State.{State}
use Rattle.table.specs.Readers.{state_of, Reads}
use Rattle.table.specs.declared.reader.Reader.{Reader}

-- two answers are one if their values are: whether they are refused, and why, is told
abbrev pub OneIf : {T E : Type 0} → Result T E → Result T E → Type 0
OneIf {T} {E} r s = ((x y : T) → r ≡ Ok x → s ≡ Ok y → x ≡ y) → r ≡ s

-- how two readings ended tells that much of their answers, and the place where there is one
pub ended_one : {T : Type 0} (a b : Reader) (r s : Result T Reason) → (state_of a r).ended ≡ (state_of b s).ended → OneIf r s × IfOk r (λ x. a.place.0 ≡ b.place.0)
ended_one a b (Ok x) (Ok y) z = (λ v. ap Ok (v x y refl refl), cc)
ended_one a b (Ok x) (Err e) z = clash cc
ended_one a b (Err e) (Ok x) z = clash cc
ended_one a b (Err e) (Err d) z = let n : number_of e ≡ number_of d = cc in (λ v. ap Err (number_one e d n), tt)

-- whatever an answer's value is: it is told besides, by an equation
pub one_run : {T : Type 0} {old a b : Reader} {f : Format} (r s : Result T Reason) → Reads old a r f → Reads old b s f
    → (a.table.now ≡ b.table.now) × (a.index ≡ b.index) × OneIf r s × IfOk r (λ x. a.place.0 ≡ b.place.0)
one_run {T} {old} {a} {b} r s h k =
    let e : state_of a r ≡ state_of b s = h.left ∙ sym k.left in
    let g = ended_one a b r s (ap (λ (z : State). z.ended) e) in
    (ap (λ (z : State). z.table) e, ap (λ (z : State). z.count) e, g.0, g.1)

-- so answers without a value of their own are one
pub one_done : {old a b : Reader} {f : Format} (r s : Result (Unit {0}) Reason) → Reads old a r f → Reads old b s f
    → (a.table.now ≡ b.table.now) × (a.index ≡ b.index) × (r ≡ s) × IfOk r (λ x. a.place.0 ≡ b.place.0)
one_done r s h k = let g = one_run r s h k in (g.0, g.1, g.2 (λ x y d e. refl), g.3)
