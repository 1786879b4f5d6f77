-- No second answer fits the promise on a tag list that was written; and where there is one, no second output.
use Prim.Native.Nat.{ℕ}
use mathlib.Core.List.{List}
use mathlib.Core.Path.{◌≡◌, refl}
use Rattle.format.specs.Possible.{Possible}
use Rattle.format.proofs.OneLaws.{Same, Tells, answer_one}
use Rattle.write_lists.specs.Stood.{Stood, stood, stood_as}
use Rattle.std.specs.Prelude.{Result, Ok, Err}
use Rattle.sink.specs.declared.Impossible.{Impossible}
use Rattle.write_lists.specs.declared.Reached.{Reached}

abbrev output : Stood → List ℕ
output (stood u a k) = u

abbrev answer : Stood → Result Reached Impossible
answer (stood u a k) = Ok (record { place = record { 0 = a }; index = k })

abbrev none : Result Reached Impossible
none = Err (record {})

tells : (u : List ℕ) (a : Result Reached Impossible) → Tells output answer none (stood_as u a) u a
tells u (Ok r) = (refl, refl)
tells u (Err e) = refl

pub stood_one : (u : List ℕ) (a : Result Reached Impossible) (v : List ℕ) (b : Result Reached Impossible) {x : Possible Stood} → stood_as u a ≡ x → stood_as v b ≡ x → Same x u a v b
stood_one = answer_one stood_as output answer none tells
