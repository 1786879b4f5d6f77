-- No second answer fits a promise on a body that was written; and where there is one, no second output. And a field is taken apart in one way.
use Prim.Native.Nat.{ℕ, ◌+◌, ◌*◌, ◌/◌, ◌%◌, ◌^◌}
use mathlib.Core.List.{List}
use Rattle.std.specs.Prelude.{Result, Ok, Err}
use mathlib.Core.Path.{◌≡◌, refl, sym, ap, ◌∙◌}
use lib.Pow as pow
use Rattle.format.specs.Bits.{Order, high, low}
use Rattle.format.specs.Possible.{Possible}
use Rattle.format.proofs.OneLaws.{Same, Tells, answer_one}
use Rattle.sink.specs.Laying.{Split}
use Rattle.sink.specs.Lain.{Lain, lain, lain_as}
use Rattle.bits.specs.declared.BytePlace.{BytePlace}
use Rattle.sink.specs.declared.Impossible.{Impossible}

abbrev output : Lain → List ℕ
output (lain u p) = u

abbrev answer : Lain → Result BytePlace Impossible
answer (lain u p) = Ok (record { 0 = p })

abbrev none : Result BytePlace Impossible
none = Err (record {})

tells : (u : List ℕ) (a : Result BytePlace Impossible) → Tells output answer none (lain_as u a) u a
tells u (Ok p) = (refl, refl)
tells u (Err e) = refl

pub lain_one : (u : List ℕ) (a : Result BytePlace Impossible) (v : List ℕ) (b : Result BytePlace Impossible) {x : Possible Lain} → lain_as u a ≡ x → lain_as v b ≡ x → Same x u a v b
lain_one = answer_one lain_as output answer none tells

pub split_one : (o : Order) (m n v : ℕ) {x y a b : ℕ} → Split o m n v x y → Split o m n v a b → (x ≡ a) × (y ≡ b)
split_one high m n v {x} {y} {a} {b} s t =
    let same : x * 2 ^ n + y ≡ a * 2 ^ n + b = sym s.glued ∙ t.glued in (
      sym (pow.high x n s.last) ∙ ap (λ (z : ℕ). z / 2 ^ n) same ∙ pow.high a n t.last,
      sym (pow.low x n s.last) ∙ ap (λ (z : ℕ). z % 2 ^ n) same ∙ pow.low a n t.last,
    )
split_one low m n v {x} {y} {a} {b} s t =
    let same : y * 2 ^ m + x ≡ b * 2 ^ m + a = sym s.glued ∙ t.glued in (
      sym (pow.low y m s.first) ∙ ap (λ (z : ℕ). z % 2 ^ m) same ∙ pow.low b m t.first,
      sym (pow.high y m s.first) ∙ ap (λ (z : ℕ). z / 2 ^ m) same ∙ pow.high b m t.first,
    )
