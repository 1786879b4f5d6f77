-- The tally's answer as a plain struct: nothing is lost.
use Prim.Native.Nat.{ℕ}
use mathlib.Core.List.{List}
use mathlib.Core.Path.{◌≡◌, sym, ◌∙◌}
use Rattle.tally.specs.Adding.{Left}
use Rattle.pag.specs.declared.PagAnswer.{PagAnswer}
use Rattle.pag.specs.Plain.{plain}
use Rattle.pag.specs.PlainTally.{leaves_tally}

-- no second answer, and no second tally, fits
pub tally_one : (x : Left) (counts counts' : List ℕ) (headers headers' : ℕ) (r r' : PagAnswer) → leaves_tally counts headers r x → leaves_tally counts' headers' r' x
    → (r ≡ r') × (counts ≡ counts') × (headers ≡ headers')
tally_one x counts counts' headers headers' r r' p q = (p.0 ∙ sym q.0, p.1 ∙ sym q.1, p.2 ∙ sym q.2)
