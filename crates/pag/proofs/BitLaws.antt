-- The bit reader's field as a plain struct: nothing is lost.
use Prim.Native.Nat.{ℕ}
use mathlib.Core.Path.{◌≡◌}
use Rattle.format.specs.Items.{Num}
use Rattle.format.proofs.Promises.{one_answer}
use Rattle.pag.specs.declared.PagField.{PagField}
use Rattle.pag.specs.PlainBits.{plain_field}

-- no second answer fits
pub bits_one : (p : ℕ) (x : Num) (r r' : PagField) → r ≡ plain_field p x → r' ≡ plain_field p x → r ≡ r'
bits_one p x = one_answer (λ r. r) (λ r r' e. e) (plain_field p x)
