-- `table::fields::fitting` meets its contract, by whether all fields stand in the body.
use native.Mathlib.Omega.{arith}
use Rattle.table.proofs.FieldLaws.{run_small, fits_all, fits_some}
use Rattle.table.proofs.fields.fitting.Goals as goal

pub overflow_mul-count : goal.overflow_mul-count
overflow_mul-count c = let a = c.args in omega (arith, run_small a.count a.width c.requires.4 c.requires.3)

pub returns-then-count-width : goal.returns-then-count-width
returns-then-count-width c = let a = c.args in fits_all a.count a.width _ c.requires.2 (omega (arith, c.if-count-width.true))

pub returns-else-count-width : goal.returns-else-count-width
returns-else-count-width c = let a = c.args in fits_some a.count a.width _ c.requires.2 (omega arith) (omega (arith, c.if-count-width.false))
