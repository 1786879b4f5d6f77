-- `bits::fields::cut_out` meets its contract: high first the bytes are turned, and what stands behind the field is below it.
use Rattle.bits.proofs.fields.cut_out.Goals as goal

pub returns-in-HighFirst : goal.returns-in-HighFirst
returns-in-HighFirst c = rw (c.in-HighFirst.is, ← c.turned.ensures) c.cut.ensures

pub returns-in-LowFirst : goal.returns-in-LowFirst
returns-in-LowFirst c = rw c.in-LowFirst.is c.cut-in-LowFirst.ensures
