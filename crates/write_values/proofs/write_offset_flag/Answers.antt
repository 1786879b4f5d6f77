-- `write_values::write_offset_flag` meets its contract.
use Rattle.format.specs.Formats.{Item, item, times, the}
use Rattle.spelling.proofs.WriteLaws.{writes_failed, number_then, writes_ok, writes_err}
use Rattle.write_values.proofs.write_offset_flag.Goals as goal

pub returns-in_err-exist : goal.returns-in_err-exist
returns-in_err-exist c = writes_failed c.write_bit.ensures.writes (λ exist. times (the exist) (item (Item.UB 1))) c.in_err-exist.was c.from_residual.ensures.0

pub returns-in_err-fields : goal.returns-in_err-fields
returns-in_err-fields c = number_then c.write_bit.ensures.writes (λ n. times n (item (Item.UB 1))) c.in_ok-exist.was c.in_ok-exist.ensures.counts.0 (writes_err c.fields.ensures.writes c.in_err-fields.was c.from_residual-in_err-fields.ensures.0)

pub returns : goal.returns
returns c = number_then c.write_bit.ensures.writes (λ n. times n (item (Item.UB 1))) c.in_ok-exist.was c.in_ok-exist.ensures.counts.0 (writes_ok c.fields.ensures.writes c.in_ok-fields.was)
