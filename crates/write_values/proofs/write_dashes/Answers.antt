-- `write_values::write_dashes` meets its contract.
use Rattle.std.proofs.Common.{refl}
use Rattle.format.specs.Formats.{Item, item, ◌▸◌}
use Rattle.values.specs.Parts.{offset_flag}
use Rattle.spelling.proofs.WriteLaws.{writes_then, writes_failed}
use Rattle.write_values.proofs.write_dashes.Goals as goal

pub returns-in_err-dash_length : goal.returns-in_err-dash_length
returns-in_err-dash_length c = writes_then c.skip.ensures.writes (λ xs. item Item.dash_length ▸ offset_flag) refl (writes_failed c.dash_length.ensures.writes (λ xs. offset_flag) c.in_err-dash_length.was c.from_residual.ensures.0)

pub returns : goal.returns
returns c = writes_then c.skip.ensures.writes (λ xs. item Item.dash_length ▸ offset_flag) refl (writes_then c.dash_length.ensures.writes (λ xs. offset_flag) c.in_ok-dash_length.was c.write_offset_flag.ensures)
