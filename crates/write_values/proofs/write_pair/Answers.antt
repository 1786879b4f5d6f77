-- `write_values::write_pair` meets its contract.
use Rattle.items.specs.Kinds.{format_of}
use Rattle.spelling.proofs.WriteLaws.{writes_then, writes_failed}
use Rattle.write_values.proofs.write_pair.Goals as goal

pub returns-in_err-one : goal.returns-in_err-one
returns-in_err-one c = writes_failed c.one.ensures.writes (λ xs. format_of c.args.second) c.in_err-one.was c.from_residual.ensures.0

pub returns : goal.returns
returns c = writes_then c.one.ensures.writes (λ xs. format_of c.args.second) c.in_ok-one.was c.one-2.ensures.writes
