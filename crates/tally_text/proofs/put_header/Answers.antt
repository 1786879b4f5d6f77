use native.Mathlib.Omega.{arith}
use Rattle.tally_text.proofs.ReportLaws.{header_added}
use Rattle.tally_text.proofs.put_header.Goals as goal

pub returns : goal.returns
returns c = (header_added c.args.headers c.word.ensures c.field.ensures.0, omega (arith, c.word.ensures.used, c.field.ensures.1))
