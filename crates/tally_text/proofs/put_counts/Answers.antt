use native.Mathlib.Omega.{arith}
use Rattle.tally_text.proofs.ReportLaws.{counts_next, counts_done}
use Rattle.tally_text.proofs.put_counts.Goals as goal

pub loop-code-preserved : goal.loop-code-preserved
loop-code-preserved c = (counts_next c.args.counts.now c.loop-code.code (omega arith) c.loop-code.invariant.0 c.put_count.ensures.0, omega (arith, c.put_count.ensures.1, c.loop-code.invariant.1))

pub returns : goal.returns
returns c = (counts_done c.args.counts.now c.loop-code.code (omega arith) c.loop-code.invariant.0, omega (arith, c.loop-code.invariant.1))
