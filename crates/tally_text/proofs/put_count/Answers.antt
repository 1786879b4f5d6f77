use native.Mathlib.Omega.{arith}
use Rattle.tally_text.proofs.ReportLaws.{count_none, count_added}
use Rattle.tally_text.proofs.put_count.Goals as goal

pub returns-then-count-eq-UNPRINTED : goal.returns-then-count-eq-UNPRINTED
returns-then-count-eq-UNPRINTED c = (count_none c.args.text.now c.args.code c.args.count c.if-count-eq-UNPRINTED.true, omega arith)

pub returns : goal.returns
returns c = (count_added c.args.code c.args.count c.if-count-eq-UNPRINTED.false c.field.ensures.0 c.field-2.ensures.0, omega (arith, c.field.ensures.1, c.field-2.ensures.1))
