use native.Mathlib.Omega.{arith}
use Rattle.listing.proofs.TextLaws.{laid_so}
use Rattle.tally_text.proofs.ReportLaws.{report_added}
use Rattle.tally_text.proofs.put_tally.Goals as goal

pub returns : goal.returns
returns c = (laid_so (report_added c.args.tally c.put_header.ensures.0 c.put_counts.ensures.0), omega (arith, c.put_header.ensures.1, c.put_counts.ensures.1))
