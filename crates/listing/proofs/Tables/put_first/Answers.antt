use native.Mathlib.Omega.{arith}
use Rattle.listing.proofs.StepLaws.{first_added}
use Rattle.listing.proofs.Tables.put_first.Goals as goal

pub returns : goal.returns
returns c = (
  first_added c.args.self.now.len c.number_at.result c.args.self.now.table.now c.word.ensures c.tabbed.ensures.0 c.number_at.ensures c.field.ensures.0,
  omega (arith, c.word.ensures.used, c.tabbed.ensures.1, c.field.ensures.1),
)
