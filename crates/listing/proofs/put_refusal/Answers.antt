use native.Mathlib.Omega.{arith}
use Rattle.listing.proofs.TextLaws.{laid_so}
use Rattle.listing.proofs.Listed.{refusal_added}
use Rattle.listing.proofs.put_refusal.Goals as goal

pub returns : goal.returns
returns c = (
  laid_so (refusal_added c.args.reason c.args.number c.from.ensures c.word.ensures c.field.ensures.0 c.field-2.ensures.0),
  omega (arith, c.word.ensures.used, c.field.ensures.1, c.field-2.ensures.1),
)
