use native.Mathlib.Omega.{arith}
use Rattle.listing.proofs.TextLaws.{tabbed_next}
use Rattle.listing.proofs.fields.Text.tabbed.Goals as goal

pub loop-value-preserved : goal.loop-value-preserved
loop-value-preserved c = (tabbed_next c.args.values.now c.loop-value.value-index (omega arith) c.loop-value.invariant.0 c.field.ensures.0, omega (arith, c.field.ensures.1, c.loop-value.invariant.1))
