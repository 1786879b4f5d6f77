-- `Writer::skip` meets its contract.
use Rattle.std.proofs.Common.{refl, sym}
use Rattle.bits.specs.Places.{order_of}
use Rattle.spelling.specs.Writer.{state}
use Rattle.spelling.proofs.RunLaws.{skip_fine, ran_align}
use Rattle.spelling.proofs.writer.Writer.skip.Goals as goal

pub invariant_of-self : goal.invariant_of-self
invariant_of-self c = let a = c.args.self.now in record { fine = skip_fine (order_of a.order) (state a) a.fine.1 c.align-start.ensures }

pub returns-clause-writes : goal.returns-clause-writes
returns-clause-writes c = let a = c.args.self.now in record {
  onward = record { order = refl; values = refl; lent = refl; size = c.align-start.auto.out };
  told = sym (ran_align (order_of a.order) a.values.now (state a) a.index a.fine.1 c.align-start.ensures.laid);
}

pub returns-clause-laid : goal.returns-clause-laid
returns-clause-laid c = c.align-start.ensures.laid
