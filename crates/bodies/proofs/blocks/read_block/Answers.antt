-- `blocks::read_block` meets its contract: the flags, and then the attributes.
use mathlib.Core.Path.{refl}
use Rattle.reasons.proofs.NumberLaws.{passed_on}
use Rattle.attributes.specs.Rows.{attributes_in}
use Rattle.bodies.proofs.ContentLaws.{block_rows, block_stop, flags_in}
use Rattle.bodies.proofs.BodyLaws.{lays_ok, lays_err}
use Rattle.bodies.proofs.blocks.read_block.Goals as goal

pub returns-in_err-flags-clause-lays : goal.returns-in_err-flags-clause-lays
returns-in_err-flags-clause-lays c = block_stop (attributes_in c.args.rows.now) c.in_err-flags.ensures (passed_on c.from_residual.result c.from_residual.ensures.1)

pub invariant_of-reader : goal.invariant_of-reader
invariant_of-reader c = let a = c.args.reader.now in record { inside = (flags_in a (attributes_in c.args.rows.now) c.in_ok-flags.ensures.0, a.inside.1) }

pub returns-in_err-read_contents-clause-lays : goal.returns-in_err-read_contents-clause-lays
returns-in_err-read_contents-clause-lays c = lays_err (block_rows (attributes_in c.args.rows.now) c.in_ok-flags.flags c.in_ok-flags.ensures.0 (record { order = refl; body = refl; lent = refl }) refl refl refl c.read_contents.ensures) c.in_err-read_contents.was (passed_on c.from_residual-in_err-read_contents.result c.from_residual-in_err-read_contents.ensures.1)

pub returns-clause-lays : goal.returns-clause-lays
returns-clause-lays c = lays_ok (block_rows (attributes_in c.args.rows.now) c.in_ok-flags.flags c.in_ok-flags.ensures.0 (record { order = refl; body = refl; lent = refl }) refl refl refl c.read_contents.ensures) c.in_ok-flags.flags c.in_ok-read_contents.was
