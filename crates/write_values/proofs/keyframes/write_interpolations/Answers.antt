-- `write_values::keyframes::write_interpolations` meets its contract.
use Rattle.std.proofs.Common.{sym, ◌∙◌}
use Rattle.attributes.specs.Rows.{kind_of}
use Rattle.write_values.proofs.ValueLaws.{none_left, some_left, some_eases, none_eases}
use Rattle.write_values.proofs.keyframes.write_interpolations.Goals as goal

pub returns-then-has_interpolations-clause-writes : goal.returns-then-has_interpolations-clause-writes
returns-then-has_interpolations-clause-writes c = some_left c.args.frames (kind_of c.args.kind) c.skip.ensures.writes (sym c.if-has_interpolations.true ∙ c.has_interpolations.ensures) c.fields.ensures.writes

pub returns-then-has_interpolations-clause-counts : goal.returns-then-has_interpolations-clause-counts
returns-then-has_interpolations-clause-counts c = some_eases c.args.writer.now c.skip.new.self c.skip.ensures.placed c.args.frames c.fields.new.self c.fields.result c.skip.ensures.writes.onward.values c.fields.ensures.counts

pub returns-clause-writes : goal.returns-clause-writes
returns-clause-writes c = none_left c.args.frames (kind_of c.args.kind) c.skip.ensures.writes (sym c.if-has_interpolations.false ∙ c.has_interpolations.ensures)

pub returns-clause-counts : goal.returns-clause-counts
returns-clause-counts c = none_eases c.args.writer.now c.skip.new.self c.skip.ensures.placed c.args.frames
