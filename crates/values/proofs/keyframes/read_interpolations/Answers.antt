-- `values::keyframes::read_interpolations` meets its contract: the skip, and then fields of two bits, if the kind has them.
use Rattle.std.proofs.Common.{sym, ap, ◌∙◌, arith}
use Rattle.attributes.specs.Rows.{kind_of}
use Rattle.attributes.proofs.ContentLaws.{interpolations_none}
use Rattle.reasons.proofs.NumberLaws.{passed_on}
use Rattle.table.specs.Fields.{sum_told, reason_told}
use Rattle.table.proofs.ReaderLaws.{reads_then, reads_stop}
use Rattle.values.proofs.ValueLaws.{reads_is, reads_nothing, eases_some, eases_none, eases_never}
use Rattle.values.proofs.keyframes.read_interpolations.Goals as goal

pub returns-in_err-align-clause-reads : goal.returns-in_err-align-clause-reads
returns-in_err-align-clause-reads c = reads_stop _ c.align.ensures c.in_err-align.was (ap reason_told (passed_on c.from_residual.result c.from_residual.ensures.1))

pub returns-in_err-align-clause-counts : goal.returns-in_err-align-clause-counts
returns-in_err-align-clause-counts c = let e = ap sum_told (passed_on c.from_residual.result c.from_residual.ensures.1) in
    let k = eases_never c.align.ensures c.in_err-align.was (kind_of c.args.kind) c.args.frames in (e ∙ k.0, omega (arith, e))

pub returns-then-has_interpolations-clause-counts : goal.returns-then-has_interpolations-clause-counts
returns-then-has_interpolations-clause-counts c = eases_some c.align.ensures c.in_ok-align.was (kind_of c.args.kind) c.args.frames (sym c.if-has_interpolations.true ∙ c.has_interpolations.ensures) c.fields.ensures.counts

pub returns-clause-reads : goal.returns-clause-reads
returns-clause-reads c = let k = kind_of c.args.kind in
    reads_then _ c.align.ensures c.in_ok-align.was (reads_is (sym (interpolations_none k c.args.frames (sym c.if-has_interpolations.false ∙ c.has_interpolations.ensures))) (reads_nothing c.in_ok-align.ensures.room))

pub returns-clause-counts : goal.returns-clause-counts
returns-clause-counts c = eases_none c.align.ensures c.in_ok-align.was (kind_of c.args.kind) c.args.frames (sym c.if-has_interpolations.false ∙ c.has_interpolations.ensures)
