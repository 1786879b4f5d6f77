use mathlib.Core.Path.{refl, ap}
use Rattle.format.specs.Reasons.{Left}
use Rattle.printing.proofs.SinglesLaws.{left_refused, left_steps, left_singles}
use Rattle.printing.proofs.print_singles.Goals as goal
use Rattle.printing.proofs.print_singles.Goals.{in-Refused-default, in-Refused-default-2}

pub returns-in-Accepted-Accepted-clause-table_after : goal.returns-in-Accepted-Accepted-clause-table_after
returns-in-Accepted-Accepted-clause-table_after g c = left_singles c.args.file.now c.args.table.now c.args.rows.now c.read-read.ensures c.in-Accepted-Accepted.is-0 c.tags-tagged.ensures c.in-Accepted-Accepted.is-1 c.print_converted.ensures refl

pub returns-in-Refused-default-clause-table_after : goal.returns-in-Refused-default-clause-table_after
returns-in-Refused-default-clause-table_after g c =
    elim c.in-Refused-default-1.branch [
      | in-Refused-default w ↦ left_steps c.args.file.now c.args.table.now c.args.rows.now (ap (λ (l : Left). l.lent) c.read-read.ensures) c.tags-tagged.ensures w.in-Refused-default.is-1
      | in-Refused-default-2 w ↦ left_refused c.args.file.now c.args.table.now c.args.rows.now c.read-read.ensures w.in-Refused-default.is-0
    ]
