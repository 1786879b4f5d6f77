-- `reader::read_tags` meets its contract: the classes that are made here are those of the walk.
use mathlib.Core.Path.{sym, ap, ◌∙◌}
use Rattle.std.proofs.Common.{Result, rules}
use Rattle.bits.specs.Places.{order_of}
use Rattle.classes.proofs.FillLaws.{classed}
use Rattle.reasons.proofs.NumberLaws.{passed_on}
use Rattle.lists.specs.Lists.{walked_of, ended_by}
use Rattle.lists.specs.declared.Fault.{Fault}
use Rattle.reader.specs.Survey.{counted}
use Rattle.reader.proofs.FileLaws.{tags_read, left_is}
use Rattle.reader.proofs.read_tags.Goals as goal

pub read_list-requires-clause-tabled : goal.read_list-requires-clause-tabled
read_list-requires-clause-tabled c = let a = c.args in record { scope = a.scope; level = a.level; classed = classed a.scope a.level c.fill_first.ensures }

pub returns-in_err-read_list-clause-filled : goal.returns-in_err-read_list-clause-filled
returns-in_err-read_list-clause-filled c = let a = c.args in
    tags_read 0 a.level a.file.now (order_of a.order) a.scope a.table.now a.rows.now _ (classed a.scope a.level c.fill_first.ensures)
    (left_is 0 a.level a.file.now (let e = sym c.read_list.ensures.same.table in search rules) (let e = sym c.read_list.ensures.same.rows in search rules) (ap counted (passed_on c.from_residual.result c.from_residual.ensures.1) ∙ sym (ap (λ (r : Result Unit Fault). walked_of c.read_list.new.lent.index c.read_list.new.lent.row (ended_by r)) c.in_err-read_list.was)) c.read_list.ensures.left)

pub returns-clause-filled : goal.returns-clause-filled
returns-clause-filled c = let a = c.args in
    tags_read 0 a.level a.file.now (order_of a.order) a.scope a.table.now a.rows.now _ (classed a.scope a.level c.fill_first.ensures)
    (left_is 0 a.level a.file.now (let e = sym c.read_list.ensures.same.table in search rules) (let e = sym c.read_list.ensures.same.rows in search rules) (sym (ap (λ (r : Result Unit Fault). walked_of c.read_list.new.lent.index c.read_list.new.lent.row (ended_by r)) c.in_ok-read_list.was)) c.read_list.ensures.left)
