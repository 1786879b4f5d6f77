-- `Walk::show_tag` meets its contract: the row, the numbers, and what comes after them.
use mathlib.Core.Path.{refl, sym, ap, ◌∙◌}
use native.Mathlib.Omega.{arith}
use Rattle.std.proofs.Common.{Ok, rules}
use Rattle.bits.specs.Places.{order_of}
use Rattle.reasons.proofs.NumberLaws.{passed_on}
use Rattle.lists.specs.Lists.{step_with, step_as}
use Rattle.lists.proofs.StepLaws.{steps_are, tag_stop, tag_shown_lem, tag_open}
use Rattle.lists.proofs.walk.Walk.show_tag.Goals as goal

pub returns-in_err-inner : goal.returns-in_err-inner
returns-in_err-inner c = let a = c.args in
    steps_are (record { table = refl; rows = refl }) refl (let e = sym c.show_tag.ensures.lays.same.lent in search rules) refl (ap (step_as a.lent.now.index) (passed_on c.from_residual.result c.from_residual.ensures.1))
    (tag_stop (order_of a.self.now.order) a.class a.list.now.depths a.list.now.at.0 a.list.now.room.now a.place.0 a.lent.now.table.now a.lent.now.index a.lent.now.rows.now a.lent.now.row a.header refl refl refl c.show_row.ensures (omega (arith, c.requires.0)) refl refl c.show_tag.ensures c.in_err-inner.was)

pub returns-in-Some : goal.returns-in-Some
returns-in-Some c = let a = c.args in
    steps_are (record { table = refl; rows = refl }) refl (let e = sym c.show_tag.ensures.lays.same.lent in search rules) refl refl
    (tag_open (order_of a.self.now.order) a.class a.list.now.depths a.list.now.at.0 a.list.now.room.now a.place.0 a.lent.now.table.now a.lent.now.index a.lent.now.rows.now a.lent.now.row a.header refl refl refl c.show_row.ensures (omega (arith, c.requires.0)) refl refl c.show_tag.ensures (c.in_ok-inner.was ∙ ap Ok c.in-Some.is))

pub returns-in-None : goal.returns-in-None
returns-in-None c = let a = c.args in
    steps_are (record { table = refl; rows = refl }) refl (let e = sym c.show_tag.ensures.lays.same.lent in search rules) refl (ap (step_with c.show_tag.new.reader.index) c.next_step.ensures)
    (tag_shown_lem (order_of a.self.now.order) a.class a.list.now.depths a.list.now.at.0 a.list.now.room.now a.place.0 a.lent.now.table.now a.lent.now.index a.lent.now.rows.now a.lent.now.row a.header refl refl refl c.show_row.ensures (omega (arith, c.requires.0)) refl refl c.show_tag.ensures (c.in_ok-inner.was ∙ ap Ok c.in-None.is))
