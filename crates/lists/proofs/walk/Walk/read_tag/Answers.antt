-- `Walk::read_tag` meets its contract: the header as it stands, the class of its code, and whether it passes.
use mathlib.Core.Path.{refl, sym, ap}
use Rattle.bits.specs.Places.{order_of}
use Rattle.reasons.proofs.NumberLaws.{passed_on}
use Rattle.headers.proofs.HeadLaws.{stands_at_lem, head_passes, head_refused}
use Rattle.lists.specs.Lists.{step_as, tag_at}
use Rattle.tags.specs.Lent.{class_in}
use Rattle.lists.proofs.StepLaws.{steps_are, steps_as, tag_none, tag_in_lem}
use Rattle.lists.proofs.walk.Walk.read_tag.Goals as goal

pub returns-in_err-passes : goal.returns-in_err-passes
returns-in_err-passes c = let a = c.args in let class = class_in a.self.now.classes.now c.in_ok-header.header.code in
    steps_are (record { table = refl; rows = refl }) refl refl refl (ap (step_as a.lent.now.index) (passed_on c.from_residual-in_err-passes.result c.from_residual-in_err-passes.ensures.1))
    (tag_in_lem (order_of a.self.now.order) a.self.now.classes.now a.list.now.depths a.list.now.at.0 a.list.now.room.now a.place.0 a.lent.now.table.now a.lent.now.index a.lent.now.rows.now a.lent.now.row refl (stands_at_lem a.list.now.room.now a.place.0 c.in_ok-header.header c.in_ok-header.ensures.0).coded
    (tag_none (order_of a.self.now.order) class a.list.now.depths a.list.now.at.0 a.list.now.room.now a.place.0 a.lent.now.table.now a.lent.now.index a.lent.now.rows.now a.lent.now.row
    (head_refused class a.list.now.depths a.list.now.room.now a.place.0 (stands_at_lem a.list.now.room.now a.place.0 c.in_ok-header.header c.in_ok-header.ensures.0) refl c.in_err-passes.field-0.0 c.in_err-passes.ensures)))

pub returns : goal.returns
returns c = let a = c.args in let class = class_in a.self.now.classes.now c.in_ok-header.header.code in
    steps_as c.show_tag.ensures
    (tag_in_lem (order_of a.self.now.order) a.self.now.classes.now a.list.now.depths a.list.now.at.0 a.list.now.room.now a.place.0 a.lent.now.table.now a.lent.now.index a.lent.now.rows.now a.lent.now.row refl (stands_at_lem a.list.now.room.now a.place.0 c.in_ok-header.header c.in_ok-header.ensures.0).coded
    (ap (tag_at (order_of a.self.now.order) class a.list.now.depths a.list.now.at.0 a.list.now.room.now a.place.0 a.lent.now.table.now a.lent.now.index a.lent.now.rows.now a.lent.now.row) (sym (head_passes class a.list.now.depths a.list.now.room.now a.place.0 (stands_at_lem a.list.now.room.now a.place.0 c.in_ok-header.header c.in_ok-header.ensures.0) refl c.in_ok-passes.ensures refl))))
