use mathlib.Core.Path.{refl}
use Rattle.listing.proofs.StepLaws.{taken_as, step_first, step_head, step_value}
use Rattle.listing.proofs.Tables.put_step.Goals as goal

pub returns-then-cursor-eq0 : goal.returns-then-cursor-eq0
returns-then-cursor-eq0 c = (taken_as (step_first _ _ c.args.self.now.rows.now c.args.cursor c.if-cursor-eq0.true) (record { text = c.put_first.ensures.0; next = refl }), c.put_first.ensures.1)

pub returns-then-cursor-eq0-2 : goal.returns-then-cursor-eq0-2
returns-then-cursor-eq0-2 c = (taken_as (step_head _ _ _ c.args.cursor c.if-cursor-eq0.false c.if-cursor-eq0-2.true) c.put_head.ensures.0, c.put_head.ensures.1)

pub returns : goal.returns
returns c = (taken_as (step_value _ _ _ c.args.cursor c.if-cursor-eq0.false c.if-cursor-eq0-2.false) c.put_value.ensures.0, c.put_value.ensures.1)
