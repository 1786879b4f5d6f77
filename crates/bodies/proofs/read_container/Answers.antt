-- `bodies::read_container` meets its contract: a group by its flags, and others up to their lists.
use mathlib.Core.Bool.{true, false}
use mathlib.Core.Path.{refl}
use Rattle.reasons.proofs.NumberLaws.{passed_on}
use Rattle.bodies.specs.Leaf.{body_by}
use Rattle.bodies.proofs.BodyLaws.{container_group, container_items, part_stop, open_stop, open_shows}
use Rattle.bodies.proofs.read_container.Goals as goal

pub returns-then-code-eq15 : goal.returns-then-code-eq15
returns-then-code-eq15 c = container_group c.args.code c.if-code-eq15.true c.read_group.ensures

pub returns-in_err-read_part : goal.returns-in_err-read_part
returns-in_err-read_part c = container_items c.args.code c.if-code-eq15.false (part_stop (body_by false c.args.code) c.read_part.ensures true c.in_err-read_part.was (passed_on c.from_residual.result c.from_residual.ensures.1))

pub returns-in_err-list : goal.returns-in_err-list
returns-in_err-list c = container_items c.args.code c.if-code-eq15.false (open_stop (body_by false c.args.code) c.read_part.ensures c.in_ok-read_part.was refl c.to_byte.ensures.lays c.in_err-list.was (passed_on c.from_residual-in_err-list.result c.from_residual-in_err-list.ensures.1))

pub returns : goal.returns
returns c = container_items c.args.code c.if-code-eq15.false (open_shows (body_by false c.args.code) c.read_part.ensures c.in_ok-read_part.was refl c.to_byte.ensures.lays c.in_ok-list.was c.in_ok-list.ensures.byte)
