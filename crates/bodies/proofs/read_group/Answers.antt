-- `bodies::read_group` meets its contract: digit 8 of its flag numbers tells whether its list follows.
use mathlib.Core.Path.{sym, ◌∙◌}
use borrow.Author.Tests.{eq-eqb, ne_eqb}
use Rattle.attributes.specs.Rows.{attributes_in}
use Rattle.attributes.proofs.FlagLaws.{rows_many}
use Rattle.reasons.proofs.NumberLaws.{passed_on}
use Rattle.bits.specs.Places.{order_of}
use Rattle.bodies.specs.Leaf.{group, has_list_in}
use Rattle.bodies.proofs.BodyLaws.{group_part, group_list, part_stop, open_stop, open_shows, closed_stop, closed_shows}
use Rattle.bodies.proofs.read_group.Goals as goal

pub returns-in_err-flags : goal.returns-in_err-flags
returns-in_err-flags c = let a = c.args.reader.now in
    part_stop group (group_part c.block_of.ensures.are c.read_block.ensures.lays) (has_list_in (order_of a.order) group a.body.now) c.in_err-flags.was (passed_on c.from_residual.result c.from_residual.ensures.1)

pub returns-in_err-list : goal.returns-in_err-list
returns-in_err-list c =
    open_stop group (group_part c.block_of.ensures.are c.read_block.ensures.lays) c.in_ok-flags.was (group_list (attributes_in c.block_of.result.now) _ c.block_of.ensures.are (sym (rows_many c.block_of.result.now)) c.read_block.ensures.lays c.in_ok-flags.was c.in_ok-flags.ensures.flags ∙ eq-eqb _ _ c.if-flags-eq1.true)
    c.to_byte.ensures.lays c.in_err-list.was (passed_on c.from_residual-in_err-list.result c.from_residual-in_err-list.ensures.1)

pub returns-then-flags-eq1 : goal.returns-then-flags-eq1
returns-then-flags-eq1 c =
    open_shows group (group_part c.block_of.ensures.are c.read_block.ensures.lays) c.in_ok-flags.was (group_list (attributes_in c.block_of.result.now) _ c.block_of.ensures.are (sym (rows_many c.block_of.result.now)) c.read_block.ensures.lays c.in_ok-flags.was c.in_ok-flags.ensures.flags ∙ eq-eqb _ _ c.if-flags-eq1.true)
    c.to_byte.ensures.lays c.in_ok-list.was c.in_ok-list.ensures.byte

pub returns-in_err-end_body : goal.returns-in_err-end_body
returns-in_err-end_body c =
    closed_stop group (group_part c.block_of.ensures.are c.read_block.ensures.lays) c.in_ok-flags.was (group_list (attributes_in c.block_of.result.now) _ c.block_of.ensures.are (sym (rows_many c.block_of.result.now)) c.read_block.ensures.lays c.in_ok-flags.was c.in_ok-flags.ensures.flags ∙ ne_eqb _ _ c.if-flags-eq1.false)
    c.end_body.ensures.lays c.in_err-end_body.was (passed_on c.from_residual-in_err-end_body.result c.from_residual-in_err-end_body.ensures.1)

pub returns : goal.returns
returns c =
    closed_shows group (group_part c.block_of.ensures.are c.read_block.ensures.lays) c.in_ok-flags.was (group_list (attributes_in c.block_of.result.now) _ c.block_of.ensures.are (sym (rows_many c.block_of.result.now)) c.read_block.ensures.lays c.in_ok-flags.was c.in_ok-flags.ensures.flags ∙ ne_eqb _ _ c.if-flags-eq1.false)
    c.end_body.ensures.lays c.in_ok-end_body.was
