-- `write_lists::values_end` meets its contract.
use Rattle.std.proofs.Common.{refl, arith}
use Rattle.write_lists.proofs.TagLaws.{end_few, end_cut, end_state}
use Rattle.write_lists.proofs.values_end.Goals as goal

pub returns-then-rest-lt3 : goal.returns-then-rest-lt3
returns-then-rest-lt3 c = end_few c.args.claimed c.args.class c.args.table.now c.args.index c.if-rest-lt3.true

pub returns-then-rest-count : goal.returns-then-rest-count
returns-then-rest-count c = end_cut c.args.claimed c.args.class c.args.table.now c.args.index c.if-rest-lt3.false (omega (arith, c.if-rest-count.true))

pub returns-then-state : goal.returns-then-state
returns-then-state c = end_state c.args.claimed c.args.class c.args.table.now c.args.index c.if-rest-lt3.false (omega (arith, c.if-rest-count.false)) (λ e. omega (arith, c.if-state.true, c.state.ensures))

pub returns : goal.returns
returns c = record { some = c.if-rest-lt3.false; all = omega (arith, c.if-rest-count.false); state = omega (arith, c.if-state.false, c.state.ensures); end = refl }
