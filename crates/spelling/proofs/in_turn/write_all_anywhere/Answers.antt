-- `spelling::in_turn::write_all_anywhere` meets its contract. The loop's invariant: all of them are those that are left from here on.
use Rattle.spelling.proofs.WriteLaws.{turns_none, turns_all, turns_next, turns_failed}
use Rattle.spelling.proofs.in_turn.write_all_anywhere.Goals as goal

pub loop-init : goal.loop-init
loop-init g c = turns_none (g.P.PartAnywhere.format c.args.part.now) c.args.count c.args.writer.now

pub returns-in_err-write_anywhere : goal.returns-in_err-write_anywhere
returns-in_err-write_anywhere g c = record { writes = turns_failed (g.P.PartAnywhere.format c.args.part.now) c.args.count c.loop.counter c.loop.invariant c.loop-test.true c.write_anywhere.ensures.writes c.in_err-write_anywhere.was c.from_residual.ensures.0 }

pub loop-preserved : goal.loop-preserved
loop-preserved g c = turns_next (g.P.PartAnywhere.format c.args.part.now) c.args.count c.loop.counter c.loop.invariant c.loop-test.true c.write_anywhere.ensures.writes c.in_ok-write_anywhere.was

pub returns : goal.returns
returns g c = record { writes = turns_all (g.P.PartAnywhere.format c.args.part.now) c.args.count c.loop.counter c.loop.invariant tt c.loop-test.false }
