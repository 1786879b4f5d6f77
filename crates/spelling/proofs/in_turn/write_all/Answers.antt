-- `spelling::in_turn::write_all` meets its contract. The loop's invariant: all of them are those that are left from here on, and the index is inside the values.
use Rattle.std.proofs.Common.{rules}
use Rattle.std.specs.Prelude.{Err}
use Rattle.format.specs.Formats.{times}
use Rattle.spelling.specs.Writer.{Writes}
use Rattle.spelling.proofs.InsideLaws.{writes_inside}
use Rattle.spelling.proofs.WriteLaws.{turns_none, turns_all, turns_next, turns_failed}
use Rattle.spelling.proofs.in_turn.write_all.Goals as goal

pub loop-init : goal.loop-init
loop-init g c = (turns_none (g.P.Part.format c.args.part.now) c.args.count c.args.writer.now, c.requires)

pub returns-in-Err-clause-writes : goal.returns-in-Err-clause-writes
returns-in-Err-clause-writes g c =
    let w : Writes {T = Unit {0}} c.args.writer.now c.write.new.writer (Err c.in-Err.refused) (times c.args.count (g.P.Part.format c.args.part.now)) =
    turns_failed (g.P.Part.format c.args.part.now) c.args.count c.loop.counter c.loop.invariant.0 c.loop-test.true c.write.ensures.writes {U = Unit {0}} {q = Err c.in-Err.refused} c.in-Err.is (search rules) in
    record { onward = record { order = w.onward.order; values = w.onward.values; lent = w.onward.lent; size = w.onward.size }; told = w.told }

pub loop-preserved : goal.loop-preserved
loop-preserved g c = (turns_next (g.P.Part.format c.args.part.now) c.args.count c.loop.counter c.loop.invariant.0 c.loop-test.true c.write.ensures.writes c.in-Ok.is, writes_inside c.loop.invariant.1 c.write.ensures.writes c.in-Ok.is)

pub returns-clause-writes : goal.returns-clause-writes
returns-clause-writes g c = turns_all (g.P.Part.format c.args.part.now) c.args.count c.loop.counter c.loop.invariant.0 tt c.loop-test.false
