-- `table::Reader::in_turn` meets its contract: what is left of the n parts is read from here.
use Rattle.reasons.proofs.NumberLaws.{passed_on}
use Rattle.table.proofs.ReaderLaws.{on_next, on_stop, on_done, times_turn, times_over}
use Rattle.table.proofs.reader.Reader.in_turn.Goals as goal

pub returns-in_err-read : goal.returns-in_err-read
returns-in_err-read g c =
    on_stop c.loop.invariant (times_turn c.args.count c.loop.counter (g.P.Part.format c.args.part.now) c.loop-test.true) c.read.ensures c.in_err-read.was (passed_on c.from_residual.result c.from_residual.ensures.1)

pub loop-preserved : goal.loop-preserved
loop-preserved g c = on_next c.loop.invariant (times_turn c.args.count c.loop.counter (g.P.Part.format c.args.part.now) c.loop-test.true) c.read.ensures c.in_ok-read.was

pub returns : goal.returns
returns g c = on_done c.loop.invariant (times_over c.args.count c.loop.counter (g.P.Part.format c.args.part.now) c.loop-test.false)
