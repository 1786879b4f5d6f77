-- `values::keyframes::read_spatial` meets its contract: nothing, or flags that announce Points.
use Rattle.std.proofs.Common.{arith}
use Rattle.table.proofs.ReaderLaws.{reads_then}
use Rattle.values.proofs.ValueLaws.{reads_is, reads_nothing, spatial_none, spatial_some}
use Rattle.values.proofs.keyframes.read_spatial.Goals as goal

pub returns-then-flag-ne7 : goal.returns-then-flag-ne7
returns-then-flag-ne7 c = reads_is (spatial_none c.args.flag c.args.frames c.if-flag-ne7.true) (reads_nothing c.requires.0)

pub returns : goal.returns
returns c = reads_is (spatial_some c.args.flag c.args.frames (omega arith)) (reads_then _ c.align.ensures c.in_ok-align.was c.read_announcing.ensures)
