-- `sink::split` meets its contract.
use Rattle.sink.proofs.LayingLaws.{split_high, split_low}
use Rattle.sink.proofs.split.Goals as goal

pub returns-in-HighFirst : goal.returns-in-HighFirst
returns-in-HighFirst c = rw c.in-HighFirst.is (split_high c.args.before c.args.behind c.args.value c.power-unit.result c.requires.1 c.power-unit.ensures.0)

pub returns-in-LowFirst : goal.returns-in-LowFirst
returns-in-LowFirst c = rw c.in-LowFirst.is (split_low c.args.before c.args.behind c.args.value c.power-unit-in-LowFirst.result c.requires.1 c.power-unit-in-LowFirst.ensures.0)
