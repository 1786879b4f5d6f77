-- `Writer::go_on` meets its contract: places only count up to the longest file.
use Rattle.std.proofs.Common.{sym}
use Rattle.spelling.proofs.RunLaws.{ends_in, ends_out}
use Rattle.spelling.proofs.writer.Writer.go_on.Goals as goal

pub returns-then-sink-gt134217728-clause-ended : goal.returns-then-sink-gt134217728-clause-ended
returns-then-sink-gt134217728-clause-ended c = sym (ends_out _ c.args.behind c.if-sink-gt134217728.true)

pub returns-clause-ended : goal.returns-clause-ended
returns-clause-ended c = sym (ends_in _ c.args.behind c.if-sink-gt134217728.false)
