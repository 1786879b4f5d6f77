-- `reader::read` meets its contract.
use Rattle.bits.specs.Places.{order_of}
use Rattle.reader.proofs.FileLaws.{fair_file, survey_found, read_refused, read_short, read_done}
use Rattle.reader.proofs.read.Goals as goal

pub returns-in-Err : goal.returns-in-Err
returns-in-Err c = read_refused c.args.order c.args.level c.args.file.now c.args.table.now c.in-Err.fault.why c.in-Err.ensures.found

pub returns-then-table-counts : goal.returns-then-table-counts
returns-then-table-counts c = read_short c.args.order c.args.level c.args.file.now c.args.table.now c.in-Ok.ensures.found c.if-table-counts.true

pub read_tags-requires : goal.read_tags-requires
read_tags-requires c = fair_file c.args.order c.args.level c.args.file.now (survey_found c.args.order c.args.level c.args.file.now c.in-Ok.ensures.found).start

pub returns : goal.returns
returns c = read_done c.args.order c.args.level c.args.file.now c.args.table.now (order_of c.in-Ok.counts.order) _ c.in-Ok.ensures.named c.in-Ok.ensures.found c.if-table-counts.false c.byte_at.ensures.0 c.read_tags.ensures.filled
