-- `reader::tags` meets its contract.
use Rattle.bits.specs.Places.{order_of}
use Rattle.reader.proofs.FileLaws.{fair_file, survey_found, tags_refused, tags_short, tags_done}
use Rattle.reader.proofs.tags.Goals as goal

pub returns-in-Err : goal.returns-in-Err
returns-in-Err c = tags_refused c.args.order c.args.level c.args.file.now c.args.tags.now c.in-Err.fault.why c.in-Err.ensures.found

pub returns-then-tags-counts : goal.returns-then-tags-counts
returns-then-tags-counts c = tags_short c.args.order c.args.level c.args.file.now c.args.tags.now c.in-Ok.ensures.found c.if-tags-counts.true

pub read_tags-requires : goal.read_tags-requires
read_tags-requires c = fair_file c.args.order c.args.level c.args.file.now (survey_found c.args.order c.args.level c.args.file.now c.in-Ok.ensures.found).start

pub returns : goal.returns
returns c = tags_done c.args.order c.args.level c.args.file.now c.args.tags.now (order_of c.in-Ok.counts.order) _ c.in-Ok.ensures.named c.in-Ok.ensures.found c.if-tags-counts.false c.read_tags.ensures.filled
