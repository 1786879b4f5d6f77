-- `values::read_path` meets its contract: the count, and then the verbs and what they announce.
use Rattle.table.proofs.ReaderLaws.{reads_item}
use Rattle.values.proofs.ValueLaws.{reads_is, path_is}
use Rattle.values.proofs.read_path.Goals as goal

pub returns : goal.returns
returns c = reads_item _ c.item.ensures.reads c.in_ok-count.was c.in_ok-count.ensures.shown (reads_is (path_is c.in_ok-count.count) c.read_announcing.ensures)
