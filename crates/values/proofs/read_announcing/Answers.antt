-- `values::read_announcing` meets its contract: the fields, and then as many as they announce.
use Rattle.std.proofs.Common.{ap}
use Rattle.format.specs.Items.{scaled}
use Rattle.table.specs.Fields.{reason_told}
use Rattle.table.proofs.ReaderLaws.{reads_then}
use Rattle.values.proofs.ValueLaws.{reads_is}
use Rattle.values.proofs.read_announcing.Goals as goal

pub returns : goal.returns
returns c = reads_then _ c.fields.ensures.reads (ap reason_told c.in_ok-announced.was) (reads_is (ap scaled c.in_ok-announced.ensures.counts.0) c.scaled.ensures)
