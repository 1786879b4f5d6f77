use Rattle.std.proofs.Common.{◌^◌, ◌<◌, drop}
use Rattle.attributes.specs.Rows.{attributes_in}
use Rattle.write_blocks.proofs.FillLaws.{Filling}
use Rattle.write_blocks.proofs.write_contents.Given as goal

-- in a loop the flags are taken apart: what their type says of them stands here
abbrev pub invariant-loop-row : goal.invariant-loop-row
invariant-loop-row l = (held : l.flags.0 < 2 ^ l.flags.1.0) × Filling l.initial.writer (attributes_in l.rows) l.writer (record { bits = l.flags.0; width = l.flags.1.0; held = held }) (attributes_in (drop l.row-index l.rows))
