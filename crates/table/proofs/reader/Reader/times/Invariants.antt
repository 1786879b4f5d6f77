use Rattle.std.proofs.Common.{◌≡◌, ◌-◌}
use Rattle.format.specs.Formats.{times}
use Rattle.items.specs.Kinds.{format_of}
use Rattle.items.specs.declared.Item.TheVariants.{Time}
use Rattle.table.proofs.ReaderLaws.{OnWay}
use Rattle.table.proofs.reader.Reader.times.Given as goal

abbrev pub invariant-loop : goal.invariant-loop
invariant-loop l = OnWay l.fn.self l.self (times l.count (format_of Time)) (times (l.count - l.counter) (format_of Time)) × (l.self.place.0 ≡ l.place.bit.0)
