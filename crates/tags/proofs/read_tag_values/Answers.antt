-- `tags::read_tag_values` meets its contract, by the class that the `match` tells.
use mathlib.Core.Path.{refl}
use Rattle.classes.specs.declared.Class.TheVariants.{Opaque, End}
use Rattle.tags.proofs.TagLaws.{packed_shown, none_shown, values_of_lem}
use Rattle.tags.proofs.read_tag_values.Goals as goal

pub returns-in-Opaque : goal.returns-in-Opaque
returns-in-Opaque c = values_of_lem c.args.code Opaque c.in-Opaque.is (packed_shown (record { order = refl; body = refl; lent = refl }) c.pack_bytes.ensures refl c.requires.place)

pub returns-in-End : goal.returns-in-End
returns-in-End c = values_of_lem c.args.code End c.in-End.is (none_shown c.args.reader.now c.requires.place)
