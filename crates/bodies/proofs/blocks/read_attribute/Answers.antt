use Rattle.std.proofs.Common.{refl}
use Rattle.attributes.specs.Rows.{attribute_of}
use Rattle.bodies.proofs.ContentLaws.{attribute_read}
use Rattle.bodies.proofs.blocks.read_attribute.Goals as goal

pub returns : goal.returns
returns c = attribute_read (attribute_of c.args.row) c.args.flag c.requires (record { order = refl; body = refl; lent = refl }) c.put.ensures refl refl c.read_content.ensures
