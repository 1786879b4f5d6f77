-- `blocks::read_content` meets its contract, by what the flag number tells.
use Rattle.format.specs.Bodies.{value, keyframed, content}
use Rattle.attributes.specs.Rows.{kind_of, type_of, attribute_of}
use Rattle.attributes.specs.declared.Content.TheVariants.{Nothing, One, Frames}
use Rattle.attributes.proofs.ContentLaws.{content_told}
use Rattle.bodies.proofs.ContentLaws.{content_none, content_is}
use Rattle.bodies.proofs.blocks.read_content.Goals as goal

pub returns-in-Nothing : goal.returns-in-Nothing
returns-in-Nothing c = let a = c.args in content_none (content (attribute_of a.row) a.flag) c.requires (content_told (kind_of a.row.kind) (type_of a.row.data_type) a.flag Nothing c.content_of.ensures c.in-Nothing.is)

pub returns-in-One : goal.returns-in-One
returns-in-One c = let a = c.args in content_is (value (type_of a.row.data_type)) (content (attribute_of a.row) a.flag) (content_told (kind_of a.row.kind) (type_of a.row.data_type) a.flag One c.content_of.ensures c.in-One.is) c.read_value.ensures

pub returns-in-Frames : goal.returns-in-Frames
returns-in-Frames c = let a = c.args in content_is (keyframed (kind_of a.row.kind) (type_of a.row.data_type) a.flag) (content (attribute_of a.row) a.flag) (content_told (kind_of a.row.kind) (type_of a.row.data_type) a.flag Frames c.content_of.ensures c.in-Frames.is) c.read_keyframed.ensures
