-- `write_blocks::write_content` meets its contract.
use Rattle.std.proofs.Common.{sym}
use Rattle.attributes.specs.Rows.{kind_of, type_of}
use Rattle.attributes.specs.declared.Content.TheVariants.{Nothing}
use Rattle.attributes.proofs.ContentLaws.{content_told}
use Rattle.spelling.proofs.WriteLaws.{writes_is, writes_nothing}
use Rattle.write_blocks.proofs.write_content.Goals as goal

pub returns-in-Nothing : goal.returns-in-Nothing
returns-in-Nothing c = let a = c.args in writes_is (sym (content_told (kind_of a.row.kind) (type_of a.row.data_type) a.flag Nothing c.content_of.ensures c.in-Nothing.is)) (writes_nothing a.writer.now tt)
