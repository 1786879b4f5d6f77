-- the elements of a `&[u8]` are bytes
use Rattle.answers.proofs.LentLaws.{known_bytes}
use Rattle.answers.proofs.is_file.Goals as goal

pub returns : goal.returns
returns c = known_bytes c.args.bytes.now c.type_inv.bytes
