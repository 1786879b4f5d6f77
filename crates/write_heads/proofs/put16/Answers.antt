use Rattle.write_heads.proofs.HeadLaws.{two_stored}
use Rattle.write_heads.proofs.put16.Goals as goal

pub returns : goal.returns
returns c = two_stored c.args.out.now c.args.at.0 _ _ c.put_byte.ensures c.put_byte-2.ensures
