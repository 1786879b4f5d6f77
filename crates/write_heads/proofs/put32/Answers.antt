use Rattle.write_heads.proofs.HeadLaws.{four_stored}
use Rattle.write_heads.proofs.put32.Goals as goal

pub returns : goal.returns
returns c = four_stored c.args.out.now c.args.at.0 _ _ _ _ c.put_byte.ensures c.put_byte-2.ensures c.put_byte-3.ensures c.put_byte-4.ensures
