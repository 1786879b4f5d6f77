use Rattle.write_heads.proofs.HeadLaws.{long_stored}
use Rattle.write_heads.proofs.put_long.Goals as goal

pub returns : goal.returns
returns c = long_stored c.args.out.now c.args.place.0 c.args.code c.args.length c.put16.ensures c.put32.ensures
