use native.Mathlib.Omega.{arith}
use Rattle.write_heads.proofs.HeadLaws.{headed_claimed, headed_short, headed_long}
use Rattle.write_heads.proofs.put_head.Goals as goal

pub returns-then-claimed : goal.returns-then-claimed
returns-then-claimed c = headed_claimed c.args.out.now c.args.place.0 c.args.code c.args.length c.args.claimed c.if-claimed.true c.put_long.ensures

pub returns-then-length-le62 : goal.returns-then-length-le62
returns-then-length-le62 c = headed_short c.args.out.now c.args.place.0 c.args.code c.args.length c.args.claimed c.if-claimed.false (omega (arith, c.if-length-le62.true)) c.put16.ensures

pub returns : goal.returns
returns c = headed_long c.args.out.now c.args.place.0 c.args.code c.args.length c.args.claimed c.if-claimed.false (omega (arith, c.if-length-le62.false)) c.put_long-2.ensures
