use native.Mathlib.Omega.{arith}
use Rattle.write_heads.proofs.HeadLaws.{close_claimed, close_short, close_long}
use Rattle.write_heads.proofs.close.Goals as goal

pub returns-then-claimed : goal.returns-then-claimed
returns-then-claimed c = close_claimed c.args.out.now c.args.place.0 c.args.code c.args.stop.0 c.kept.result c.args.claimed c.kept.ensures c.requires.0 c.if-claimed.true c.put_long.ensures

pub returns-then-length-lt63 : goal.returns-then-length-lt63
returns-then-length-lt63 c = close_short c.args.out.now c.args.place.0 c.args.code c.args.stop.0 c.kept.result c.args.claimed c.kept.ensures c.requires.0 c.if-claimed.false (omega (arith, c.if-length-lt63.true)) c.put16.ensures

pub returns : goal.returns
returns c = close_long c.args.out.now c.args.place.0 c.args.code c.args.stop.0 c.kept.result c.args.claimed c.kept.ensures c.requires.0 c.if-claimed.false (omega (arith, c.if-length-lt63.false)) (omega arith) c.move_up.ensures c.put_long-2.ensures
