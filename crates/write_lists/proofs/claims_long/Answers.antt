use Prim.Native.Nat.{◌+◌}
use native.Mathlib.Omega.{arith}
use Rattle.write_lists.proofs.TagLaws.{no_claim}
use Rattle.write_lists.proofs.claims_long.Goals as goal

pub returns-then-rest-lt2 : goal.returns-then-rest-lt2
returns-then-rest-lt2 c = no_claim c.args.table.now (c.args.index + 1) (omega (arith, c.if-rest-lt2.true))
