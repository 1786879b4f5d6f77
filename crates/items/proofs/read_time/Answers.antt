use Rattle.items.specs.Kinds.{by_bits}
use Rattle.items.proofs.ItemLaws.{time_whole}
use Rattle.items.proofs.read_time.Goals as goal

pub returns : goal.returns
returns c = let a = c.args in λ o. time_whole o a.body.now a.at.byte.0 a.at.bit.0 (by_bits c.read_var.result) a.at.same (c.read_var.ensures o)
