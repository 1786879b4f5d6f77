use Rattle.std.proofs.Common.{◌*◌, refl}
use Rattle.items.proofs.ItemLaws.{float_is}
use Rattle.items.proofs.float_at.Goals as goal

pub returns : goal.returns
returns c = λ o. float_is o c.args.body.now c.args.i (8 * c.args.i) refl c.requires.0 c.byte_at-b0.ensures c.byte_at-b1.ensures c.byte_at-b2.ensures c.byte_at-b3.ensures refl
