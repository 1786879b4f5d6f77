-- `bits::fields::cut` meets its contract: `1 << n` does not wrap.
use Rattle.std.proofs.Common.{refl, mod-lt, pow_pos}
use Rattle.bits.proofs.FieldLaws.{one_shl}
use Rattle.bits.proofs.fields.cut.Goals as goal

pub nonzero_rem-result : goal.nonzero_rem-result
nonzero_rem-result c = rw (one_shl c.args.width c.requires.1) (pow_pos c.args.width)

pub returns : goal.returns
returns c = rw (one_shl c.args.width c.requires.1) (refl, mod-lt _ (pow_pos c.args.width))
