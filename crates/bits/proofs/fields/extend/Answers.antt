-- `bits::fields::extend` meets its contract: the code's size is 2 ^ n.
use Rattle.std.proofs.Common.{arith, pow_mono}
use Rattle.bits.proofs.FieldLaws.{one_shl, extended}
use Rattle.bits.proofs.fields.extend.Goals as goal

pub with_sign-requires : goal.with_sign-requires
with_sign-requires c =
    let e = one_shl c.args.width (omega arith) in
    (omega (arith, e), omega arith, omega (arith, e, pow_mono c.requires.1))

pub returns : goal.returns
returns c =
    let a = c.args in
    extended a.width a.value (one_shl a.width (omega arith)) c.requires.0 c.requires.2 c.with_sign.ensures
