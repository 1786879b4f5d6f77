-- `sink::power` meets its contract.
use Prim.Native.Nat.{◌*◌, ◌%◌, ◌^◌}
use mathlib.Core.Path.{◌≡◌, refl}
use native.Mathlib.Nat.{one-mul, mod-eq_of_lt}
use lib.Pow.{pow_pos, pow-lt}
use Rattle.sink.proofs.power.Goals as goal

pub returns : goal.returns
returns c =
    let e : 1 * 2 ^ c.args.exponent % 2 ^ 64 ≡ 2 ^ c.args.exponent = rw one-mul (mod-eq_of_lt (pow-lt c.requires)) in
    rw e (refl, pow_pos c.args.exponent)
