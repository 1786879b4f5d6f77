-- `sink::put_word` meets its contract.
use Prim.Native.Nat.{◌+◌, ◌%◌}
use native.Mathlib.Omega.{arith}
use lib.ListN.{set, length-set}
use lib.Pow.{pow_pos}
use Rattle.bits.specs.Places.{order_of}
use Rattle.sink.proofs.LayingLaws.{word_stored, word_laid}
use Rattle.sink.proofs.put_word.Goals as goal

pub put_bits-requires : goal.put_bits-requires
put_bits-requires c = let a = c.args in (pow_pos (c.first_bit-place.result.0 % 8), omega (arith, c.first_bit-place.ensures, c.requires.0), omega arith, c.requires.1)

pub returns-then-out-byte : goal.returns-then-out-byte
returns-then-out-byte c = let a = c.args in word_laid (order_of a.order) a.out.now _ a.byte a.value c.first_bit-place.result.0 c.put_bits.result.place.0 c.put_bits.result.part c.first_bit-place.ensures c.put_bits.ensures

pub bounds-out-byte-2 : goal.bounds-out-byte-2
bounds-out-byte-2 c = let a = c.args in let u = a.out.now in omega (arith, c.if-out-byte.false, length-set u a.byte c.split-first.result.0)

pub bounds-out-byte-3 : goal.bounds-out-byte-3
bounds-out-byte-3 c = let a = c.args in let u = a.out.now in let u1 = set u a.byte c.split-first.result.0 in omega (arith, c.if-out-byte.false, length-set u a.byte c.split-first.result.0, length-set u1 (a.byte + 1) c.split-second.result.0)

pub bounds-out-byte-4 : goal.bounds-out-byte-4
bounds-out-byte-4 c = let a = c.args in let u = a.out.now in let u1 = set u a.byte c.split-first.result.0 in let u2 = set u1 (a.byte + 1) c.split-second.result.0 in omega (arith, c.if-out-byte.false, length-set u a.byte c.split-first.result.0, length-set u1 (a.byte + 1) c.split-second.result.0, length-set u2 (a.byte + 2) c.split-third.result.0)

pub returns : goal.returns
returns c = let a = c.args in word_stored (order_of a.order) a.out.now a.byte a.value c.split-first.ensures c.split-second.ensures c.split-third.ensures
