use Rattle.std.proofs.Common.{◌+◌, ◌/◌, ◌%◌, set, arith, length-set}
use Rattle.spelling.proofs.NumberLaws.{float_out}
use Rattle.spelling.proofs.numbers.put_float.Goals as goal

pub returns-then-out-at : goal.returns-then-out-at
returns-then-out-at c = float_out c.args.out.now c.args.at c.args.value c.if-out-at.true

pub bounds-out-at-then-at-out : goal.bounds-out-at-then-at-out
bounds-out-at-then-at-out c = let a = c.args in let u = a.out.now in omega (arith, c.if-at-out.true, length-set u a.at (a.value % 256))

pub bounds-out-at-then-at-out-2 : goal.bounds-out-at-then-at-out-2
bounds-out-at-then-at-out-2 c = let a = c.args in let u = a.out.now in let u1 = set u a.at (a.value % 256) in omega (arith, c.if-at-out.true, length-set u a.at (a.value % 256), length-set u1 (a.at + 1) (a.value / 256 % 256))

pub bounds-out-at-then-at-out-3 : goal.bounds-out-at-then-at-out-3
bounds-out-at-then-at-out-3 c = let a = c.args in let u = a.out.now in let u1 = set u a.at (a.value % 256) in let u2 = set u1 (a.at + 1) (a.value / 256 % 256) in omega (arith, c.if-at-out.true, length-set u a.at (a.value % 256), length-set u1 (a.at + 1) (a.value / 256 % 256), length-set u2 (a.at + 2) (a.value / 65536 % 256))

pub returns : goal.returns
returns c = rw (c.put_byte-4.ensures, c.put_byte-3.ensures, c.put_byte-2.ensures, c.put_byte.ensures)
