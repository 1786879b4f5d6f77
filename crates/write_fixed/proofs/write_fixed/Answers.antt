-- `write_fixed::write_fixed` meets its contract.
use Rattle.std.proofs.Common.{sym}
use Rattle.fixed.specs.Fixed.{in_order, fixed_of}
use Rattle.fixed.proofs.FixedLaws.{fixed_fonts}
use Rattle.spelling.proofs.WriteLaws.{writes_is, writes_alike}
use Rattle.write_fixed.proofs.write_fixed.Goals as goal

pub returns-then-code-eq1 : goal.returns-then-code-eq1
returns-then-code-eq1 c = writes_is (sym (fixed_fonts c.args.code c.if-code-eq1.true)) c.write_fonts.ensures

pub returns : goal.returns
returns c = let r = c.rows_of in writes_alike (in_order r.result.now) (fixed_of c.args.code) r.ensures.items c.write_items.ensures
