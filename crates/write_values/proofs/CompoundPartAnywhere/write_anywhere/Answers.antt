-- `write_values::CompoundPartAnywhere::write_anywhere` meets its contract.
use Rattle.std.proofs.Common.{sym}
use Rattle.values.proofs.SingleLaws.{others_nothing}
use Rattle.spelling.proofs.WriteLaws.{writes_is, writes_nothing}
use Rattle.write_values.proofs.CompoundPartAnywhere.write_anywhere.Goals as goal

pub returns-in_default : goal.returns-in_default
returns-in_default c = let d = c.in_default in record { writes = writes_is (sym (others_nothing c.args.self.now.what d.not-Ratio d.not-Path d.not-Point d.not-Color d.not-GradientColor d.not-Dashes)) (writes_nothing c.args.writer.now tt) }
