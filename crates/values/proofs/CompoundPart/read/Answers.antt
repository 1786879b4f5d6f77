-- The impl of `table::Part` for a compound value meets its contract: of the other data types nothing is read.
use Rattle.std.proofs.Common.{sym}
use Rattle.values.proofs.SingleLaws.{others_nothing}
use Rattle.values.proofs.ValueLaws.{reads_is, reads_nothing}
use Rattle.values.proofs.CompoundPart.read.Goals as goal

pub returns-in_default : goal.returns-in_default
returns-in_default c = let d = c.in_default in
    reads_is (sym (others_nothing c.args.self.now.what d.not-Ratio d.not-Path d.not-Point d.not-Color d.not-GradientColor d.not-Dashes)) (reads_nothing c.requires)
