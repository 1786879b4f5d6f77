-- `write_bodies::write_at` meets its contract.
use Rattle.spelling.proofs.EndLaws.{body_done, body_gone, err_lain}
use Rattle.spelling.proofs.WriteLaws.{onward_then}
use Rattle.write_bodies.proofs.write_at.Goals as goal

pub returns-in_err-write_fixed-clause-lain : goal.returns-in_err-write_fixed-clause-lain
returns-in_err-write_fixed-clause-lain c = err_lain _ _ c.from_residual.ensures.0 (body_gone c.write_fixed.ensures c.args.at.0 c.requires c.in_err-write_fixed.was)

pub returns-clause-onward : goal.returns-clause-onward
returns-clause-onward c = onward_then c.write_fixed.ensures.onward c.conclude.ensures.onward

pub returns-clause-lain : goal.returns-clause-lain
returns-clause-lain c = body_done c.write_fixed.ensures c.args.at.0 c.requires c.conclude.new.self.out.now c.conclude.result c.in_ok-write_fixed.was c.conclude.ensures.ended
