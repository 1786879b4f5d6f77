-- `headers::read_head` meets its contract: where the judge has a reason, the definitions have it.
use mathlib.Core.Path.{refl}
use Rattle.std.proofs.lemmas.Result.{err_from_is_err_and}
use Rattle.headers.proofs.HeadLaws.{stands_at_lem, head_refused, head_here}
use Rattle.headers.proofs.read_head.Goals as goal

pub returns-in_err-passes-clause-told : goal.returns-in_err-passes-clause-told
returns-in_err-passes-clause-told c =
    let a = c.args in
    let p = err_from_is_err_and c.from_residual-in_err-passes.result c.from_residual-in_err-passes.ensures.1 in
    let s = stands_at_lem a.room.now a.at.0 c.in_ok-header.header c.in_ok-header.ensures.0 in
    rw (p.1, p.2) (head_here a.classes.now a.depths a.room.now a.at.0 s (head_refused _ a.depths a.room.now a.at.0 s refl _ c.in_err-passes.ensures))
