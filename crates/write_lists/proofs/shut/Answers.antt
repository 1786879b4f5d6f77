use mathlib.Core.Path.{sym, ◌∙◌}
use native.Mathlib.Omega.{arith}
use Rattle.format.proofs.Absurd.{clash}
use Rattle.write_lists.proofs.TagLaws.{kept_bounds, shut_claim, shut_late, shut_done}
use Rattle.write_lists.proofs.shut.Goals as goal
use Rattle.write_lists.proofs.shut.Goals.{then-claimed+else-stop-from-gt62, else-claimed}

pub overflow_add-from : goal.overflow_add-from
overflow_add-from c = omega (arith, (kept_bounds c.args.claimed).1, c.kept.ensures, c.requires.0, c.requires.1)

pub overflow_sub-stop : goal.overflow_sub-stop
overflow_sub-stop c = omega (arith, c.kept.ensures, c.requires.0)

pub returns-then-stop-from-gt62 : goal.returns-then-stop-from-gt62
returns-then-stop-from-gt62 c = let a = c.args in shut_claim a.out.now a.place.0 a.claimed a.code a.stop.0 a.behind c.if-claimed.true (omega (arith, c.kept.ensures, c.if-stop-from-gt62.true))

pub close-next-requires : goal.close-next-requires
close-next-requires c = (omega (arith, c.requires.0, (kept_bounds c.args.claimed).0), omega (arith, c.requires.1), c.requires.2)

pub returns-then-next-gt16777216 : goal.returns-then-next-gt16777216
returns-then-next-gt16777216 c = let a = c.args in shut_late a.out.now a.place.0 a.claimed a.code a.stop.0 a.behind c.requires.2 c.requires.1 (λ e. elim c.if-claimed.branch [ then-claimed+else-stop-from-gt62 w ↦ omega (arith, w.if-stop-from-gt62.false, c.kept.ensures) | else-claimed w ↦ let f = sym e ∙ w.if-claimed.false in clash cc ]) c.close-next.ensures (omega (arith, c.if-next-gt16777216.true))

pub returns : goal.returns
returns c = let a = c.args in shut_done a.out.now a.place.0 a.claimed a.code a.stop.0 a.behind c.requires.2 c.requires.1 (λ e. elim c.if-claimed.branch [ then-claimed+else-stop-from-gt62 w ↦ omega (arith, w.if-stop-from-gt62.false, c.kept.ensures) | else-claimed w ↦ let f = sym e ∙ w.if-claimed.false in clash cc ]) c.close-next.ensures (omega (arith, c.if-next-gt16777216.false))
