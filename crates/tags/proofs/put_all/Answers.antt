-- `tags::put_all` meets its contract: there is room for none, for all, or for the first of them.
use mathlib.Core.Path.{sym, refl}
use native.Mathlib.Omega.{arith}
use Rattle.tags.proofs.TagLaws.{all_stored, some_stored, sets_past}
use Rattle.tags.proofs.put_all.Goals as goal

pub returns-then-lent-from : goal.returns-then-lent-from
returns-then-lent-from g c = sym (sets_past c.args.lent.now c.args.from c.args.values.now c.if-lent-from.true)

pub returns-then-values-room : goal.returns-then-values-room
returns-then-values-room g c = let a = c.args in all_stored a.lent.now a.values.now _ a.from _ (omega (arith, c.if-lent-from.false, c.if-values-room.true)) c.copy_from_slice.ensures.after (omega arith)

pub returns-else-values-room : goal.returns-else-values-room
returns-else-values-room g c = let a = c.args in some_stored a.lent.now a.values.now _ a.from _ c.if-lent-from.false c.if-values-room.false c.copy_from_slice-else-values-room.ensures.after refl
