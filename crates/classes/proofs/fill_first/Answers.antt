-- `classes::fill_first` meets its contract: what is stored so far, and what is still to be stored, are all of it.
use mathlib.Core.Path.{◌∙◌, refl, sym}
use native.Mathlib.Omega.{arith}
use Rattle.classes.specs.Classes.{named_by}
use Rattle.classes.proofs.ClassLaws.{class_at_lem, taken_named}
use Rattle.classes.proofs.FillLaws.{stored_next, stored_all}
use Rattle.classes.proofs.fill_first.Goals as goal

pub loop-code-preserved : goal.loop-code-preserved
loop-code-preserved c =
    let a = c.args in
    let i = c.loop-code.code in
    let h = c.loop-code-test.true in
    let e = taken_named a.scope a.level {code = i} refl (c.at_level.ensures ∙ class_at_lem _ c.all-table.ensures a.level i 0 i _ (omega (arith, h)) (omega (arith, h)) (omega (arith, h))) c.taken_as.ensures in
    stored_next (named_by a.scope a.level) _ i 32 h e ∙ c.loop-code.invariant

pub returns : goal.returns
returns c = let a = c.args in sym (stored_all (named_by a.scope a.level) _ _ 32 c.loop-code-test.false) ∙ c.loop-code.invariant
