-- `canvas::seek` meets its contract: a refusal before any tag, and what looking through the list at depth 0 told.
use mathlib.Core.Path.{ap, sym, ◌∙◌}
use Rattle.std.proofs.Common.{Ok}
use Rattle.reasons.proofs.NumberLaws.{passed_on}
use Rattle.classes.specs.declared.Scope.TheVariants.{All}
use Rattle.classes.proofs.FillLaws.{classed}
use Rattle.reader.proofs.FileLaws.{fair_file}
use Rattle.canvas.proofs.CallLaws.{call_start, call_inside, call_places, call_length, call_whole, call_fault, call_found}
use Rattle.canvas.proofs.seek.Goals as goal

pub returns-in_err-named : goal.returns-in_err-named
returns-in_err-named c = let a = c.args in call_start a.order a.level a.file.now _ c.in_err-named.ensures.fault c.requires (passed_on c.from_residual.result c.from_residual.ensures.1)

pub slice_bounds-list-count : goal.slice_bounds-list-count
slice_bounds-list-count c = let a = c.args in (fair_file a.order a.level a.file.now (sym c.in_ok-named.ensures.fault)).0

pub slice_bounds-list-start : goal.slice_bounds-list-start
slice_bounds-list-start c = let a = c.args in (fair_file a.order a.level a.file.now (sym c.in_ok-named.ensures.fault)).0

pub look_in-requires-clause-tabled : goal.look_in-requires-clause-tabled
look_in-requires-clause-tabled c = record { scope = All; level = c.args.level; classed = classed All c.args.level c.fill_first.ensures }

pub invariant_of-list-clause-inside : goal.invariant_of-list-clause-inside
invariant_of-list-clause-inside c = let a = c.args in let u = fair_file a.order a.level a.file.now (sym c.in_ok-named.ensures.fault) in call_inside a.file.now u.0 u.1

pub returns-in_err-body : goal.returns-in_err-body
returns-in_err-body c = let a = c.args in
    call_fault a.order a.level a.file.now c.in_ok-named.ensures.fault c.in_ok-named.ensures.named (classed All a.level c.fill_first.ensures) c.requires c.look_in.ensures c.in_err-body.was (passed_on c.from_residual-in_err-body.result c.from_residual-in_err-body.ensures.1)

pub slice_bounds-values_in-end : goal.slice_bounds-values_in-end
slice_bounds-values_in-end c = let a = c.args in (call_places a.order a.level a.file.now c.in_ok-named.ensures.fault c.in_ok-named.ensures.named (classed All a.level c.fill_first.ensures) c.requires c.look_in.ensures (c.in_ok-body.was ∙ ap Ok c.in-Some.is)).1

pub values_in-requires : goal.values_in-requires
values_in-requires c = let a = c.args in call_length a.order a.level a.file.now c.in_ok-named.ensures.fault c.in_ok-named.ensures.named (classed All a.level c.fill_first.ensures) c.requires c.look_in.ensures (c.in_ok-body.was ∙ ap Ok c.in-Some.is)

pub returns-in-Some : goal.returns-in-Some
returns-in-Some c = let a = c.args in call_found a.order a.level a.file.now c.in_ok-named.ensures.fault c.in_ok-named.ensures.named (classed All a.level c.fill_first.ensures) c.requires c.look_in.ensures (c.in_ok-body.was ∙ ap Ok c.in-Some.is) c.values_in.ensures

pub returns-in-None : goal.returns-in-None
returns-in-None c = let a = c.args in call_whole a.order a.level a.file.now c.in_ok-named.ensures.fault c.in_ok-named.ensures.named (classed All a.level c.fill_first.ensures) c.requires c.look_in.ensures (c.in_ok-body.was ∙ ap Ok c.in-None.is)
