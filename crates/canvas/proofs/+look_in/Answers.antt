-- `canvas::look_in` meets its contract: what judging a tag tells, the list inside a container, and its end.
use mathlib.Core.Path.{refl, sym, ap, ◌∙◌}
use native.Mathlib.Omega.{arith}
use Rattle.std.proofs.Common.{Ok}
use Rattle.reasons.proofs.NumberLaws.{passed_on}
use Rattle.canvas.proofs.LookLaws.{used_up_lem, tell_refused, tell_canvas, tell_stops, tell_ends, tell_whole, tell_over, tell_next, open_places, open_inside, open_few, open_refused, open_found, open_whole}
use Rattle.canvas.proofs.+look_in.Goals as goal

pub returns-in-Err : goal.returns-in-Err
returns-in-Err t c = tell_refused _ _ _ _ _ _ _ c.requires.tabled c.loop-place-test.true c.loop-place.invariant c.judge_tag.ensures c.in-Err.is

pub overflow_add-result-in-Ok-Canvas : goal.overflow_add-result-in-Ok-Canvas
overflow_add-result-in-Ok-Canvas t c = omega (arith, c.args.list.now.inside, (tell_stops _ _ _ _ _ _ _ c.requires.tabled c.loop-place-test.true c.loop-place.invariant c.judge_tag.ensures (c.in-Ok-Canvas.is ∙ ap Ok c.in-Ok-Canvas.field-0-is)).1)

pub returns-in-Ok-Canvas : goal.returns-in-Ok-Canvas
returns-in-Ok-Canvas t c = tell_canvas _ _ _ _ _ _ _ c.requires.tabled c.loop-place-test.true c.loop-place.invariant c.judge_tag.ensures (c.in-Ok-Canvas.is ∙ ap Ok c.in-Ok-Canvas.field-0-is)

pub ends_at-requires : goal.ends_at-requires
ends_at-requires t c = tell_ends _ _ _ _ _ _ _ c.requires.tabled c.loop-place-test.true c.loop-place.invariant c.judge_tag.ensures (c.in-Ok-Last.is ∙ ap Ok c.in-Ok-Last.field-0-is)

pub returns-in_err-ends_at-in-Ok-Last : goal.returns-in_err-ends_at-in-Ok-Last
returns-in_err-ends_at-in-Ok-Last t c = tell_over _ _ _ _ _ _ _ c.requires.tabled c.loop-place-test.true c.loop-place.invariant c.judge_tag.ensures c.args.list.now.owner refl (c.in-Ok-Last.is ∙ ap Ok c.in-Ok-Last.field-0-is) c.ends_at.result c.ends_at.ensures c.in_err-ends_at-in-Ok-Last.was (passed_on c.from_residual.result c.from_residual.ensures.1)

pub returns-in-Ok-Last : goal.returns-in-Ok-Last
returns-in-Ok-Last t c = tell_whole _ _ _ _ _ _ _ c.requires.tabled c.loop-place-test.true c.loop-place.invariant c.judge_tag.ensures c.args.list.now.owner refl (c.in-Ok-Last.is ∙ ap Ok c.in-Ok-Last.field-0-is) c.ends_at.result c.ends_at.ensures c.in_ok-ends_at-in-Ok-Last.was

pub loop-place-preserved-in-Ok-Next : goal.loop-place-preserved-in-Ok-Next
loop-place-preserved-in-Ok-Next t c = (tell_next _ _ _ _ _ _ _ c.requires.tabled c.loop-place-test.true c.loop-place.invariant c.judge_tag.ensures (c.in-Ok-Next.is ∙ ap Ok c.in-Ok-Next.field-0-is)).1

pub overflow_add-inner : goal.overflow_add-inner
overflow_add-inner t c = let u = open_places _ _ _ _ _ _ _ c.requires.tabled c.loop-place-test.true c.loop-place.invariant c.judge_tag.ensures (c.in-Ok-Open.is ∙ ap Ok c.in-Ok-Open.field-0-is) in omega (arith, c.args.list.now.inside, u.2, u.3)

pub slice_bounds-inner-count : goal.slice_bounds-inner-count
slice_bounds-inner-count t c = (open_places _ _ _ _ _ _ _ c.requires.tabled c.loop-place-test.true c.loop-place.invariant c.judge_tag.ensures (c.in-Ok-Open.is ∙ ap Ok c.in-Ok-Open.field-0-is)).2

pub slice_bounds-inner-start : goal.slice_bounds-inner-start
slice_bounds-inner-start t c = (open_places _ _ _ _ _ _ _ c.requires.tabled c.loop-place-test.true c.loop-place.invariant c.judge_tag.ensures (c.in-Ok-Open.is ∙ ap Ok c.in-Ok-Open.field-0-is)).2

pub slice_bounds-inner-end : goal.slice_bounds-inner-end
slice_bounds-inner-end t c = (open_places _ _ _ _ _ _ _ c.requires.tabled c.loop-place-test.true c.loop-place.invariant c.judge_tag.ensures (c.in-Ok-Open.is ∙ ap Ok c.in-Ok-Open.field-0-is)).3

pub invariant_of-inner-clause-inside : goal.invariant_of-inner-clause-inside
invariant_of-inner-clause-inside t c = open_inside _ _ _ _ _ _ _ c.requires.tabled c.loop-place-test.true c.loop-place.invariant c.judge_tag.ensures (c.in-Ok-Open.is ∙ ap Ok c.in-Ok-Open.field-0-is) c.args.list.now.inside

pub look_in-requires : goal.look_in-requires
look_in-requires t c = (
  omega (arith, c.decreases, (open_places _ _ _ _ _ _ _ c.requires.tabled c.loop-place-test.true c.loop-place.invariant c.judge_tag.ensures (c.in-Ok-Open.is ∙ ap Ok c.in-Ok-Open.field-0-is)).0),
  (c.requires.tabled, open_few _ _ _ _ _ _ _ c.requires.tabled c.loop-place-test.true c.loop-place.invariant c.judge_tag.ensures (c.in-Ok-Open.is ∙ ap Ok c.in-Ok-Open.field-0-is) c.args.list.now.deep c.args.list.now.inside c.requires.few),
)

pub returns-in_err-found-in-Ok-Open : goal.returns-in_err-found-in-Ok-Open
returns-in_err-found-in-Ok-Open t c = open_refused _ _ _ _ _ _ _ c.requires.tabled c.loop-place-test.true c.loop-place.invariant c.judge_tag.ensures (c.in-Ok-Open.is ∙ ap Ok c.in-Ok-Open.field-0-is) c.look_in.ensures c.in_err-found-in-Ok-Open.was (passed_on c.from_residual-in_err-found-in-Ok-Open.result c.from_residual-in_err-found-in-Ok-Open.ensures.1)

pub returns-then-is_some : goal.returns-then-is_some
returns-then-is_some t c = open_found _ _ _ _ _ _ _ c.requires.tabled c.loop-place-test.true c.loop-place.invariant c.judge_tag.ensures (c.in-Ok-Open.is ∙ ap Ok c.in-Ok-Open.field-0-is) c.look_in.ensures c.in_ok-found-in-Ok-Open.found c.in_ok-found-in-Ok-Open.was (sym c.is_some.ensures ∙ c.if-is_some.true)

pub loop-place-smaller : goal.loop-place-smaller
loop-place-smaller t c =
    let u = open_whole _ _ _ _ _ _ _ c.requires.tabled c.loop-place-test.true c.loop-place.invariant c.judge_tag.ensures (c.in-Ok-Open.is ∙ ap Ok c.in-Ok-Open.field-0-is) c.look_in.ensures c.in_ok-found-in-Ok-Open.found c.in_ok-found-in-Ok-Open.was (sym c.is_some.ensures ∙ c.if-is_some.false) in
    omega (arith, u.0, u.1.inside)

pub loop-place-preserved : goal.loop-place-preserved
loop-place-preserved t c = (open_whole _ _ _ _ _ _ _ c.requires.tabled c.loop-place-test.true c.loop-place.invariant c.judge_tag.ensures (c.in-Ok-Open.is ∙ ap Ok c.in-Ok-Open.field-0-is) c.look_in.ensures c.in_ok-found-in-Ok-Open.found c.in_ok-found-in-Ok-Open.was (sym c.is_some.ensures ∙ c.if-is_some.false)).1

pub returns : goal.returns
returns t c = used_up_lem _ _ _ _ _ _ _ c.loop-place.invariant c.loop-place-test.false c.refuses.ensures
