-- `Walk::read_list` meets its contract: tag by tag, and for the list of a container by itself.
use mathlib.Core.Path.{ap, ◌∙◌}
use native.Mathlib.Omega.{arith}
use Rattle.std.proofs.Common.{Ok}
use Rattle.reasons.proofs.NumberLaws.{passed_on}
use Rattle.reasons.specs.Numbers.{number_of}
use Rattle.lists.proofs.ReadLaws.{here_start, here_room, here_over, tag_err, last_stops, last_walks, next_ahead, next_here, open_is, inner_bounds, inner_here, inner_err}
use Rattle.lists.proofs.walk.Walk.+read_list.Goals as goal

pub loop-place-init : goal.loop-place-init
loop-place-init t c = let a = c.args in here_start a.self.now a.list.now a.lent.now

pub read_tag-requires : goal.read_tag-requires
read_tag-requires t c = let a = c.args in let u = here_room a.self.now a.list.now a.lent.now c.requires.tabled c.requires.bounds c.loop-place.invariant in (omega (arith, c.loop-place-test.true), u.0, u.1)

pub returns-in-Err : goal.returns-in-Err
returns-in-Err t c = let a = c.args in tag_err a.self.now a.list.now a.lent.now c.loop-place.invariant c.loop-place-test.true c.read_tag.ensures c.in-Err.is

pub overflow_add-lent : goal.overflow_add-lent
overflow_add-lent t c = let a = c.args in omega (arith, c.read_tag.ensures.row, (here_room a.self.now a.list.now a.lent.now c.requires.tabled c.requires.bounds c.loop-place.invariant).1)

pub ends_at-requires : goal.ends_at-requires
ends_at-requires t c = let a = c.args in last_stops a.self.now a.list.now a.lent.now c.loop-place.invariant c.loop-place-test.true c.read_tag.ensures (c.in-Ok.is ∙ ap Ok c.in-Last.is)

pub returns-in-Last : goal.returns-in-Last
returns-in-Last t c = let a = c.args in last_walks a.self.now a.list.now a.lent.now c.loop-place.invariant c.loop-place-test.true c.read_tag.ensures (c.in-Ok.is ∙ ap Ok c.in-Last.is) c.ends_at.ensures

pub loop-place-smaller-in-Next : goal.loop-place-smaller-in-Next
loop-place-smaller-in-Next t c = let a = c.args in omega (arith, next_ahead a.self.now a.list.now a.lent.now c.loop-place.invariant c.loop-place-test.true c.read_tag.ensures (c.in-Ok.is ∙ ap Ok c.in-Next.is))

pub loop-place-preserved-in-Next : goal.loop-place-preserved-in-Next
loop-place-preserved-in-Next t c = let a = c.args in next_here a.self.now a.list.now a.lent.now c.loop-place.invariant c.loop-place-test.true c.read_tag.ensures (c.in-Ok.is ∙ ap Ok c.in-Next.is)

pub overflow_sub-inner : goal.overflow_sub-inner
overflow_sub-inner t c = let a = c.args in (open_is a.self.now a.list.now a.lent.now c.loop-place.invariant c.loop-place-test.true c.read_tag.ensures (c.in-Ok.is ∙ ap Ok c.in-Open.is)).deep

pub overflow_add-inner : goal.overflow_add-inner
overflow_add-inner t c = let a = c.args in let u = open_is a.self.now a.list.now a.lent.now c.loop-place.invariant c.loop-place-test.true c.read_tag.ensures (c.in-Ok.is ∙ ap Ok c.in-Open.is) in omega (arith, u.order, u.inside, a.list.now.inside)

pub slice_bounds-inner-count : goal.slice_bounds-inner-count
slice_bounds-inner-count t c = let a = c.args in (open_is a.self.now a.list.now a.lent.now c.loop-place.invariant c.loop-place-test.true c.read_tag.ensures (c.in-Ok.is ∙ ap Ok c.in-Open.is)).order

pub slice_bounds-inner-start : goal.slice_bounds-inner-start
slice_bounds-inner-start t c = let a = c.args in (open_is a.self.now a.list.now a.lent.now c.loop-place.invariant c.loop-place-test.true c.read_tag.ensures (c.in-Ok.is ∙ ap Ok c.in-Open.is)).order

pub slice_bounds-inner-end : goal.slice_bounds-inner-end
slice_bounds-inner-end t c = let a = c.args in (open_is a.self.now a.list.now a.lent.now c.loop-place.invariant c.loop-place-test.true c.read_tag.ensures (c.in-Ok.is ∙ ap Ok c.in-Open.is)).inside

pub invariant_of-inner : goal.invariant_of-inner
invariant_of-inner t c = let a = c.args in let u = inner_bounds a.self.now a.list.now a.lent.now c.loop-place.invariant c.loop-place-test.true c.read_tag.ensures (c.in-Ok.is ∙ ap Ok c.in-Open.is) c.requires.tabled c.requires.bounds in record { deep = u.depth; inside = u.place }

pub read_list-requires : goal.read_list-requires
read_list-requires t c = let a = c.args in let e = c.in-Ok.is ∙ ap Ok c.in-Open.is in (
  omega (arith, c.decreases, (open_is a.self.now a.list.now a.lent.now c.loop-place.invariant c.loop-place-test.true c.read_tag.ensures e).deep),
  (c.requires.tabled, inner_bounds a.self.now a.list.now a.lent.now c.loop-place.invariant c.loop-place-test.true c.read_tag.ensures e c.requires.tabled c.requires.bounds),
)

pub returns-in_err-read_list-in-Open : goal.returns-in_err-read_list-in-Open
returns-in_err-read_list-in-Open t c = let a = c.args in inner_err a.self.now a.list.now a.lent.now c.loop-place.invariant c.loop-place-test.true c.read_tag.ensures (c.in-Ok.is ∙ ap Ok c.in-Open.is) c.read_list.ensures c.in_err-read_list-in-Open.was (passed_on c.from_residual.result c.from_residual.ensures.1)

pub loop-place-smaller : goal.loop-place-smaller
loop-place-smaller t c = let a = c.args in let u = open_is a.self.now a.list.now a.lent.now c.loop-place.invariant c.loop-place-test.true c.read_tag.ensures (c.in-Ok.is ∙ ap Ok c.in-Open.is) in omega (arith, u.ahead, u.inside)

pub loop-place-preserved : goal.loop-place-preserved
loop-place-preserved t c = let a = c.args in inner_here a.self.now a.list.now a.lent.now c.loop-place.invariant c.loop-place-test.true c.read_tag.ensures (c.in-Ok.is ∙ ap Ok c.in-Open.is) c.read_list.ensures c.in_ok-read_list-in-Open.was

pub returns : goal.returns
returns t c = let a = c.args in here_over a.self.now a.list.now a.lent.now c.loop-place.invariant c.loop-place-test.false (ap number_of c.refuses.ensures.0) c.refuses.ensures.1
