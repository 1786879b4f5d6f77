use mathlib.Core.Path.{refl, sym, ap, ◌∙◌}
use native.Mathlib.Omega.{arith}
use Rattle.std.proofs.Common.{Option}
use Prim.Native.Nat.{ℕ}
use Rattle.std.specs.Option.{option_or}
use Rattle.format.specs.Reasons.{accepted}
use Rattle.path_singles.proofs.TableLaws.{begins, room, next, walked, carried}
use Rattle.path_singles.proofs.tags.convert.Goals as goal

pub loop-row-init : goal.loop-row-init
loop-row-init c = begins _ _ _ c.requires

pub overflow_add-state : goal.overflow_add-state
overflow_add-state c = omega (arith, room _ _ _ _ _ c.loop-row.invariant (omega (arith, c.loop-row-test.true, c.as_chunks.ensures.front_len)))

pub offset_bounds-table-index : goal.offset_bounds-table-index
offset_bounds-table-index c = omega (arith, room _ _ _ _ _ c.loop-row.invariant (omega (arith, c.loop-row-test.true, c.as_chunks.ensures.front_len)))

pub bounds-table-index : goal.bounds-table-index
bounds-table-index c = omega (arith, room _ _ _ _ _ c.loop-row.invariant (omega (arith, c.loop-row-test.true, c.as_chunks.ensures.front_len)))

pub overflow_add-start : goal.overflow_add-start
overflow_add-start c = omega (arith, room _ _ _ _ _ c.loop-row.invariant (omega (arith, c.loop-row-test.true, c.as_chunks.ensures.front_len)))

pub overflow_add-end : goal.overflow_add-end
overflow_add-end c = omega (arith, room _ _ _ _ _ c.loop-row.invariant (omega (arith, c.loop-row-test.true, c.as_chunks.ensures.front_len)))

pub offset_bounds-table-index-in-loop-row : goal.offset_bounds-table-index-in-loop-row
offset_bounds-table-index-in-loop-row c = omega (arith, room _ _ _ _ _ c.loop-row.invariant (omega (arith, c.loop-row-test.true, c.as_chunks.ensures.front_len)))

pub bounds-table-index-in-loop-row : goal.bounds-table-index-in-loop-row
bounds-table-index-in-loop-row c = omega (arith, room _ _ _ _ _ c.loop-row.invariant (omega (arith, c.loop-row-test.true, c.as_chunks.ensures.front_len)))

pub overflow_add-end-in-loop-row : goal.overflow_add-end-in-loop-row
overflow_add-end-in-loop-row c = omega (arith, room _ _ _ _ _ c.loop-row.invariant (omega (arith, c.loop-row-test.true, c.as_chunks.ensures.front_len)))

pub offset_bounds-table-start : goal.offset_bounds-table-start
offset_bounds-table-start c = omega (arith, room _ _ _ _ _ c.loop-row.invariant (omega (arith, c.loop-row-test.true, c.as_chunks.ensures.front_len)))

pub slice_bounds-convert_tag-end : goal.slice_bounds-convert_tag-end
slice_bounds-convert_tag-end c = omega (arith, room _ _ _ _ _ c.loop-row.invariant (omega (arith, c.loop-row-test.true, c.as_chunks.ensures.front_len)))

pub loop-row-preserved : goal.loop-row-preserved
loop-row-preserved c = next _ _ _ _ _ c.as_chunks.result.0.now _ _ c.as_chunks.ensures.front c.loop-row.invariant (omega (arith, c.loop-row-test.true, c.as_chunks.ensures.front_len)) refl c.convert_tag-beyond.auto.values refl c.convert_tag-beyond.ensures c.from.ensures (c.or-first.ensures ∙ ap (option_or c.loop-row.first) c.then_some.ensures)

pub returns-in-Some : goal.returns-in-Some
returns-in-Some c = let w = walked _ _ _ _ _ c.loop-row.invariant (omega (arith, c.loop-row-test.false, c.as_chunks.ensures.front_len)) in (w.0, ap (λ (a : Option ℕ). carried a (accepted 0)) (sym c.in-Some.is) ∙ w.1)

pub returns-in-None : goal.returns-in-None
returns-in-None c = let w = walked _ _ _ _ _ c.loop-row.invariant (omega (arith, c.loop-row-test.false, c.as_chunks.ensures.front_len)) in (w.0, ap (λ (a : Option ℕ). carried a (accepted 0)) (sym c.in-None.is) ∙ w.1)
