-- `tally::with_file` meets its contract: at each turn one tag's own bytes go to its code's count.
use Prim.Native.Nat.{◌+◌}
use mathlib.Core.Path.{◌≡◌, refl, ◌∙◌}
use native.Mathlib.Omega.{arith}
use Rattle.bits.specs.Places.{order_of}
use Rattle.classes.proofs.ClassLaws.{class_at_lem}
use Rattle.tally.proofs.AddLaws.{going_start, going_over, never_cut, found}
use Rattle.tally.proofs.with_file.Goals as goal

pub loop-place-init : goal.loop-place-init
loop-place-init c = let a = c.args in (going_start (order_of a.order) a.level a.file.now a.tally.now.counts c.requires.0 c.requires.2, refl)

pub unwrap-header-requires : goal.unwrap-header-requires
unwrap-header-requires c = let a = c.args in never_cut (order_of a.order) a.level a.file.now a.tally.now.counts c.requires.0 c.loop-place.invariant.0 c.loop-place-test.true c.raw_head.result c.raw_head.ensures.0

pub next_place-next-requires : goal.next_place-next-requires
next_place-next-requires c = let a = c.args in ((found (order_of a.order) a.level a.file.now a.tally.now.counts c.requires.0 c.loop-place.invariant.0 c.loop-place-test.true c.requires.1 c.raw_head.ensures.0 c.unwrap-header.ensures).fits, c.requires.0.limit)

pub overflow_add-tally : goal.overflow_add-tally
overflow_add-tally c =
    let a = c.args in
    let f = found (order_of a.order) a.level a.file.now a.tally.now.counts c.requires.0 c.loop-place.invariant.0 c.loop-place-test.true c.requires.1 c.raw_head.ensures.0 c.unwrap-header.ensures in
    let k = f.taken (c.at_level-class.ensures ∙ class_at_lem _ c.all-classes.ensures a.level c.unwrap-header.result.code _ _ _ refl refl f.coded) c.next_place-next.ensures in
    omega (arith, k.fits)

pub loop-place-preserved : goal.loop-place-preserved
loop-place-preserved c =
    let a = c.args in
    let f = found (order_of a.order) a.level a.file.now a.tally.now.counts c.requires.0 c.loop-place.invariant.0 c.loop-place-test.true c.requires.1 c.raw_head.ensures.0 c.unwrap-header.ensures in
    let k = f.taken (c.at_level-class.ensures ∙ class_at_lem _ c.all-classes.ensures a.level c.unwrap-header.result.code _ _ _ refl refl f.coded) c.next_place-next.ensures in
    (k.goes, c.loop-place.invariant.1)

pub returns : goal.returns
returns c =
    let a = c.args in
    let e : c.loop-place.tally.counts ≡ _ = going_over (order_of a.order) a.level a.file.now a.tally.now.counts c.loop-place.invariant.0 c.loop-place-test.false in
    λ i. record { counts = e i; headers = c.loop-place.invariant.1 i + 9 }
