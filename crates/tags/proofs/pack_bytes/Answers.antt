-- `tags::pack_bytes` meets its contract: what is not stored yet is what there is still room for.
use Prim.Native.Nat.{◌+◌, ◌/◌}
use mathlib.Core.Path.{◌≡◌, refl}
use native.Mathlib.Omega.{arith}
use lib.ListN.{length}
use Rattle.tags.proofs.TagLaws.{packed_done, packed_next, packed_last, some_rest, no_rest}
use Rattle.tags.proofs.pack_bytes.Goals as goal
use Rattle.tags.proofs.pack_bytes.Goals.{else-not-is_empty-via-then-not-is_empty+else-last-table, else-not-is_empty-via-else-not-is_empty}

pub loop-i-preserved : goal.loop-i-preserved
loop-i-preserved c = let a = c.args in packed_next a.body.now (a.from + 1) c.loop-i.invariant (omega (arith, c.loop-i-test.true, c.room_for-i-end.ensures)) c.eight.ensures.1

pub returns-then-last-table : goal.returns-then-last-table
returns-then-last-table c =
    let a = c.args in
    let full : c.loop-i.i ≡ length a.body.now / 8 = omega (arith, c.if-last-table.true, c.loop-i-test.false, c.loop-i.auto.i-end, c.loop-i.invariant.size, c.room_for-i-end.ensures) in
    packed_done a.table.now a.body.now a.from refl c.put.ensures
    (packed_last a.body.now (a.from + 1) c.loop-i.invariant full (omega (arith, some_rest a.body.now (c.if-not-is_empty.ensures))) c.few.ensures.1)
    (omega (arith, full))

pub returns-else-not-is_empty : goal.returns-else-not-is_empty
returns-else-not-is_empty c = let a = c.args in packed_done a.table.now a.body.now a.from refl c.put.ensures c.loop-i.invariant
    (elim c.else-not-is_empty.branch [ else-not-is_empty-via-then-not-is_empty+else-last-table w ↦ omega (arith, c.loop-i-test.false, c.loop-i.auto.i-end, c.loop-i.invariant.size, c.room_for-i-end.ensures) | else-not-is_empty-via-else-not-is_empty w ↦ omega (arith, no_rest a.body.now (w.if-not-is_empty.ensures), c.loop-i-test.false, c.loop-i.auto.i-end, c.loop-i.invariant.size, c.room_for-i-end.ensures) ])
