use Prim.Native.Nat.{◌-◌}
use mathlib.Core.Path.{◌∙◌}
use native.Mathlib.Omega.{arith}
use lib.ListN.{length}
use Rattle.listing.proofs.StepLaws.{step_less, part_next, part_end, no_room, no_row, no_number, taken_over, over_taken}
use Rattle.listing.proofs.Tables.put_steps.Goals as goal

pub loop-cursor-smaller : goal.loop-cursor-smaller
loop-cursor-smaller c = step_less c.args.self.now.len c.args.self.now.table.now c.args.self.now.rows.now c.loop-cursor.text.out.now c.loop-cursor.text.used c.loop-cursor.cursor c.loop-cursor-test.true (taken_over c.put_step-cursor.ensures.0)

pub loop-cursor-preserved : goal.loop-cursor-preserved
loop-cursor-preserved c =
    let taken = c.put_step-cursor.ensures.0 in (
      taken.text.lent ∙ c.loop-cursor.invariant.0,
      taken.text.size ∙ c.loop-cursor.invariant.1,
      omega (arith, c.put_step-cursor.ensures.1, c.loop-cursor.invariant.1),
      part_next c.args.self.now.len c.args.self.now.table.now c.args.self.now.rows.now c.loop-cursor.text.out.now (length c.args.text.now.out.now) c.loop-cursor.text.used c.loop-cursor.cursor c.loop-cursor-test.true c.if-cursor-self.true
          (omega (arith, c.loop-cursor.invariant.1)) (taken_over taken) c.loop-cursor.invariant.3,
    )

pub returns-else-text-clause-taken : goal.returns-else-text-clause-taken
returns-else-text-clause-taken c =
    let n = c.args.self.now.len in let t = c.args.self.now.table.now in let g = c.args.self.now.rows.now in let d = c.loop-cursor.cursor in
    let room = length c.args.text.now.out.now - c.loop-cursor.text.used in
    over_taken _ c.loop-cursor.invariant.0 c.loop-cursor.invariant.1 (part_end n t g c.loop-cursor.text.out.now room c.loop-cursor.text.used d (no_room n t g room d (omega (arith, c.loop-cursor.invariant.1))) c.loop-cursor.invariant.3)

pub returns-else-cursor-self-clause-taken : goal.returns-else-cursor-self-clause-taken
returns-else-cursor-self-clause-taken c =
    let n = c.args.self.now.len in let t = c.args.self.now.table.now in let g = c.args.self.now.rows.now in let d = c.loop-cursor.cursor in
    let room = length c.args.text.now.out.now - c.loop-cursor.text.used in
    over_taken _ c.loop-cursor.invariant.0 c.loop-cursor.invariant.1 (part_end n t g c.loop-cursor.text.out.now room c.loop-cursor.text.used d (no_row n t g room d c.if-cursor-self.false) c.loop-cursor.invariant.3)

pub returns-after-loop-cursor-clause-taken : goal.returns-after-loop-cursor-clause-taken
returns-after-loop-cursor-clause-taken c =
    let n = c.args.self.now.len in let t = c.args.self.now.table.now in let g = c.args.self.now.rows.now in let d = c.loop-cursor.cursor in
    let room = length c.args.text.now.out.now - c.loop-cursor.text.used in
    over_taken _ c.loop-cursor.invariant.0 c.loop-cursor.invariant.1 (part_end n t g c.loop-cursor.text.out.now room c.loop-cursor.text.used d (no_number n t g room d c.loop-cursor-test.false) c.loop-cursor.invariant.3)
