use native.Mathlib.Omega.{arith}
use Rattle.listing.proofs.StepLaws.{head_taken}
use Rattle.listing.proofs.Tables.put_head.Goals as goal

pub returns : goal.returns
returns c = (
  head_taken c.args.self.now.table.now c.args.self.now.rows.now c.args.cursor.number c.args.cursor.row c.row_at.result c.row_at-2.result c.row_at-3.result c.row_at-4.result c.number_at.result c.number_at-2.result c.ender_of.result
      c.after_head-to.result c.after_head-to.ensures c.row_at.ensures c.row_at-2.ensures c.row_at-3.ensures c.row_at-4.ensures c.number_at.ensures c.tabbed.ensures.0 c.number_at-2.ensures c.ender_of.ensures c.field.ensures.0,
  omega (arith, c.tabbed.ensures.1, c.field.ensures.1),
)
