use mathlib.Core.Path.{sym}
use lib.ListN.{length}
use borrow.Author.Rules.{rules}
use Rattle.listing.proofs.StepLaws.{part_done}
use Rattle.listing.proofs.Tables.put_part.Goals as goal

pub returns : goal.returns
returns c =
    let lent = sym c.put_steps-to.ensures.lent in
    (part_done c.args.self.now.len c.args.self.now.table.now c.args.self.now.rows.now (length c.args.out.now) c.args.start (search rules) c.put_steps-to.ensures.taken, c.put_steps-to.ensures.inside)
