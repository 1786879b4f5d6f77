use mathlib.Core.Path.{refl}
use Rattle.path_singles.proofs.BlockLaws.{flags_inside, before_read, before_stopped}
use Rattle.path_singles.proofs.blocks.numbers_before.Goals as goal

pub returns-in_default : goal.returns-in_default
returns-in_default c = before_stopped c.args.rows.now c.args.body.now c.requires.1 c.in_default.ensures

pub invariant_of-reader : goal.invariant_of-reader
invariant_of-reader c = record { inside = (flags_inside c.args.rows.now c.args.body.now c.requires.1 c.in-Ok.ensures.0, c.requires.2) }

pub returns : goal.returns
returns c = before_read c.args.rows.now c.args.body.now c.requires.1 _ c.in-Ok.ensures.0 refl refl refl refl c.read_contents.ensures
