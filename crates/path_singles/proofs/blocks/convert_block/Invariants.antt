use Rattle.path_singles.proofs.BlockLaws.{Blocking}
use Rattle.path_singles.proofs.blocks.convert_block.Given as goal

abbrev pub invariant-loop-row : goal.invariant-loop-row
invariant-loop-row l = Blocking l.body l.initial.values l.rows l.values l.row l.beyond
