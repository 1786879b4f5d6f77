use lib.ListN.{length}
use Rattle.format.specs.TableOfNumbers.{table as table_of}
use Rattle.format.specs.Reasons.{walk_file}
use Rattle.path_singles.specs.Tables.{in_singles, judged}
use Rattle.path_singles.proofs.TableLaws.{Walking}
use Rattle.path_singles.proofs.tags.convert.Given as goal

abbrev pub invariant-loop-row : goal.invariant-loop-row
invariant-loop-row l = Walking l.file l.rows (table_of l.file (in_singles l.file (walk_file 0 1023 l.file))) (judged l.file (walk_file 0 1023 l.file).tags) (length l.initial.table) l.table l.index l.row-index l.first
