use Rattle.path_singles.proofs.StepLaws.{Counting}
use Rattle.path_singles.proofs.count_coordinates.Given as goal

abbrev pub invariant-loop-verb : goal.invariant-loop-verb
invariant-loop-verb l = Counting l.verbs l.verb-index l.count
