use Prim.Native.Nat.{◌-◌}
use Rattle.path_singles.proofs.PathLaws.{Turning}
use Rattle.path_singles.proofs.convert_paths.Given as goal

abbrev pub invariant-loop : goal.invariant-loop
invariant-loop l = Turning l.initial.values l.at l.count l.values l.index (l.count - l.counter) l.beyond
