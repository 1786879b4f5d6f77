use mathlib.Core.Path.{◌≡◌}
use lib.ListN.{take, drop}
use lib.Seq.{sets}
use Rattle.format.specs.TableOfNumbers.{spread}
use Rattle.write_opaque.proofs.lay_eights.Given as goal

abbrev pub invariant-loop-i : goal.invariant-loop-i
invariant-loop-i l = l.out ≡ sets l.initial.out l.from (spread (take l.i (drop 1 l.values)))
