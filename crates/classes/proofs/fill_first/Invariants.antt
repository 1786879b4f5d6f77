use Prim.Native.Nat.{◌-◌}
use mathlib.Core.Path.{◌≡◌}
use lib.Seq.{sets}
use Rattle.classes.specs.Tables.{tab}
use Rattle.classes.specs.Classes.{named_by}
use Rattle.classes.proofs.fill_first.Given as goal

abbrev pub invariant-loop-code : goal.invariant-loop-code
invariant-loop-code l = sets l.classes l.code (tab (named_by l.scope l.level) l.code (32 - l.code)) ≡ sets l.initial.classes 0 (tab (named_by l.scope l.level) 0 32)
