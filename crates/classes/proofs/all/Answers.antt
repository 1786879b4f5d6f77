-- `classes::all` meets its contract: antt computes the whole table.
use mathlib.Core.Path.{refl}
use Rattle.classes.specs.Classes.{all_classes}
use Rattle.classes.proofs.all.Goals as goal

pub returns : goal.returns
unfolding all_classes
returns c = refl
