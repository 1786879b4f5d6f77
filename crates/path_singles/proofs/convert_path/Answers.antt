use mathlib.Core.Path.{refl}
use native.Mathlib.Omega.{arith}
use Rattle.path_singles.proofs.StepLaws.{over_part}
use Rattle.path_singles.proofs.PathLaws.{path_over}
use Rattle.path_singles.proofs.convert_path.Goals as goal

pub returns : goal.returns
returns c =
    let r = path_over c.args.values.now c.args.at c.requires.0 c.up_to-verb_end.ensures c.count_coordinates-count.ensures c.up_to-start.ensures c.up_to-behind.ensures
    (over_part c.args.values.now (omega (arith, c.up_to-behind.ensures, c.up_to-start.ensures)) refl c.convert_steps-beyond.ensures) in
    record { converted = r.0; ended = r.1 }
