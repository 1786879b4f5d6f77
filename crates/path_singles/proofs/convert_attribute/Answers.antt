use mathlib.Core.Path.{sym, ◌∙◌}
use native.Mathlib.Omega.{arith}
use Rattle.path_singles.proofs.PathLaws.{attribute_none, attribute_one, attribute_frames}
use Rattle.path_singles.proofs.convert_attribute.Goals as goal

pub returns-in-0 : goal.returns-in-0
returns-in-0 c = attribute_none _ _ (sym c.number_at.ensures ∙ c.in-0.is)

pub returns-in-1 : goal.returns-in-1
returns-in-1 c = attribute_one _ _ (sym c.number_at.ensures ∙ c.in-1.is) c.convert_paths.ensures

pub returns-in_default : goal.returns-in_default
returns-in_default c = attribute_frames _ _ (λ e. omega (arith, c.number_at.ensures)) (λ e. omega (arith, c.number_at.ensures)) c.convert_frames.ensures
