use Rattle.path_singles.proofs.PathLaws.{frames_none, frames_beyond, frames_from}
use mathlib.Core.Path.{refl}
use Rattle.path_singles.proofs.convert_frames.Goals as goal

pub returns-then-len-at : goal.returns-then-len-at
returns-then-len-at c = frames_none _ _ c.if-len-at.true

pub returns-then-len-count : goal.returns-then-len-count
returns-then-len-count c = frames_beyond _ _ c.if-len-at.false c.if-len-count.true

pub returns : goal.returns
returns c = frames_from _ _ c.if-len-at.false refl c.up_to-first.ensures c.convert_paths.ensures
