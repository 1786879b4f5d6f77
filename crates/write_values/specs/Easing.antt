-- How many easing numbers the interpolations that were written announce.
use Rattle.std.specs.Prelude.{ℕ, ◌*◌, ◌≤◌, ◌≡◌, Result, Ok, Err}
use Rattle.format.specs.Bodies.{how_many}
use Rattle.sink.specs.declared.Impossible.{Impossible}
use Rattle.spelling.specs.Writer.{used}
use Rattle.spelling.specs.declared.writer.Writer.{Writer}

-- the interpolations of n frames announce m easing numbers: four for each Bezier frame, for one curve
abbrev pub Eases : Writer → Writer → ℕ → Result ℕ Impossible → Type 0
Eases a b n (Ok m) = (m ≡ how_many 2 (used a b) * 4) × (m ≤ 6 * n)
Eases a b n (Err e) = Unit {0}
