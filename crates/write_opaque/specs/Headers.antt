-- A body's bytes behind their tag's header, where a header with this claim can have their length.
use Rattle.std.specs.Prelude.{ℕ, Bool, List, ◌++◌, length}
use Rattle.format.specs.Tests.{pick}
use Rattle.format.specs.Possible.{Possible, this, cannot}
use Rattle.format.specs.WritingFiles.{fits_head, spell_head}

abbrev pub under_header : Bool → ℕ → Possible (List ℕ) → Possible (List ℕ)
under_header claim code (this b) = pick (fits_head claim code (length b)) (this (spell_head claim code (length b) ++ b)) cannot
under_header claim code cannot = cannot
