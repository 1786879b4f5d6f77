-- A body's bytes put over an output from a byte place on; and the answer of a function that writes one, with the output that it leaves.
use Rattle.std.specs.Prelude.{ℕ, ◌+◌, List, leb, length, Result, Ok, Err}
use Rattle.std.proofs.lemmas.List.Edits.{sets}
use Rattle.format.specs.Tests.{pick}
use Rattle.format.specs.Possible.{Possible, this, cannot}
use Rattle.bits.specs.declared.BytePlace.{BytePlace}
use Rattle.sink.specs.declared.Impossible.{Impossible}

-- in bytes: no file is longer
abbrev pub longest : ℕ
longest = 16777216

-- the output after a body, and the next byte place; where there is no body, nothing is said of the output
pub data Lain : Type 0 where
  lain : List ℕ → ℕ → Lain

-- bytes put over the output u from place a on; what does not fit the output is dropped, and what is longer than a file has no place
unfoldable pub lies : List ℕ → ℕ → Possible (List ℕ) → Possible Lain
lies u a (this b) = pick (leb (a + length b) longest) (this (lain (sets u a b) (a + length b))) cannot
lies u a cannot = cannot

abbrev pub lain_as : List ℕ → Result BytePlace Impossible → Possible Lain
lain_as u (Ok p) = this (lain u p.0)
lain_as u (Err e) = cannot
