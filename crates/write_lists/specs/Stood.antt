-- Tags put over an output from a byte place on; and the answer of a function that writes them, with the output that it leaves.
use Rattle.std.specs.Prelude.{ℕ, ◌+◌, List, leb, length, Result, Ok, Err}
use Rattle.std.proofs.lemmas.List.Edits.{sets}
use Rattle.format.specs.Tests.{pick}
use Rattle.format.specs.Possible.{Possible, this, cannot}
use Rattle.format.specs.WritingFiles.{Made, made}
use Rattle.sink.specs.Lain.{longest}
use Rattle.sink.specs.declared.Impossible.{Impossible}
use Rattle.write_lists.specs.declared.Reached.{Reached}

-- the output, the next byte place and the index of the next number; where no file has the tags, nothing is said of the output
pub data Stood : Type 0 where
  stood : List ℕ → ℕ → ℕ → Stood

-- tags put over the output u from place a on, their numbers from index k on; no file ends after `longest`
unfoldable pub over : List ℕ → ℕ → ℕ → Possible Made → Possible Stood
over u a k (this (made xs b ys)) = pick (leb (a + length b) longest) (this (stood (sets u a b) (a + length b) (k + length xs))) cannot
over u a k cannot = cannot

abbrev pub stood_as : List ℕ → Result Reached Impossible → Possible Stood
stood_as u (Ok r) = this (stood u r.place.0 r.index)
stood_as u (Err e) = cannot
