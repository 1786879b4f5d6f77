-- What a run of the engine leaves: the lent table, the index of the next number, and how the reading ended.
use Rattle.std.specs.Prelude.{ℕ, ◌+◌, List, length}
use Rattle.std.proofs.lemmas.List.Edits.{sets}
use Rattle.format.specs.Reading.{Ending, Reading}

pub record State : Type 0 where
  pub table : List ℕ
  pub count : ℕ
  pub ended : Ending

-- a reading laid over the table t from index k on; what does not fit is dropped
unfoldable pub shown_over : List ℕ → ℕ → Reading → State
shown_over t k r = record { table = sets t k r.shown; count = k + length r.shown; ended = r.ended }
