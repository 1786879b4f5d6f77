-- The answer of a file added to a host's tally: its lent counts, its lent header count, and the answer as a plain struct.
use Rattle.std.specs.Prelude.{ℕ, List, ◌≡◌}
use Rattle.tally.specs.Adding.{Left}
use Rattle.tally.specs.declared.Tally.{Tally}
use Rattle.pag.specs.Plain.{plain_of}
use Rattle.pag.specs.declared.PagAnswer.{PagAnswer}

abbrev pub tally_of : List ℕ → ℕ → Tally
tally_of counts headers = record { counts = counts; headers = headers }

-- what the lent counts and the header count hold afterwards, and the answer r
abbrev pub leaves_tally : List ℕ → ℕ → PagAnswer → Left → Type 0
leaves_tally counts headers r x = (r ≡ plain_of x.answer) × (counts ≡ x.tally.counts) × (headers ≡ x.tally.headers)
