-- Document 02, C-23: what the listing program prints in the form with singles for path coordinates, and what it leaves in lent memory.
use Rattle.std.specs.Prelude.{ℕ, List, length, ltb}
use Rattle.format.specs.Tests.{pick}
use Rattle.format.specs.TableOfNumbers.{table}
use Rattle.format.specs.Reasons.{Answer, accepted, refused, Result, gives, refuses, result, walk_file, read_file, read_tags, into}
use Rattle.listing.specs.Listing.{listing, refusal, too_long}
use Rattle.path_singles.specs.Tables.{in_singles, judged}

-- "29 refuses the file after all others" (19 among them), "with the place of the first such tag"; else it is the plain listing with these bits
abbrev pub listed_or : List ℕ → Answer → List ℕ
listed_or f (accepted n) = listing f (in_singles f (walk_file 0 1023 f))
listed_or f (refused e n) = refusal e n

abbrev pub answered_in_singles : List ℕ → Result → List ℕ
answered_in_singles f (gives t) = pick (ltb 8192 (length t)) (refusal 19 (length t)) (listed_or f (judged f (walk_file 0 1023 f).tags))
answered_in_singles f (refuses e n) = refusal e n

-- all that is printed for the input f
abbrev pub printed_in_singles : List ℕ → List ℕ
printed_in_singles f = pick (ltb 32768 (length f)) too_long (answered_in_singles f (read_file 0 1023 f))

-- ---- what the file f gives with singles: its table with these bits, where a step beyond stays
abbrev pub read_singles : List ℕ → Result
read_singles f = result (table f (in_singles f (walk_file 0 1023 f))) (walk_file 0 1023 f).ended

-- coordinates are found by the tag table: where it was refused, steps stay
abbrev pub singles_by : List ℕ → Answer → Result
singles_by f (accepted n) = read_singles f
singles_by f (refused e n) = read_file 0 1023 f

-- what the memory m lent for the table holds afterwards, if g was lent for the tag table
abbrev pub singles_left : List ℕ → List ℕ → List ℕ → List ℕ
singles_left f m g = (into m (singles_by f (into g (read_tags 0 1023 f)).answer)).lent
