-- (C-19) The tally, and what adding a file to it gives.
use Rattle.std.specs.Prelude.{ℕ, ◌+◌, List, [], ◌∷◌, Bool, false, length, get_or, set, replicate, ltb, leb}
use Rattle.format.specs.Tests.{pick, ◌or◌}
use Rattle.format.specs.FileAndTags.{Tag, Outcome, whole, fault}
use Rattle.format.specs.Reasons as paper
use Rattle.format.specs.Reasons.{accepted, refused, walk_file}
use Rattle.answers.specs.Answers.{answer_of}
use Rattle.tally.specs.OwnBytes.{own_bytes}
use Rattle.tally.specs.declared.Tally.{Tally}
use Rattle.tally.specs.declared.Added.{Added}

-- ---- Keep a tally of 1,024 counts that starts at zero, and one count for file headers.
abbrev pub at_zero : Tally
at_zero = record { counts = replicate 1024 0; headers = 0 }

-- ---- Adding an accepted file adds each tag's header bytes and the body bytes that belong to no tag inside it to its code's count,
unfoldable pub adds : List ℕ → List Tag → List ℕ
adds counts [] = counts
adds counts (t ∷ ts) = adds (set counts t.code (get_or counts t.code 0 + own_bytes t ts)) ts

-- ---- and 9 to the header count. ts are the file's tags in file order.
abbrev pub with_file : Tally → List Tag → Tally
with_file t ts = record { counts = adds t.counts ts; headers = t.headers + 9 }

-- ---- 25 for a file beyond the limit (header count 9,000,000 or more) or a tally with a count above 16,777,216,000,000
abbrev pub some_above : ℕ → List ℕ → Bool
some_above most [] = false
some_above most (n ∷ ns) = ltb most n or some_above most ns

unfoldable pub is_full : Tally → Bool
is_full t = leb 9000000 t.headers or some_above 16777216000000 t.counts

-- ---- Refusals: the reader's but 19, and 25, tried first; a refusal leaves all counts. An acceptance has the file's length.

-- what a call leaves: the tally afterwards, and its answer
pub record Left : Type 0 where
  pub tally : Tally
  pub answer : paper.Answer

abbrev pub by_outcome : Tally → List ℕ → List Tag → Outcome → Left
by_outcome t f ts whole = record { tally = with_file t ts; answer = accepted (length f) }
by_outcome t f ts (fault e n) = record { tally = t; answer = refused e n }

-- the promise of `add`
unfoldable pub adding : ℕ → ℕ → Tally → List ℕ → Left
adding order level t f =
    pick (is_full t) (record { tally = t; answer = refused 25 0 }) (by_outcome t f (walk_file order level f).tags (walk_file order level f).ended)

-- the answer of the code, in the words of the definitions
abbrev pub leaves : Added → Left
leaves a = record { tally = a.tally; answer = answer_of a.answer }
