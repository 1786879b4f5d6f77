-- An answer as a plain struct.
use Rattle.std.specs.Prelude.{ℕ, List, ◌≡◌}
use Rattle.format.specs.Reasons as paper
use Rattle.format.specs.Reasons.{Writes}
use Rattle.answers.specs.declared.Answer.{Answer}
use Rattle.answers.specs.declared.Answer.TheVariants.{Accepted, Refused}
use Rattle.reasons.specs.Numbers.{number_of}
use Rattle.pag.specs.declared.PagAnswer.{PagAnswer}

abbrev pub plain : Answer → PagAnswer
plain (Accepted n) = record { reason = 0; number = n }
plain (Refused e n) = record { reason = number_of e; number = n }

-- the paper's answer as a plain struct
abbrev pub plain_of : paper.Answer → PagAnswer
plain_of (paper.accepted n) = record { reason = 0; number = n }
plain_of (paper.refused e n) = record { reason = e; number = n }

-- m: what the lent memory holds afterwards. r: the answer
abbrev pub leaves_plain : List ℕ → PagAnswer → paper.Left → Type 0
leaves_plain m r x = (r ≡ plain_of x.answer) × (m ≡ x.lent)

-- what `write` may leave, by the reader's definition, with its answer made plain: for the table t and the output m, which then is m'
abbrev pub WritesPlain : ℕ → ℕ → List ℕ → List ℕ → List ℕ → PagAnswer → Type 0
WritesPlain order level t m m' r = (x : paper.Left) × Writes order level t m x × leaves_plain m' r x
