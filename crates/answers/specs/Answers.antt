-- The paper's numbers for an answer, and what a call that answers so leaves behind.
use Rattle.std.specs.Prelude.{ℕ, List}
use Rattle.format.specs.Reasons as paper
use Rattle.reasons.specs.Numbers.{number_of}
use Rattle.answers.specs.declared.Answer.{Answer}
use Rattle.answers.specs.declared.Answer.TheVariants.{Accepted, Refused}

abbrev pub answer_of : Answer → paper.Answer
answer_of (Accepted n) = paper.accepted n
answer_of (Refused e n) = paper.refused (number_of e) n

-- m: what the lent memory holds afterwards
abbrev pub leaves : List ℕ → Answer → paper.Left
leaves m r = record { answer = answer_of r; lent = m }
