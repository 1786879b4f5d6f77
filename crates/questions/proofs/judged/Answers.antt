use native.Mathlib.Omega.{arith}
use mathlib.Core.Path.{refl}
use Rattle.questions.proofs.JudgeLaws.{no_fives, no_length, no_rising, no_starts, passes, no}
use Rattle.questions.proofs.judged.Goals as goal
use Rattle.questions.proofs.judged.Goals.{then-tags-count-via-then-tags-count, then-tags-count-via-else-tags-count+then-index-count, else-is_rising-via-then-is_rising+else-are_starts, else-is_rising-via-else-is_rising}

pub returns-then-tags-count-clause-none : goal.returns-then-tags-count-clause-none
returns-then-tags-count-clause-none c =
    elim c.then-tags-count.branch [
      | then-tags-count-via-then-tags-count w ↦ no_fives _ _ (λ e. w.if-tags-count.true (omega (arith, e)))
      | then-tags-count-via-else-tags-count+then-index-count w ↦ no_length _ _ (λ e. w.if-index-count.true (omega (arith, e)))
    ]

pub returns-then-are_starts-clause-some : goal.returns-then-are_starts-clause-some
returns-then-are_starts-clause-some c = (passes _ _ (omega arith) (omega arith) c.if-is_rising.ensures c.if-are_starts.ensures, refl, refl)

pub returns-else-is_rising-clause-none : goal.returns-else-is_rising-clause-none
returns-else-is_rising-clause-none c =
    elim c.else-is_rising.branch [
      | else-is_rising-via-then-is_rising+else-are_starts w ↦ no_starts _ _ (no w.are_starts.result w.if-are_starts.false w.are_starts.ensures)
      | else-is_rising-via-else-is_rising w ↦ no_rising _ _ (no c.is_rising.result w.if-is_rising.false c.is_rising.ensures)
    ]
