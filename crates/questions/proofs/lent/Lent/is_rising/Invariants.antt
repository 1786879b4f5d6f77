use Rattle.questions.specs.Judged.{Rising}
use Rattle.questions.proofs.lent.Lent.is_rising.Given as goal

abbrev pub invariant-loop-k : goal.invariant-loop-k
invariant-loop-k l = Rising l.self.tags.now l.self.index.now l.k
