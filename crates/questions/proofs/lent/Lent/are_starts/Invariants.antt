use Rattle.questions.specs.Judged.{Started}
use Rattle.questions.proofs.lent.Lent.are_starts.Given as goal

abbrev pub invariant-loop-code : goal.invariant-loop-code
invariant-loop-code l = Started l.self.tags.now l.self.index.now l.code
