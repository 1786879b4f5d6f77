use mathlib.Core.Path.{refl}
use native.Mathlib.Omega.{arith}
use Rattle.questions.proofs.AskLaws.{count_is, count_none}
use Rattle.questions.proofs.lent.Lent.how_many.Goals as goal

pub returns-then-code-gt-LAST_CODE : goal.returns-then-code-gt-LAST_CODE
returns-then-code-gt-LAST_CODE c = count_none c.args.self.now.tags.now c.args.self.now.index.now c.requires c.args.code c.if-code-gt-LAST_CODE.true

pub overflow_sub-result : goal.overflow_sub-result
overflow_sub-result c = omega (arith, count_is c.args.self.now.tags.now c.args.self.now.index.now c.requires c.args.code _ c.if-code-gt-LAST_CODE.false refl)

pub returns : goal.returns
returns c = omega (arith, count_is c.args.self.now.tags.now c.args.self.now.index.now c.requires c.args.code _ c.if-code-gt-LAST_CODE.false refl)
