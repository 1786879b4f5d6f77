-- `spelling::fields::judge_bare` meets its contract.
use Rattle.std.proofs.Common.{sym, ◌∙◌}
use Rattle.spelling.proofs.FieldLaws.{none_announced}
use Rattle.spelling.proofs.fields.judge_bare.Goals as goal

pub returns-then-all_bare : goal.returns-then-all_bare
returns-then-all_bare c = let a = c.args in (sym c.all_bare.ensures ∙ c.if-all_bare.true, none_announced a.kind c.requires.2 a.numbers.now)
