-- `reader::survey` meets its contract: the refusal of the start, or what the walk counts.
use mathlib.Core.Path.{sym}
use native.Mathlib.Omega.{arith}
use Rattle.bits.specs.Places.{order_of}
use Rattle.reasons.proofs.NumberLaws.{positive}
use Rattle.reader.proofs.FileLaws.{fair_file, survey_start, survey_walk}
use Rattle.reader.proofs.survey.Goals as goal

pub read_tags-requires : goal.read_tags-requires
read_tags-requires c = fair_file c.args.order c.args.level c.args.file.now (sym c.in-Ok.ensures.fault)

pub returns-in-Err-clause-found : goal.returns-in-Err-clause-found
returns-in-Err-clause-found c = survey_start c.args.order c.args.level c.args.file.now c.in-Err.ensures.fault (λ z. omega (arith, z, positive c.in-Err.why))

pub returns-in-Ok-clause-found : goal.returns-in-Ok-clause-found
returns-in-Ok-clause-found c = survey_walk c.args.order c.args.level c.args.file.now (order_of c.in-Ok.named) _ _ c.in-Ok.ensures.named (sym c.in-Ok.ensures.fault) c.read_tags.ensures.filled
