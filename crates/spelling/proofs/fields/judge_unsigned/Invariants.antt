use Rattle.std.proofs.Common.{◌≡◌, take}
use Rattle.table.specs.Fields.{announced}
use Rattle.spelling.proofs.FieldLaws.{Judging}
use Rattle.spelling.proofs.fields.judge_unsigned.Given as goal

abbrev pub invariant-loop-number : goal.invariant-loop-number
invariant-loop-number l = Judging l.kind l.width l.numbers l.number-index × (l.sum ≡ announced l.kind (take l.number-index l.numbers))
