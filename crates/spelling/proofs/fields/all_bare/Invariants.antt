use Rattle.std.proofs.Common.{◌≡◌, ◌/◌, true}
use Rattle.format.specs.Tests.{pick}
use Rattle.table.specs.Fields.{signed}
use Rattle.table.specs.declared.fields.Field.{Field}
use Rattle.spelling.specs.Fields.{bare}
use Rattle.spelling.proofs.FieldLaws.{Judging}
use Rattle.spelling.proofs.fields.all_bare.Given as goal

abbrev pub invariant-loop-value : goal.invariant-loop-value
invariant-loop-value l = (f : Field) → bare f ≡ true → l.negatives ≡ pick (signed f) (l.size / 2) 0 → Judging f l.width l.numbers l.value-index
