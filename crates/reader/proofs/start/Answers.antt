-- `reader::start` meets its contract: each refusal in its turn, or none.
use Prim.Native.Nat.{◌≤◌}
use mathlib.Core.Path.{◌≡◌, refl, sym, ap, ◌∙◌}
use mathlib.Core.Bool.{true}
use Rattle.format.specs.FileAndTags.{signature_right}
use Rattle.bits.proofs.FieldLaws.{order_told}
use Rattle.reasons.specs.Numbers.{number_of, fault_of}
use Rattle.reasons.proofs.NumberLaws.{passed_on}
use Rattle.reader.proofs.FileLaws.{start_1, start_24, start_2, start_3, start_4, start_5, start_5_long, start_0, signature_is}
use Rattle.reader.proofs.start.Goals as goal
use Rattle.reader.proofs.start.Goals.{then-le32_at-size-via-then-le32_at-size, then-le32_at-size-via-else-le32_at-size+then-size-gt-LONGEST_FILE}

pub returns-then-level-gt-HIGHEST_LEVEL-clause-fault : goal.returns-then-level-gt-HIGHEST_LEVEL-clause-fault
returns-then-level-gt-HIGHEST_LEVEL-clause-fault c = start_1 c.args.order c.args.level c.args.file.now c.if-level-gt-HIGHEST_LEVEL.true

pub returns-in_err-named-clause-fault : goal.returns-in_err-named-clause-fault
returns-in_err-named-clause-fault c = let a = c.args in let told = order_told a.order (sym c.in_err-named.was ∙ c.try_from.ensures) in
    ap fault_of (passed_on c.from_residual.result c.from_residual.ensures.1) ∙ ap number_of told.0 ∙ start_24 a.order a.level a.file.now c.if-level-gt-HIGHEST_LEVEL.false told.1

pub returns-then-size-lt9-clause-fault : goal.returns-then-size-lt9-clause-fault
returns-then-size-lt9-clause-fault c = let a = c.args in start_2 a.order a.level a.file.now c.if-level-gt-HIGHEST_LEVEL.false (order_told a.order (sym c.in_ok-named.was ∙ c.try_from.ensures)).1 c.if-size-lt9.true

pub returns-then-not-starts_with-clause-fault : goal.returns-then-not-starts_with-clause-fault
returns-then-not-starts_with-clause-fault c = let a = c.args in start_3 a.order a.level a.file.now c.if-level-gt-HIGHEST_LEVEL.false (order_told a.order (sym c.in_ok-named.was ∙ c.try_from.ensures)).1 c.if-size-lt9.false (sym (signature_is a.file.now c.if-size-lt9.false) ∙ sym c.starts_with.ensures.value ∙ c.if-not-starts_with.true)

pub returns-then-file-ne1-clause-fault : goal.returns-then-file-ne1-clause-fault
returns-then-file-ne1-clause-fault c = let a = c.args in let named : signature_right a.file.now ≡ true = sym (signature_is a.file.now c.if-size-lt9.false) ∙ sym c.starts_with.ensures.value ∙ c.if-not-starts_with.false in start_4 a.order a.level a.file.now c.if-level-gt-HIGHEST_LEVEL.false (order_told a.order (sym c.in_ok-named.was ∙ c.try_from.ensures)).1 c.if-size-lt9.false named refl c.if-file-ne1.true

pub returns-then-le32_at-size-clause-fault : goal.returns-then-le32_at-size-clause-fault
returns-then-le32_at-size-clause-fault c = let a = c.args in let named : signature_right a.file.now ≡ true = sym (signature_is a.file.now c.if-size-lt9.false) ∙ sym c.starts_with.ensures.value ∙ c.if-not-starts_with.false in let ordered : a.order ≤ 1 = (order_told a.order (sym c.in_ok-named.was ∙ c.try_from.ensures)).1 in
    elim c.then-le32_at-size.branch [
      | then-le32_at-size-via-then-le32_at-size w ↦ start_5 a.order a.level a.file.now c.if-level-gt-HIGHEST_LEVEL.false ordered c.if-size-lt9.false named refl c.if-file-ne1.false c.le32_at.ensures w.if-le32_at-size.true
      | then-le32_at-size-via-else-le32_at-size+then-size-gt-LONGEST_FILE w ↦ start_5_long a.order a.level a.file.now c.if-level-gt-HIGHEST_LEVEL.false ordered c.if-size-lt9.false named refl c.if-file-ne1.false c.le32_at.ensures w.if-le32_at-size.false w.if-size-gt-LONGEST_FILE.true
    ]

pub returns-clause-fault : goal.returns-clause-fault
returns-clause-fault c = let a = c.args in let named : signature_right a.file.now ≡ true = sym (signature_is a.file.now c.if-size-lt9.false) ∙ sym c.starts_with.ensures.value ∙ c.if-not-starts_with.false in start_0 a.order a.level a.file.now c.if-level-gt-HIGHEST_LEVEL.false (order_told a.order (sym c.in_ok-named.was ∙ c.try_from.ensures)).1 c.if-size-lt9.false named refl c.if-file-ne1.false c.le32_at.ensures c.if-le32_at-size.false c.if-size-gt-LONGEST_FILE.false
