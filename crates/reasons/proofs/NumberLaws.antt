-- Each reason has a number of its own, and it is above 0.
use Rattle.std.specs.Prelude.{ℕ, List, [], ◌∷◌, ◌≡◌, ◌<◌, get_or}
use Rattle.std.specs.Prelude.{Result, Err}
use Rattle.std.specs.Result.{IsErrAnd}
use Rattle.std.proofs.lemmas.Result.{err_from_is_err_and}
use mathlib.Core.Path.{ap, sym, ◌∙◌, refl}
use native.Mathlib.Omega.{arith}
use Rattle.reasons.specs.Numbers.{number_of}
use Rattle.reasons.specs.declared.Reason.{Reason}
use Rattle.reasons.specs.declared.Reason.TheVariants.{LevelAbove1023, FewerThan9Bytes, SignatureWrong, VersionNot1, LengthFieldWrong, HeaderCut, ListWithoutEnd, BodyLongerThanList, EndWithABody, BytesAfterEnd, ContainerAtDepth8, ItemPastTheBody, Spelling, SkippedBitNotZero, UnlistedValue, CountOutsideItsRange, BodyNotUsedUp, TableTooShort, NoFileHasThisTable, OutputTooShort, KNotBelowTheCount, IndexTooShort, OrderUnknown, TallyFull, TimeTooLate, TimesDoNotRise, FrameInBezier, StepBeyondSingles, NotTheIndex}

-- the reason of a number; the first stands for all that have none
abbrev reason_of : ℕ → Reason
reason_of n = get_or (LevelAbove1023 ∷ LevelAbove1023 ∷ FewerThan9Bytes ∷ SignatureWrong ∷ VersionNot1 ∷ LengthFieldWrong ∷ HeaderCut ∷ ListWithoutEnd ∷ LevelAbove1023 ∷ BodyLongerThanList ∷ EndWithABody ∷ BytesAfterEnd ∷ ContainerAtDepth8 ∷ ItemPastTheBody ∷ Spelling ∷ SkippedBitNotZero ∷ UnlistedValue ∷ CountOutsideItsRange ∷ BodyNotUsedUp ∷ TableTooShort ∷ NoFileHasThisTable ∷ OutputTooShort ∷ KNotBelowTheCount ∷ IndexTooShort ∷ OrderUnknown ∷ TallyFull ∷ TimeTooLate ∷ TimesDoNotRise ∷ FrameInBezier ∷ StepBeyondSingles ∷ NotTheIndex ∷ []) n LevelAbove1023

back : (r : Reason) → reason_of (number_of r) ≡ r
back LevelAbove1023 = refl
back FewerThan9Bytes = refl
back SignatureWrong = refl
back VersionNot1 = refl
back LengthFieldWrong = refl
back HeaderCut = refl
back ListWithoutEnd = refl
back BodyLongerThanList = refl
back EndWithABody = refl
back BytesAfterEnd = refl
back ContainerAtDepth8 = refl
back ItemPastTheBody = refl
back Spelling = refl
back SkippedBitNotZero = refl
back UnlistedValue = refl
back CountOutsideItsRange = refl
back BodyNotUsedUp = refl
back TableTooShort = refl
back NoFileHasThisTable = refl
back OutputTooShort = refl
back KNotBelowTheCount = refl
back IndexTooShort = refl
back OrderUnknown = refl
back TallyFull = refl
back TimeTooLate = refl
back TimesDoNotRise = refl
back FrameInBezier = refl
back StepBeyondSingles = refl
back NotTheIndex = refl

pub number_one : (a b : Reason) → number_of a ≡ number_of b → a ≡ b
number_one a b e = sym (back a) ∙ ap reason_of e ∙ back b

-- none has the number 0, which stands for no refusal
pub positive : (r : Reason) → 0 < number_of r
positive LevelAbove1023 = omega arith
positive FewerThan9Bytes = omega arith
positive SignatureWrong = omega arith
positive VersionNot1 = omega arith
positive LengthFieldWrong = omega arith
positive HeaderCut = omega arith
positive ListWithoutEnd = omega arith
positive BodyLongerThanList = omega arith
positive EndWithABody = omega arith
positive BytesAfterEnd = omega arith
positive ContainerAtDepth8 = omega arith
positive ItemPastTheBody = omega arith
positive Spelling = omega arith
positive SkippedBitNotZero = omega arith
positive UnlistedValue = omega arith
positive CountOutsideItsRange = omega arith
positive BodyNotUsedUp = omega arith
positive TableTooShort = omega arith
positive NoFileHasThisTable = omega arith
positive OutputTooShort = omega arith
positive KNotBelowTheCount = omega arith
positive IndexTooShort = omega arith
positive OrderUnknown = omega arith
positive TallyFull = omega arith
positive TimeTooLate = omega arith
positive TimesDoNotRise = omega arith
positive FrameInBezier = omega arith
positive StepBeyondSingles = omega arith
positive NotTheIndex = omega arith

-- what `?` hands on is the same refusal
pub passed_on : {T E : Type 0} {e : E} (r : Result T E) → IsErrAnd r (λ y. y ≡ e) → r ≡ Err e
passed_on r h = let k = err_from_is_err_and r h in k.1 ∙ ap Err k.2
