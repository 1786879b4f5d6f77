-- The paper's number of each reason.
use Rattle.std.specs.Prelude.{ℕ, Result, Ok, Err}
use Rattle.reasons.specs.declared.Reason.{Reason}
use Rattle.reasons.specs.declared.Reason.TheVariants.{LevelAbove1023, FewerThan9Bytes, SignatureWrong, VersionNot1, LengthFieldWrong, HeaderCut, ListWithoutEnd, BodyLongerThanList, EndWithABody, BytesAfterEnd, ContainerAtDepth8, ItemPastTheBody, Spelling, SkippedBitNotZero, UnlistedValue, CountOutsideItsRange, BodyNotUsedUp, TableTooShort, NoFileHasThisTable, OutputTooShort, KNotBelowTheCount, IndexTooShort, OrderUnknown, TallyFull, TimeTooLate, TimesDoNotRise, FrameInBezier, StepBeyondSingles, NotTheIndex}

abbrev pub number_of : Reason → ℕ
number_of LevelAbove1023 = 1
number_of FewerThan9Bytes = 2
number_of SignatureWrong = 3
number_of VersionNot1 = 4
number_of LengthFieldWrong = 5
number_of HeaderCut = 6
number_of ListWithoutEnd = 7
number_of BodyLongerThanList = 9
number_of EndWithABody = 10
number_of BytesAfterEnd = 11
number_of ContainerAtDepth8 = 12
number_of ItemPastTheBody = 13
number_of Spelling = 14
number_of SkippedBitNotZero = 15
number_of UnlistedValue = 16
number_of CountOutsideItsRange = 17
number_of BodyNotUsedUp = 18
number_of TableTooShort = 19
number_of NoFileHasThisTable = 20
number_of OutputTooShort = 21
number_of KNotBelowTheCount = 22
number_of IndexTooShort = 23
number_of OrderUnknown = 24
number_of TallyFull = 25
number_of TimeTooLate = 26
number_of TimesDoNotRise = 27
number_of FrameInBezier = 28
number_of StepBeyondSingles = 29
number_of NotTheIndex = 30

-- the number of a refusal; 0 where there is none
abbrev pub fault_of : {A : Type 0} → Result A Reason → ℕ
fault_of (Ok x) = 0
fault_of (Err r) = number_of r
