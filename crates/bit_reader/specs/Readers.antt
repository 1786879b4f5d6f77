-- What the functions over a `BitReader` answer and leave, whole: the bytes it holds are the same reference, the order is the same number, and only the place can move.
use Rattle.std.specs.Prelude.{ℕ, Bool, List, Result, Ok, Err}
use Rattle.std.specs.Borrow.{Bor}
use Rattle.format.specs.Reasons.{Answer, accepted, refused}
use Rattle.reasons.specs.declared.Reason.{Reason}
use Rattle.reasons.specs.Numbers.{number_of}
use Rattle.bit_reader.specs.declared.BitReader.{BitReader}
use Rattle.bit_reader.specs.Fields.{Step, step_at}

-- a new reader: place 0
abbrev pub at_start : ℕ → Bor (List ℕ) → BitReader
at_start order bytes = record { bytes = bytes; order = order; place = record { 0 = 0 } }

-- a reader afterwards, and the field
pub record Taken : Type 0 where
  pub reader : BitReader
  pub field : Answer

-- the reader at the place that a step gives, with its field
abbrev pub moved : BitReader → Step → Taken
moved r s = record { reader = record { bytes = r.bytes; order = r.order; place = s.place }; field = s.field }

-- UB, or SB where the field is signed
abbrev pub taken : Bool → BitReader → ℕ → Taken
taken signed r n = moved r (step_at r.order signed r.bytes.now r.place n)

-- what a call leaves, with what it answers: a value, or a reason and number 0
abbrev pub answer_of : Result ℕ Reason → Answer
answer_of (Ok v) = accepted v
answer_of (Err e) = refused (number_of e) 0

abbrev pub left : BitReader → Result ℕ Reason → Taken
left r answer = record { reader = r; field = answer_of answer }
