-- The answer of the header's reader, in the words of the definitions.
use Rattle.std.specs.Prelude.{ℕ, List, Result, Ok, Err, get_or, ltb, eqb, ◌/◌}
use Rattle.format.specs.FileAndTags as paper
use Rattle.format.specs.FileAndTags.{le16, read_head}
use Rattle.format.specs.Tests.{pick, ◌and◌}
use Rattle.classes.specs.Classes.{bare, ends, contains}
use Rattle.classes.specs.declared.Class.{Class}
use Rattle.reasons.specs.declared.Reason.{Reason}
use Rattle.reasons.specs.Numbers.{number_of}
use Rattle.classes.specs.declared.Class.TheVariants.{Opaque}
use Rattle.headers.specs.declared.Header.{Header}
use Rattle.headers.specs.declared.Passed.{Passed}

abbrev pub as_head : Result Header Reason → paper.Head
as_head (Ok h) = paper.head h.code h.length h.size
as_head (Err e) = paper.no_head (number_of e)

-- the header at the start of r, the rest of a list's room, if the class of its code has this name
abbrev pub head_by : Class → ℕ → List ℕ → paper.Head
head_by class left r = read_head (λ code. bare class) left r

-- why a header does not pass, 0 if it does: rest bytes follow it
abbrev pub fault_by : Class → ℕ → ℕ → ℕ → ℕ
fault_by class left rest len =
    pick (ltb rest len) 9 (pick (ends class and ltb 0 len) 10 (pick (contains class and eqb left 0) 12 0))

-- the same of an answer
abbrev pub fault_of : Result Unit Reason → ℕ
fault_of (Ok passed) = 0
fault_of (Err e) = number_of e

-- ---- a header that passes, by the classes that are lent

abbrev pub as_passed : Result Passed Reason → paper.Head
as_passed (Ok p) = paper.head p.header.code p.header.length p.header.size
as_passed (Err e) = paper.no_head (number_of e)

-- the class of the code that stands at the start of r
abbrev pub class_here : List Class → List ℕ → Class
class_here cs r = get_or cs (le16 r / 64) Opaque
