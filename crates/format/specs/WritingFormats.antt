-- Formats, written from the bit place p on.
use Rattle.std.specs.Prelude.{ℕ, ◌+◌, List, [], ◌++◌, Bool, length}
use Rattle.format.specs.Tests.{pick}
use Rattle.format.specs.Bits.{Order}
use Rattle.format.specs.Formats.{Format, nothing, item, only, ◌▹◌}
use Rattle.format.specs.Possible.{Possible, this, cannot}
use Rattle.format.specs.WritingItems.{Written, wrote, write_item}

-- numbers that pass their test
abbrev pub passing : (List ℕ → Bool) → Possible Written → Possible Written
passing t (this (wrote xs bs ys)) = pick (t xs) (this (wrote xs bs ys)) cannot
passing t cannot = cannot

-- the numbers xs and the bits bs before what was written
abbrev pub adjoin : List ℕ → List Bool → Possible Written → Possible Written
adjoin xs bs (this (wrote xs' bs' ys)) = this (wrote (xs ++ xs') (bs ++ bs') ys)
adjoin xs bs cannot = cannot

-- what was written from p on, and what follows it
abbrev pub onward : Possible Written → ℕ → (List ℕ → List ℕ → ℕ → Possible Written) → Possible Written
onward (this (wrote xs bs ys)) p k = adjoin xs bs (k xs ys (p + length bs))
onward cannot p k = cannot

unfoldable pub unrun : Order → Format → List ℕ → ℕ → Possible Written
unrun o nothing ns p = this (wrote [] [] ns)
unrun o (item i) ns p = write_item o i ns p
unrun o (only t e f) ns p = passing t (unrun o f ns p)
unrun o (f ▹ g) ns p = onward (unrun o f ns p) p (λ xs ys q. unrun o (g xs) ys q)
