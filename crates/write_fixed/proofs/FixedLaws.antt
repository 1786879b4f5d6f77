-- Font tables: two Strings for each font are twice as many Strings.
use Rattle.std.proofs.Common.{ℕ, ◌*◌, sym}
use Rattle.std.specs.Prelude.{Result}
use Rattle.format.specs.Formats.{Format, ◌▸◌, times}
use Rattle.format.specs.Items.{string}
use Rattle.fixed.proofs.FixedLaws.{pairs}
use Rattle.sink.specs.declared.Impossible.{Impossible}
use Rattle.spelling.specs.Writer.{Writes}
use Rattle.spelling.specs.declared.writer.Writer.{Writer}
use Rattle.spelling.proofs.WriteLaws.{writes_alike}

-- the Strings of n fonts
abbrev pub fonts : ℕ → Format
fonts n = times n (string ▸ string)

pub fonts_of : {T : Type 0} {a b : Writer} {r : Result T Impossible} (n : ℕ) → Writes a b r (times (2 * n) string) → Writes a b r (fonts n)
fonts_of n w = writes_alike (times (2 * n) string) (fonts n) (λ o b p. sym (pairs n string o b p)) w
