-- What the function below `field_at` answers that reads a field of few bytes.
use Rattle.std.specs.Prelude.{ℕ, Bool, true, false, List}
use Rattle.format.specs.Bits.{Order}
use Rattle.format.specs.Items.{Num, read_ub, read_sb}

-- a field as the definitions of the format read it
abbrev pub read_field : Order → Bool → List ℕ → ℕ → ℕ → Num
read_field o false b p n = read_ub o b p n
read_field o true b p n = read_sb o b p n
