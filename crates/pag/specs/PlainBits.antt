-- The answer of a bit field as a plain struct.
use Rattle.std.specs.Prelude.{ℕ, Bool, not, eqb}
use Rattle.format.specs.Items.{Num, num, bad}
use Rattle.pag.specs.declared.PagField.{PagField}

-- a host's flag: 0 is UB, every other number SB
abbrev pub is_signed : ℕ → Bool
is_signed n = not (eqb n 0)

-- p: the place before
abbrev pub plain_field : ℕ → Num → PagField
plain_field p (num v q) = record { reason = 0; value = v; place = q }
plain_field p (bad e) = record { reason = e; value = 0; place = p }
