-- What the elements of a `&[u8]` are known to be: bytes.
use Prim.Native.Nat.{ℕ, suc}
use mathlib.Core.List.{List, [], ◌∷◌}
use native.Mathlib.Omega.{arith}
use lib.ListN.{get_or, length}
use mir.Syntax.{w8}
use mir.Val.{Fits}
use mathlib.Core.Path.{◌≡◌}
use Rattle.format.specs.Reasons.{IsFile}

pub known_bytes : (b : List ℕ) → ((i : ℕ) → Fits w8 (get_or b i 0)) → IsFile b
known_bytes [] h = tt
known_bytes (x ∷ b) h = (omega (arith, h 0), known_bytes b (λ i. h (suc i)))

pub no_bytes : (b : List ℕ) → length b ≡ 0 → IsFile b
no_bytes [] e = tt
no_bytes (x ∷ b) e = absurd (omega arith)
