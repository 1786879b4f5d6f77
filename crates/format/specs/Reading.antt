-- What an item, a format or a body reads as: the numbers shown, and how it ended.
use Rattle.std.specs.Prelude.{ℕ, List, [], ◌++◌}

-- At p: it was read, and the next bit place is p. Fault e: it was refused, with reason e.
pub data Ending : Type 0 where
  At : ℕ → Ending
  Fault : ℕ → Ending

-- the numbers shown before a fault are kept
pub record Reading : Type 0 where
  pub shown : List ℕ
  pub ended : Ending

-- the numbers xs, and the next bit place p
abbrev pub shows : List ℕ → ℕ → Reading
shows xs p = record { shown = xs; ended = At p }

-- reason e, and nothing is shown
abbrev pub stop : ℕ → Reading
stop e = record { shown = []; ended = Fault e }

-- a reading that showed xs and ended so, and what follows it; after a fault nothing follows
abbrev pub follow : List ℕ → Ending → (List ℕ → ℕ → Reading) → Reading
follow xs (At p) k = record { shown = xs ++ (k xs p).shown; ended = (k xs p).ended }
follow xs (Fault e) k = record { shown = xs; ended = Fault e }
