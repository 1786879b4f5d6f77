-- (C-19) Over any run of files the counts together equal the summed lengths of the accepted files.
use Rattle.std.specs.Prelude.{ℕ, ◌+◌, List, [], ◌∷◌, length}
use Rattle.format.specs.Reasons.{IsFile, Answer, accepted, refused}
use Rattle.tally.specs.Adding.{Left, adding}
use Rattle.tally.specs.declared.Tally.{Tally}

-- a file, with the order and the level at which it is added
pub record File : Type 0 where
  pub order : ℕ
  pub level : ℕ
  pub bytes : List ℕ
  pub is_file : IsFile bytes

abbrev pub adding_file : Tally → File → Left
adding_file t x = adding x.order x.level t x.bytes

-- the tally after a run of files
unfoldable pub after : Tally → List File → Tally
after t [] = t
after t (x ∷ xs) = after (adding_file t x).tally xs

-- the counts together
abbrev pub sum : List ℕ → ℕ
sum [] = 0
sum (n ∷ ns) = n + sum ns

abbrev pub together : Tally → ℕ
together t = t.headers + sum t.counts

-- n for a file that was accepted, 0 for one that was refused
abbrev pub if_accepted : ℕ → Answer → ℕ
if_accepted n (accepted m) = n
if_accepted n (refused e m) = 0

-- the summed lengths of the accepted files, and how many they are
unfoldable pub accepted_bytes : Tally → List File → ℕ
accepted_bytes t [] = 0
accepted_bytes t (x ∷ xs) = if_accepted (length x.bytes) (adding_file t x).answer + accepted_bytes (adding_file t x).tally xs

unfoldable pub accepted_files : Tally → List File → ℕ
accepted_files t [] = 0
accepted_files t (x ∷ xs) = if_accepted 1 (adding_file t x).answer + accepted_files (adding_file t x).tally xs
