-- What the functions leave: the lent numbers, and whether a coordinate is beyond. And where the coordinates of a path stand.
use Rattle.std.specs.Prelude.{ℕ, suc, ◌+◌, ◌-◌, min, Bool, List, ◌++◌, map, length, get_or, take, drop}
use Rattle.format.specs.Items.{coordinates}
use Rattle.path_singles.specs.Coordinates.{Singled, as_single, any_beyond}

abbrev pub left : List ℕ → Bool → Singled
left v b = record { shown = v; beyond = b }

-- the numbers v, of which those from index k on become s
unfoldable pub from : List ℕ → ℕ → Singled → Singled
from v k s = record { shown = take k v ++ s.shown; beyond = s.beyond }

-- coordinates from index i up to j
unfoldable pub over : List ℕ → ℕ → ℕ → Singled
over v i j = left (take i v ++ (map as_single (take (j - i) (drop i v)) ++ drop j v)) (any_beyond (take (j - i) (drop i v)))

-- the verbs of the path at index k, the index of its first coordinate, and the index behind its last; no index is past the end
abbrev pub verbs_of : List ℕ → ℕ → List ℕ
verbs_of v k = take (get_or v k 0) (drop (suc k) v)

abbrev pub first_of : List ℕ → ℕ → ℕ
first_of v k = min (suc k + suc (get_or v k 0)) (length v)

abbrev pub behind_of : List ℕ → ℕ → ℕ
behind_of v k = min (first_of v k + coordinates (verbs_of v k)) (length v)

-- the bytes of a body, which stand n from place p on
abbrev pub body_at : List ℕ → ℕ → ℕ → List ℕ
body_at f p n = take n (drop p f)
