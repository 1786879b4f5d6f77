-- How a question judges what is lent to it. Nothing here is to be believed: the promises of `count` and `place` do not speak of it. g is the tag table, x the index.
use Rattle.std.specs.Prelude.{ℕ, ◌+◌, ◌*◌, ◌≤◌, ◌<◌, List, ◌≡◌, ◌⊎◌, get_or, ltb, Bool, true, false}
use Rattle.format.specs.Tests.{pick}
use Rattle.tag_index.specs.Index.{tag_count, code_of, place_of}

-- the tag whose pair is the k-th
abbrev pub tag_at : List ℕ → ℕ → ℕ
tag_at x k = get_or x (1024 + 2 * k) 0

-- u stands before v in the index: by code and in file order
abbrev pub Before : List ℕ → ℕ → ℕ → Type 0
Before g u v = (code_of g u < code_of g v) ⊎ ((code_of g u ≡ code_of g v) × (u < v))

-- the k-th pair is that of a tag
pub record Paired (g x : List ℕ) (k : ℕ) : Type 0 where
  pub known : tag_at x k < tag_count g
  pub placed : get_or x (1025 + 2 * k) 0 ≡ place_of g (tag_at x k)

-- the first n pairs are those of tags, and they rise
pub record Rising (g x : List ℕ) (n : ℕ) : Type 0 where
  pub pairs : (k : ℕ) → k < n → Paired g x k
  pub rises : (k : ℕ) → k + 1 < n → Before g (tag_at x k) (tag_at x (k + 1))

-- the start of a code; behind the last one there are no tags
abbrev pub start_of : List ℕ → List ℕ → ℕ → ℕ
start_of g x c = pick (ltb c 1024) (get_or x c 0) (tag_count g)

-- the pairs before s have codes below c, the pairs from s on have not
pub record Above (g x : List ℕ) (c s : ℕ) : Type 0 where
  pub after : s < tag_count g → c ≤ code_of g (tag_at x s)

pub record Parts (g x : List ℕ) (c s : ℕ) : Type 0 where
  pub inside : s ≤ tag_count g
  pub before : (k : ℕ) → k + 1 ≡ s → code_of g (tag_at x k) < c
  pub above : Above g x c s

-- a test says whether a fact holds
abbrev pub Says : Bool → Type 0 → Type 0
Says true A = A
Says false A = A → ⊥

-- the starts of the first n codes are right
pub record Started (g x : List ℕ) (n : ℕ) : Type 0 where
  pub each : (c : ℕ) → c < n → Parts g x c (start_of g x c)
