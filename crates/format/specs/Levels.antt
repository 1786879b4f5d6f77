-- Demand 3, of two levels lo ≤ hi of one file: a lower level shows the same as a higher one, except that each outermost tag above it stands
-- opaque; their refusals agree, but for places at or inside such tags.
use Rattle.std.specs.Prelude.{ℕ, ◌+◌, ◌*◌, ◌/◌, ◌≤◌, ◌<◌, List, [], ◌∷◌, ◌≡◌, ltb}
use Rattle.format.specs.Tests.{pick}
use Rattle.format.specs.FileAndTags.{packed, Tag, Outcome, whole, fault}
use Rattle.format.specs.TableOfNumbers.{body_in}
use Rattle.format.specs.Reasons.{walk_file}

-- the place after a tag
abbrev pub end_of : Tag → ℕ
end_of t = t.place + t.header_size + t.body_length

-- the tag made opaque: its state loses the 1 and (C-11) keeps the 2, and its values are the bytes of its body in the file f, (C-17) packed
abbrev pub veil : List ℕ → Tag → Tag
veil f t = record {
  depth = t.depth;
  code = t.code;
  place = t.place;
  header_size = t.header_size;
  body_length = t.body_length;
  state = 2 * (t.state / 2);
  values = packed (body_in f t);
}

-- the tags in file order: those that start before e stand inside the last tag that was hidden, and are left out;
-- a tag with a code above the level is hidden, up to the place after it; the others stay
abbrev pub hide_from : ℕ → List ℕ → ℕ → List Tag → List Tag
hide_from level f e [] = []
hide_from level f e (t ∷ ts) =
    pick (ltb t.place e) (hide_from level f e ts)
    (pick (ltb level t.code) (veil f t ∷ hide_from level f (end_of t) ts)
    (t ∷ hide_from level f e ts))

-- each outermost tag with a code above the level is made opaque, and the tags inside it are left out
abbrev pub hide : ℕ → List ℕ → List Tag → List Tag
hide level f ts = hide_from level f 0 ts

-- place n is at or inside a tag of ts that has a code above the level
pub data InHidden (level n : ℕ) : List Tag → Type 0 where
  here : {t : Tag} {ts : List Tag} → level < t.code → t.place ≤ n → n < end_of t → InHidden level n (t ∷ ts)
  later : {t : Tag} {ts : List Tag} → InHidden level n ts → InHidden level n (t ∷ ts)

-- the higher level refuses: with the same reason and number (e, n), or with a number at or inside a tag above the lower level
pub data Refuses (lo : ℕ) (ts : List Tag) (e n : ℕ) : Outcome → Type 0 where
  alike : Refuses lo ts e n (fault e n)
  apart : {e' n' : ℕ} → InHidden lo n' ts → Refuses lo ts e n (fault e' n')

pub record Levels (order lo hi : ℕ) (f : List ℕ) : Type 0 where
  -- (a) where the higher level accepts, the lower does, and shows the higher's tags with those above it hidden
  pub accepted : (walk_file order hi f).ended ≡ whole → walk_file order lo f ≡ record { tags = hide lo f (walk_file order hi f).tags; ended = whole }
  -- (b) where the lower level refuses, the higher does: for the same reason with the same number, or at or inside a tag above the lower level
  pub refused : (e n : ℕ) → (walk_file order lo f).ended ≡ fault e n → Refuses lo (walk_file order lo f).tags e n (walk_file order hi f).ended
  -- (c) where only the higher refuses, its number is at or inside a tag above the lower level
  pub only : (e n : ℕ) → (walk_file order lo f).ended ≡ whole → (walk_file order hi f).ended ≡ fault e n → InHidden lo n (walk_file order lo f).tags
