-- A header put before a body that stands already, or that follows.
use Rattle.std.specs.Prelude.{ℕ, ◌+◌, Bool, List, ◌++◌, ◌≡◌, length, take, drop}
use Rattle.std.proofs.lemmas.List.Edits.{sets}
use Rattle.format.specs.Tests.{pick}
use Rattle.format.specs.WritingFiles.{spell_head}

-- the bytes kept for the header of a body that is put first: those of the long one where it is claimed, else those of the short one
abbrev pub kept_bytes : Bool → ℕ
kept_bytes claim = pick claim 6 2

-- the n bytes that stand behind those kept from a on, with the header of their tag before them
abbrev pub under_head : List ℕ → ℕ → Bool → ℕ → ℕ → List ℕ
under_head l a claim code n = sets l a (spell_head claim code n ++ take n (drop (a + kept_bytes claim) l))

-- the output afterwards, and the next place
pub record Closed (l : List ℕ) (a : ℕ) (claim : Bool) (code n : ℕ) (u : List ℕ) (next : ℕ) : Type 0 where
  pub put : u ≡ under_head l a claim code n
  pub place : next ≡ a + length (spell_head claim code n) + n

-- a header put from a on, before its body: the output afterwards, and the body's place
pub record Headed (l : List ℕ) (a : ℕ) (claim : Bool) (code n : ℕ) (u : List ℕ) (body : ℕ) : Type 0 where
  pub put : u ≡ sets l a (spell_head claim code n)
  pub place : body ≡ a + length (spell_head claim code n)
