-- What an engine's proof cites: a spelling's step, and a walk's.
use Prim.Native.Nat.{ℕ, zero, suc, ◌+◌, ◌*◌, ◌%◌, ◌<◌}
use mathlib.Core.List.{List, [], ◌∷◌, ◌++◌, append_assoc}
use mathlib.Core.Path.{◌≡◌, refl, ap, sym, ◌∙◌}
use lib.ListN.{length}
use native.Mathlib.Nat.{add_assoc, mul-add, mul_assoc}
use native.Mathlib.Omega.{arith}
use Rattle.format.specs.Items.{Num, num, bad, carry}
use Rattle.format.specs.FileAndTags.{Tag, Outcome, whole, fault, Walk, chain}
use Rattle.format.specs.TableOfNumbers.{numbers, tag_table}

-- a spelling's step: a is the sum so far, m the weight of the next byte; a rest of 0 is not the shortest
abbrev pub wrap : ℕ → ℕ → Num → Num
wrap m a (num zero p) = bad 14
wrap m a (num (suc v) p) = num (a + m * suc v) p
wrap m a (bad e) = bad e

wrap_pos : (m a v p : ℕ) → 0 < v → wrap m a (num v p) ≡ num (a + m * v) p
wrap_pos m a zero p h = absurd (omega arith)
wrap_pos m a (suc v) p h = refl

pub wrap_carry : (m a x : ℕ) (r : Num) → wrap m a (carry x r) ≡ wrap (m * 128) (a + m * (x % 128)) r
wrap_carry m a x (bad e) = refl
wrap_carry m a x (num zero p) = refl
wrap_carry m a x (num (suc v) p) = wrap_pos m a (x % 128 + 128 * suc v) p (omega arith) ∙ rw (mul-add, ← mul_assoc, add_assoc)

-- ---- a walk's loop: the tags so far, and the walk of the rest
pub chain_chain : (ts us : List Tag) (z : Outcome) (w : Walk) → chain ts whole (chain us z w) ≡ chain (ts ++ us) z w
chain_chain ts us whole w = ap (λ (vs : List Tag). record { tags = vs; ended = w.ended }) (sym (append_assoc ts us w.tags))
chain_chain ts us (fault e n) w = refl

pub numbers_append : (ts us : List Tag) → numbers (ts ++ us) ≡ numbers ts ++ numbers us
numbers_append [] us = refl
numbers_append (t ∷ ts) us =
    ap (λ (l : List ℕ). t.code ∷ t.state ∷ length t.values ∷ l) (ap (λ (l : List ℕ). t.values ++ l) (numbers_append ts us) ∙ sym (append_assoc t.values (numbers ts) (numbers us)))

pub tag_table_append : (ts us : List Tag) → tag_table (ts ++ us) ≡ tag_table ts ++ tag_table us
tag_table_append [] us = refl
tag_table_append (t ∷ ts) us = ap (λ (l : List ℕ). t.depth ∷ t.code ∷ t.place ∷ t.header_size ∷ t.body_length ∷ l) (tag_table_append ts us)
