-- A walk of the lists alone, with every other body opaque, gives the tag table of the walk that reads all, where that accepts: `skim_rows`.
use Prim.Native.Nat.{ℕ, zero, suc, pred, ◌+◌, ◌-◌}
use mathlib.Core.List.{List, [], ◌∷◌, ◌++◌}
use mathlib.Core.Path.{◌≡◌, refl, subst, sym}
use mathlib.Core.Bool.{Bool, true, false}
use lib.ListN.{length, take, drop}
use Rattle.format.specs.Tests.{pick}
use Rattle.format.specs.Bits.{Order}
use Rattle.format.specs.Reading.{Ending, At, Fault}
use Rattle.format.specs.Items.{to_byte}
use Rattle.format.specs.Bodies.{to_end, read_body}
use Rattle.format.specs.FileAndTags.{Class, opaque, end, container, known, class_of, is_end, state_of, Tag, Outcome, whole, fault, Walk, no_tags, chain, Head, head, no_head, raw_head, passes, read_head, Owner, inside, TagInside, end_at, leaf, has_list, opened, within, after_tag, tag_then, one_tag, walk, walk_list}
use Rattle.format.specs.TableOfNumbers.{tag_table}
use Rattle.format.proofs.EngineLaws.{tag_table_append}
use Rattle.classes.specs.Classes.{skimmed, class_by}
use Rattle.classes.specs.declared.Scope.TheVariants.{Lists}
use Rattle.classes.proofs.ClassLaws.{end_skimmed, container_skimmed}

-- the walk w that reads all, which ended so, and the walk v of the lists alone: after a fault nothing is said
abbrev Alike : Walk → Walk → Outcome → Type 0
Alike w v whole = (v.ended ≡ whole) × (tag_table v.tags ≡ tag_table w.tags)
Alike w v (fault e n) = Unit {0}

-- a tag, with what stands in it, and what follows
alike_then : (d code a size len s s' : ℕ) (i j : TagInside) (w v : Walk) → Alike i.walk j.walk i.walk.ended → Alike w v w.ended
    → Alike (tag_then d code a size len s i w) (tag_then d code a size len s' j v) (tag_then d code a size len s i w).ended
alike_then d code a size len s s' i j w v x y = inner i.walk.ended x
  where
    row : ℕ → TagInside → Tag
    row s i = record { depth = d; code = code; place = a; header_size = size; body_length = len; state = s; values = i.values }

    rest : tag_table j.walk.tags ≡ tag_table i.walk.tags → (z : Outcome) → Alike w v z
        → Alike (record { tags = (row s i ∷ i.walk.tags) ++ w.tags; ended = z }) (record { tags = (row s' j ∷ j.walk.tags) ++ v.tags; ended = v.ended }) z
    rest e whole y = (y.0, rw (tag_table_append j.walk.tags v.tags, tag_table_append i.walk.tags w.tags, e, y.1))
    rest e (fault r n) y = tt

    inner : (z : Outcome) → Alike i.walk j.walk z
        → Alike (chain (row s i ∷ i.walk.tags) z w) (chain (row s' j ∷ j.walk.tags) j.walk.ended v) (chain (row s i ∷ i.walk.tags) z w).ended
    inner whole x = rw x.0 (rest x.1 w.ended y)
    inner (fault e n) x = tt

alike_after : (e : Bool) (c : Owner) (a : ℕ) (r : List ℕ) (N M : ℕ → List ℕ → Walk) → Alike (N a r) (M a r) (N a r).ended
    → Alike (after_tag e c a r N) (after_tag e c a r M) (after_tag e c a r N).ended
alike_after false c a r N M x = x
alike_after true c a [] N M x = (refl, refl)
alike_after true c a (y ∷ r) N M x = tt

-- what stands in a tag of the class C; lists are read by R and by S
alike_within : (o : Order) (R S : Owner → ℕ → List ℕ → Walk) → ((c : Owner) (a : ℕ) (r : List ℕ) → Alike (R c a r) (S c a r) (R c a r).ended)
    → (C : Class) (a s : ℕ) (body : List ℕ) → Alike (within o R C a s body).walk (within o S (skimmed Lists C) a s body).walk (within o R C a s body).walk.ended
alike_within o R S u opaque a s body = (refl, refl)
alike_within o R S u end a s body = (refl, refl)
alike_within o R S u (known y) a s body = go (read_body o y body).ended
  where
    go : (z : Ending) → Alike (no_tags (end_at a z)) (no_tags whole) (end_at a z)
    go (At p) = (refl, refl)
    go (Fault e) = tt
alike_within o R S u (container y) a s body = test (has_list y (to_end o body y).shown)
  where
    go : (xs : List ℕ) (z : Ending) → Alike (opened R a s body xs z).walk (opened S a s body xs z).walk (opened R a s body xs z).walk.ended
    go xs (At p) = u (inside a) (s + to_byte p) (drop (to_byte p) body)
    go xs (Fault e) = tt

    -- without its list it is judged once more
    flat : (z : Ending) → Alike (no_tags (end_at a z)) (no_tags (end_at a z)) (end_at a z)
    flat (At p) = (refl, refl)
    flat (Fault e) = tt

    test : (c : Bool) → Alike (pick c (opened R a s body (to_end o body y).shown (to_end o body y).ended) (leaf a (read_body o y body))).walk
        (pick c (opened S a s body (to_end o body y).shown (to_end o body y).ended) (leaf a (read_body o y body))).walk
        (pick c (opened R a s body (to_end o body y).shown (to_end o body y).ended) (leaf a (read_body o y body))).walk.ended
    test true = go (to_end o body y).shown (to_end o body y).ended
    test false = flat (read_body o y body).ended

module _ (o : Order) (level : ℕ) where
  -- a header passes alike
  heads_alike : (left : ℕ) (r : List ℕ) → read_head (class_by Lists level) left r ≡ read_head (class_of level) left r
  heads_alike left r = go (raw_head r)
    where
      go : (h : Head) → passes (class_by Lists level) left r h ≡ passes (class_of level) left r h
      go (no_head e) = refl
      go (head code len size) = rw (end_skimmed Lists (class_of level code), container_skimmed Lists (class_of level code))

  alike_one : (R S : ℕ → Owner → ℕ → List ℕ → Walk) → ((left : ℕ) (c : Owner) (a : ℕ) (r : List ℕ) → Alike (R left c a r) (S left c a r) (R left c a r).ended)
      → (left : ℕ) (c : Owner) (a : ℕ) (r : List ℕ) (h : Head)
      → Alike (one_tag o (class_of level) R left c a r h) (one_tag o (class_by Lists level) S left c a r h) (one_tag o (class_of level) R left c a r h).ended
  alike_one R S u left c a r (no_head e) = tt
  alike_one R S u left c a r (head code len size) =
      rw (end_skimmed Lists (class_of level code))
      (alike_then (8 - left) code a size len (state_of (class_of level code) size len) (state_of (class_by Lists level code) size len)
      (within o (R (pred left)) (class_of level code) a (a + size) (take len (drop size r)))
      (within o (S (pred left)) (class_by Lists level code) a (a + size) (take len (drop size r)))
      (after_tag (is_end (class_of level code)) c (a + size + len) (drop (size + len) r) (R left c))
      (after_tag (is_end (class_of level code)) c (a + size + len) (drop (size + len) r) (S left c))
      (alike_within o (R (pred left)) (S (pred left)) (u (pred left)) (class_of level code) a (a + size) (take len (drop size r)))
      (alike_after (is_end (class_of level code)) c (a + size + len) (drop (size + len) r) (R left c) (S left c) (u left c (a + size + len) (drop (size + len) r))))

  alike : (k left : ℕ) (c : Owner) (a : ℕ) (r : List ℕ) → Alike (walk o (class_of level) k left c a r) (walk o (class_by Lists level) k left c a r) (walk o (class_of level) k left c a r).ended
  unfolding walk
  alike zero left c a r = tt
  alike (suc k) left c a [] = tt
  alike (suc k) left c a (x ∷ r) =
      subst
      (λ (h : Head). Alike (one_tag o (class_of level) (walk o (class_of level) k) left c a (x ∷ r) (read_head (class_of level) left (x ∷ r)))
      (one_tag o (class_by Lists level) (walk o (class_by Lists level) k) left c a (x ∷ r) h)
      (one_tag o (class_of level) (walk o (class_of level) k) left c a (x ∷ r) (read_head (class_of level) left (x ∷ r))).ended)
      (sym (heads_alike left (x ∷ r)))
      (alike_one (walk o (class_of level) k) (walk o (class_by Lists level) k) (alike k) left c a (x ∷ r) (read_head (class_of level) left (x ∷ r)))

  -- the walk of the lists alone accepts too, with the same tag table
  pub skim_rows : (left : ℕ) (own : Owner) (a : ℕ) (r : List ℕ) → (walk_list o (class_of level) left own a r).ended ≡ whole
      → ((walk_list o (class_by Lists level) left own a r).ended ≡ whole) × (tag_table (walk_list o (class_by Lists level) left own a r).tags ≡ tag_table (walk_list o (class_of level) left own a r).tags)
  skim_rows left own a r e =
      subst (Alike (walk_list o (class_of level) left own a r) (walk_list o (class_by Lists level) left own a r)) e (alike (length r) left own a r)
