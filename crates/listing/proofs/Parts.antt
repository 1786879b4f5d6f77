-- The parts, one after the other, are the listing of the tables, into whatever room each part goes; and parts end.
use Prim.Native.Nat.{ℕ, zero, suc, ◌+◌, ◌-◌, ◌≤◌, ◌<◌}
use mathlib.Core.Bool.{Bool, true, false}
use mathlib.Core.List.{List, [], ◌∷◌, ◌++◌, append_assoc, append-nil}
use mathlib.Core.Path.{◌≡◌, refl, ap, sym, ◌∙◌}
use native.Mathlib.Omega.{arith}
use lib.ListN.{length}
use lib.Dec.{leb}
use borrow.Author.Tests.{le-leb, leb-true}
use Rattle.format.specs.Tests.{pick, ◌and◌}
use Rattle.format.proofs.Absurd.{clash}
use Rattle.listing.specs.declared.Cursor.{Cursor}
use Rattle.listing.specs.Steps.{Step, start, step, more, text_from, table_listing, stay, joined, fill, part_of, AfterPart, after_part, text_over}
use Rattle.listing.proofs.StepLaws.{step_further, more_none, more_number, part_none}

module _ (n : ℕ) (t g : List ℕ) where
  -- all that is still to come at a cursor
  abbrev pub rest : Cursor → List ℕ
  rest c = text_from (length t) n t g c

  text_bound : (j k : ℕ) (c : Cursor) → length t ≤ j + c.number → length t ≤ k + c.number → text_from j n t g c ≡ text_from k n t g c
  unfolding text_from
  text_bound zero zero c h i = refl
  text_bound zero (suc k) c h i = rw (more_none t g c (omega arith))
  text_bound (suc j) zero c h i = rw (more_none t g c (omega arith))
  text_bound (suc j) (suc k) c h i =
      rw (text_bound j k (step n t g c).to (omega (arith, step_further n t g c)) (omega (arith, step_further n t g c)))

  -- one step, and what then is still to come
  pub rest_step : (c : Cursor) → more t g c ≡ true → rest c ≡ (step n t g c).text ++ rest (step n t g c).to
  unfolding text_from
  rest_step c h = go (length t) refl
    where
      go : (k : ℕ) → length t ≡ k → text_from k n t g c ≡ (step n t g c).text ++ text_from k n t g (step n t g c).to
      go zero e = clash (cc (more_none t g c (omega arith)))
      go (suc k) e =
          rw h
          (ap (λ (x : List ℕ). (step n t g c).text ++ x) (text_bound k (suc k) (step n t g c).to (omega (arith, step_further n t g c)) (omega (arith, step_further n t g c))))

  pub rest_end : (c : Cursor) → more t g c ≡ false → rest c ≡ []
  unfolding text_from
  rest_end c h = go (length t)
    where
      go : (k : ℕ) → text_from k n t g c ≡ []
      go zero = refl
      go (suc k) = rw h

  -- ---- a part, and what then is still to come
  fill_rest : (k room : ℕ) (c : Cursor) → rest c ≡ (fill k room n t g c).text ++ rest (fill k room n t g c).to
  unfolding fill
  fill_rest zero room c = refl
  fill_rest (suc k) room c = go (more t g c) refl (leb 128 room) (fill_rest k (room - length (step n t g c).text) (step n t g c).to)
    where
      next : Step
      next = fill k (room - length (step n t g c).text) n t g (step n t g c).to

      go : (a : Bool) → more t g c ≡ a → (b : Bool) → rest (step n t g c).to ≡ next.text ++ rest next.to
          → rest c ≡ (pick (a and b) (joined (step n t g c) next) (stay c)).text ++ rest (pick (a and b) (joined (step n t g c) next) (stay c)).to
      go true e true h = rest_step c e ∙ ap (λ (x : List ℕ). (step n t g c).text ++ x) h ∙ sym (append_assoc (step n t g c).text next.text (rest next.to))
      go true e false h = refl
      go false e b h = refl

  pub part_rest : (room : ℕ) (c : Cursor) → rest c ≡ (part_of room n t g c).text ++ rest (part_of room n t g c).to
  part_rest room c = fill_rest (length t) room c

  -- ---- parts, each from where the one before ended: how much room each has, the text of all, and where they end
  abbrev pub parts_text : List ℕ → Cursor → List ℕ
  parts_text [] c = []
  parts_text (room ∷ rooms) c = (part_of room n t g c).text ++ parts_text rooms (part_of room n t g c).to

  abbrev pub parts_to : List ℕ → Cursor → Cursor
  parts_to [] c = c
  parts_to (room ∷ rooms) c = parts_to rooms (part_of room n t g c).to

  parts_rest : (rooms : List ℕ) (c : Cursor) → rest c ≡ parts_text rooms c ++ rest (parts_to rooms c)
  parts_rest [] c = refl
  parts_rest (room ∷ rooms) c =
      part_rest room c ∙ ap (λ (x : List ℕ). (part_of room n t g c).text ++ x) (parts_rest rooms (part_of room n t g c).to)
      ∙ sym (append_assoc (part_of room n t g c).text (parts_text rooms (part_of room n t g c).to) (rest (parts_to rooms (part_of room n t g c).to)))

  -- THE theorem: parts from the start up to where there is no more are, in a row, the listing of the tables
  pub parts_are_listing : (rooms : List ℕ) → more t g (parts_to rooms start) ≡ false → parts_text rooms start ≡ table_listing n t g
  parts_are_listing rooms h =
      sym (append-nil (parts_text rooms start)) ∙ ap (λ (x : List ℕ). parts_text rooms start ++ x) (sym (rest_end (parts_to rooms start) h)) ∙ sym (parts_rest rooms start)

  -- ---- parts end: each shows a number at least, if there is more and it has room for a step
  fill_not_back : (k room : ℕ) (c : Cursor) → c.number ≤ (fill k room n t g c).to.number
  unfolding fill
  fill_not_back zero room c = omega arith
  fill_not_back (suc k) room c = go (more t g c and leb 128 room) (fill_not_back k (room - length (step n t g c).text) (step n t g c).to)
    where
      next : Step
      next = fill k (room - length (step n t g c).text) n t g (step n t g c).to

      go : (a : Bool) → (step n t g c).to.number ≤ next.to.number → c.number ≤ (pick a (joined (step n t g c) next) (stay c)).to.number
      go true h = omega (arith, step_further n t g c)
      go false h = omega arith

  pub part_further : (room : ℕ) (c : Cursor) → more t g c ≡ true → 128 ≤ room → c.number < (part_of room n t g c).to.number
  unfolding fill
  part_further room c h i = go (length t) refl
    where
      go : (k : ℕ) → length t ≡ k → c.number < (fill k room n t g c).to.number
      go zero e = clash (cc (more_none t g c (omega arith)))
      go (suc k) e = rw (h, le-leb 128 room i) (omega (arith, step_further n t g c, fill_not_back k (room - length (step n t g c).text) (step n t g c).to))

  -- for code: a part that used bytes has fewer numbers left
  pub part_less : (b : List ℕ) (room : ℕ) (c : Cursor) {u : List ℕ} {j : ℕ} {d : Cursor} → after_part u j d ≡ text_over b 0 (part_of room n t g c) → 0 < j → length t - d.number < length t - c.number
  unfolding text_over
  part_less b room c {u} {j} {d} e h = go (more t g c) refl (leb 128 room) refl
    where
      same : d.number ≡ (part_of room n t g c).to.number
      same = ap (λ (s : AfterPart). s.to.number) e

      nothing : part_of room n t g c ≡ stay c → length t - d.number < length t - c.number
      nothing z = absurd (omega (arith, ap (λ (s : AfterPart). s.used) e, ap (λ (s : Step). length s.text) z))

      go : (a : Bool) → more t g c ≡ a → (r : Bool) → leb 128 room ≡ r → length t - d.number < length t - c.number
      go true p true q = omega (arith, same, part_further room c p (leb-true 128 room q), more_number t g c p)
      go true p false q = nothing (part_none n t g room c (rw (p, q)))
      go false p r q = nothing (part_none n t g room c (rw p))
