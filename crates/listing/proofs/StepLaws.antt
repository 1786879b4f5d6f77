-- The steps of a part, one by one: what the code's branches leave, and that the bound of `fill` does not matter.
use Prim.Native.Nat.{ℕ, zero, suc, ◌+◌, ◌-◌, ◌≤◌, ◌<◌}
use mathlib.Core.Bool.{Bool, true, false}
use mathlib.Core.List.{List, [], ◌∷◌, ◌++◌}
use mathlib.Core.Path.{◌≡◌, refl, ap, ap₂, sym, subst, ◌∙◌}
use native.Mathlib.Nat.{add-zero, add_assoc}
use native.Mathlib.Omega.{arith}
use lib.ListN.{length, get_or, length-append}
use Rattle.std.proofs.lemmas.List.Edits.{sets}
use lib.Dec.{ltb, leb, eqb}
use borrow.Author.Tests.{eqb-true, ltb-true, lt-ltb, le-ltb, le-leb, lt-leb, eq-eqb, ne_eqb}
use Rattle.format.specs.Tests.{pick, ◌and◌}
use Rattle.format.specs.TableOfNumbers.{is_opaque, eight_of}
use Rattle.format.proofs.Absurd.{clash}
use Rattle.listing.specs.declared.Cursor.{Cursor}
use Rattle.listing.specs.Steps.{field, tabbed, ender, byte_fields, Step, cursor, first_step, after_head, head_step, number_step, bytes_step, value_step, step, more, stay, joined, fill, part_of, AfterPart, after_part, text_over}
use Rattle.listing.specs.declared.fields.Text.{Text}
use Rattle.listing.specs.Texts.{Adds, Takes}
use Rattle.listing.proofs.TextLaws.{adds_then, sets_then}

-- ---- the two texts that several calls write
pub first_added : {a b c d : Text} (n x : ℕ) (t : List ℕ) → Adds a b (0x50 ∷ 0x41 ∷ 0x47 ∷ 9 ∷ []) → Adds b c (tabbed (1 ∷ n ∷ [])) → x ≡ get_or t 0 0 → Adds c d (field x 10) → Adds a d (first_step n t).text
first_added n x t p q e r =
    rw (sym e) (adds_then (0x50 ∷ 0x41 ∷ 0x47 ∷ 9 ∷ []) (tabbed (1 ∷ n ∷ []) ++ field x 10) p (adds_then (tabbed (1 ∷ n ∷ [])) (field x 10) q r))

pub head_taken : {a b d : Text} (t g : List ℕ) (i m r₀ r₂ r₃ r₄ code state end : ℕ) (to : Cursor) → to ≡ after_head t i (m + 5)
    → r₀ ≡ get_or g m 0 → r₂ ≡ get_or g (m + 2) 0 → r₃ ≡ get_or g (m + 3) 0 → r₄ ≡ get_or g (m + 4) 0 → code ≡ get_or t i 0 → Adds a b (tabbed (r₀ ∷ r₂ ∷ r₃ ∷ r₄ ∷ code ∷ []))
    → state ≡ get_or t (i + 1) 0 → end ≡ ender to.left → Adds b d (field state end) → Takes a d to (head_step t g i m)
head_taken {a} {b} {d} t g i m r₀ r₂ r₃ r₄ code state end to n e₀ e₂ e₃ e₄ e p s f q = record {
  text =
      adds_then (tabbed (get_or g m 0 ∷ get_or g (m + 2) 0 ∷ get_or g (m + 3) 0 ∷ get_or g (m + 4) 0 ∷ get_or t i 0 ∷ [])) (field (get_or t (i + 1) 0) (ender (after_head t i (m + 5)).left))
      (rw (e₀, e₂, e₃, e₄, e) at p)
      (subst (Adds b d) (ap₂ field s (f ∙ ap (λ (c : Cursor). ender c.left) n)) q);
  next = n;
}

-- ---- a cursor's step, by what the code's tests tell
module _ (n : ℕ) (t g : List ℕ) (c : Cursor) where
  pub step_first : c.number ≡ 0 → step n t g c ≡ first_step n t
  unfolding step
  step_first e = rw (eq-eqb c.number 0 e)

  pub step_head : (c.number ≡ 0 → ⊥) → c.left ≡ 0 → step n t g c ≡ head_step t g c.number c.row
  unfolding step
  step_head h e = rw (ne_eqb c.number 0 h, eq-eqb c.left 0 e)

  pub step_value : (c.number ≡ 0 → ⊥) → (c.left ≡ 0 → ⊥) → step n t g c ≡ value_step t c
  unfolding step
  step_value h i = rw (ne_eqb c.number 0 h, ne_eqb c.left 0 i)

  -- a step passes a number at least
  pub step_further : c.number < (step n t g c).to.number
  unfolding step
  step_further = go (eqb c.number 0) refl (eqb c.left 0)
    where
      head : (o : Bool) → c.number < (pick o (cursor (c.number + 4) (c.row + 5) (get_or t (c.number + 3) 0) true) (cursor (c.number + 3) (c.row + 5) (get_or t (c.number + 2) 0) false)).number
      head true = omega arith
      head false = omega arith

      value : (p : Bool) → c.number < (pick p (bytes_step t c.number c.row c.left) (number_step t c.number c.row c.left)).to.number
      value true = omega arith
      value false = omega arith

      go : (a : Bool) → eqb c.number 0 ≡ a → (b : Bool) → c.number < (pick a (first_step n t) (pick b (head_step t g c.number c.row) (value_step t c))).to.number
      go true e b = omega (arith, eqb-true c.number 0 e)
      go false e true = head (is_opaque (get_or t (c.number + 1) 0))
      go false e false = value c.packed

-- ---- what a step leaves
pub taken_over : {a b : Text} {to : Cursor} {s : Step} → Takes a b to s → after_part b.out.now b.used to ≡ text_over a.out.now a.used s
unfolding text_over
taken_over p = λ i. after_part (p.text.bytes i) (p.text.used i) (p.next i)

pub over_taken : {a b : Text} {to : Cursor} (s : Step) → b.out.ghost_name ≡ a.out.ghost_name → length b.out.now ≡ length a.out.now → after_part b.out.now b.used to ≡ text_over a.out.now a.used s → Takes a b to s
unfolding text_over
over_taken s l z e = record {
  text = record { lent = l; size = z; bytes = ap (λ (r : AfterPart). r.lent) e; used = ap (λ (r : AfterPart). r.used) e };
  next = ap (λ (r : AfterPart). r.to) e;
}

pub taken_as : {a b : Text} {to : Cursor} {s r : Step} → r ≡ s → Takes a b to s → Takes a b to r
taken_as {a} {b} {to} e p = rw e p

module _ {a b : Text} (t : List ℕ) (c : Cursor) (x : ℕ) (n : x ≡ get_or t c.number 0) where
  pub number_taken : (end : ℕ) → c.packed ≡ false → end ≡ ender (c.left - 1) → Adds a b (field x end) → Takes a b (cursor (c.number + 1) c.row (c.left - 1) c.packed) (value_step t c)
  number_taken end h e p = rw h (record { text = subst (Adds a b) (ap₂ field n e) p; next = refl })

  pub bytes_taken : c.packed ≡ true → Adds a b (byte_fields (eight_of x) c.left) → Takes a b (cursor (c.number + 1) c.row (c.left - 8) c.packed) (value_step t c)
  bytes_taken h p = rw h (record { text = subst (Adds a b) (ap (λ (w : ℕ). byte_fields (eight_of w) c.left) n) p; next = refl })

-- ---- there is more, or not
pub more_yes : (t g : List ℕ) (c : Cursor) → c.number < length t → c.row ≤ length g → more t g c ≡ true
more_yes t g c h i = rw (lt-ltb c.number (length t) h, le-leb c.row (length g) i)

pub more_none : (t g : List ℕ) (c : Cursor) → length t ≤ c.number → more t g c ≡ false
more_none t g c h = rw (le-ltb c.number (length t) h)

pub more_number : (t g : List ℕ) (c : Cursor) → more t g c ≡ true → c.number < length t
more_number t g c = go (ltb c.number (length t)) refl
  where
    go : (a : Bool) → ltb c.number (length t) ≡ a → (a and leb c.row (length g)) ≡ true → c.number < length t
    go true e h = ltb-true c.number (length t) e
    go false e h = clash cc

pub more_over : (t g : List ℕ) (c : Cursor) → length g < c.row → more t g c ≡ false
more_over t g c h = go (ltb c.number (length t))
  where
    go : (a : Bool) → (a and leb c.row (length g)) ≡ false
    go true = lt-leb c.row (length g) h
    go false = refl

-- ---- a part: one step and the rest of it
module _ (n : ℕ) (t g : List ℕ) where
  fill_bound : (j k room : ℕ) (c : Cursor) → length t ≤ j + c.number → length t ≤ k + c.number → fill j room n t g c ≡ fill k room n t g c
  unfolding fill
  fill_bound zero zero room c h i = refl
  fill_bound zero (suc k) room c h i = rw (more_none t g c (omega arith))
  fill_bound (suc j) zero room c h i = rw (more_none t g c (omega arith))
  fill_bound (suc j) (suc k) room c h i =
      rw (fill_bound j k (room - length (step n t g c).text) (step n t g c).to (omega (arith, step_further n t g c)) (omega (arith, step_further n t g c)))

  part_step : (room : ℕ) (c : Cursor) → more t g c ≡ true → 128 ≤ room
      → part_of room n t g c ≡ joined (step n t g c) (part_of (room - length (step n t g c).text) n t g (step n t g c).to)
  unfolding fill
  part_step room c h i = go (length t) refl
    where
      go : (k : ℕ) → length t ≡ k → fill k room n t g c ≡ joined (step n t g c) (fill k (room - length (step n t g c).text) n t g (step n t g c).to)
      go zero e = clash (cc (more_none t g c (omega arith)))
      go (suc k) e =
          rw (h, le-leb 128 room i)
          (ap (joined (step n t g c)) (fill_bound k (suc k) (room - length (step n t g c).text) (step n t g c).to (omega (arith, step_further n t g c)) (omega (arith, step_further n t g c))))

  pub part_none : (room : ℕ) (c : Cursor) → (more t g c and leb 128 room) ≡ false → part_of room n t g c ≡ stay c
  unfolding fill
  part_none room c h = go (length t)
    where
      go : (k : ℕ) → fill k room n t g c ≡ stay c
      go zero = refl
      go (suc k) = rw h

  after_joined : (b : List ℕ) (k : ℕ) (s r : Step) → text_over b k (joined s r) ≡ text_over (sets b k s.text) (k + length s.text) r
  unfolding text_over
  after_joined b k s r = λ i. after_part (sets_then s.text r.text b k (k + length s.text) refl i) ((ap (λ (m : ℕ). k + m) (length-append s.text r.text) ∙ sym (add_assoc k (length s.text) (length r.text))) i) r.to

  -- for code: a part that is all that was lent; that started with most bytes of room, after k of them; and that ends
  pub part_done : {a b : Text} {x : List ℕ} {to : Cursor} (most : ℕ) (c : Cursor) → x ≡ b.out.now → Takes a b to (part_of (most - 0) n t g c) → after_part x b.used to ≡ text_over a.out.now a.used (part_of most n t g c)
  part_done {a} {b} {x} {to} most c e p = rw e (taken_over p ∙ ap (λ (m : ℕ). text_over a.out.now a.used (part_of m n t g c)) (omega arith))

  pub step_less : (b : List ℕ) (k : ℕ) (c : Cursor) {u : List ℕ} {j : ℕ} {d : Cursor} → c.number < length t → after_part u j d ≡ text_over b k (step n t g c)
      → length t - d.number < length t - c.number
  unfolding text_over
  step_less b k c h e = omega (arith, step_further n t g c, ap (λ (s : AfterPart). s.to.number) e)

  pub part_next : (b : List ℕ) (most k : ℕ) (c : Cursor) {u : List ℕ} {j : ℕ} {d : Cursor} {z : AfterPart} → c.number < length t → c.row ≤ length g → 128 ≤ most - k
      → after_part u j d ≡ text_over b k (step n t g c) → z ≡ text_over b k (part_of (most - k) n t g c) → z ≡ text_over u j (part_of (most - j) n t g d)
  unfolding text_over
  part_next b most k c {u} {j} {d} {z} h i l e f =
      f ∙ ap (text_over b k) (part_step (most - k) c (more_yes t g c h i) l)
      ∙ after_joined b k (step n t g c) (part_of (most - k - length (step n t g c).text) n t g (step n t g c).to)
      ∙ ap (λ (m : ℕ). text_over (sets b k (step n t g c).text) (k + length (step n t g c).text) (part_of m n t g (step n t g c).to)) (omega arith)
      ∙ ap (λ (s : AfterPart). text_over s.lent s.used (part_of (most - s.used) n t g s.to)) (sym e)

  pub part_end : (b : List ℕ) (room k : ℕ) (c : Cursor) {z : AfterPart} → (more t g c and leb 128 room) ≡ false → z ≡ text_over b k (part_of room n t g c) → after_part b k c ≡ z
  unfolding text_over
  part_end b room k c h f = ap (λ (m : ℕ). after_part b m c) (sym (add-zero k)) ∙ ap (text_over b k) (sym (part_none room c h)) ∙ sym f

  -- why a part ends: no room, no row, no number
  pub no_room : (room : ℕ) (c : Cursor) → room < 128 → (more t g c and leb 128 room) ≡ false
  no_room room c h = go (more t g c)
    where
      go : (a : Bool) → (a and leb 128 room) ≡ false
      go true = lt-leb 128 room h
      go false = refl

  pub no_row : (room : ℕ) (c : Cursor) → length g < c.row → (more t g c and leb 128 room) ≡ false
  no_row room c h = rw (more_over t g c h)

  pub no_number : (room : ℕ) (c : Cursor) → length t ≤ c.number → (more t g c and leb 128 room) ≡ false
  no_number room c h = rw (more_none t g c h)
