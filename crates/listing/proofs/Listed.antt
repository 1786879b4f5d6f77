-- The listing of a file's two tables is the file's listing.
use Prim.Native.Nat.{ℕ, zero, suc, ◌+◌, ◌-◌, ◌*◌, ◌/◌, ◌≤◌, ◌<◌}
use mathlib.Core.Bool.{Bool, true, false}
use mathlib.Core.List.{List, [], ◌∷◌, ◌++◌, append_assoc, append-nil, map}
use mathlib.Core.Path.{◌≡◌, refl, ap, ap₂, sym, subst, ◌∙◌}
use native.Mathlib.Nat.{add-zero}
use native.Mathlib.Omega.{arith}
use lib.ListN.{length, get_or, take, drop, length-append, length-drop}
use lib.Seq.{get_or-drop, drop-drop, drop-append_seam, length-take-le}
use borrow.Author.Tests.{ne_eqb}
use Rattle.format.specs.Tests.{pick}
use Rattle.format.specs.Bits.{AllBytes}
use Rattle.format.specs.FileAndTags.{compression, eights, packed, Tag, Walk}
use Rattle.format.specs.TableOfNumbers.{numbers, table, is_opaque, body_in, showing, plain_tag, eight_of, spread, tag_table}
use Rattle.format.specs.Reasons.{IsFile}
use Rattle.format.proofs.ByteLaws.{bytes_take, bytes_drop}
use Rattle.format.proofs.PackLaws.{length_eights, unpack_packed}
use Rattle.format.proofs.PlainLaws.{Shown}
use Rattle.listing.specs.Decimal.{decimal}
use Rattle.listing.specs.Listing.{line, first_line, tag_line, tag_lines, listing, refusal}
use Rattle.listing.specs.declared.Cursor.{Cursor}
use Rattle.listing.specs.Steps.{field, tabbed, ender, byte_fields, Step, cursor, start, first_step, head_step, number_step, bytes_step, step, table_listing}
use Rattle.listing.specs.declared.fields.Text.{Text}
use Rattle.listing.specs.Texts.{Adds}
use Rattle.listing.proofs.TextLaws.{adds_then}
use Rattle.listing.proofs.StepLaws.{step_first, step_head, step_value, more_yes, more_none}
use Rattle.listing.proofs.Parts.{rest, rest_step, rest_end}

-- ---- a record's fields, each with the byte that ends it

-- the values of a record, the last of them ended by the newline
abbrev values : List ℕ → List ℕ
values [] = []
values (v ∷ vs) = field v (ender (length vs)) ++ values vs

-- numbers, a tab after each, and then x
abbrev before : List ℕ → List ℕ → List ℕ
before [] x = x
before (n ∷ ns) x = decimal n ++ 9 ∷ before ns x

before_tabbed : (ns x : List ℕ) → before ns x ≡ tabbed ns ++ x
unfolding field
before_tabbed [] x = refl
before_tabbed (n ∷ ns) x =
    ap (λ (y : List ℕ). decimal n ++ 9 ∷ y) (before_tabbed ns x) ∙ sym (append_assoc (decimal n) (9 ∷ []) (tabbed ns ++ x))
    ∙ sym (append_assoc (decimal n ++ 9 ∷ []) (tabbed ns) x)

line_end : (n : ℕ) → decimal n ++ 10 ∷ [] ≡ field n 10
unfolding field
line_end n = refl

line_values : (n : ℕ) (vs : List ℕ) → line (decimal n) (map decimal vs) ≡ field n (ender (length vs)) ++ values vs
line_values n [] = line_end n ∙ sym (append-nil (field n 10))
line_values n (v ∷ vs) =
    rw (ne_eqb (suc (length vs)) 0 (λ e. omega arith))
    (ap (λ (x : List ℕ). decimal n ++ 9 ∷ x) (line_values v vs) ∙ before_tabbed (n ∷ []) (values (v ∷ vs)) ∙ rw (append-nil (field n 9)))

-- a refusal, as the code lays it: `refused` and a tab, the reason and a tab, the number and a newline
pub refusal_added : {a b c d : Text} (e n : ℕ) {x : ℕ} → x ≡ e → Adds a b (0x72 ∷ 0x65 ∷ 0x66 ∷ 0x75 ∷ 0x73 ∷ 0x65 ∷ 0x64 ∷ 9 ∷ []) → Adds b c (field x 9) → Adds c d (field n 10) → Adds a d (refusal e n)
unfolding refusal
refusal_added {a} {b} {c} {d} e n i p q r =
    adds_then (0x72 ∷ 0x65 ∷ 0x66 ∷ 0x75 ∷ 0x73 ∷ 0x65 ∷ 0x64 ∷ 9 ∷ []) (before (e ∷ []) (decimal n ++ 10 ∷ [])) p
    (subst (Adds b d) (rw (append-nil (field e 9)) at (sym (before_tabbed (e ∷ []) (field n 10))) ∙ ap (λ (x : List ℕ). before (e ∷ []) x) (sym (line_end n))) (adds_then (field e 9) (field n 10) (rw i at q) r))

-- a tag's record: five fields and a tab after each, its state, its values
tag_line_lem : (t : Tag) → tag_line t
    ≡ (tabbed (t.depth ∷ t.place ∷ t.header_size ∷ t.body_length ∷ t.code ∷ []) ++ field t.state (ender (length t.values))) ++ values t.values
tag_line_lem t =
    ap (before (t.depth ∷ t.place ∷ t.header_size ∷ t.body_length ∷ t.code ∷ [])) (line_values t.state t.values)
    ∙ before_tabbed (t.depth ∷ t.place ∷ t.header_size ∷ t.body_length ∷ t.code ∷ []) (field t.state (ender (length t.values)) ++ values t.values)
    ∙ sym (append_assoc (tabbed (t.depth ∷ t.place ∷ t.header_size ∷ t.body_length ∷ t.code ∷ [])) (field t.state (ender (length t.values))) (values t.values))

-- ---- the steps on tables whose rest is known

-- the numbers from index k on
at_drop : (t : List ℕ) {x : List ℕ} (k i : ℕ) → drop k t ≡ x → get_or t (k + i) 0 ≡ get_or x i 0
at_drop t k i e = sym (get_or-drop k t i 0) ∙ ap (λ (l : List ℕ). get_or l i 0) e

at_first : (t : List ℕ) {x : List ℕ} (k : ℕ) → drop k t ≡ x → get_or t k 0 ≡ get_or x 0 0
at_first t k e = ap (λ (j : ℕ). get_or t j 0) (sym (add-zero k)) ∙ at_drop t k 0 e

drop_more : (t : List ℕ) {x : List ℕ} (k i : ℕ) → drop k t ≡ x → drop (k + i) t ≡ drop i x
drop_more t k i e = sym (drop-drop i k t) ∙ ap (drop i) e

-- bytes as fields, and the values that follow them in their record
fields_values : (bs ys : List ℕ) (left : ℕ) → left ≤ length bs + length ys → byte_fields bs left ++ values (take (left - length bs) ys) ≡ values (take left (bs ++ ys))
unfolding byte_fields
fields_values [] ys left h = let e : left - 0 ≡ left = omega arith in rw e
fields_values (b ∷ bs) ys zero h = let e : 0 - suc (length bs) ≡ 0 = omega arith in rw e
fields_values (b ∷ bs) ys (suc left) h =
    let n : length (take left (bs ++ ys)) ≡ left = length-take-le left (bs ++ ys) (rw length-append (omega arith)) in
    let e : suc left - suc (length bs) ≡ left - length bs = omega arith in
    rw (n, e) (append_assoc (field b (ender left)) (byte_fields bs left) (values (take (left - length bs) ys))
    ∙ ap (λ (x : List ℕ). field b (ender left) ++ x) (fields_values bs ys left (omega arith)))

length_spread : (ws : List ℕ) → length (spread ws) ≡ 8 * length ws
unfolding spread
length_spread [] = refl
length_spread (w ∷ ws) = rw length-append (omega (arith, length_spread ws))

module _ (n : ℕ) (t g : List ℕ) where
  values_rest : (vs ns : List ℕ) (k m : ℕ) → drop k t ≡ vs ++ ns → 0 < k → m ≤ length g
      → rest n t g (cursor k m (length vs) false) ≡ values vs ++ rest n t g (cursor (k + length vs) m 0 false)
  values_rest [] ns k m e h i = rw (add-zero k)
  values_rest (v ∷ vs) ns k m e h i =
      let c : Cursor = cursor k m (suc (length vs)) false in
      let l : k < length t = omega (arith, ap length e, length-drop k t) in
      let s : step n t g c ≡ number_step t k m (suc (length vs)) = step_value n t g c (λ z. omega arith) (λ z. omega arith) in
      let p : suc (length vs) - 1 ≡ length vs = omega arith in
      let q : k + 1 + length vs ≡ k + suc (length vs) = omega arith in
      rest_step n t g c (more_yes t g c l i)
      ∙ ap (λ (x : Step). x.text ++ rest n t g x.to) s
      ∙ rw (p, at_first t k e) (ap (λ (x : List ℕ). field v (ender (length vs)) ++ x) (values_rest vs ns (k + 1) m (drop_more t k 1 e) (omega arith) i)
      ∙ rw q (sym (append_assoc (field v (ender (length vs))) (values vs) (rest n t g (cursor (k + suc (length vs)) m 0 false)))))

  -- a body of `left` bytes in as many packed numbers as it needs
  body_rest : (ws ns : List ℕ) (k m left : ℕ) → drop k t ≡ ws ++ ns → 0 < k → m ≤ length g → left ≤ 8 * length ws → 8 * length ws < left + 8
      → rest n t g (cursor k m left true) ≡ values (take left (spread ws)) ++ rest n t g (cursor (k + length ws) m 0 true)
  unfolding spread
  body_rest [] ns k m left e h i a b = let z : left ≡ 0 = omega arith in rw (z, add-zero k)
  body_rest (w ∷ ws) ns k m left e h i a b =
      let c : Cursor = cursor k m left true in
      let l : k < length t = omega (arith, ap length e, length-drop k t) in
      let s : step n t g c ≡ bytes_step t k m left = step_value n t g c (λ z. omega arith) (λ z. omega arith) in
      let q : k + 1 + length ws ≡ k + suc (length ws) = omega arith in
      rest_step n t g c (more_yes t g c l i)
      ∙ ap (λ (x : Step). x.text ++ rest n t g x.to) s
      ∙ rw (at_first t k e) (ap (λ (x : List ℕ). byte_fields (eight_of w) left ++ x) (body_rest ws ns (k + 1) m (left - 8) (drop_more t k 1 e) (omega arith) i (omega arith) (omega arith))
      ∙ rw q (sym (append_assoc (byte_fields (eight_of w) left) (values (take (left - 8) (spread ws))) (rest n t g (cursor (k + suc (length ws)) m 0 true))))
      ∙ ap (λ (x : List ℕ). x ++ rest n t g (cursor (k + suc (length ws)) m 0 true)) (fields_values (eight_of w) (spread ws) left (omega (arith, length_spread ws))))

  -- an opaque tag's values, without the first, which says how many bytes there are
  packed_rest : (b vs ns : List ℕ) (k j m left : ℕ) → AllBytes b → vs ≡ packed b → left ≡ length b → drop k t ≡ vs ++ ns → m ≤ length g → j ≡ k + 1
      → rest n t g (cursor j m left true) ≡ values b ++ rest n t g (cursor (k + length vs) m 0 true)
  packed_rest b vs ns k j m left h p l e i s =
      let ws : List ℕ = eights ((length b + 7) / 8) b in
      let c : length ws ≡ (length b + 7) / 8 = length_eights ((length b + 7) / 8) b in
      let d : drop (k + 1) t ≡ ws ++ ns = drop_more t k 1 (e ∙ ap (λ (x : List ℕ). x ++ ns) p) in
      let r : rest n t g (cursor (k + 1) m left true) ≡ values (take left (spread ws)) ++ rest n t g (cursor (k + 1 + length ws) m 0 true) = body_rest ws ns (k + 1) m left d (omega arith) i (omega (arith, l, c)) (omega (arith, l, c)) in
      let q : k + 1 + length ws ≡ k + length vs = omega (arith, ap length p) in
      rw s (r ∙ rw (l, q, unpack_packed b h))

  -- a tag's record: its head, and what the fields after it show
  record_rest : (x : Tag) (vs us : List ℕ) (c d : Cursor) → c.left ≡ length vs → rest n t g c ≡ values vs ++ rest n t g d → rest n t g d ≡ us
      → (tabbed (x.depth ∷ x.place ∷ x.header_size ∷ x.body_length ∷ x.code ∷ []) ++ field x.state (ender c.left)) ++ rest n t g c ≡ tag_line (showing x vs) ++ us
  record_rest x vs us c d l e h =
      let five : List ℕ = tabbed (x.depth ∷ x.place ∷ x.header_size ∷ x.body_length ∷ x.code ∷ []) in
      let head : List ℕ = five ++ field x.state (ender (length vs)) in
      ap₂ (λ (m : ℕ) (y : List ℕ). (five ++ field x.state (ender m)) ++ y) l (e ∙ ap (λ (y : List ℕ). values vs ++ y) h)
      ∙ sym (append_assoc head (values vs) us) ∙ ap (λ (y : List ℕ). y ++ us) (sym (tag_line_lem (showing x vs)))

  module _ (f : List ℕ) (bytes : AllBytes f) where
    lines_rest : (ts : List Tag) (k m : ℕ) (p : Bool) → Shown f ts → drop k t ≡ numbers ts → drop m g ≡ tag_table ts → 0 < k → rest n t g (cursor k m 0 p) ≡ tag_lines (map (plain_tag f) ts)
    lines_rest [] k m p u e d h = rest_end n t g (cursor k m 0 p) (more_none t g (cursor k m 0 p) (omega (arith, ap length e, length-drop k t)))
    lines_rest (x ∷ ts) k m p u e d h =
        let l : k < length t = omega (arith, ap length e, length-drop k t) in
        let r : m + 5 ≤ length g = omega (arith, ap length d, length-drop m g) in
        let s : step n t g (cursor k m 0 p) ≡ head_step t g k m = step_head n t g (cursor k m 0 p) (λ z. omega arith) refl in
        let v : drop (k + 3) t ≡ x.values ++ numbers ts = drop_more t k 3 e in
        let w : drop (k + 3 + length x.values) t ≡ numbers ts = drop_more t (k + 3) (length x.values) v ∙ drop-append_seam x.values (numbers ts) in
        rest_step n t g (cursor k m 0 p) (more_yes t g (cursor k m 0 p) l (omega arith))
        ∙ ap (λ (y : Step). y.text ++ rest n t g y.to) s
        ∙ rw (at_first t k e, at_drop t k 1 e, at_drop t k 2 e, at_drop t k 3 e, at_first g m d, at_drop g m 2 d, at_drop g m 3 d, at_drop g m 4 d)
        (go v r (λ q. lines_rest ts (k + 3 + length x.values) (m + 5) q u.1 w (drop_more g m 5 d) (omega arith)) (is_opaque x.state) refl)
      where
        after : Bool → Cursor
        after q = pick q (cursor (k + 4) (m + 5) (get_or (x.values ++ numbers ts) 0 0) true) (cursor (k + 3) (m + 5) (length x.values) false)

        go : drop (k + 3) t ≡ x.values ++ numbers ts → m + 5 ≤ length g → ((q : Bool) → rest n t g (cursor (k + 3 + length x.values) (m + 5) 0 q) ≡ tag_lines (map (plain_tag f) ts)) → (q : Bool) → is_opaque x.state ≡ q
            → (tabbed (x.depth ∷ x.place ∷ x.header_size ∷ x.body_length ∷ x.code ∷ []) ++ field x.state (ender (after q).left)) ++ rest n t g (after q)
            ≡ tag_line (showing x (pick q (body_in f x) x.values)) ++ tag_lines (map (plain_tag f) ts)
        go v r more true o =
            let first : get_or (x.values ++ numbers ts) 0 0 ≡ length (body_in f x) = ap (λ (y : List ℕ). get_or (y ++ numbers ts) 0 0) (u.0 o) in
            record_rest x (body_in f x) (tag_lines (map (plain_tag f) ts)) (after true) (cursor (k + 3 + length x.values) (m + 5) 0 true) first
            (packed_rest (body_in f x) x.values (numbers ts) (k + 3) (k + 4) (m + 5) (get_or (x.values ++ numbers ts) 0 0) (bytes_take x.body_length (drop (x.place + x.header_size) f) (bytes_drop (x.place + x.header_size) f bytes)) (u.0 o) first v r (omega arith)) (more true)
        go v r more false o =
            record_rest x x.values (tag_lines (map (plain_tag f) ts)) (after false) (cursor (k + 3 + length x.values) (m + 5) 0 false) refl
            (values_rest x.values (numbers ts) (k + 3) (m + 5) v (omega arith) r) (more false)

-- the first line of a file of version 1
first_line_lem : (f : List ℕ) (w : Walk) → get_or f 3 0 ≡ 1 → first_line f ≡ (first_step (length f) (table f w)).text
first_line_lem f w h =
    rw h (ap (λ (x : List ℕ). 0x50 ∷ 0x41 ∷ 0x47 ∷ 9 ∷ x) (before_tabbed (1 ∷ length f ∷ []) (decimal (compression f) ++ 10 ∷ []) ∙ ap (λ (x : List ℕ). tabbed (1 ∷ length f ∷ []) ++ x) (line_end (compression f))))

-- THE theorem: for a walk w of the file f, whose opaque tags show their bodies, packed (`shown_file` of format: those of `walk_file` do)
pub listed : (f : List ℕ) (w : Walk) → IsFile f → Shown f w.tags → get_or f 3 0 ≡ 1 → table_listing (length f) (table f w) (tag_table w.tags) ≡ listing f w
unfolding listing
listed f w b u h =
    rest_step (length f) (table f w) (tag_table w.tags) start (more_yes (table f w) (tag_table w.tags) start (omega arith) (omega arith))
    ∙ ap (λ (x : Step). x.text ++ rest (length f) (table f w) (tag_table w.tags) x.to) (step_first (length f) (table f w) (tag_table w.tags) start refl)
    ∙ ap (λ (x : List ℕ). (first_step (length f) (table f w)).text ++ x) (lines_rest (length f) (table f w) (tag_table w.tags) f b w.tags 1 0 false u refl refl (omega arith))
    ∙ ap (λ (x : List ℕ). x ++ tag_lines (map (plain_tag f) w.tags)) (sym (first_line_lem f w h))
