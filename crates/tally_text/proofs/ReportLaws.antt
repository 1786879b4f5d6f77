-- A tally's text, laid line by line.
use Prim.Native.Nat.{ℕ, ◌+◌, ◌≤◌, ◌<◌}
use mathlib.Core.List.{List, [], ◌∷◌, ◌++◌, append_assoc}
use mathlib.Core.Path.{◌≡◌, subst}
use native.Mathlib.Numerals.{add-one}
use lib.ListN.{length, get_or, drop, drop_of_length-le}
use lib.Seq.{drop-cons}
use borrow.Author.Tests.{eq-eqb, ne_eqb}
use Rattle.listing.specs.Decimal.{decimal}
use Rattle.listing.specs.Steps.{field}
use Rattle.listing.specs.declared.fields.Text.{Text}
use Rattle.listing.specs.Texts.{Adds}
use Rattle.listing.proofs.TextLaws.{adds_none, adds_then, Left, left_next, left_none}
use Rattle.tally.specs.declared.Tally.{Tally}
use Rattle.tally_text.specs.Report.{header_line, count_line, count_lines, report}

pub header_added : {a b c : Text} (n : ℕ) → Adds a b (0x68 ∷ 0x65 ∷ 0x61 ∷ 0x64 ∷ 0x65 ∷ 0x72 ∷ 9 ∷ []) → Adds b c (field n 10) → Adds a c (header_line n)
unfolding field
header_added n p q = adds_then (0x68 ∷ 0x65 ∷ 0x61 ∷ 0x64 ∷ 0x65 ∷ 0x72 ∷ 9 ∷ []) (decimal n ++ 10 ∷ []) p q

pub count_none : (a : Text) (code n : ℕ) → n ≡ 0 → Adds a a (count_line code n)
count_none a code n h = rw (eq-eqb n 0 h) (adds_none a)

pub count_added : {a b c : Text} (code n : ℕ) → (n ≡ 0 → ⊥) → Adds a b (field code 9) → Adds b c (field n 10) → Adds a c (count_line code n)
unfolding field
count_added {a} {b} {c} code n h p q = rw (ne_eqb n 0 h) (subst (Adds a c) (append_assoc (decimal code) (9 ∷ []) (decimal n ++ 10 ∷ [])) (adds_then (decimal code ++ 9 ∷ []) (decimal n ++ 10 ∷ []) p q))

-- what is still to come, from a code on
pub counts_next : {a b c : Text} {t : List ℕ} (ns : List ℕ) (i : ℕ) → i < length ns → Left a b t (count_lines i (drop i ns)) → Adds b c (count_line i (get_or ns i 0)) → Left a c t (count_lines (i + 1) (drop (i + 1) ns))
counts_next {a} {b} {c} {t} ns i h p q = left_next (count_line i (get_or ns i 0)) (count_lines (i + 1) (drop (i + 1) ns)) (subst (Left a b t) at p) q
  where
    at : count_lines i (drop i ns) ≡ count_line i (get_or ns i 0) ++ count_lines (i + 1) (drop (i + 1) ns)
    at = rw (add-one i, drop-cons ns i 0 h)

pub counts_done : {a b : Text} {t : List ℕ} (ns : List ℕ) (i : ℕ) → length ns ≤ i → Left a b t (count_lines i (drop i ns)) → Adds a b t
counts_done ns i h p = left_none (rw (drop_of_length-le ns h) at p)

pub report_added : {a b c : Text} (t : Tally) → Adds a b (header_line t.headers) → Adds b c (count_lines 0 t.counts) → Adds a c (report t)
unfolding report
report_added t p q = adds_then (header_line t.headers) (count_lines 0 t.counts) p q
