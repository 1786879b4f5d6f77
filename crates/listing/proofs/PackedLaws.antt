-- The bytes of a packed number as fields (C-17), one by one, as the code lays them.
use Prim.Native.Nat.{ℕ, suc, ◌+◌, ◌-◌, ◌≤◌, ◌<◌}
use mathlib.Core.List.{List, [], ◌∷◌, ◌++◌}
use mathlib.Core.Path.{◌≡◌, refl, ap, ap₂, subst, ◌∙◌}
use native.Mathlib.Numerals.{add-one}
use native.Mathlib.Omega.{arith}
use lib.ListN.{length, get_or, drop, drop_of_length-le}
use lib.Seq.{drop-cons}
use Rattle.listing.specs.Steps.{field, ender, byte_fields}
use Rattle.listing.specs.declared.fields.Text.{Text}
use Rattle.listing.specs.Texts.{Adds}
use Rattle.listing.proofs.TextLaws.{Left, left_next, left_none}

no_fields : (bs : List ℕ) → byte_fields bs 0 ≡ []
unfolding byte_fields
no_fields [] = refl
no_fields (b ∷ bs) = refl

bytes_at : (bs : List ℕ) (i left : ℕ) → i < length bs → byte_fields (drop i bs) (suc left) ≡ field (get_or bs i 0) (ender left) ++ byte_fields (drop (i + 1) bs) left
unfolding byte_fields
bytes_at bs i left h = rw (add-one i, drop-cons bs i 0 h)

-- for code: from byte i on there are `left` fields to come of the text t
module _ {a b : Text} {t : List ℕ} (bs : List ℕ) (i left : ℕ) (p : Left a b t (byte_fields (drop i bs) left)) where
  pub bytes_next : {c : Text} (x end : ℕ) → i < length bs → 0 < left → x ≡ get_or bs i 0 → end ≡ ender (left - 1) → Adds b c (field x end) → Left a c t (byte_fields (drop (i + 1) bs) (left - 1))
  bytes_next {c} x end h l e f q =
      let s : left ≡ suc (left - 1) = omega arith in
      let w : byte_fields (drop i bs) left ≡ field (get_or bs i 0) (ender (left - 1)) ++ byte_fields (drop (i + 1) bs) (left - 1) = ap (byte_fields (drop i bs)) s ∙ bytes_at bs i (left - 1) h in
      left_next {b = b} (field (get_or bs i 0) (ender (left - 1))) (byte_fields (drop (i + 1) bs) (left - 1)) (subst (Left a b t) w p) (subst (Adds b c) (ap₂ field e f) q)

  -- no field is left in the record, or no byte in the number
  pub bytes_last : left ≡ 0 → Adds a b t
  bytes_last e = left_none (rw (e, no_fields (drop i bs)) at p)

  pub bytes_all : length bs ≤ i → Adds a b t
  unfolding byte_fields
  bytes_all h = left_none (rw (drop_of_length-le bs h) at p)
