-- An opaque tag put over an output: its header, of the length that its first number says, and its body behind it.
use Prim.Native.Nat.{ℕ, ◌+◌, ◌≤◌, ◌<◌}
use mathlib.Core.Bool.{Bool, true, false}
use mathlib.Core.List.{List, [], ◌∷◌, ◌++◌}
use mathlib.Core.Path.{◌≡◌, refl, ap, ap₂, sym, ◌∙◌, subst}
use native.Mathlib.Omega.{arith}
use lib.Dec.{leb}
use borrow.Author.Tests.{lt-leb}
use lib.ListN.{length, get_or, length-append}
use lib.Seq.{sets}
use Rattle.format.specs.Tests.{pick}
use Rattle.format.specs.Possible.{Possible, this, cannot}
use Rattle.format.specs.WritingFiles.{unpacked_as, fits_head, spell_head}
use Rattle.format.proofs.PackLaws.{PackedIf, unpacked_back}
use Rattle.sink.specs.Lain.{longest, lain, lies}
use Rattle.table.proofs.EngineLaws.{sets_append}
use Rattle.write_heads.specs.Heads.{Headed}
use Rattle.write_heads.proofs.HeadLaws.{head_fits, head_long}
use Rattle.write_opaque.specs.Headers.{under_header}

module _ (out : List ℕ) (a : ℕ) (vs : List ℕ) (claim : Bool) (code : ℕ) where
  pub tag_none : length vs ≡ 0 → cannot ≡ lies out a (under_header claim code (unpacked_as vs))
  unfolding lies unpacked_as
  tag_none e = go vs e
    where
      go : (l : List ℕ) → length l ≡ 0 → cannot ≡ lies out a (under_header claim code (unpacked_as l))
      go [] e = refl
      go (x ∷ l) e = absurd (omega arith)

  module _ (n : ℕ) (first : n ≡ get_or vs 0 0) where
    -- a body has the length that its first number says
    size : (b : List ℕ) → PackedIf vs (this b) → length b ≡ n
    size b u = ap (λ (r : List ℕ). get_or r 0 0) u.1 ∙ sym first

    -- bytes that end past the longest file
    late : (b : List ℕ) → longest < a + length (spell_head claim code (length b)) + length b → (f : Bool) → cannot ≡ lies out a (pick f (this (spell_head claim code (length b) ++ b)) cannot)
    unfolding lies
    late b h true = rw (lt-leb (a + length (spell_head claim code (length b) ++ b)) longest (rw length-append (omega arith)))
    late b h false = refl

    pub tag_long : longest < n → cannot ≡ lies out a (under_header claim code (unpacked_as vs))
    unfolding lies
    tag_long h = go (unpacked_as vs) (unpacked_back vs)
      where
        go : (x : Possible (List ℕ)) → PackedIf vs x → cannot ≡ lies out a (under_header claim code x)
        go cannot u = refl
        go (this b) u = late b (omega (arith, size b u)) (fits_head claim code (length b))

    pub tag_claim : claim ≡ true → 62 < n → cannot ≡ lies out a (under_header claim code (unpacked_as vs))
    unfolding lies
    tag_claim c h = go (unpacked_as vs) (unpacked_back vs)
      where
        go : (x : Possible (List ℕ)) → PackedIf vs x → cannot ≡ lies out a (under_header claim code x)
        go cannot u = refl
        go (this b) u = rw (head_long claim code (length b) c (omega (arith, size b u))) refl

    -- the header was put
    module _ (low : code < 1024) (small : n ≤ longest) (short : claim ≡ true → n < 63) {u : List ℕ} {body : ℕ} (head : Headed out a claim code n u body) where
      headed : (b : List ℕ) → PackedIf vs (this b) → Headed out a claim code (length b) u body
      headed b p = subst (λ (m : ℕ). Headed out a claim code m u body) (sym (size b p)) head

      pub tag_late : longest < body → cannot ≡ lies out a (under_header claim code (unpacked_as vs))
      unfolding lies
      tag_late h = go (unpacked_as vs) (unpacked_back vs)
        where
          go : (x : Possible (List ℕ)) → PackedIf vs x → cannot ≡ lies out a (under_header claim code x)
          go cannot p = refl
          go (this b) p = late b (omega (arith, (headed b p).place)) (fits_head claim code (length b))

      -- and the body behind it
      pub tag_put : lies u body (unpacked_as vs) ≡ lies out a (under_header claim code (unpacked_as vs))
      unfolding lies
      tag_put = go (unpacked_as vs) (unpacked_back vs)
        where
          go : (x : Possible (List ℕ)) → PackedIf vs x → lies u body x ≡ lies out a (under_header claim code x)
          go cannot p = refl
          go (this b) p =
              let h : Headed out a claim code (length b) u body = headed b p in
              let f : fits_head claim code (length b) ≡ true = head_fits claim code (length b) low (omega (arith, size b p)) (λ c. omega (arith, size b p, short c)) in
              let s : sets u body b ≡ sets out a (spell_head claim code (length b) ++ b) =
              ap₂ (λ (l : List ℕ) (m : ℕ). sets l m b) h.put h.place ∙ sym (sets_append out a (spell_head claim code (length b)) b) in
              let q : body + length b ≡ a + length (spell_head claim code (length b) ++ b) = rw length-append (omega (arith, h.place)) in
              rw f (ap₂ (λ (l : List ℕ) (m : ℕ). pick (leb m longest) (this (lain l m)) cannot) s q)
