-- Strings, written.
use Rattle.std.proofs.Common.{◌≡◌, ℕ, suc, ◌+◌, ◌-◌, ◌*◌, ◌<◌, ◌≤◌, Bool, true, false, leb, List, [], ◌∷◌, ◌++◌, length, get_or, take, drop, set, sym, refl, ap, ◌∙◌, ap₂, add-one, arith, length-append, length-drop, length-take-le, drop-cons, le-ltb, lt-ltb, eq-eqb, ne_eqb, le-leb, leb-true}
use Rattle.std.specs.Prelude.{Result, Ok, Err}
use lib.Seq.{drop-length}
use borrow.Author.Tests.{lt-leb}
use Rattle.format.specs.Tests.{pick}
use Rattle.format.specs.Bits.{Order}
use Rattle.format.specs.Items.{skipped, string}
use Rattle.format.specs.Possible.{Possible, this, cannot}
use Rattle.format.specs.WritingItems.{dig, before, put, take_text, spell_txt, text_byte, write_item}
use Rattle.format.specs.WritingFormats.{adjoin, unrun}
use Rattle.format.proofs.BitLaws.{length_dig}
use Rattle.format.proofs.Absurd.{clash}
use Rattle.sink.specs.declared.Impossible.{Impossible}
use Rattle.sink.specs.Laying.{State, mk, lay, Skipped}
use Rattle.sink.proofs.LayingLaws.{lay_append, lay_byte, lay_place}
use Rattle.spelling.specs.Spellings.{spelled_to}
use Rattle.spelling.specs.Writing.{bits_over, ends, written_over, ran}
use Rattle.spelling.proofs.RunLaws.{ends_out}
use Rattle.spelling.proofs.NumberLaws.{byte_then}

-- ---- the bytes, one by one: i of them are put
pub text_start : (o : Order) (out : List ℕ) (a : ℕ) (vs : List ℕ) → bits_over o (mk out (8 * a) 0) (spell_txt o vs) ≡ bits_over o (mk out (8 * (a + 0)) 0) (spell_txt o (drop 0 vs))
text_start o out a vs = let e : a + 0 ≡ a = omega arith in rw e

module _ (o : Order) (out : List ℕ) (a : ℕ) (vs : List ℕ) (i : ℕ) where
  module _ (l : i < length vs) where
    pub text_zero : get_or vs i 0 ≡ 0 → bits_over o (mk out (8 * (a + i)) 0) (spell_txt o (drop i vs)) ≡ cannot
    unfolding spell_txt
    text_zero h = rw (drop-cons vs i 0 l, eq-eqb (get_or vs i 0) 0 h)

    pub text_large : (get_or vs i 0 ≡ 0 → ⊥) → 255 < get_or vs i 0 → bits_over o (mk out (8 * (a + i)) 0) (spell_txt o (drop i vs)) ≡ cannot
    unfolding spell_txt
    text_large n h = rw (drop-cons vs i 0 l, ne_eqb (get_or vs i 0) 0 n, le-ltb (get_or vs i 0) 256 (omega arith))

    pub text_next : {u : List ℕ} → (get_or vs i 0 ≡ 0 → ⊥) → get_or vs i 0 ≤ 255 → u ≡ set out (a + i) (get_or vs i 0)
        → bits_over o (mk out (8 * (a + i)) 0) (spell_txt o (drop i vs)) ≡ bits_over o (mk u (8 * (a + (i + 1))) 0) (spell_txt o (drop (i + 1) vs))
    unfolding spell_txt
    text_next {u} n h d =
        let q : 8 * (a + (i + 1)) ≡ 8 * (a + i) + 8 = omega arith in
        rw (q, drop-cons vs i 0 l, ne_eqb (get_or vs i 0) 0 n, lt-ltb (get_or vs i 0) 256 (omega arith), add-one)
        (byte_then o out (a + i) (8 * (a + i)) (get_or vs i 0) (spell_txt o (drop (suc i) vs)) (omega arith) refl d)

  pub text_over_lem : {u : List ℕ} → length vs ≡ i → u ≡ set out (a + length vs) 0
      → spelled_to u (Ok (a + length vs + 1)) ≡ bits_over o (mk out (8 * (a + i)) 0) (spell_txt o (drop i vs))
  unfolding spell_txt
  text_over_lem {u} n d =
      let q : 8 * (a + length vs + 1) ≡ 8 * (a + length vs) + 8 = omega arith in
      rw (q, ← n, drop-length)
      (ap this (sym (lay_byte o out (a + length vs) 0 (omega arith) refl d)))

-- ---- the whole
length_text : (o : Order) (xs : List ℕ) (bs : List Bool) → spell_txt o xs ≡ this bs → length bs ≡ 8 * suc (length xs)
unfolding spell_txt
length_text o [] bs e = let z : dig o 8 0 ≡ bs = cc in rw (← z) (length_dig o 8 0)
length_text o (x ∷ xs) bs e = go (text_byte x) refl (spell_txt o xs) (λ cs r. length_text o xs cs r) e
  where
    go : (c : Bool) → text_byte x ≡ c → (b : Possible (List Bool)) → ((cs : List Bool) → b ≡ this cs → length cs ≡ 8 * suc (length xs)) → pick c (before (dig o 8 x) b) cannot ≡ this bs → length bs ≡ 8 * suc (suc (length xs))
    go false q b r h = clash cc
    go true q cannot r h = clash cc
    go true q (this cs) r h =
        let z : dig o 8 x ++ cs ≡ bs = cc in
        omega (arith, ap length z, length-append (dig o 8 x) cs, length_dig o 8 x, r cs refl)

module _ (o : Order) (t : List ℕ) (st : State) (k : ℕ) where
  -- the skip, and what follows it
  skip : List Bool
  skip = dig o (skipped st.place) 0

  string_is : ran o t st k string ≡ written_over o st k (adjoin [] skip (take_text o (drop k t)))
  unfolding ran unrun write_item skip
  string_is = refl

  pub string_none : length t ≤ k → ran o t st k string ≡ cannot
  unfolding written_over
  string_none h = string_is ∙ go (drop k t) (omega (arith, length-drop k t))
    where
      go : (ns : List ℕ) → length ns ≡ 0 → written_over o st k (adjoin [] skip (take_text o ns)) ≡ cannot
      go [] e = refl
      go (x ∷ ns) e = absurd (omega arith)

  module _ (l : k < length t) where
    n : ℕ
    n = get_or t k 0

    ns : List ℕ
    ns = drop (suc k) t

    some : ran o t st k string ≡ written_over o st k (adjoin [] skip (pick (leb n (length ns)) (put (n ∷ take n ns) (spell_txt o (take n ns)) (drop n ns)) cannot))
    unfolding n ns
    some = string_is ∙ rw (drop-cons t k 0 l)

    pub string_cut : length t - (k + 1) < get_or t k 0 → ran o t st k string ≡ cannot
    unfolding n ns written_over
    string_cut h = some ∙ rw (lt-leb (get_or t k 0) (length (drop (suc k) t)) (rw length-drop (omega arith)))

    spelling : get_or t k 0 ≤ length t - (k + 1) → ran o t st k string ≡ written_over o st k (adjoin [] skip (put (n ∷ take n ns) (spell_txt o (take n ns)) (drop n ns)))
    unfolding n ns
    spelling h = some ∙ rw (le-leb (get_or t k 0) (length (drop (suc k) t)) (rw length-drop (omega arith)))

    pub string_long : 16777216 < get_or t k 0 → ran o t st k string ≡ cannot
    unfolding n ns written_over
    string_long h = go (leb (get_or t k 0) (length t - (k + 1))) refl
      where
        text : (b : Possible (List Bool)) → spell_txt o (take n ns) ≡ b → n ≤ length t - (k + 1) → written_over o st k (adjoin [] skip (put (n ∷ take n ns) b (drop n ns))) ≡ cannot
        text cannot e m = refl
        text (this bs) e m =
            ends_out (lay o st (skip ++ bs)) _
            (omega (arith, lay_place o st (skip ++ bs), length-append skip bs, length_text o (take n ns) bs e, length-take-le n ns (rw length-drop (omega arith))))

        go : (c : Bool) → leb (get_or t k 0) (length t - (k + 1)) ≡ c → ran o t st k string ≡ cannot
        go true e = spelling (leb-true (get_or t k 0) (length t - (k + 1)) e) ∙ text (spell_txt o (take n ns)) refl (leb-true (get_or t k 0) (length t - (k + 1)) e)
        go false e = some ∙ (let f : leb (get_or t k 0) (length (drop (suc k) t)) ≡ false = rw length-drop (let z : length t - suc k ≡ length t - (k + 1) = omega arith in rw z e) in rw f)

    module _ (from to : ℕ) (from_is : k + 1 ≡ from) (to_is : from + get_or t k 0 ≡ to) (fits : get_or t k 0 ≤ length t - from)
        {u : List ℕ} {byte bit : ℕ} (skipped-to : Skipped o st u byte bit) (u' : List ℕ) (R : Result ℕ Impossible) (text : spelled_to u' R ≡ bits_over o (mk u (8 * byte) 0) (spell_txt o (take (to - from) (drop from t)))) where
      same : take (to - from) (drop from t) ≡ take n ns
      unfolding n ns
      same =
          let e : to - from ≡ get_or t k 0 = omega arith in
          rw (e, ← from_is, add-one)

      laid_text : spelled_to u' R ≡ bits_over o (lay o st skip) (spell_txt o (take n ns))
      unfolding skip
      laid_text = text ∙ ap (λ (p : ℕ). bits_over o (mk u p 0) (spell_txt o (take (to - from) (drop from t)))) (sym skipped-to.whole) ∙ ap₂ (λ (s : State) (xs : List ℕ). bits_over o s (spell_txt o xs)) skipped-to.laid same

      pub string_no : {e : Impossible} → R ≡ Err e → ran o t st k string ≡ cannot
      unfolding written_over
      string_no e = spelling (omega arith) ∙ go (spell_txt o (take n ns)) (ap (spelled_to u') (sym e) ∙ laid_text)
        where
          go : (b : Possible (List Bool)) → cannot ≡ bits_over o (lay o st skip) b → written_over o st k (adjoin [] skip (put (n ∷ take n ns) b (drop n ns))) ≡ cannot
          go cannot q = refl
          go (this bs) q = clash cc

      pub string_in : {p : ℕ} → R ≡ Ok p → ran o t st k string ≡ ends (mk u' (8 * p) 0) to
      unfolding written_over n ns
      string_in {p} e = spelling (omega arith) ∙ go (spell_txt o (take n ns)) (ap (spelled_to u') (sym e) ∙ laid_text)
        where
          index : k + suc (length (take n ns)) ≡ to
          index = omega (arith, length-take-le n ns (rw length-drop (omega arith)))

          go : (b : Possible (List Bool)) → this (mk u' (8 * p) 0) ≡ bits_over o (lay o st skip) b → written_over o st k (adjoin [] skip (put (n ∷ take n ns) b (drop n ns))) ≡ ends (mk u' (8 * p) 0) to
          go cannot q = clash cc
          go (this bs) q =
              let z : lay o (lay o st skip) bs ≡ mk u' (8 * p) 0 = cc in
              ap₂ ends (lay_append o st skip bs ∙ z) index
