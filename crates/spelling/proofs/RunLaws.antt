-- How formats that are written follow one another. Nothing here speaks of one format.
use Rattle.std.proofs.Common.{◌≡◌, ℕ, zero, suc, ◌+◌, ◌-◌, ◌%◌, ◌<◌, ◌≤◌, Bool, true, false, leb, List, [], ◌∷◌, ◌++◌, length, get_or, take, drop, sym, refl, ap, ◌∙◌, subst, ap₂, add-zero, add_assoc, add-one, arith, length-append, length-drop, drop-cons, drop-drop, pow_pos, le-leb, leb-false, leb-true}
use lib.Seq.{take-append_seam, drop-append_seam}
use borrow.Author.Tests.{lt-leb}
use Rattle.format.specs.Tests.{pick}
use Rattle.format.specs.Bits.{Order}
use Rattle.format.specs.Formats.{Item, Format, nothing, item, ◌▹◌, ◌▸◌, times, the}
use Rattle.format.specs.Items.{skipped}
use Rattle.format.specs.Possible.{Possible, this, cannot}
use Rattle.format.specs.WritingItems.{dig, before, Written, wrote, put, single, write_item}
use Rattle.format.specs.WritingFormats.{adjoin, onward, unrun}
use Rattle.format.proofs.BitLaws.{length_dig}
use Rattle.format.proofs.ItemLaws.{round_trip}
use Rattle.format.proofs.Absurd.{clash}
use Rattle.sink.specs.Laying.{State, lay, Holds, Skipped}
use Rattle.sink.proofs.LayingLaws.{lay_append, lay_none, lay_place, lay_ok}
use Rattle.spelling.specs.Writing.{bits_over, Seen, here, ends, written_over, ran, limit, OnByte}

-- ---- where a format ends
pub ends_in : (st : State) (k : ℕ) → st.place ≤ limit → ends st k ≡ this (here st k)
unfolding ends
ends_in st k h = rw (le-leb _ _ h)

pub ends_out : (st : State) (k : ℕ) → limit < st.place → ends st k ≡ cannot
unfolding ends
ends_out st k h = rw (lt-leb _ _ h)

-- ---- the values used, and those left
pub parts : (o : Order) (f : Format) (ns : List ℕ) (p : ℕ) (xs ys : List ℕ) (bs : List Bool) → unrun o f ns p ≡ this (wrote xs bs ys) → ns ≡ xs ++ ys
parts o f ns p xs ys bs e = (rw e at ((round_trip o f).back ns p)).parts

module _ (o : Order) (t : List ℕ) (k : ℕ) (g : List ℕ → Format) where
  -- what follows a format that was written from index k on
  abbrev pub resume : Possible Seen → Possible Seen
  resume (this (here st j)) = ran o t st j (g (take (j - k) (drop k t)))
  resume cannot = cannot

-- THE law: one format and then another
pub ran_then : (o : Order) (t : List ℕ) (st : State) (k : ℕ) (f : Format) (g : List ℕ → Format) → ran o t st k (f ▹ g) ≡ resume o t k g (ran o t st k f)
unfolding ran unrun written_over ends
ran_then o t st k f g = go (unrun o f (drop k t) st.place) refl
  where
    bits : (xs : List ℕ) (bs : List Bool) (w : Possible Written) → (c : Bool) → leb (lay o st bs).place limit ≡ c
        → written_over o st k (adjoin xs bs w) ≡ pick c (written_over o (lay o st bs) (k + length xs) w) cannot
    bits xs bs (this (wrote xs' bs' ys')) true e = ap₂ ends (lay_append o st bs bs') (rw (length-append, add_assoc))
    bits xs bs (this (wrote xs' bs' ys')) false e =
        ends_out (lay o st (bs ++ bs')) _ (omega (arith, leb-false (lay o st bs).place limit e, lay_place o st (bs ++ bs'), lay_place o st bs, length-append bs bs'))
    bits xs bs cannot true e = refl
    bits xs bs cannot false e = refl

    back : (xs : List ℕ) (bs : List Bool) (ys : List ℕ) → drop k t ≡ xs ++ ys → (c : Bool) → leb (lay o st bs).place limit ≡ c
        → pick c (written_over o (lay o st bs) (k + length xs) (unrun o (g xs) ys (st.place + length bs))) cannot ≡ resume o t k g (pick c (this (here (lay o st bs) (k + length xs))) cannot)
    back xs bs ys d false e = refl
    back xs bs ys d true e =
        let n : k + length xs - k ≡ length xs = omega arith in
        let a : take (k + length xs - k) (drop k t) ≡ xs = rw (n, d) (take-append_seam xs ys) in
        let b : drop (k + length xs) t ≡ ys = sym (drop-drop (length xs) k t) ∙ rw d (drop-append_seam xs ys) in
        rw (a, b, lay_place o)

    go : (w : Possible Written) → unrun o f (drop k t) st.place ≡ w
        → written_over o st k (onward w st.place (λ xs ys q. unrun o (g xs) ys q)) ≡ resume o t k g (written_over o st k w)
    go cannot e = refl
    go (this (wrote xs bs ys)) e =
        bits xs bs (unrun o (g xs) ys (st.place + length bs)) (leb (lay o st bs).place limit) refl
        ∙ back xs bs ys (parts o f (drop k t) st.place xs ys bs e) (leb (lay o st bs).place limit) refl

pub ran_nothing : (o : Order) (t : List ℕ) (st : State) (k : ℕ) → st.place ≤ limit → ran o t st k nothing ≡ this (here st k)
unfolding ran unrun written_over
ran_nothing o t st k h = rw (lay_none o, add-zero) (ends_in st k h)

-- ---- n in turn
times_pred : (f : Format) (n : ℕ) → 0 < n → times n f ≡ (f ▹ λ xs. times (n - 1) f)
unfolding times
times_pred f zero h = absurd (omega arith)
times_pred f (suc n) h = let e : suc n - 1 ≡ n = omega arith in rw e

-- none of them: no place was judged before
pub times_end_lem : (o : Order) (t : List ℕ) (st : State) (k : ℕ) (f : Format) (n : ℕ) → n ≡ 0 → ran o t st k (times n f) ≡ ends st k
unfolding ran unrun written_over times
times_end_lem o t st k f n e = rw (e, lay_none o, add-zero)

pub times_more : (f : Format) (n : ℕ) → 0 < n → times n f ≡ f ▸ times (n - 1) f
times_more f n h = times_pred f n h

pub times_over : (f : Format) (n : ℕ) → n ≡ 0 → times n f ≡ nothing
unfolding times
times_over f n e = rw e

-- ---- one number: g p v are the bits of v from place p on
abbrev pub bits_end : ℕ → Possible State → Possible Seen
bits_end k (this st) = ends st k
bits_end k cannot = cannot

too_few : (o : Order) (f : Format) (g : ℕ → ℕ → Possible (List Bool)) → ((ns : List ℕ) (p : ℕ) → unrun o f ns p ≡ single (g p) ns) → (n : ℕ) (ns : List ℕ) (p : ℕ) → length ns < n → unrun o (times n f) ns p ≡ cannot
unfolding unrun times
too_few o f g is zero ns p h = absurd (omega arith)
too_few o f g is (suc n) ns p h = ap (λ (w : Possible Written). onward w p (λ xs ys q. unrun o (times n f) ys q)) (is ns p) ∙ go ns h (too_few o f g is n)
  where
    on : (v : ℕ) (ys : List ℕ) → ((q : ℕ) → unrun o (times n f) ys q ≡ cannot) → (b : Possible (List Bool)) → onward (put (v ∷ []) b ys) p (λ xs ys q. unrun o (times n f) ys q) ≡ cannot
    on v ys more (this bs) = ap (adjoin (v ∷ []) bs) (more (p + length bs))
    on v ys more cannot = refl

    go : (ns : List ℕ) → length ns < suc n → ((ys : List ℕ) (q : ℕ) → length ys < n → unrun o (times n f) ys q ≡ cannot)
        → onward (single (g p) ns) p (λ xs ys q. unrun o (times n f) ys q) ≡ cannot
    go [] h more = refl
    go (v ∷ ys) h more = on v ys (λ q. more ys q (omega arith)) (g p v)

module _ (o : Order) (f : Format) (g : ℕ → ℕ → Possible (List Bool)) (is : (ns : List ℕ) (p : ℕ) → unrun o f ns p ≡ single (g p) ns) (t : List ℕ) (st : State) (k : ℕ) where
  pub one_none : length t ≤ k → ran o t st k f ≡ cannot
  unfolding ran written_over
  one_none h = ap (written_over o st k) (is (drop k t) st.place) ∙ go (drop k t) (omega (arith, length-drop k t))
    where
      go : (ns : List ℕ) → length ns ≡ 0 → written_over o st k (single (g st.place) ns) ≡ cannot
      go [] e = refl
      go (x ∷ ns) e = absurd (omega arith)

  pub one_some : k < length t → ran o t st k f ≡ written_over o st k (put (get_or t k 0 ∷ []) (g st.place (get_or t k 0)) (drop (suc k) t))
  unfolding ran
  one_some h = ap (written_over o st k) (is (drop k t) st.place) ∙ rw (drop-cons t k 0 h)

  pub one_bad : k < length t → g st.place (get_or t k 0) ≡ cannot → ran o t st k f ≡ cannot
  unfolding written_over
  one_bad h e = one_some h ∙ rw e

  -- what follows goes on after its bits, wherever they end: if that is past the limit, the whole is gone either way
  one_then : (h : List ℕ → Format) (bs : List Bool) → k < length t → g st.place (get_or t k 0) ≡ this bs → ran o t st k (f ▹ h) ≡ ran o t (lay o st bs) (k + 1) (h (get_or t k 0 ∷ []))
  unfolding ran unrun written_over
  one_then h bs l e =
      ap (λ (w : Possible Written). written_over o st k (onward w st.place (λ xs ys q. unrun o (h xs) ys q)))
      (is (drop k t) st.place ∙ ap (single (g st.place)) (drop-cons t k 0 l) ∙ ap (λ (b : Possible (List Bool)). put (get_or t k 0 ∷ []) b (drop (suc k) t)) e)
      ∙ go (unrun o (h (get_or t k 0 ∷ [])) (drop (suc k) t) (st.place + length bs))
      ∙ ap₂ (λ (i p : ℕ). written_over o (lay o st bs) i (unrun o (h (get_or t k 0 ∷ [])) (drop i t) p)) (sym (add-one k)) (sym (lay_place o st bs))
    where
      go : (w : Possible Written) → written_over o st k (adjoin (get_or t k 0 ∷ []) bs w) ≡ written_over o (lay o st bs) (suc k) w
      go (this (wrote xs bs' ys)) = ap₂ ends (lay_append o st bs bs') (let z : k + suc (length xs) ≡ suc k + length xs = omega arith in z)
      go cannot = refl

  pub times_one : (n : ℕ) (bs : List Bool) → 0 < n → k < length t → g st.place (get_or t k 0) ≡ this bs → ran o t st k (times n f) ≡ ran o t (lay o st bs) (k + 1) (times (n - 1) f)
  times_one n bs some l e = ap (ran o t st k) (times_pred f n some) ∙ one_then (λ xs. times (n - 1) f) bs l e

  pub times_bad : (n : ℕ) → 0 < n → k < length t → g st.place (get_or t k 0) ≡ cannot → ran o t st k (times n f) ≡ cannot
  times_bad n some l e = ap (ran o t st k) (times_pred f n some) ∙ ran_then o t st k f (λ xs. times (n - 1) f) ∙ ap (resume o t k (λ xs. times (n - 1) f)) (one_bad l e)

  -- too few numbers are left
  pub times_few : (n : ℕ) → length t - k < n → ran o t st k (times n f) ≡ cannot
  unfolding ran written_over
  times_few n h = ap (written_over o st k) (too_few o f g is n (drop k t) st.place (rw length-drop h))

  -- by the state after its bits
  pub one_bits : {x : Possible State} → k < length t → x ≡ bits_over o st (g st.place (get_or t k 0)) → ran o t st k f ≡ bits_end (k + 1) x
  unfolding written_over
  one_bits {x} h e = one_some h ∙ go (g st.place (get_or t k 0)) e
    where
      go : (b : Possible (List Bool)) → x ≡ bits_over o st b → written_over o st k (put (get_or t k 0 ∷ []) b (drop (suc k) t)) ≡ bits_end (k + 1) x
      go (this bs) q = ap (bits_end (k + 1)) (sym q)
      go cannot q = ap (bits_end (k + 1)) (sym q)

  -- it used up one number, which has a spelling
  pub record OneDone (j : ℕ) : Type 0 where
    pub next : j ≡ k + 1
    pub inside : k < length t
    pub spells : g st.place (get_or t k 0) ≡ cannot → ⊥

  pub one_done : (st' : State) (j : ℕ) → ran o t st k f ≡ this (here st' j) → OneDone j
  unfolding written_over ends
  one_done st' j e = go (leb (length t) k) refl
    where
      one : (c : Bool) (x : State) → pick c (this (here x (k + 1))) cannot ≡ this (here st' j) → j ≡ k + 1
      one true x q = cc
      one false x q = clash cc

      index : (b : Possible (List Bool)) → written_over o st k (put (get_or t k 0 ∷ []) b (drop (suc k) t)) ≡ this (here st' j) → j ≡ k + 1
      index (this bs) q = one (leb (lay o st bs).place limit) (lay o st bs) q
      index cannot q = clash cc

      go : (c : Bool) → leb (length t) k ≡ c → OneDone j
      go true q = absurd (let m : cannot ≡ this (here st' j) = sym (one_none (leb-true (length t) k q)) ∙ e in clash cc)
      go false q =
          let h : k < length t = leb-false (length t) k q in
          record {
            next = index (g st.place (get_or t k 0)) (sym (one_some h) ∙ e);
            inside = h;
            spells = λ m. let n : cannot ≡ this (here st' j) = sym (one_bad h m) ∙ e in clash cc;
          }

pub the_one : (t : List ℕ) (k j : ℕ) → j ≡ k + 1 → k < length t → the (take (j - k) (drop k t)) ≡ get_or t k 0
the_one t k j e h =
    let z : j - k ≡ 1 = omega arith in
    rw (z, drop-cons t k 0 h)

-- ---- the skip to a whole byte
pub skip_le : (p : ℕ) → p ≤ limit → p + skipped p ≤ limit
skip_le p h = omega arith

skip_end : (o : Order) (st : State) {st' : State} → st.place ≤ limit → st' ≡ lay o st (dig o (skipped st.place) 0) → st'.place ≤ limit
skip_end o st {st'} low e =
    let p : st'.place ≡ st.place + skipped st.place =
    ap (λ (x : State). x.place) e ∙ lay_place o st (dig o (skipped st.place) 0) ∙ ap (λ (n : ℕ). st.place + n) (length_dig o (skipped st.place) 0) in
    omega (arith, p, skip_le st.place low)

pub skip_place : (o : Order) (st : State) {u : List ℕ} {byte bit : ℕ} → st.place ≤ limit → Skipped o st u byte bit → OnByte byte bit
skip_place o st low skip = (skip.whole, skip_end o st low skip.laid)

pub skip_fine : (o : Order) (st : State) {u : List ℕ} {byte bit : ℕ} → st.place ≤ limit → Skipped o st u byte bit → Holds bit 0 × (bit ≤ limit)
skip_fine o st {u} {byte} {bit} low skip = (pow_pos (bit % 8), (skip_place o st low skip).1)

module _ (o : Order) (t : List ℕ) (st : State) (k : ℕ) {st' : State} (low : st.place ≤ limit) (skip : st' ≡ lay o st (dig o (skipped st.place) 0)) where
  pub ran_align : ran o t st k (item Item.align) ≡ this (here st' k)
  unfolding ran unrun write_item written_over
  ran_align = rw (add-zero, ← skip) (ends_in st' k (skip_end o st low skip))

  pub align_then : (g : List ℕ → Format) → ran o t st k (item Item.align ▹ g) ≡ ran o t st' k (g [])
  align_then g = ran_then o t st k (item Item.align) g ∙ ap (resume o t k g) ran_align ∙ (let z : k - k ≡ 0 = omega arith in rw z)

  pub align_on : (g : List ℕ → Format) {x : Possible Seen} → x ≡ ran o t st' k (g []) → x ≡ ran o t st k (item Item.align ▹ g)
  align_on g d = d ∙ sym (align_then g)

-- bits in front of a spelling
pub laid_before : (o : Order) (st : State) (xs : List Bool) (b : Possible (List Bool)) → bits_over o st (before xs b) ≡ bits_over o (lay o st xs) b
laid_before o st xs (this bs) = ap this (lay_append o st xs bs)
laid_before o st xs cannot = refl

pub laid_in : (o : Order) (st : State) (b : Possible (List Bool)) {bs : List Bool} {st' : State} → b ≡ this bs → st' ≡ lay o st bs → this st' ≡ bits_over o st b
laid_in o st b e d = rw (e, d)

pub laid_no : (o : Order) (st : State) (b : Possible (List Bool)) → b ≡ cannot → cannot ≡ bits_over o st b
laid_no o st b e = rw e

-- what was laid is a part to go on with
pub laid_holds : (o : Order) (st : State) (bs : List Bool) {st' : State} → Holds st.place st.part → st' ≡ lay o st bs → Holds st'.place st'.part
laid_holds o st bs h e = subst (λ (x : State). Holds x.place x.part) (sym e) (lay_ok o st bs h)
