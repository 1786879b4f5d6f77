-- Numbers and items from a whole byte on, by the byte place behind them.
use Rattle.std.proofs.Common.{◌≡◌, ℕ, ◌+◌, ◌-◌, ◌*◌, ◌%◌, ◌<◌, ◌≤◌, Bool, true, false, eqb, ltb, List, length, get_or, sym, refl, ap, ◌∙◌, ap₂, arith, pow_pos, ltb-false, ltb-true}
use Rattle.std.specs.Prelude.{Result, Ok, Err, IsErr, is_err}
use Rattle.format.specs.Tests.{pick}
use Rattle.format.specs.Bits.{Order}
use Rattle.format.proofs.Absurd.{clash}
use Rattle.format.specs.Formats.{Format, ◌▸◌, times}
use Rattle.format.specs.Items.{skipped}
use Rattle.format.specs.Possible.{Possible, this, cannot}
use Rattle.format.specs.WritingItems.{dig, before}
use Rattle.items.specs.Kinds.{format_of, range_fault}
use Rattle.items.specs.declared.Item.{Item}
use Rattle.reasons.specs.Numbers.{fault_of}
use Rattle.reasons.specs.declared.Reason.{Reason}
use Rattle.reasons.proofs.NumberLaws.{positive}
use Rattle.sink.specs.declared.Impossible.{Impossible}
use Rattle.sink.specs.Laying.{State, mk, Skipped}
use Rattle.sink.proofs.LayingLaws.{mk_eq, skip_none, field_none}
use Rattle.spelling.specs.Writing.{bits_over, Seen, here, ran}
use Rattle.spelling.specs.Spellings.{spelling_of, spelled_to, written_to}
use Rattle.spelling.proofs.RunLaws.{ends_in, ends_out, resume, ran_then, bits_end, one_none, one_bad, one_bits, laid_before, times_more, times_few, times_over, ran_nothing}
use Rattle.spelling.proofs.NumberLaws.{bits_of, item_is, item_out, item_in}

-- ---- a number that was put
pub spelled : (u : List ℕ) (p q : ℕ) {x : Possible State} → q ≡ 8 * p → this (mk u q 0) ≡ x → spelled_to u (Ok p) ≡ x
spelled u p q e d = ap this (mk_eq refl (sym e) refl) ∙ d

-- ---- what the code asks of a number's range
pub range_out : (r : Result (Unit {0}) Reason) → is_err r ≡ true → fault_of r ≡ 0 → ⊥
range_out (Ok x) h e = cc
range_out (Err z) h e = omega (arith, positive z)

pub range_in : (r : Result (Unit {0}) Reason) → is_err r ≡ false → fault_of r ≡ 0
range_in (Ok x) h = refl
range_in (Err z) h = cc

-- ---- an item from a whole byte on
module _ (o : Order) (kind : Item) (t out : List ℕ) (at k : ℕ) where
  abbrev st : State
  st = mk out (8 * at) 0

  whole : Skipped o st out at (8 * at)
  whole = let z : 8 * at % 8 ≡ 0 = omega arith in skip_none o out (8 * at) 0 (pow_pos (8 * at % 8)) (omega arith) refl z

  pub next_none : length t ≤ k → cannot ≡ ran o t st k (format_of kind)
  next_none h = sym (one_none o (format_of kind) (bits_of o kind) (item_is o kind) t st k h)

  module _ (there : k < length t) {v r : ℕ} (same : v ≡ get_or t k 0) (judged : r ≡ range_fault kind v) where
    fault : r ≡ range_fault kind (get_or t k 0)
    fault = judged ∙ ap (range_fault kind) same

    pub next_out : (r ≡ 0 → ⊥) → cannot ≡ ran o t st k (format_of kind)
    next_out h = sym (one_bad o (format_of kind) (bits_of o kind) (item_is o kind) t st k there (item_out o kind (8 * at) (get_or t k 0) fault h))

    module _ (good : r ≡ 0) (u : List ℕ) (R : Result ℕ Impossible) (put : spelled_to u R ≡ bits_over o st (spelling_of o kind v)) where
      is : ran o t st k (format_of kind) ≡ bits_end (k + 1) (spelled_to u R)
      is = one_bits o (format_of kind) (bits_of o kind) (item_is o kind) t st k there (item_in o kind st (get_or t k 0) fault good whole (put ∙ ap (λ (w : ℕ). bits_over o st (spelling_of o kind w)) same))

      pub next_no : {e : Impossible} → R ≡ Err e → cannot ≡ ran o t st k (format_of kind)
      next_no z = sym (is ∙ rw z)

      pub next_late : {p : ℕ} → R ≡ Ok p → 16777216 < p → cannot ≡ ran o t st k (format_of kind)
      next_late {p} z l = sym (is ∙ rw z (ends_out (mk u (8 * p) 0) (k + 1) (omega arith)))

      pub next_to : {p : ℕ} → R ≡ Ok p → p ≤ 16777216 → written_to u (Ok p) (k + 1) ≡ ran o t st k (format_of kind)
      next_to {p} z l = sym (is ∙ rw z (ends_in (mk u (8 * p) 0) (k + 1) (omega arith)))

  -- ---- by what was told of it
  module _ (u : List ℕ) (p : ℕ) (told : written_to u (Ok p) (k + 1) ≡ ran o t st k (format_of kind)) where
    pub next_inside : k < length t
    next_inside = go (ltb k (length t)) refl
      where
        go : (c : Bool) → ltb k (length t) ≡ c → k < length t
        go true e = ltb-true k (length t) e
        go false e = let m : this (here (mk u (8 * p) 0) (k + 1)) ≡ cannot = told ∙ sym (next_none (ltb-false k (length t) e)) in clash cc

    -- and of what follows it
    pub next_on : (rest : Format) → ran o t st k (format_of kind ▸ rest) ≡ ran o t (mk u (8 * p) 0) (k + 1) rest
    next_on rest = ran_then o t st k (format_of kind) (λ xs. rest) ∙ ap (resume o t k (λ xs. rest)) (sym told)

-- ---- of n items from index k on the one behind i others: no file has it, and so none of the rest; or the rest goes on behind it
module _ (o : Order) (kind : Item) (t out : List ℕ) (at k n i : ℕ) (more : i < n) where
  abbrev rest : Format
  rest = times (n - i - 1) (format_of kind)

  in_turn : ran o t (mk out (8 * at) 0) (k + i) (times (n - i) (format_of kind)) ≡ ran o t (mk out (8 * at) 0) (k + i) (format_of kind ▸ rest)
  in_turn = ap (ran o t (mk out (8 * at) 0) (k + i)) (times_more (format_of kind) (n - i) (omega arith))

  pub turn_fell : cannot ≡ ran o t (mk out (8 * at) 0) (k + i) (format_of kind) → cannot ≡ ran o t (mk out (8 * at) 0) (k + i) (times (n - i) (format_of kind))
  turn_fell e = sym (in_turn ∙ ran_then o t (mk out (8 * at) 0) (k + i) (format_of kind) (λ xs. rest) ∙ ap (resume o t (k + i) (λ xs. rest)) (sym e))

  pub turn_on : (u : List ℕ) (p : ℕ) → written_to u (Ok p) (k + i + 1) ≡ ran o t (mk out (8 * at) 0) (k + i) (format_of kind)
      → ran o t (mk out (8 * at) 0) (k + i) (times (n - i) (format_of kind)) ≡ ran o t (mk u (8 * p) 0) (k + (i + 1)) (times (n - (i + 1)) (format_of kind))
  turn_on u p told =
      let a : k + i + 1 ≡ k + (i + 1) = omega arith in
      let b : n - i - 1 ≡ n - (i + 1) = omega arith in
      in_turn ∙ next_on o kind t out at (k + i) u p told rest
      ∙ ap₂ (λ (j m : ℕ). ran o t (mk u (8 * p) 0) j (times m (format_of kind))) a b

-- none is behind, and all are
pub turns_start : (o : Order) (kind : Item) (t : List ℕ) (st : State) (k n : ℕ) → ran o t st k (times n (format_of kind)) ≡ ran o t st (k + 0) (times (n - 0) (format_of kind))
turns_start o kind t st k n = let a : k ≡ k + 0 = omega arith in let b : n ≡ n - 0 = omega arith in ap₂ (λ (j m : ℕ). ran o t st j (times m (format_of kind))) a b

pub turns_over : (o : Order) (kind : Item) (t out : List ℕ) (at k n i : ℕ) → i ≤ n → n ≤ i → at ≤ 16777216 → ran o t (mk out (8 * at) 0) (k + i) (times (n - i) (format_of kind)) ≡ this (here (mk out (8 * at) 0) (k + n))
turns_over o kind t out at k n i h l small =
    let a : k + i ≡ k + n = omega arith in
    ap (ran o t (mk out (8 * at) 0) (k + i)) (times_over (format_of kind) (n - i) (omega arith)) ∙ ran_nothing o t (mk out (8 * at) 0) (k + i) (omega arith) ∙ ap (λ (j : ℕ). this (here (mk out (8 * at) 0) j)) a

-- ---- n of them, and too few numbers are left
pub items_few : (o : Order) (kind : Item) (t : List ℕ) (st : State) (k n : ℕ) → length t - k < n → cannot ≡ ran o t st k (times n (format_of kind))
items_few o kind t st k n h = sym (times_few o (format_of kind) (bits_of o kind) (item_is o kind) t st k n h)

-- ---- and from anywhere: after the skip before it
module _ (o : Order) (kind : Item) (t : List ℕ) (st : State) (k : ℕ) {u : List ℕ} {byte bit : ℕ} (skip : Skipped o st u byte bit) where
  bits_aligned : (v : ℕ) → bits_over o st (bits_of o kind st.place v) ≡ bits_over o (mk u bit 0) (bits_of o kind bit v)
  unfolding bits_of
  bits_aligned v = go (eqb (range_fault kind v) 0)
    where
      none : skipped bit ≡ 0
      none = omega (arith, skip.whole)

      go : (c : Bool) → bits_over o st (pick c (before (dig o (skipped st.place) 0) (spelling_of o kind v)) cannot) ≡ bits_over o (mk u bit 0) (pick c (before (dig o (skipped bit) 0) (spelling_of o kind v)) cannot)
      go true =
          laid_before o st (dig o (skipped st.place) 0) (spelling_of o kind v)
          ∙ ap (λ (x : State). bits_over o x (spelling_of o kind v)) (sym skip.laid ∙ field_none o (mk u bit 0) (skipped bit) 0 none)
          ∙ sym (laid_before o (mk u bit 0) (dig o (skipped bit) 0) (spelling_of o kind v))
      go false = refl

  item_aligned : ran o t st k (format_of kind) ≡ ran o t (mk u bit 0) k (format_of kind)
  item_aligned = go (ltb k (length t)) refl
    where
      go : (c : Bool) → ltb k (length t) ≡ c → ran o t st k (format_of kind) ≡ ran o t (mk u bit 0) k (format_of kind)
      go true e =
          let h : k < length t = ltb-true k (length t) e in
          one_bits o (format_of kind) (bits_of o kind) (item_is o kind) t st k h refl
          ∙ ap (bits_end (k + 1)) (bits_aligned (get_or t k 0))
          ∙ sym (one_bits o (format_of kind) (bits_of o kind) (item_is o kind) t (mk u bit 0) k h refl)
      go false e =
          let h : length t ≤ k = ltb-false k (length t) e in
          one_none o (format_of kind) (bits_of o kind) (item_is o kind) t st k h ∙ sym (one_none o (format_of kind) (bits_of o kind) (item_is o kind) t (mk u bit 0) k h)

  -- and of several in turn
  pub times_aligned : (n : ℕ) → 0 < n → ran o t st k (times n (format_of kind)) ≡ ran o t (mk u (8 * byte) 0) k (times n (format_of kind))
  times_aligned n h =
      let rest : List ℕ → Format = λ xs. times (n - 1) (format_of kind) in
      ap (ran o t st k) (times_more (format_of kind) n h)
      ∙ ran_then o t st k (format_of kind) rest
      ∙ ap (resume o t k rest) (item_aligned ∙ ap (λ (x : ℕ). ran o t (mk u x 0) k (format_of kind)) skip.whole)
      ∙ sym (ap (ran o t (mk u (8 * byte) 0) k) (times_more (format_of kind) n h) ∙ ran_then o t (mk u (8 * byte) 0) k (format_of kind) rest)

  -- by what was told of it from the whole byte on
  module _ (w : List ℕ) (R : Result ℕ Impossible) (put : written_to w R (k + 1) ≡ ran o t (mk u (8 * byte) 0) k (format_of kind)) where
    pub one_aligned : written_to w R (k + 1) ≡ ran o t st k (format_of kind)
    one_aligned = put ∙ ap (λ (x : ℕ). ran o t (mk u x 0) k (format_of kind)) (sym skip.whole) ∙ sym item_aligned

  module _ (w : List ℕ) (R : Result ℕ Impossible) (n : ℕ) (some : 0 < n) (put : written_to w R (k + n) ≡ ran o t (mk u (8 * byte) 0) k (times n (format_of kind))) where
    pub all_aligned : written_to w R (k + n) ≡ ran o t st k (times n (format_of kind))
    all_aligned = put ∙ sym (times_aligned n some)

-- where the code answers that no file has them
pub err_written : (u : List ℕ) (k : ℕ) (R : Result ℕ Impossible) {x : Possible Seen} → IsErr R → cannot ≡ x → written_to u R k ≡ x
err_written u k (Ok p) h e = cc
err_written u k (Err z) h e = e

-- a sink on a whole byte
pub on_whole : (u : List ℕ) (q a p k : ℕ) {x : Possible Seen} → q ≡ 8 * p → a ≡ 0 → written_to u (Ok p) k ≡ x → this (here (mk u q a) k) ≡ x
on_whole u q a p k e d h = rw (e, d) h
