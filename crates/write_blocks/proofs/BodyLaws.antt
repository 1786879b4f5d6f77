-- A block's bytes: those of its flags, and then those of its contents. Flags that are put before contents that stand already.
use Prim.Native.Nat.{ℕ, zero, suc, ◌+◌, ◌-◌, ◌*◌, ◌/◌, ◌%◌, ◌^◌, ◌≤◌, ◌<◌}
use mathlib.Core.List.{List, [], ◌∷◌, ◌++◌}
use mathlib.Core.Path.{◌≡◌, refl, sym, ap, ap₂, ◌∙◌, subst}
use mathlib.Core.Bool.{Bool, true, false}
use native.Mathlib.Nat.{zero-add}
use native.Mathlib.Omega.{arith}
use lib.ListN.{length, take, drop, length-append}
use lib.Pow.{pow_pos}
use lib.Seq.{sets, length-sets}
use lib.Dec.{leb, eqb}
use Rattle.std.specs.Prelude.{Result, Ok, Err}
use borrow.Author.Tests.{leb-true, leb-false, le-leb, lt-leb}
use Rattle.format.specs.Tests.{pick}
use Rattle.format.specs.Bits.{Order}
use Rattle.format.specs.Formats.{Item, item}
use Rattle.format.specs.Items.{skipped}
use Rattle.format.specs.Bodies.{Kind, Value, Fixed, BitFlag, Simple, Discrete, MultiDimension, Spatial, Custom, Attribute, flags_of, all_flags, rows, attributes}
use Rattle.format.specs.Possible.{Possible, this, cannot}
use Rattle.format.specs.WritingItems.{dig, before, Written, wrote, put, single, write_item, spell_flag}
use Rattle.format.specs.WritingFormats.{adjoin, onward, unrun}
use Rattle.format.specs.WritingBodies.{flags_in, used_up, write_block, write_part, bytes_of, val, whole_bytes, write_body}
use Rattle.format.proofs.BitLaws.{length_dig}
use Rattle.format.proofs.ByteLaws.{length_bytes_of}
use Rattle.format.proofs.Absurd.{clash}
use Rattle.sink.specs.Lain.{Lain, lain, lies, lain_as, longest}
use Rattle.sink.specs.Laying.{State, mk, at, lay, Holds, Skipped}
use Rattle.bits.specs.declared.BytePlace.{BytePlace}
use Rattle.bits.specs.Places.{order_of}
use Rattle.sink.specs.declared.Impossible.{Impossible}
use Rattle.sink.specs.declared.Sink.{Sink}
use Rattle.sink.proofs.LayingLaws.{lay_append, lay_bytes_of, lay_place, lay_ok}
use Rattle.table.proofs.EngineLaws.{sets_append}
use Rattle.spelling.specs.Ends.{concluded}
use Rattle.spelling.specs.Writing.{Seen, here, ran}
use Rattle.spelling.specs.Writer.{state}
use Rattle.spelling.specs.declared.writer.Writer.{Writer}
use Rattle.spelling.proofs.EndLaws.{front, front_law}
use Rattle.spelling.proofs.ShiftLaws.{shift, whole_bytes_lem}
use Rattle.write_heads.proofs.StoreLaws.{sets_comm, sets_cover, sets_taken}
use Rattle.write_blocks.specs.Flags.{flag_spelling, joined, flag_bits, flag_bytes, has_flag, any_flag, HasFlags, bits_of}
use Rattle.write_blocks.specs.Filling.{Both, both, both_of, fills, filled, under_flags}
use Rattle.write_blocks.specs.declared.field.Flags.{Flags}
use Rattle.write_blocks.proofs.WholeLaws.{adjoin_twice, onward_adjoin, whole_rows}

-- ---- all flags, one for each attribute
abbrev spelled : Possible (List Bool) → (List Bool → Possible Written) → Possible Written
spelled (this bs) k = k bs
spelled cannot k = cannot

flag_is : (o : Order) (k : Kind) (ns : List ℕ) (p : ℕ) → unrun o (item (flags_of k)) ns p ≡ single (flag_spelling o k) ns
unfolding unrun write_item
flag_is o Value ns p = refl
flag_is o Fixed ns p = refl
flag_is o BitFlag ns p = refl
flag_is o Simple ns p = refl
flag_is o Discrete ns p = refl
flag_is o MultiDimension ns p = refl
flag_is o Spatial ns p = refl
flag_is o Custom ns p = refl

used_adjoin : (x : ℕ) (bs : List Bool) (w : Possible Written) (k : List ℕ → List Bool → Possible Written) → used_up (adjoin (x ∷ []) bs w) k ≡ used_up w (λ xs cs. k (x ∷ xs) (bs ++ cs))
used_adjoin x bs cannot k = refl
used_adjoin x bs (this (wrote xs cs [])) k = refl
used_adjoin x bs (this (wrote xs cs (y ∷ ys))) k = refl

flags_spelt : (o : Order) (ks : List Attribute) (φs : List ℕ) (p : ℕ) (k : List ℕ → List Bool → Possible Written) → used_up (unrun o (all_flags ks) φs p) k ≡ spelled (flag_bits o ks φs) (k φs)
unfolding unrun all_flags flag_bits
flags_spelt o [] [] p k = refl
flags_spelt o [] (φ ∷ φs) p k = refl
flags_spelt o (a ∷ ks) [] p k = ap (λ (w : Possible Written). used_up (onward w p (λ xs ys q. unrun o (all_flags ks) ys q)) k) (flag_is o a.kind [] p)
flags_spelt o (a ∷ ks) (φ ∷ φs) p k =
    ap (λ (w : Possible Written). used_up (onward w p (λ xs ys q. unrun o (all_flags ks) ys q)) k) (flag_is o a.kind (φ ∷ φs) p)
    ∙ go (flag_spelling o a.kind φ) (λ q k. flags_spelt o ks φs q k)
  where
    more : (bs : List Bool) (b : Possible (List Bool)) → spelled b (λ cs. k (φ ∷ φs) (bs ++ cs)) ≡ spelled (before bs b) (k (φ ∷ φs))
    more bs (this cs) = refl
    more bs cannot = refl

    go : (b : Possible (List Bool)) → ((q : ℕ) (k : List ℕ → List Bool → Possible Written) → used_up (unrun o (all_flags ks) φs q) k ≡ spelled (flag_bits o ks φs) (k φs))
        → used_up (onward (put (φ ∷ []) b φs) p (λ xs ys q. unrun o (all_flags ks) ys q)) k ≡ spelled (joined b (flag_bits o ks φs)) (k (φ ∷ φs))
    go cannot rest = refl
    go (this bs) rest =
        used_adjoin φ bs (unrun o (all_flags ks) φs (p + length bs)) k ∙ rest (p + length bs) (λ xs cs. k (φ ∷ xs) (bs ++ cs)) ∙ more bs (flag_bits o ks φs)

-- ---- some attribute has a bit
abbrev Some : Possible (List Bool) → Type 0
Some (this bs) = 0 < length bs
Some cannot = Unit {0}

some_flag : (o : Order) (v n : ℕ) → Some (spell_flag o v (suc n))
unfolding spell_flag dig
some_flag o v n = go (eqb v 0) (eqb (v % 2) 1)
  where
    more : (b : Possible (List Bool)) → Some (before (dig o 1 1) b)
    more (this bs) = omega arith
    more cannot = tt

    go : (c d : Bool) → Some (pick c (this (dig o 1 0)) (pick d (before (dig o 1 1) (spell_flag o (v / 2) n)) cannot))
    go true d = omega arith
    go false true = more (spell_flag o (v / 2) n)
    go false false = tt

some_kind : (o : Order) (k : Kind) (v : ℕ) → has_flag k ≡ true → Some (flag_spelling o k v)
some_kind o Value v e = some_flag o v 0
some_kind o Fixed v e = clash cc
some_kind o BitFlag v e = some_flag o v 0
some_kind o Simple v e = some_flag o v 1
some_kind o Discrete v e = some_flag o v 1
some_kind o MultiDimension v e = some_flag o v 1
some_kind o Spatial v e = some_flag o v 2
some_kind o Custom v e = some_flag o v 0

some_first : (b c : Possible (List Bool)) → Some b → Some (joined b c)
some_first (this bs) (this cs) h = omega (arith, length-append bs cs)
some_first (this bs) cannot h = tt
some_first cannot c h = tt

some_rest : (b c : Possible (List Bool)) → Some c → Some (joined b c)
some_rest (this bs) (this cs) h = omega (arith, length-append bs cs)
some_rest (this bs) cannot h = tt
some_rest cannot c h = tt

some_flags : (o : Order) (ks : List Attribute) (φs : List ℕ) → any_flag ks ≡ true → Some (flag_bits o ks φs)
unfolding flag_bits any_flag
some_flags o [] φs e = clash cc
some_flags o (a ∷ ks) [] e = tt
some_flags o (a ∷ ks) (φ ∷ φs) e = go (has_flag a.kind) refl e (some_flags o ks φs)
  where
    go : (c : Bool) → has_flag a.kind ≡ c → pick c true (any_flag ks) ≡ true → (any_flag ks ≡ true → Some (flag_bits o ks φs)) → Some (joined (flag_spelling o a.kind φ) (flag_bits o ks φs))
    go true q d rest = some_first (flag_spelling o a.kind φ) (flag_bits o ks φs) (some_kind o a.kind φ q)
    go false q d rest = some_rest (flag_spelling o a.kind φ) (flag_bits o ks φs) (rest d)

-- ---- bytes of two lists of bits
bytes_of_append : (o : Order) (m n : ℕ) (bs cs : List Bool) → length bs ≡ 8 * m → bytes_of o (m + n) (bs ++ cs) ≡ bytes_of o m bs ++ bytes_of o n cs
unfolding bytes_of val
bytes_of_append o zero n [] cs h = ap (λ (k : ℕ). bytes_of o k cs) (zero-add n)
bytes_of_append o zero n (b ∷ bs) cs h = absurd (omega arith)
bytes_of_append o (suc m) n (b₀ ∷ b₁ ∷ b₂ ∷ b₃ ∷ b₄ ∷ b₅ ∷ b₆ ∷ b₇ ∷ bs) cs h =
    let e : suc m + n ≡ suc (m + n) = omega arith in
    ap (λ (k : ℕ). bytes_of o k (b₀ ∷ b₁ ∷ b₂ ∷ b₃ ∷ b₄ ∷ b₅ ∷ b₆ ∷ b₇ ∷ bs ++ cs)) e
    ∙ ap (λ (l : List ℕ). val o 8 (b₀ ∷ b₁ ∷ b₂ ∷ b₃ ∷ b₄ ∷ b₅ ∷ b₆ ∷ b₇ ∷ []) ∷ l) (bytes_of_append o m n bs cs (omega arith))
bytes_of_append o (suc m) n [] cs h = absurd (omega arith)
bytes_of_append o (suc m) n (b₀ ∷ []) cs h = absurd (omega arith)
bytes_of_append o (suc m) n (b₀ ∷ b₁ ∷ []) cs h = absurd (omega arith)
bytes_of_append o (suc m) n (b₀ ∷ b₁ ∷ b₂ ∷ []) cs h = absurd (omega arith)
bytes_of_append o (suc m) n (b₀ ∷ b₁ ∷ b₂ ∷ b₃ ∷ []) cs h = absurd (omega arith)
bytes_of_append o (suc m) n (b₀ ∷ b₁ ∷ b₂ ∷ b₃ ∷ b₄ ∷ []) cs h = absurd (omega arith)
bytes_of_append o (suc m) n (b₀ ∷ b₁ ∷ b₂ ∷ b₃ ∷ b₄ ∷ b₅ ∷ []) cs h = absurd (omega arith)
bytes_of_append o (suc m) n (b₀ ∷ b₁ ∷ b₂ ∷ b₃ ∷ b₄ ∷ b₅ ∷ b₆ ∷ []) cs h = absurd (omega arith)

-- ---- the block's bytes
-- bytes before others
abbrev ahead : List ℕ → Possible (List ℕ) → Possible (List ℕ)
ahead xs (this ys) = this (xs ++ ys)
ahead xs cannot = cannot

-- as many bytes as the flags take
flag_size : (o : Order) (bs : List Bool) → length (flag_bytes o bs) ≡ (length bs + 7) / 8
flag_size o bs = length_bytes_of o ((length bs + 7) / 8) (bs ++ dig o (skipped (length bs)) 0)

flag_whole : (o : Order) (bs : List Bool) → length (bs ++ dig o (skipped (length bs)) 0) ≡ 8 * ((length bs + 7) / 8)
flag_whole o bs = omega (arith, length-append bs (dig o (skipped (length bs)) 0), length_dig o (skipped (length bs)) 0)

whole_bytes_ahead : (o : Order) (bs : List Bool) (w : Possible Written) → ((xs : List ℕ) (cs : List Bool) (ys : List ℕ) → w ≡ this (wrote xs cs ys) → length cs % 8 ≡ 0)
    → whole_bytes o (adjoin [] (bs ++ dig o (skipped (length bs)) 0) w) ≡ ahead (flag_bytes o bs) (whole_bytes o w)
whole_bytes_ahead o bs cannot h = refl
whole_bytes_ahead o bs (this (wrote xs cs (y ∷ ys))) h = refl
whole_bytes_ahead o bs (this (wrote xs cs [])) h =
    let m : length cs % 8 ≡ 0 = h xs cs [] refl in
    let e : length ((bs ++ dig o (skipped (length bs)) 0) ++ cs) / 8 ≡ (length bs + 7) / 8 + length cs / 8 =
    omega (arith, length-append (bs ++ dig o (skipped (length bs)) 0) cs, flag_whole o bs) in
    ap this (ap (λ (n : ℕ). bytes_of o n ((bs ++ dig o (skipped (length bs)) 0) ++ cs)) e ∙ bytes_of_append o ((length bs + 7) / 8) (length cs / 8) (bs ++ dig o (skipped (length bs)) 0) cs (flag_whole o bs))

module _ (o : Order) (ks : List Attribute) (t : List ℕ) where
  -- the contents, with the skip to a whole byte at their end
  unfoldable contents : ℕ → Possible Written
  contents p = unrun o (front (rows ks (flags_in o ks t))) t p

  contents_whole : (xs : List ℕ) (cs : List Bool) (ys : List ℕ) → contents 0 ≡ this (wrote xs cs ys) → length cs % 8 ≡ 0
  unfolding contents unrun
  contents_whole xs cs ys e = whole_bytes_lem o (unrun o (rows ks (flags_in o ks t)) t 0) xs cs ys e

  -- after n bits
  contents_after : (n : ℕ) → contents n ≡ adjoin [] (dig o (skipped n) 0) (contents 0)
  unfolding contents
  contents_after n =
      let e : n + skipped n ≡ 0 + 8 * ((n + 7) / 8) = omega arith in
      whole_rows o ks (flags_in o ks t) t n
      ∙ ap (adjoin [] (dig o (skipped n) 0)) (ap (unrun o (front (rows ks (flags_in o ks t))) t) e ∙ shift o (front (rows ks (flags_in o ks t))) t 0 ((n + 7) / 8))

  block_none : flag_bits o ks (flags_in o ks t) ≡ cannot → write_body o (attributes ks) t ≡ cannot
  unfolding write_body write_part write_block
  block_none e =
      ap (λ (w : Possible Written). whole_bytes o (onward w 0 (λ xs ys p. write_item o Item.align ys p)))
      (flags_spelt o ks (flags_in o ks t) 0 _ ∙ ap (λ (b : Possible (List Bool)). spelled b (λ bs. adjoin [] bs (unrun o (rows ks (flags_in o ks t)) t (0 + length bs)))) e)

  contents_flags : (bs : List Bool) → adjoin [] bs (onward (unrun o (rows ks (flags_in o ks t)) t (0 + length bs)) (0 + length bs) (λ xs ys p. write_item o Item.align ys p))
      ≡ adjoin [] (bs ++ dig o (skipped (length bs)) 0) (contents 0)
  unfolding contents unrun
  contents_flags bs =
      ap (λ (n : ℕ). adjoin [] bs (unrun o (front (rows ks (flags_in o ks t))) t n)) (zero-add (length bs))
      ∙ ap (adjoin [] bs) (contents_after (length bs)) ∙ adjoin_twice bs [] (dig o (skipped (length bs)) 0) (contents 0)

  block_some : (bs : List Bool) → flag_bits o ks (flags_in o ks t) ≡ this bs → write_body o (attributes ks) t ≡ ahead (flag_bytes o bs) (whole_bytes o (contents 0))
  unfolding write_body write_part write_block
  block_some bs e =
      ap (λ (w : Possible Written). whole_bytes o (onward w 0 (λ xs ys p. write_item o Item.align ys p)))
      (flags_spelt o ks (flags_in o ks t) 0 _ ∙ ap (λ (b : Possible (List Bool)). spelled b (λ bs. adjoin [] bs (unrun o (rows ks (flags_in o ks t)) t (0 + length bs)))) e)
      ∙ ap (whole_bytes o) (onward_adjoin bs (unrun o (rows ks (flags_in o ks t)) t (0 + length bs)) 0 (λ xs ys p. write_item o Item.align ys p) ∙ contents_flags bs)
      ∙ whole_bytes_ahead o bs (contents 0) contents_whole

-- ---- flags put before bytes that stand one after a
-- contents up to stop, with their flags
abbrev closed : ℕ → List ℕ → Possible Lain → Possible Lain
closed a xs (this (lain u stop)) = under_flags u a xs (stop - (a + 1))
closed a xs cannot = cannot

lies_closed : (out : List ℕ) (a : ℕ) (xs : List ℕ) (b : Possible (List ℕ)) → 1 ≤ length xs → lies out a (ahead xs b) ≡ closed a xs (lies out (a + 1) b)
unfolding lies
lies_closed out a xs cannot h = refl
lies_closed out a xs (this ys) h = go (leb (a + 1 + length ys) longest) refl
  where
    n : a + 1 + length ys - (a + 1) ≡ length ys
    n = omega arith

    l : a + length (xs ++ ys) ≡ a + length xs + length ys
    l = omega (arith, length-append xs ys)

    over : sets out a (xs ++ ys) ≡ sets (sets out (a + 1) ys) a (xs ++ take (length ys) (drop (a + 1) (sets out (a + 1) ys)))
    over = sym (
        sets_append (sets out (a + 1) ys) a xs (take (length ys) (drop (a + 1) (sets out (a + 1) ys)))
        ∙ sets_taken ys out (a + 1) (sets (sets out (a + 1) ys) a xs) (a + length xs) (length ys) refl (length-sets (sets out (a + 1) ys) a xs ∙ length-sets out (a + 1) ys) (omega arith)
        ∙ sym (sets_append (sets out (a + 1) ys) a xs ys)
        ∙ sets_cover out (a + 1) ys a (xs ++ ys) (omega arith) (omega (arith, length-append xs ys))
        )

    go : (c : Bool) → leb (a + 1 + length ys) longest ≡ c
        → pick (leb (a + length (xs ++ ys)) longest) (this (lain (sets out a (xs ++ ys)) (a + length (xs ++ ys)))) cannot ≡ closed a xs (pick c (this (lain (sets out (a + 1) ys) (a + 1 + length ys))) cannot)
    go true e = rw (n, l, over)
    go false e = rw (lt-leb (a + length (xs ++ ys)) longest (omega (arith, l, leb-false (a + 1 + length ys) longest e)))

-- THE law: the contents put one byte after a, concluded, and their flags before them
abbrev pub finished : Order → ℕ → ℕ → Possible Both → Possible Lain
finished o n a (this (both bs st k)) = closed a (flag_bytes o bs) (concluded o n (this (here st k)))
finished o n a cannot = cannot

module _ (o : Order) (ks : List Attribute) (t : List ℕ) (has : HasFlags ks) (out : List ℕ) (a : ℕ) where
  some_bytes : (bs : List Bool) → flag_bits o ks (flags_in o ks t) ≡ this bs → 1 ≤ length (flag_bytes o bs)
  some_bytes bs e = let h : 0 < length bs = rw e at (some_flags o ks (flags_in o ks t) has.any) in omega (arith, flag_size o bs)

  pub block_law : lies out a (write_body o (attributes ks) t) ≡ finished o (length t) a (fills o ks t (mk out (8 * (a + 1)) 0))
  unfolding contents lies
  block_law = go (flag_bits o ks (flags_in o ks t)) refl
    where
      more : (bs : List Bool) (x : Possible Seen) → closed a (flag_bytes o bs) (concluded o (length t) x) ≡ finished o (length t) a (both_of (this bs) x)
      more bs (this (here st k)) = refl
      more bs cannot = refl

      go : (b : Possible (List Bool)) → flag_bits o ks (flags_in o ks t) ≡ b
          → lies out a (write_body o (attributes ks) t) ≡ finished o (length t) a (both_of b (ran o t (mk out (8 * (a + 1)) 0) 0 (rows ks (flags_in o ks t))))
      go cannot e = ap (lies out a) (block_none o ks t e)
      go (this bs) e =
          ap (lies out a) (block_some o ks t bs e)
          ∙ lies_closed out a (flag_bytes o bs) (whole_bytes o (contents o ks t 0)) (some_bytes bs e)
          ∙ ap (closed a (flag_bytes o bs)) (front_law o (rows ks (flags_in o ks t)) t out (a + 1))
          ∙ more bs (ran o t (mk out (8 * (a + 1)) 0) 0 (rows ks (flags_in o ks t)))

  -- no room for a byte
  pub block_over : longest ≤ a → cannot ≡ lies out a (write_body o (attributes ks) t)
  unfolding lies
  block_over h = sym (go (flag_bits o ks (flags_in o ks t)) refl)
    where
      more : (xs : List ℕ) (b : Possible (List ℕ)) → 1 ≤ length xs → lies out a (ahead xs b) ≡ cannot
      more xs cannot k = refl
      more xs (this ys) k = rw (lt-leb (a + length (xs ++ ys)) longest (omega (arith, length-append xs ys)))

      go : (b : Possible (List Bool)) → flag_bits o ks (flags_in o ks t) ≡ b → lies out a (write_body o (attributes ks) t) ≡ cannot
      go cannot e = ap (lies out a) (block_none o ks t e)
      go (this bs) e = ap (lies out a) (block_some o ks t bs e) ∙ more (flag_bytes o bs) (whole_bytes o (contents o ks t 0)) (some_bytes bs e)

-- ---- as the code has it: the bytes moved up, the flags' bits, and the skip after them
module _ (o : Order) (l : List ℕ) (a : ℕ) (f : Flags) (some : 0 < f.width) where
  size_is : length (flag_bytes o (bits_of o f)) ≡ (f.width + 7) / 8
  size_is = flag_size o (bits_of o f) ∙ ap (λ (n : ℕ). (n + 7) / 8) (length_dig o f.width f.bits)

  -- past the longest file
  pub put_over : (n more end : ℕ) → more ≡ (f.width + 7) / 8 - 1 → end ≡ a + 1 + n + more → longest < end → cannot ≡ under_flags l a (flag_bytes o (bits_of o f)) n
  put_over n more end em ee h = rw (lt-leb (a + length (flag_bytes o (bits_of o f)) + n) longest (omega (arith, size_is)))

  -- what waits after the bits
  pub put_fine : (u w : List ℕ) (s : Sink) {q : ℕ} → q ≡ 8 * a → a ≤ longest → f.width ≤ 32 → at w s ≡ lay o (mk u q 0) (bits_of o f) → Holds s.place.0 s.part × (s.place.0 ≤ 2 ^ 60)
  put_fine u w s {q = q} first low few e =
      let p : s.place.0 ≡ q + length (bits_of o f) = ap (λ (x : State). x.place) e ∙ lay_place o (mk u q 0) (bits_of o f) in
      (subst (λ (x : State). Holds x.place x.part) (sym e) (lay_ok o (mk u q 0) (bits_of o f) (pow_pos (q % 8))), omega (arith, p, length_dig o f.width f.bits))

  flags_laid : (u w v : List ℕ) (s : Sink) (byte bit : ℕ) → at w s ≡ lay o (mk u (8 * a) 0) (bits_of o f) → Skipped o (at w s) v byte bit → v ≡ sets u a (flag_bytes o (bits_of o f))
  flags_laid u w v s byte bit e skip = ap (λ (x : State). x.bytes) (skip.laid ∙ whole)
    where
      place : skipped s.place.0 ≡ skipped (length (bits_of o f))
      place =
          let p : s.place.0 ≡ 8 * a + length (bits_of o f) = ap (λ (x : State). x.place) e ∙ lay_place o (mk u (8 * a) 0) (bits_of o f) in
          let m : (8 * a + length (bits_of o f)) % 8 ≡ length (bits_of o f) % 8 = omega arith in
          rw (p, m)

      whole : lay o (at w s) (dig o (skipped s.place.0) 0) ≡ mk (sets u a (flag_bytes o (bits_of o f))) (8 * (a + (length (bits_of o f) + 7) / 8)) 0
      whole =
          ap₂ (λ (x : State) (n : ℕ). lay o x (dig o n 0)) e place
          ∙ sym (lay_append o (mk u (8 * a) 0) (bits_of o f) (dig o (skipped (length (bits_of o f))) 0))
          ∙ lay_bytes_of o u a ((length (bits_of o f) + 7) / 8) (bits_of o f ++ dig o (skipped (length (bits_of o f))) 0) (flag_whole o (bits_of o f))

  pub put_done : (n more end : ℕ) (u w v : List ℕ) (s : Sink) (byte bit : ℕ) {q : ℕ} → q ≡ 8 * a → more ≡ (f.width + 7) / 8 - 1 → end ≡ a + 1 + n + more → end ≤ longest
      → u ≡ sets l (a + 1 + more) (take n (drop (a + 1) l)) → at w s ≡ lay o (mk u q 0) (bits_of o f) → Skipped o (at w s) v byte bit → this (lain v end) ≡ under_flags l a (flag_bytes o (bits_of o f)) n
  put_done n more end u w v s byte bit first em ee h moved put skip =
      let z : a + length (flag_bytes o (bits_of o f)) + n ≡ end = omega (arith, size_is) in
      let m : a + 1 + more ≡ a + length (flag_bytes o (bits_of o f)) = omega (arith, size_is) in
      let p : v ≡ sets l a (flag_bytes o (bits_of o f) ++ take n (drop (a + 1) l)) =
      flags_laid u w v s byte bit (put ∙ ap (λ (q : ℕ). lay o (mk u q 0) (bits_of o f)) first) skip
      ∙ ap (λ (x : List ℕ). sets x a (flag_bytes o (bits_of o f))) (moved ∙ ap (λ (i : ℕ). sets l i (take n (drop (a + 1) l))) m)
      ∙ sets_comm l (a + length (flag_bytes o (bits_of o f))) (take n (drop (a + 1) l)) a (flag_bytes o (bits_of o f)) (omega arith)
      ∙ sym (sets_append l a (flag_bytes o (bits_of o f)) (take n (drop (a + 1) l))) in
      rw (z, le-leb end longest h) (ap (λ (x : List ℕ). this (lain x end)) p)

-- ---- the block, as the code has it: R is what its contents and flags left
both_is : (b : Possible (List Bool)) (x : Possible Seen) (bs : List Bool) (st : State) (k : ℕ) → this (both bs st k) ≡ both_of b x → (b ≡ this bs) × (x ≡ this (here st k))
both_is (this cs) (this (here st' j)) bs st k e =
    let p : cs ≡ bs = cc in
    let q : st' ≡ st = cc in
    let i : j ≡ k = cc in
    (ap this p, ap₂ (λ (x : State) (n : ℕ). this (here x n)) q i)
both_is (this cs) cannot bs st k e = clash cc
both_is cannot x bs st k e = clash cc

lies_between : (out : List ℕ) (a : ℕ) (b : Possible (List ℕ)) (u : List ℕ) (stop : ℕ) → this (lain u stop) ≡ lies out a b → (a ≤ stop) × (stop ≤ longest)
unfolding lies
lies_between out a cannot u stop e = clash cc
lies_between out a (this xs) u stop e = go (leb (a + length xs) longest) refl e
  where
    go : (c : Bool) → leb (a + length xs) longest ≡ c → this (lain u stop) ≡ pick c (this (lain (sets out a xs) (a + length xs))) cannot → (a ≤ stop) × (stop ≤ longest)
    go true q d = let z : stop ≡ a + length xs = cc in (omega arith, omega (arith, leb-true (a + length xs) longest q))
    go false q d = clash cc

module _ (o : Order) (ks : List Attribute) (t : List ℕ) (has : HasFlags ks) (out : List ℕ) (a : ℕ) (b : Writer) (R : Result Flags Impossible)
    {q p : ℕ} (first : q ≡ 8 * (a + 1)) (clear : p ≡ 0) (from : filled o b R ≡ fills o ks t (mk out q p)) where
  e : filled o b R ≡ fills o ks t (mk out (8 * (a + 1)) 0)
  e = from ∙ ap₂ (λ (k x : ℕ). fills o ks t (mk out k x)) first clear

  pub block_gone : {z : Impossible} → R ≡ Err z → cannot ≡ lies out a (write_body o (attributes ks) t)
  block_gone d = sym (block_law o ks t has out a ∙ ap (finished o (length t) a) (sym e ∙ ap (filled o b) d))

  module _ (f : Flags) (d : R ≡ Ok f) where
    is : this (both (bits_of o f) (state b) b.index) ≡ fills o ks t (mk out (8 * (a + 1)) 0)
    is = ap (filled o b) (sym d) ∙ e

    parts : (flag_bits o ks (flags_in o ks t) ≡ this (bits_of o f)) × (ran o t (mk out (8 * (a + 1)) 0) 0 (rows ks (flags_in o ks t)) ≡ this (here (state b) b.index))
    parts = both_is (flag_bits o ks (flags_in o ks t)) (ran o t (mk out (8 * (a + 1)) 0) 0 (rows ks (flags_in o ks t))) (bits_of o f) (state b) b.index is

    -- C is how the contents end
    module _ (v : List ℕ) (C : Result BytePlace Impossible) (order : order_of b.order ≡ o) (values : b.values.now ≡ t)
        (told : lain_as v C ≡ concluded (order_of b.order) (length b.values.now) (this (here (state b) b.index))) where
      h : lain_as v C ≡ concluded o (length t) (this (here (state b) b.index))
      h = told ∙ ap₂ (λ (x : Order) (xs : List ℕ). concluded x (length xs) (this (here (state b) b.index))) order values

      ends : lies out a (write_body o (attributes ks) t) ≡ closed a (flag_bytes o (bits_of o f)) (lain_as v C)
      ends = block_law o ks t has out a ∙ ap (finished o (length t) a) (sym is) ∙ ap (closed a (flag_bytes o (bits_of o f))) (sym h)

      pub block_stop : {z : Impossible} → C ≡ Err z → cannot ≡ lies out a (write_body o (attributes ks) t)
      block_stop z = sym (ends ∙ rw z)

      module _ (end : BytePlace) (z : C ≡ Ok end) where
        abbrev stop : ℕ
        stop = end.0

        pub block_room : (0 < f.width) × (a + 1 ≤ stop) × (stop ≤ longest)
        block_room =
            let some : 0 < length (bits_of o f) = rw parts.0 at (some_flags o ks (flags_in o ks t) has.any) in
            let at-end : this (lain v stop) ≡ lies out (a + 1) (whole_bytes o (unrun o (front (rows ks (flags_in o ks t))) t 0)) =
            ap (lain_as v) (sym z) ∙ h ∙ ap (concluded o (length t)) (sym parts.1) ∙ sym (front_law o (rows ks (flags_in o ks t)) t out (a + 1)) in
            let between = lies_between out (a + 1) (whole_bytes o (unrun o (front (rows ks (flags_in o ks t))) t 0)) v stop at-end in
            (omega (arith, some, length_dig o f.width f.bits), between.0, between.1)

        pub block_done : {x : Possible Lain} {o' : Order} → o' ≡ o → x ≡ under_flags v a (flag_bytes o' (bits_of o' f)) (stop - (a + 1)) → x ≡ lies out a (write_body o (attributes ks) t)
        block_done same q = q ∙ ap (λ (y : Order). under_flags v a (flag_bytes y (bits_of y f)) (stop - (a + 1))) same ∙ sym (ends ∙ rw z)
