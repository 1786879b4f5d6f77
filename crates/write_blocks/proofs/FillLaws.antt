-- A block's contents, an attribute at a time, and the flags that are gathered on the way.
use Prim.Native.Nat.{ℕ, suc, ◌+◌, ◌≤◌, ◌<◌}
use mathlib.Core.List.{List, [], ◌∷◌, append-nil, append_assoc}
use mathlib.Core.Path.{◌≡◌, refl, sym, ap, ap₂, ◌∙◌, subst}
use mathlib.Core.Bool.{Bool}
use native.Mathlib.Numerals.{add-one}
use native.Mathlib.Omega.{arith}
use lib.ListN.{length, get_or, drop, drop_of_length-le}
use lib.Seq.{drop-cons}
use Rattle.std.specs.Prelude.{Result, Ok, Err, IsErr}
use borrow.Author.Tests.{eq-eqb}
use Rattle.format.specs.Bits.{Order}
use Rattle.format.specs.Formats.{Item, item, ◌▸◌}
use Rattle.format.specs.Bodies.{Attribute, content, rows}
use Rattle.format.specs.Possible.{Possible, this, cannot}
use Rattle.format.specs.WritingItems.{dig, before, write_item}
use Rattle.format.specs.WritingFormats.{unrun}
use Rattle.format.specs.WritingBodies.{left_of, flags_in}
use Rattle.bits.specs.Places.{order_of}
use Rattle.sink.specs.Laying.{State}
use Rattle.sink.specs.declared.Impossible.{Impossible}
use Rattle.sink.proofs.LayingLaws.{lay_none}
use Rattle.spelling.specs.Writing.{Seen, here, written_over, ran, limit}
use Rattle.spelling.specs.Writer.{state, seen_of, Onward, Writes}
use Rattle.spelling.specs.declared.writer.Writer.{Writer}
use Rattle.spelling.proofs.RunLaws.{ends_in, ran_then, resume, ran_nothing}
use Rattle.spelling.proofs.WriteLaws.{onward_none, onward_then, same_run}
use Rattle.write_blocks.specs.Flags.{flag_spelling, joined, flag_bits, most_bits, most_flags, bits_of, noted, Grown}
use Rattle.write_blocks.specs.Filling.{Both, both, both_of, fills, filled}
use Rattle.write_blocks.specs.declared.field.Flags.{Flags}
use Rattle.write_blocks.proofs.FlagLaws.{Adds}
use Rattle.write_blocks.proofs.PlaceLaws.{left_is}

-- ---- bits in front
before_none : (b : Possible (List Bool)) → before [] b ≡ b
before_none (this bs) = refl
before_none cannot = refl

before_joined : (xs : List Bool) (b c : Possible (List Bool)) → before xs (joined b c) ≡ joined (before xs b) c
before_joined xs (this bs) (this cs) = ap this (sym (append_assoc xs bs cs))
before_joined xs (this bs) cannot = refl
before_joined xs cannot c = refl

both_gone : (b : Possible (List Bool)) → both_of b cannot ≡ cannot
both_gone (this bs) = refl
both_gone cannot = refl

module _ (o : Order) (t : List ℕ) where
  -- the flag numbers of the attributes rs, the first of which stands at index k
  abbrev φs : List Attribute → ℕ → List ℕ
  φs rs k = flags_in o rs (drop k t)

  -- of a block the attributes rs are to come, with the flag number of the first at index k
  abbrev to_come : Flags → State → ℕ → List Attribute → Possible Both
  to_come f st k rs = both_of (before (bits_of o f) (flag_bits o rs (φs rs k))) (ran o t st k (rows rs (φs rs k)))

  module _ (a : Attribute) (rs : List Attribute) (f : Flags) (st : State) (k : ℕ) where
    -- no number is left
    none_left : length t ≤ k → to_come f st k (a ∷ rs) ≡ cannot
    unfolding flags_in flag_bits
    none_left h = rw (drop_of_length-le t h)

    module _ (lk : k < length t) where
      -- the flag numbers after it
      unfoldable later : List ℕ
      later = flags_in o rs (left_of (unrun o (content a (get_or t k 0)) (drop (suc k) t) 0))

      flags_cons : φs (a ∷ rs) k ≡ get_or t k 0 ∷ later
      unfolding flags_in later
      flags_cons = rw (drop-cons t k 0 lk)

      echoed : st.place ≤ limit → ran o t st k (item (Item.echo (get_or t k 0))) ≡ this (here st (k + 1))
      unfolding ran unrun write_item written_over
      echoed l = rw (drop-cons t k 0 lk, eq-eqb (get_or t k 0) (get_or t k 0) refl, lay_none o) (ends_in st (k + 1) l)

      -- its flag number, its content, and the contents of the others
      rows_next : st.place ≤ limit → ran o t st k (rows (a ∷ rs) (get_or t k 0 ∷ later)) ≡ resume o t (k + 1) (λ xs. rows rs later) (ran o t st (k + 1) (content a (get_or t k 0)))
      unfolding rows
      rows_next l =
          ran_then o t st k (item (Item.echo (get_or t k 0))) (λ xs. content a (get_or t k 0) ▸ rows rs later)
          ∙ ap (resume o t k (λ xs. content a (get_or t k 0) ▸ rows rs later)) (echoed l)
          ∙ ran_then o t st (k + 1) (content a (get_or t k 0)) (λ xs. rows rs later)

      -- G is what its flags gave, x what its content did
      module _ (G : Result Flags Impossible) (flags : Adds (most_bits a.kind) o f (flag_spelling o a.kind (get_or t k 0)) G) (l : st.place ≤ limit) where
        turn : {x : Possible Seen} → ran o t st (k + 1) (content a (get_or t k 0)) ≡ x → to_come f st k (a ∷ rs) ≡ both_of (joined (noted o G) (flag_bits o rs later)) (resume o t (k + 1) (λ xs. rows rs later) x)
        unfolding flag_bits
        turn e =
            ap (λ (ψs : List ℕ). both_of (before (bits_of o f) (flag_bits o (a ∷ rs) ψs)) (ran o t st k (rows (a ∷ rs) ψs))) flags_cons
            ∙ ap₂ both_of
            (before_joined (bits_of o f) (flag_spelling o a.kind (get_or t k 0)) (flag_bits o rs later) ∙ ap (λ (b : Possible (List Bool)). joined b (flag_bits o rs later)) (sym flags.0))
            (rows_next l ∙ ap (resume o t (k + 1) (λ xs. rows rs later)) e)

        turn_flag : {z : Impossible} → G ≡ Err z → to_come f st k (a ∷ rs) ≡ cannot
        turn_flag e = turn refl ∙ rw e

        turn_gone : ran o t st (k + 1) (content a (get_or t k 0)) ≡ cannot → to_come f st k (a ∷ rs) ≡ cannot
        turn_gone e = turn e ∙ both_gone (joined (noted o G) (flag_bits o rs later))

        turn_on : (g : Flags) (st' : State) (j : ℕ) → G ≡ Ok g → ran o t st (k + 1) (content a (get_or t k 0)) ≡ this (here st' j) → to_come f st k (a ∷ rs) ≡ to_come g st' j rs
        unfolding later
        turn_on g st' j d e =
            let i : left_of (unrun o (content a (get_or t k 0)) (drop (suc k) t) 0) ≡ drop j t =
            ap (λ (n : ℕ). left_of (unrun o (content a (get_or t k 0)) (drop n t) 0)) (sym (add-one k)) ∙ left_is o t (content a (get_or t k 0)) (k + 1) st st' j e in
            turn e ∙ rw (d, i)

-- ---- the loop: the attributes rs are to come, from the writer b on
pub record Filling (a : Writer) (ks : List Attribute) (b : Writer) (f : Flags) (rs : List Attribute) : Type 0 where
  pub onward : Onward a b
  pub few : f.width + most_flags rs ≤ 32
  pub rest : fills (order_of a.order) ks a.values.now (state a) ≡ to_come (order_of a.order) a.values.now f (state b) b.index rs

pub fill_start : (a : Writer) (ks : List Attribute) (f : Flags) → most_flags ks ≤ 32 → a.index ≡ 0 → f.width ≡ 0 → Filling a ks a f ks
unfolding dig
fill_start a ks f few first none = record {
  onward = onward_none a;
  few = omega arith;
  rest =
      rw (first, none)
      (ap (λ (b : Possible (List Bool)). both_of b (ran (order_of a.order) a.values.now (state a) 0 (rows ks (flags_in (order_of a.order) ks a.values.now))))
      (sym (before_none (flag_bits (order_of a.order) ks (flags_in (order_of a.order) ks a.values.now)))));
}

module _ {a : Writer} {ks : List Attribute} {b : Writer} {f : Flags} {now : List Attribute} (g : Filling a ks b f now) where
  abbrev o : Order
  o = order_of a.order

  abbrev t : List ℕ
  t = a.values.now

  pub fill_done : now ≡ [] → this (both (bits_of o f) (state b) b.index) ≡ fills o ks t (state a)
  unfolding flags_in flag_bits rows
  fill_done e =
      sym (g.rest ∙ ap (to_come o t f (state b) b.index) e
      ∙ ap₂ both_of (ap this (append-nil (bits_of o f))) (ran_nothing o t (state b) b.index b.fine.1))

  module _ (x : Attribute) (rs : List Attribute) (is : now ≡ x ∷ rs) where
    from_now : fills o ks t (state a) ≡ to_come o t f (state b) b.index (x ∷ rs)
    from_now = g.rest ∙ ap (to_come o t f (state b) b.index) is

    pub fill_short : length b.values.now ≤ b.index → cannot ≡ fills o ks t (state a)
    fill_short h = sym (from_now ∙ none_left o t x rs f (state b) b.index (omega (arith, ap length g.onward.values)))

    module _ {v : ℕ} (number : (b.index < length b.values.now) × (v ≡ get_or b.values.now b.index 0)) (G : Result Flags Impossible) (flags : Adds (most_bits x.kind) o f (flag_spelling o x.kind v) G) where
      there : b.index < length t
      there = omega (arith, number.0, ap length g.onward.values)

      here_is : v ≡ get_or t b.index 0
      here_is = number.1 ∙ ap (λ (z : List ℕ). get_or z b.index 0) g.onward.values

      flags_here : Adds (most_bits x.kind) o f (flag_spelling o x.kind (get_or t b.index 0)) G
      flags_here = (flags.0 ∙ ap (λ (z : ℕ). before (bits_of o f) (flag_spelling o x.kind z)) here_is, flags.1)

      pub fill_flag : {z : Impossible} → G ≡ Err z → cannot ≡ fills o ks t (state a)
      fill_flag e = sym (from_now ∙ turn_flag o t x rs f (state b) b.index there G flags_here b.fine.1 e)

      module _ {c d : Writer} {R : Result (Unit {0}) Impossible} (on : Onward b c) (stays : state c ≡ state b) (next : c.index ≡ b.index + 1) (w : Writes c d R (content x v)) where
        content_told : ran o t (state b) (b.index + 1) (content x (get_or t b.index 0)) ≡ seen_of d R
        content_told = sym
            (w.told ∙ same_run (onward_then g.onward on) (content x v)
            ∙ ap₂ (λ (st : State) (k : ℕ). ran o t st k (content x v)) stays next
            ∙ ap (λ (z : ℕ). ran o t (state b) (b.index + 1) (content x z)) here_is)

        pub fill_gone : {z : Impossible} → R ≡ Err z → cannot ≡ fills o ks t (state a)
        fill_gone e = sym (from_now ∙ turn_gone o t x rs f (state b) b.index there G flags_here b.fine.1 (content_told ∙ ap (seen_of d) e))

        pub fill_next : (f' : Flags) {z : Unit {0}} → G ≡ Ok f' → R ≡ Ok z → Filling a ks d f' rs
        unfolding most_flags
        fill_next f' e h =
            let grown : f'.width ≤ f.width + most_bits x.kind = subst (Grown (most_bits x.kind) f.width) e flags.1 in
            record {
              onward = onward_then (onward_then g.onward on) w.onward;
              few = omega (arith, grown, g.few, ap most_flags is);
              rest = from_now ∙ turn_on o t x rs f (state b) b.index there G flags_here b.fine.1 f' (state d) d.index e (content_told ∙ ap (seen_of d) h);
            }

-- where the code answers that no file has the values
pub err_filled : (o : Order) (b : Writer) (R : Result Flags Impossible) {x : Possible Both} → IsErr R → cannot ≡ x → filled o b R ≡ x
err_filled o b (Ok f) h e = cc
err_filled o b (Err z) h e = e
