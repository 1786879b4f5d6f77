-- The round trip: reading and writing undo one another. Stated for any reader R and writer W; sequences and tests keep it.
use Prim.Native.Nat.{ℕ, suc, ◌+◌, ◌*◌, ◌≤◌}
use mathlib.Core.List.{List, [], ◌∷◌, ◌++◌, append_assoc}
use mathlib.Core.Path.{◌≡◌, refl, sym, subst}
use mathlib.Core.Bool.{Bool, true, false}
use lib.ListN.{length, length-append}
use native.Mathlib.Nat.{add-zero, add_assoc}
use native.Mathlib.Omega.{arith}
use Rattle.format.specs.Tests.{pick}
use Rattle.format.specs.Bits.{Order}
use Rattle.format.specs.Reading.{Ending, At, Fault, Reading, shows, follow}
use Rattle.format.specs.Formats.{Item, Format, nothing, item, only, ◌▹◌}
use Rattle.format.specs.Items.{read_item, judge, run}
use Rattle.format.specs.Possible.{Possible, this, cannot}
use Rattle.format.specs.WritingItems.{Written, wrote, write_item}
use Rattle.format.specs.WritingFormats.{passing, adjoin, onward, unrun}
use Rattle.format.proofs.BitLaws.{Has}

-- what holds of a reading that ended at q
pub record There (o : Order) (b : List ℕ) (p q : ℕ) (xs : List ℕ) (W : List ℕ → ℕ → Possible Written) : Type 0 where
  pub bits : List Bool
  pub has : Has o b p bits
  pub ends : q ≡ p + length bits
  pub again : (ys : List ℕ) → W (xs ++ ys) p ≡ this (wrote xs bits ys)

pub record Back (o : Order) (ns xs : List ℕ) (bs : List Bool) (ys : List ℕ) (p : ℕ) (R : List ℕ → ℕ → Reading) : Type 0 where
  pub parts : ns ≡ xs ++ ys
  pub reads : (b : List ℕ) → Has o b p bs → R b p ≡ shows xs (p + length bs)

-- nothing is claimed of a fault, nor of numbers that cannot be written
abbrev pub ThereIf : (o : Order) (b : List ℕ) (p : ℕ) (xs : List ℕ) (W : List ℕ → ℕ → Possible Written) → Ending → Type 0
ThereIf o b p xs W (At q) = There o b p q xs W
ThereIf o b p xs W (Fault e) = Unit {0}

abbrev pub BackIf : (o : Order) (ns : List ℕ) (p : ℕ) (R : List ℕ → ℕ → Reading) → Possible Written → Type 0
BackIf o ns p R (this (wrote xs bs ys)) = Back o ns xs bs ys p R
BackIf o ns p R cannot = Unit {0}

pub record Trip (o : Order) (R : List ℕ → ℕ → Reading) (W : List ℕ → ℕ → Possible Written) : Type 0 where
  pub there : (b : List ℕ) (p : ℕ) → p ≤ 8 * length b → ThereIf o b p (R b p).shown W (R b p).ended
  pub back : (ns : List ℕ) (p : ℕ) → BackIf o ns p R (W ns p)

pub has_le : (o : Order) (b : List ℕ) (p : ℕ) (bs : List Bool) → Has o b p bs → p + length bs ≤ 8 * length b
has_le o b p [] h = omega arith
has_le o b p (x ∷ bs) h = omega (arith, has_le o b (suc p) bs h.1)

pub has_append : (o : Order) (b : List ℕ) (p : ℕ) (cs bs : List Bool) → Has o b p cs → Has o b (p + length cs) bs → Has o b p (cs ++ bs)
has_append o b p [] bs h l = subst (λ (n : ℕ). Has o b n bs) (add-zero p) l
has_append o b p (x ∷ cs) bs h l = (h.0, has_append o b (suc p) cs bs h.1 (subst (λ (n : ℕ). Has o b n bs) (omega arith) l))

pub has_split : (o : Order) (b : List ℕ) (p : ℕ) (cs bs : List Bool) → Has o b p (cs ++ bs) → Has o b p cs × Has o b (p + length cs) bs
has_split o b p [] bs h = (omega (arith, has_le o b p bs h), subst (λ (n : ℕ). Has o b n bs) (sym (add-zero p)) h)
has_split o b p (x ∷ cs) bs h =
    let t : Has o b (suc p) cs × Has o b (suc p + length cs) bs = has_split o b (suc p) cs bs h.1 in
    ((h.0, t.0), subst (λ (n : ℕ). Has o b n bs) (omega arith) t.1)

module _ (o : Order) (R : List ℕ → ℕ → Reading) (W : List ℕ → ℕ → Possible Written)
    (R' : List ℕ → List ℕ → ℕ → Reading) (W' : List ℕ → List ℕ → ℕ → Possible Written)
    (t : Trip o R W) (t' : (xs : List ℕ) → Trip o (R' xs) (W' xs)) where
  abbrev seq_r : List ℕ → ℕ → Reading
  seq_r b p = follow (R b p).shown (R b p).ended (λ xs q. R' xs b q)

  abbrev seq_w : List ℕ → ℕ → Possible Written
  seq_w ns p = onward (W ns p) p (λ xs ys q. W' xs ys q)

  seq_there : (b : List ℕ) (p : ℕ) → p ≤ 8 * length b → ThereIf o b p (seq_r b p).shown seq_w (seq_r b p).ended
  seq_there b p l = go (R b p).ended refl
    where
      join : (m q : ℕ) → There o b p m (R b p).shown W → There o b m q (R' (R b p).shown b m).shown (W' (R b p).shown)
          → There o b p q ((R b p).shown ++ (R' (R b p).shown b m).shown) seq_w
      join m q u v = record {
        bits = u.bits ++ v.bits;
        has = has_append o b p u.bits v.bits u.has (rw u.ends at v.has);
        ends = omega (arith, u.ends, v.ends, length-append u.bits v.bits);
        again = λ ys. rw (append_assoc, u.again, ← u.ends, v.again);
      }

      more : (m : ℕ) → There o b p m (R b p).shown W → (e : Ending) → (R' (R b p).shown b m).ended ≡ e
          → ThereIf o b p ((R b p).shown ++ (R' (R b p).shown b m).shown) seq_w e
      more m u (Fault e) eq = tt
      more m u (At q) eq = join m q u (rw eq at ((t' (R b p).shown).there b m (omega (arith, u.ends, has_le o b p u.bits u.has))))

      go : (e : Ending) → (R b p).ended ≡ e → ThereIf o b p (seq_r b p).shown seq_w (seq_r b p).ended
      go (Fault e) eq = rw eq tt
      go (At m) eq = rw eq (more m (rw eq at (t.there b p l)) (R' (R b p).shown b m).ended refl)

  seq_back : (ns : List ℕ) (p : ℕ) → BackIf o ns p seq_r (seq_w ns p)
  seq_back ns p = go (W ns p) refl
    where
      join : (xs : List ℕ) (bs : List Bool) (ys xs' : List ℕ) (bs' : List Bool) (ys' : List ℕ) → Back o ns xs bs ys p R → Back o ys xs' bs' ys' (p + length bs) (R' xs)
          → Back o ns (xs ++ xs') (bs ++ bs') ys' p seq_r
      join xs bs ys xs' bs' ys' u v = record {
        parts = rw (u.parts, v.parts, append_assoc);
        reads = λ b h.
            let s : Has o b p bs × Has o b (p + length bs) bs' = has_split o b p bs bs' h in
            rw (u.reads b s.0, v.reads b s.1, length-append, add_assoc);
      }

      more : (xs : List ℕ) (bs : List Bool) (ys : List ℕ) → Back o ns xs bs ys p R → (w : Possible Written) → W' xs ys (p + length bs) ≡ w → BackIf o ns p seq_r (adjoin xs bs w)
      more xs bs ys u cannot eq = tt
      more xs bs ys u (this (wrote xs' bs' ys')) eq = join xs bs ys xs' bs' ys' u (rw eq at ((t' xs).back ys (p + length bs)))

      go : (w : Possible Written) → W ns p ≡ w → BackIf o ns p seq_r (seq_w ns p)
      go cannot eq = rw eq tt
      go (this (wrote xs bs ys)) eq = rw eq (more xs bs ys (rw eq at (t.back ns p)) (W' xs ys (p + length bs)) refl)

  pub trip_seq : Trip o seq_r seq_w
  trip_seq = record { there = seq_there; back = seq_back }

-- no bits and no numbers
pub trip_nothing : (o : Order) → Trip o (λ b p. shows [] p) (λ ns p. this (wrote [] [] ns))
trip_nothing o = record {
  there = λ b p l. record { bits = []; has = l; ends = sym (add-zero p); again = λ ys. refl };
  back = λ ns p. record { parts = refl; reads = λ b h. rw add-zero };
}

-- a test
module _ (o : Order) (R : List ℕ → ℕ → Reading) (W : List ℕ → ℕ → Possible Written) (c : List ℕ → Bool) (e : ℕ) (t : Trip o R W) where
  abbrev only_r : List ℕ → ℕ → Reading
  only_r b p = judge c e (R b p).shown (R b p).ended

  abbrev only_w : List ℕ → ℕ → Possible Written
  only_w ns p = passing c (W ns p)

  only_there : (b : List ℕ) (p : ℕ) → p ≤ 8 * length b → ThereIf o b p (only_r b p).shown only_w (only_r b p).ended
  only_there b p l = go (R b p).ended (t.there b p l) (c (R b p).shown) refl
    where
      go : (z : Ending) → ThereIf o b p (R b p).shown W z → (d : Bool) → c (R b p).shown ≡ d
          → ThereIf o b p (judge c e (R b p).shown z).shown only_w (judge c e (R b p).shown z).ended
      go (Fault z) u d eq = tt
      go (At q) u false eq = rw eq tt
      go (At q) u true eq = rw eq (record { bits = u.bits; has = u.has; ends = u.ends; again = λ ys. rw (u.again ys, eq) })

  only_back : (ns : List ℕ) (p : ℕ) → BackIf o ns p only_r (only_w ns p)
  only_back ns p = go (W ns p) (t.back ns p)
    where
      go : (w : Possible Written) → BackIf o ns p R w → BackIf o ns p only_r (passing c w)
      go cannot u = tt
      go (this (wrote xs bs ys)) u = at (c xs) refl
        where
          at : (d : Bool) → c xs ≡ d → BackIf o ns p only_r (pick (c xs) (this (wrote xs bs ys)) cannot)
          at false eq = rw eq tt
          at true eq = rw eq (record { parts = u.parts; reads = λ b h. rw (u.reads b h, eq) })

  pub trip_only : Trip o only_r only_w
  trip_only = record { there = only_there; back = only_back }

-- the round trip of every format, from that of each item
pub trip_fmt : (o : Order) → ((i : Item) → Trip o (λ b p. read_item o b i p) (λ ns p. write_item o i ns p))
    → (f : Format) → Trip o (λ b p. run o b f p) (λ ns p. unrun o f ns p)
unfolding run unrun
trip_fmt o law nothing = trip_nothing o
trip_fmt o law (item i) = law i
trip_fmt o law (only c e f) = trip_only o (λ b p. run o b f p) (λ ns p. unrun o f ns p) c e (trip_fmt o law f)
trip_fmt o law (f ▹ g) =
    trip_seq o (λ b p. run o b f p) (λ ns p. unrun o f ns p) (λ xs b p. run o b (g xs) p) (λ xs ns p. unrun o (g xs) ns p)
    (trip_fmt o law f) (λ xs. trip_fmt o law (g xs))
