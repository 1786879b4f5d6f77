-- Formats that are read alike are written alike.
use Rattle.std.proofs.Common.{◌≡◌, ℕ, suc, ◌+◌, ◌*◌, ◌≤◌, Bool, true, false, List, [], ◌∷◌, ◌++◌, length, drop, sym, refl, ap, ◌∙◌, subst, ap₂, arith, length-append}
use Rattle.format.specs.Bits.{Order}
use Rattle.format.specs.Reading.{Reading, shows}
use Rattle.format.specs.Formats.{Format}
use Rattle.format.specs.Items.{run}
use Rattle.format.specs.Possible.{Possible, this, cannot}
use Rattle.format.specs.WritingItems.{dig, Written, wrote}
use Rattle.format.specs.WritingFormats.{unrun}
use Rattle.format.specs.WritingBodies.{bit, bytes_of}
use Rattle.format.proofs.BitLaws.{Has, length_dig}
use Rattle.format.proofs.ByteLaws.{has_bytes_of, length_bytes_of}
use Rattle.format.proofs.ItemLaws.{round_trip}
use Rattle.format.proofs.Trip.{has_split, There, ThereIf, Back}
use Rattle.sink.specs.Laying.{State}
use Rattle.spelling.specs.Writing.{written_over, ran}

-- the same bits are there
bit_one : (x y : Bool) → bit x ≡ bit y → x ≡ y
bit_one true true e = refl
bit_one true false e = absurd (omega arith)
bit_one false true e = absurd (omega arith)
bit_one false false e = refl

has_one : (o : Order) (b : List ℕ) (p : ℕ) (cs bs : List Bool) → length cs ≡ length bs → Has o b p cs → Has o b p bs → cs ≡ bs
has_one o b p [] [] l h k = refl
has_one o b p [] (y ∷ bs) l h k = absurd (omega arith)
has_one o b p (x ∷ cs) [] l h k = absurd (omega arith)
has_one o b p (x ∷ cs) (y ∷ bs) l h k = ap₂ (λ (z : Bool) (zs : List Bool). z ∷ zs) (bit_one x y (sym h.0 ∙ k.0)) (has_one o b (suc p) cs bs (omega arith) h.1 k.1)

-- bytes that have the bits bs at p
module _ (o : Order) (p : ℕ) (bs : List Bool) where
  size : ℕ
  size = p + length bs

  all : List Bool
  all = dig o p 0 ++ (bs ++ dig o (7 * size) 0)

  holder : List ℕ
  holder = bytes_of o size all

  holds : Has o holder p bs
  unfolding holder size all
  holds =
      let l : length all ≡ 8 * size =
      omega (arith, length-append (dig o p 0) (bs ++ dig o (7 * size) 0), length-append bs (dig o (7 * size) 0), length_dig o p 0, length_dig o (7 * size) 0) in
      let h : Has o holder 0 all = has_bytes_of o size all l in
      let s : Has o holder (0 + length (dig o p 0)) (bs ++ dig o (7 * size) 0) = (has_split o holder 0 (dig o p 0) (bs ++ dig o (7 * size) 0) h).1 in
      let e : 0 + length (dig o p 0) ≡ p = omega (arith, length_dig o p 0) in
      (has_split o holder p bs (dig o (7 * size) 0) (subst (λ (q : ℕ). Has o holder q (bs ++ dig o (7 * size) 0)) e s)).0

  wide : p ≤ 8 * length holder
  unfolding holder size
  wide = omega (arith, length_bytes_of o size all)

module _ (o : Order) (f g : Format) (alike : (b : List ℕ) (p : ℕ) → run o b f p ≡ run o b g p) where
  same_way : (ns : List ℕ) (p : ℕ) (xs : List ℕ) (bs : List Bool) (ys : List ℕ) → unrun o f ns p ≡ this (wrote xs bs ys) → unrun o g ns p ≡ this (wrote xs bs ys)
  same_way ns p xs bs ys e = read (rw e at ((round_trip o f).back ns p))
    where
      there : There o (holder o p bs) p (p + length bs) xs (λ ns p. unrun o g ns p) → ns ≡ xs ++ ys → unrun o g ns p ≡ this (wrote xs bs ys)
      there t parts =
          let z : t.bits ≡ bs = has_one o (holder o p bs) p t.bits bs (omega (arith, t.ends)) t.has (holds o p bs) in
          rw (parts, t.again ys, z)

      read : Back o ns xs bs ys p (λ b p. run o b f p) → unrun o g ns p ≡ this (wrote xs bs ys)
      read h =
          let r : run o (holder o p bs) g p ≡ shows xs (p + length bs) = sym (alike (holder o p bs) p) ∙ h.reads (holder o p bs) (holds o p bs) in
          there (subst (λ (x : Reading). ThereIf o (holder o p bs) p x.shown (λ ns p. unrun o g ns p) x.ended) r ((round_trip o g).there (holder o p bs) p (wide o p bs))) h.parts

pub written_alike : (o : Order) (f g : Format) → ((b : List ℕ) (p : ℕ) → run o b f p ≡ run o b g p) → (ns : List ℕ) (p : ℕ) → unrun o f ns p ≡ unrun o g ns p
written_alike o f g alike ns p = go (unrun o f ns p) refl (unrun o g ns p) refl
  where
    go : (w : Possible Written) → unrun o f ns p ≡ w → (v : Possible Written) → unrun o g ns p ≡ v → unrun o f ns p ≡ unrun o g ns p
    go (this (wrote xs bs ys)) e v d = e ∙ sym (same_way o f g alike ns p xs bs ys e)
    go cannot e (this (wrote xs bs ys)) d = same_way o g f (λ b q. sym (alike b q)) ns p xs bs ys d ∙ sym d
    go cannot e cannot d = e ∙ sym d

pub ran_alike : (o : Order) (t : List ℕ) (st : State) (k : ℕ) (f g : Format) → ((b : List ℕ) (p : ℕ) → run o b f p ≡ run o b g p) → ran o t st k f ≡ ran o t st k g
unfolding ran
ran_alike o t st k f g alike = ap (written_over o st k) (written_alike o f g alike (drop k t) st.place)
