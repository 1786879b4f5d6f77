-- One tag: what stands in it, and the header before it.
use Prim.Native.Nat.{ℕ, zero, suc, ◌+◌, ◌-◌, ◌≤◌, ◌<◌}
use mathlib.Core.Bool.{Bool, true, false}
use mathlib.Core.List.{List, [], ◌∷◌, ◌++◌}
use mathlib.Core.Path.{◌≡◌, refl, ap, ap₂, sym, ◌∙◌}
use native.Mathlib.Omega.{arith}
use lib.Dec.{leb, eqb}
use borrow.Author.Tests.{leb-true, leb-false, le-leb, lt-leb, eq-eqb, ne_eqb}
use lib.ListN.{length, get_or, take, drop, length-append, length-drop, take-append-drop, get_or-eq_default}
use lib.Seq.{sets, length-sets, drop-cons, get_or-take, get_or-drop, length-take-le}
use Rattle.format.specs.Bits.{Order}
use Rattle.format.specs.Tests.{pick}
use Rattle.format.specs.Formats.{the}
use Rattle.format.specs.Possible.{Possible, this, cannot}
use Rattle.format.specs.WritingFiles.{Made, made, body_of, claims, spell_head, fits_head}
use Rattle.format.proofs.Absurd.{clash}
use Rattle.format.specs.FileAndTags.{is_read, has_list}
use Rattle.format.proofs.HeadLaws.{spell_two}
use Rattle.classes.specs.declared.Class.{Class}
use Rattle.classes.specs.declared.Class.TheVariants.{Opaque, End, Container, Fixed, Attributes}
use Rattle.bodies.specs.Leaf.{is_block, leaf_body}
use Rattle.classes.specs.Classes.{bare}
use Rattle.table.proofs.EngineLaws.{sets_append}
use Rattle.std.specs.Prelude.{Result, Ok, Err, IsErr}
use Rattle.bits.specs.declared.BytePlace.{BytePlace}
use Rattle.sink.specs.declared.Impossible.{Impossible}
use Rattle.sink.specs.Lain.{longest, lain, lies, lain_as}
use Rattle.write_heads.specs.Heads.{kept_bytes, under_head, Closed}
use Rattle.write_opaque.specs.Headers.{under_header}
use Rattle.write_heads.proofs.HeadLaws.{head_fits, head_long}
use Rattle.write_heads.proofs.StoreLaws.{sets_taken, sets_cover}
use Rattle.write_lists.specs.declared.Reached.{Reached}
use Rattle.write_lists.specs.Stood.{Stood, stood, over, stood_as}
use Rattle.write_lists.specs.Tags.{values_in, list_in, list_by, body_in, begun, list_of, shut, head_at, ValuesThere}
use Rattle.write_lists.proofs.StoodLaws.{StoodBy, stood_by, Parts, parts_of}

-- no tag starts after the longest file's end
pub over_late : (out : List ℕ) (a k : ℕ) (m : Possible Made) → longest < a → cannot ≡ over out a k m
unfolding over
over_late out a k cannot h = refl
over_late out a k (this (made xs b ys)) h = rw (lt-leb (a + length b) longest (omega arith))

-- ---- the claim, and the bytes kept for the header

-- where the table has no state, there is no claim
pub no_claim : (t : List ℕ) (k : ℕ) → length t ≤ k → false ≡ claims (get_or t k 0)
no_claim t k h = rw (get_or-eq_default t 0 {n = k} h)

pub kept_bounds : (claim : Bool) → (2 ≤ kept_bytes claim) × (kept_bytes claim ≤ 6)
kept_bounds true = (omega arith, omega arith)
kept_bounds false = (omega arith, omega arith)

-- ---- the header, from the answer of `close`
module _ (l : List ℕ) (a : ℕ) (claim : Bool) (code stop j : ℕ) where
  abbrev len : ℕ
  len = stop - (a + kept_bytes claim)

  -- the claim is for a body of 63 bytes or more
  pub shut_claim : claim ≡ true → 62 < len → cannot ≡ head_at l a claim code len j
  shut_claim c h = sym (rw (head_long claim code len c h))

  module _ (low : code < 1024) (small : stop ≤ longest) (short : claim ≡ true → len < 63) where
    fits : fits_head claim code len ≡ true
    fits = head_fits claim code len low (omega arith) short

    pub shut_late : {u : List ℕ} {next : ℕ} → Closed l a claim code len u next → longest < next → cannot ≡ head_at l a claim code len j
    shut_late {u} {next} c h =
        sym (rw (fits, lt-leb (a + length (spell_head claim code len) + len) longest (rw (← c.place) h)))

    pub shut_done : {u : List ℕ} {next : ℕ} → Closed l a claim code len u next → next ≤ longest → this (stood u next j) ≡ head_at l a claim code len j
    shut_done {u} {next} c h =
        sym (rw (fits, le-leb (a + length (spell_head claim code len) + len) longest (rw (← c.place) h), ← c.put, ← c.place))

-- the header takes as many bytes as were kept for it, or more
head_kept : (claim : Bool) (code n : ℕ) → kept_bytes claim ≤ length (spell_head claim code n)
head_kept true code n = omega arith
head_kept false code n = spell_two false code n

-- the header goes before a body that was put over out
under_head_lem : (out b : List ℕ) (a : ℕ) (claim : Bool) (code : ℕ) → under_head (sets out (a + kept_bytes claim) b) a claim code (length b) ≡ sets out a (spell_head claim code (length b) ++ b)
under_head_lem out b a claim code =
    let h : List ℕ = spell_head claim code (length b) in
    let k : ℕ = kept_bytes claim in
    let l : List ℕ = sets out (a + k) b in
    let m : k ≤ length h = head_kept claim code (length b) in
    sets_append l a h (take (length b) (drop (a + k) l))
    ∙ sets_taken b out (a + k) (sets l a h) (a + length h) (length b) refl (length-sets l a h ∙ length-sets out (a + k) b) (omega arith)
    ∙ sym (sets_append l a h b)
    ∙ sets_cover out (a + k) b a (h ++ b) (omega arith) (rw length-append (omega arith))

-- over out, from its bytes
head_over : (out : List ℕ) (a k : ℕ) (claim : Bool) (code : ℕ) (xs b ys : List ℕ)
    → head_at (sets out (a + kept_bytes claim) b) a claim code (length b) (k + length xs) ≡ over out a k (shut claim code (this (made xs b ys)))
unfolding over
head_over out a k claim code xs b ys = go (fits_head claim code (length b))
  where
    go : (f : Bool)
        → pick f (pick (leb (a + length (spell_head claim code (length b)) + length b) longest)
        (this (stood (under_head (sets out (a + kept_bytes claim) b) a claim code (length b)) (a + length (spell_head claim code (length b)) + length b) (k + length xs))) cannot) cannot
        ≡ over out a k (pick f (this (made xs (spell_head claim code (length b) ++ b) ys)) cannot)
    go false = refl
    go true =
        let q : a + length (spell_head claim code (length b)) + length b ≡ a + length (spell_head claim code (length b) ++ b) = rw length-append (omega arith) in
        rw (under_head_lem out b a claim code, q)

-- THE law of the header: what stands behind the bytes kept from a on gets it
pub shut_over : (out l : List ℕ) (a k : ℕ) (claim : Bool) (code p j : ℕ) (m : Possible Made) → this (stood l p j) ≡ over out (a + kept_bytes claim) k m
    → head_at l a claim code (p - (a + kept_bytes claim)) j ≡ over out a k (shut claim code m)
shut_over out l a k claim code p j m e =
    let s : StoodBy out (a + kept_bytes claim) k l p j m = stood_by out (a + kept_bytes claim) k l p j m e in
    let n : p - (a + kept_bytes claim) ≡ length s.b = omega (arith, s.place) in
    ap (λ (x : List ℕ). head_at x a claim code (p - (a + kept_bytes claim)) j) s.laid
    ∙ ap₂ (λ (x y : ℕ). head_at (sets out (a + kept_bytes claim) s.b) a claim code x y) n s.index
    ∙ head_over out a k claim code s.xs s.b s.ys
    ∙ sym (ap (λ (x : Possible Made). over out a k (shut claim code x)) s.is)

-- and what no file has, none has with a header
pub shut_fell : (out : List ℕ) (a k : ℕ) (claim : Bool) (code : ℕ) (m : Possible Made) → cannot ≡ over out (a + kept_bytes claim) k m → cannot ≡ over out a k (shut claim code m)
unfolding over
shut_fell out a k claim code cannot e = refl
shut_fell out a k claim code (this (made xs b ys)) e = go (leb (a + kept_bytes claim + length b) longest) refl e (fits_head claim code (length b))
  where
    go : (c : Bool) → leb (a + kept_bytes claim + length b) longest ≡ c
        → cannot ≡ pick c (this (stood (sets out (a + kept_bytes claim) b) (a + kept_bytes claim + length b) (k + length xs))) cannot
        → (f : Bool) → cannot ≡ over out a k (pick f (this (made xs (spell_head claim code (length b) ++ b) ys)) cannot)
    go true q w f = clash cc
    go false q w false = refl
    go false q w true =
        rw (lt-leb (a + length (spell_head claim code (length b) ++ b)) longest
        (rw length-append (omega (arith, leb-false (a + kept_bytes claim + length b) longest q, head_kept claim code (length b)))))

-- what the header's code asks for
pub shut_after : (out l : List ℕ) (a k : ℕ) (claim : Bool) (p j : ℕ) (m : Possible Made) → this (stood l p j) ≡ over out (a + kept_bytes claim) k m → (a + kept_bytes claim ≤ p) × (p ≤ longest)
shut_after out l a k claim p j m e = let s = stood_by out (a + kept_bytes claim) k l p j m e in (omega (arith, s.place), s.small)

-- a whole tag takes two bytes at least
pub shut_place : (out u : List ℕ) (a k : ℕ) (claim : Bool) (code p j : ℕ) (m : Possible Made) → this (stood u p j) ≡ over out a k (shut claim code m) → (a + 2 ≤ p) × (p ≤ longest)
unfolding over
shut_place out u a k claim code p j cannot e = clash cc
shut_place out u a k claim code p j (this (made xs b ys)) e = go (fits_head claim code (length b)) e
  where
    go : (c : Bool) → this (stood u p j) ≡ over out a k (pick c (this (made xs (spell_head claim code (length b) ++ b) ys)) cannot) → (a + 2 ≤ p) × (p ≤ longest)
    go false w = clash cc
    go true w =
        let s = stood_by out a k u p j (this (made xs (spell_head claim code (length b) ++ b) ys)) w in
        let d : spell_head claim code (length b) ++ b ≡ s.b = go' s.xs s.b s.ys s.is in
        (omega (arith, s.place, ap length d, length-append (spell_head claim code (length b)) b, spell_two claim code (length b)), s.small)
      where
        go' : (xs' b' ys' : List ℕ) → this (made xs (spell_head claim code (length b) ++ b) ys) ≡ this (made xs' b' ys') → spell_head claim code (length b) ++ b ≡ b'
        go' xs' b' ys' z = cc

pub parts_shut : (ns : List ℕ) (claim : Bool) (code : ℕ) (m : Possible Made) → Parts ns m → Parts ns (shut claim code m)
parts_shut ns claim code cannot h = tt
parts_shut ns claim code (this (made xs b ys)) h = go (fits_head claim code (length b))
  where
    go : (c : Bool) → Parts ns (pick c (this (made xs (spell_head claim code (length b) ++ b) ys)) cannot)
    go true = h
    go false = tt

-- ---- what stands in a tag

pub parts_begun : (o : Order) (claim : Bool) (class : Class) (ns : List ℕ) → Parts ns (begun o claim class ns)
parts_begun o claim class [] = tt
parts_begun o claim class (code ∷ []) = tt
parts_begun o claim class (code ∷ s ∷ []) = tt
parts_begun o claim class (code ∷ s ∷ n ∷ ns) = go (leb n (length ns)) (body_in o claim class code s (take n ns))
  where
    go : (c : Bool) (z : Possible (List ℕ)) → Parts (code ∷ s ∷ n ∷ ns) (pick c (body_of (code ∷ s ∷ n ∷ take n ns) z (drop n ns)) cannot)
    go true (this b) = ap (λ (l : List ℕ). code ∷ s ∷ n ∷ l) (sym (take-append-drop n ns))
    go true cannot = tt
    go false z = tt

module _ (o : Order) (claim : Bool) (class : Class) (t : List ℕ) (k : ℕ) where
  begun_few : length t - k < 3 → begun o claim class (drop k t) ≡ cannot
  begun_few h = go (drop k t) (rw length-drop h)
    where
      go : (ns : List ℕ) → length ns < 3 → begun o claim class ns ≡ cannot
      go [] e = refl
      go (x ∷ []) e = refl
      go (x ∷ y ∷ []) e = refl
      go (x ∷ y ∷ z ∷ ns) e = absurd (omega arith)

  module _ (some : 3 ≤ length t - k) where
    three : drop k t ≡ get_or t k 0 ∷ get_or t (k + 1) 0 ∷ get_or t (k + 2) 0 ∷ drop (k + 3) t
    three =
        let p : k + 1 ≡ suc k = omega arith in
        let q : k + 2 ≡ suc (suc k) = omega arith in
        let r : k + 3 ≡ suc (suc (suc k)) = omega arith in
        rw (p, q, r)
        (drop-cons t k 0 (omega arith)
        ∙ ap (λ (l : List ℕ). get_or t k 0 ∷ l)
        (drop-cons t (suc k) 0 (omega arith) ∙ ap (λ (l : List ℕ). get_or t (suc k) 0 ∷ l) (drop-cons t (suc (suc k)) 0 (omega arith))))

    begun_cut : length t - k - 3 < get_or t (k + 2) 0 → begun o claim class (drop k t) ≡ cannot
    begun_cut l = rw (three, lt-leb (get_or t (k + 2) 0) (length (drop (k + 3) t)) (omega (arith, length-drop (k + 3) t)))

    module _ (fits : get_or t (k + 2) 0 ≤ length t - k - 3) where
      begun_is : begun o claim class (drop k t)
          ≡ body_of (get_or t k 0 ∷ get_or t (k + 1) 0 ∷ get_or t (k + 2) 0 ∷ take (get_or t (k + 2) 0) (drop (k + 3) t))
          (body_in o claim class (get_or t k 0) (get_or t (k + 1) 0) (take (get_or t (k + 2) 0) (drop (k + 3) t))) (drop (get_or t (k + 2) 0) (drop (k + 3) t))
      begun_is = rw (three, le-leb (get_or t (k + 2) 0) (length (drop (k + 3) t)) (omega (arith, length-drop (k + 3) t)))

      begun_state : (get_or t (k + 1) 0 ≡ is_read (bare class) + pick claim 2 0 → ⊥) → begun o claim class (drop k t) ≡ cannot
      begun_state h = begun_is ∙ rw (ne_eqb (get_or t (k + 1) 0) (is_read (bare class) + pick claim 2 0) h)

-- ---- where a tag's values end, as the code finds it
module _ (claim : Bool) (class : Class) (t : List ℕ) (k : ℕ) where
  pub end_few : length t - k < 3 → (o : Order) → begun o claim class (drop k t) ≡ cannot
  end_few h o = begun_few o claim class t k h

  pub end_cut : 3 ≤ length t - k → length t - k - 3 < get_or t (k + 2) 0 → (o : Order) → begun o claim class (drop k t) ≡ cannot
  end_cut some l o = begun_cut o claim class t k some l

  pub end_state : 3 ≤ length t - k → get_or t (k + 2) 0 ≤ length t - k - 3 → (get_or t (k + 1) 0 ≡ is_read (bare class) + pick claim 2 0 → ⊥) → (o : Order) → begun o claim class (drop k t) ≡ cannot
  end_state some fits h o = begun_state o claim class t k some fits h

-- ---- whether a list follows, by the last number of the tag

-- of its values, or their count where there are none
last_value : (n : ℕ) (ns : List ℕ) → n ≤ length ns → get_or (take n ns) (length (take n ns) - 1) 0 ≡ get_or (n ∷ ns) n 0
last_value zero ns h = refl
last_value (suc n) ns h =
    let e : length (take (suc n) ns) - 1 ≡ n = omega (arith, length-take-le (suc n) ns h) in
    ap (λ (i : ℕ). get_or (take (suc n) ns) i 0) e ∙ get_or-take (suc n) ns n 0 (omega arith)

list_in_lem : (class : Class) (code : ℕ) (vs : List ℕ) {last : ℕ} → get_or vs (length vs - 1) 0 ≡ last → list_in class code vs ≡ list_by class code last
unfolding leaf_body
list_in_lem Opaque code vs e = refl
list_in_lem End code vs e = refl
list_in_lem Container code vs {last} e = own (is_block code) refl
  where
    own : (c : Bool) → is_block code ≡ c → has_list (leaf_body code) vs ≡ pick (is_block code) (eqb last 1) true
    own true b = rw (b, e)
    own false b = rw b
list_in_lem Fixed code vs e = refl
list_in_lem Attributes code vs e = refl

-- the numbers that were used up of a tag: three, and its values
pub record Used (class : Class) (ns xs : List ℕ) : Type 0 where
  pub some : 3 ≤ length xs
  pub list : (code : ℕ) → code ≡ the ns → list_of class ns ≡ list_by class code (get_or ns (length xs - 1) 0)

used_of : (o : Order) (claim : Bool) (class : Class) (ns xs b ys : List ℕ) → begun o claim class ns ≡ this (made xs b ys) → Used class ns xs
used_of o claim class [] xs b ys e = clash cc
used_of o claim class (code ∷ []) xs b ys e = clash cc
used_of o claim class (code ∷ s ∷ []) xs b ys e = clash cc
used_of o claim class (code ∷ s ∷ n ∷ ns) xs b ys e = go (leb n (length ns)) refl (body_in o claim class code s (take n ns)) e
  where
    go : (c : Bool) → leb n (length ns) ≡ c → (z : Possible (List ℕ)) → pick c (body_of (code ∷ s ∷ n ∷ take n ns) z (drop n ns)) cannot ≡ this (made xs b ys) → Used class (code ∷ s ∷ n ∷ ns) xs
    go true q (this b') e =
        let l : n ≤ length ns = leb-true n (length ns) q in
        let x : xs ≡ code ∷ s ∷ n ∷ take n ns = cc in
        let i : length xs ≡ suc (suc (suc n)) = ap length x ∙ ap (λ (m : ℕ). suc (suc (suc m))) (length-take-le n ns l) in
        let j : length xs - 1 ≡ suc (suc n) = omega (arith, i) in
        record {
          some = omega (arith, i);
          list = λ k d. list_in_lem class code (take n ns) (last_value n ns l) ∙ ap₂ (λ (m p : ℕ). list_by class m (get_or (code ∷ s ∷ n ∷ ns) p 0)) (sym d) (sym j);
        }
    go true q cannot e = clash cc
    go false q z e = clash cc

-- by its answer, whose index is j
pub list_by_lem : (o : Order) (claim : Bool) (class : Class) (t : List ℕ) (k code : ℕ) (out : List ℕ) (b : ℕ) (u : List ℕ) (p j : ℕ) → k < length t → code ≡ get_or t k 0 → this (stood u p j) ≡ over out b k (begun o claim class (drop k t))
    → (k + 3 ≤ j) × (j ≤ length t) × (list_by class code (get_or t (j - 1) 0) ≡ list_of class (drop k t))
list_by_lem o claim class t k code out b u p j h is e =
    let s : StoodBy out b k u p j (begun o claim class (drop k t)) = stood_by out b k u p j (begun o claim class (drop k t)) e in
    let x : Used class (drop k t) s.xs = used_of o claim class (drop k t) s.xs s.b s.ys s.is in
    let d : drop k t ≡ s.xs ++ s.ys = parts_of (drop k t) s.xs s.b s.ys (begun o claim class (drop k t)) s.is (parts_begun o claim class (drop k t)) in
    let f : code ≡ the (drop k t) = is ∙ sym (ap the (drop-cons t k 0 h)) in
    let i : k + (length s.xs - 1) ≡ j - 1 = omega (arith, s.index, x.some) in (
      omega (arith, s.index, x.some),
      omega (arith, s.index, ap length d, length-append s.xs s.ys, length-drop k t),
      sym (x.list code f ∙ ap (list_by class code) (get_or-drop k t (length s.xs - 1) 0 ∙ ap (λ (n : ℕ). get_or t n 0) i)),
    )

-- they are not all there
pub begun_none : (o : Order) (claim : Bool) (class : Class) (t : List ℕ) (k : ℕ) (out : List ℕ) (b : ℕ) → ((o : Order) → begun o claim class (drop k t) ≡ cannot) → cannot ≡ over out b k (begun o claim class (drop k t))
unfolding over
begun_none o claim class t k out b v = sym (ap (over out b k) (v o))

pub whole_none : (o : Order) (claim : Bool) (class : Class) (code : ℕ) (t : List ℕ) (k : ℕ) (out : List ℕ) (b : ℕ) → ((o : Order) → begun o claim class (drop k t) ≡ cannot) → cannot ≡ over out b k (shut claim code (begun o claim class (drop k t)))
unfolding over
whole_none o claim class code t k out b v = sym (ap (λ (m : Possible Made). over out b k (shut claim code m)) (v o))

-- where the code answers that no file has the tags
pub err_stood : (u : List ℕ) (R : Result Reached Impossible) {x : Possible Stood} → IsErr R → cannot ≡ x → stood_as u R ≡ x
err_stood u (Ok r) h e = cc
err_stood u (Err z) h e = e

-- ---- the answer of a function that writes a body, as that of one that writes tags up to index e
abbrev pub standing : ℕ → Result BytePlace Impossible → Result Reached Impossible
standing e (Ok p) = Ok (record { place = p; index = e })
standing e (Err z) = Err z

placed : (out u : List ℕ) (b k e : ℕ) (xs ys : List ℕ) (R : Result BytePlace Impossible) (z : Possible (List ℕ)) → lain_as u R ≡ lies out b z → k + length xs ≡ e → stood_as u (standing e R) ≡ over out b k (body_of xs z ys)
unfolding over lies
placed out u b k e xs ys (Err z) cannot q i = refl
placed out u b k e xs ys (Ok p) cannot q i = clash cc
placed out u b k e xs ys R (this bs) q i = go R (leb (b + length bs) longest) q
  where
    go : (R : Result BytePlace Impossible) (c : Bool) → lain_as u R ≡ pick c (this (lain (sets out b bs) (b + length bs))) cannot
        → stood_as u (standing e R) ≡ pick c (this (stood (sets out b bs) (b + length bs) (k + length xs))) cannot
    go (Ok p) true w = let x : u ≡ sets out b bs = cc in let y : p.0 ≡ b + length bs = cc in rw (← x, ← y, i)
    go (Ok p) false w = clash cc
    go (Err z) true w = clash cc
    go (Err z) false w = refl

shut_body : (claim : Bool) (code : ℕ) (xs ys : List ℕ) (z : Possible (List ℕ)) → shut claim code (body_of xs z ys) ≡ body_of xs (under_header claim code z) ys
shut_body claim code xs ys cannot = refl
shut_body claim code xs ys (this b) = go (fits_head claim code (length b))
  where
    go : (f : Bool) → pick f (this (made xs (spell_head claim code (length b) ++ b) ys)) cannot ≡ body_of xs (pick f (this (spell_head claim code (length b) ++ b)) cannot) ys
    go true = refl
    go false = refl

module _ (o : Order) (claim : Bool) (class : Class) (t : List ℕ) (k : ℕ) {e : ℕ} (there : ValuesThere claim class t k e) (code : ℕ) (coded : code ≡ get_or t k 0) where
  abbrev vs : List ℕ
  vs = take (e - (k + 3)) (drop (k + 3) t)

  count_is : get_or t (k + 2) 0 ≡ e - (k + 3)
  count_is = omega (arith, there.end)

  begun_body : begun o claim class (drop k t) ≡ body_of (code ∷ get_or t (k + 1) 0 ∷ get_or t (k + 2) 0 ∷ vs) (values_in o class code vs) (drop (e - (k + 3)) (drop (k + 3) t))
  begun_body =
      begun_is o claim class t k there.some there.all
      ∙ rw (eq-eqb (get_or t (k + 1) 0) (is_read (bare class) + pick claim 2 0) there.state, ← coded)
      (ap (λ (n : ℕ). body_of (code ∷ get_or t (k + 1) 0 ∷ get_or t (k + 2) 0 ∷ take n (drop (k + 3) t)) (values_in o class code (take n (drop (k + 3) t))) (drop n (drop (k + 3) t))) count_is)

  used : k + length (code ∷ get_or t (k + 1) 0 ∷ get_or t (k + 2) 0 ∷ vs) ≡ e
  used = omega (arith, there.end, there.some, there.all, length-take-le (e - (k + 3)) (drop (k + 3) t) (rw length-drop (omega (arith, there.end, there.some, there.all))))

  -- its values were put, by the answer of `write_tag_values`
  pub begun_put : (out u : List ℕ) (R : Result BytePlace Impossible) {b p : ℕ} → p ≡ b → lain_as u R ≡ lies out p (values_in o class code vs) → stood_as u (standing e R) ≡ over out b k (begun o claim class (drop k t))
  begun_put out u R {b} {p} q laid =
      placed out u b k e (code ∷ get_or t (k + 1) 0 ∷ get_or t (k + 2) 0 ∷ vs) (drop (e - (k + 3)) (drop (k + 3) t)) R (values_in o class code vs)
      (laid ∙ ap (λ (x : ℕ). lies out x (values_in o class code vs)) q) used
      ∙ ap (over out b k) (sym begun_body)

  -- an opaque tag was put whole, by the answer of `write_tag`
  pub whole_put : (out u : List ℕ) (b : ℕ) (R : Result BytePlace Impossible) → lain_as u R ≡ lies out b (under_header claim code (values_in o class code vs)) → stood_as u (standing e R) ≡ over out b k (shut claim code (begun o claim class (drop k t)))
  whole_put out u b R laid =
      placed out u b k e (code ∷ get_or t (k + 1) 0 ∷ get_or t (k + 2) 0 ∷ vs) (drop (e - (k + 3)) (drop (k + 3) t)) R (under_header claim code (values_in o class code vs)) laid used
      ∙ ap (over out b k) (sym (ap (shut claim code) begun_body ∙ shut_body claim code (code ∷ get_or t (k + 1) 0 ∷ get_or t (k + 2) 0 ∷ vs) (drop (e - (k + 3)) (drop (k + 3) t)) (values_in o class code vs)))
