-- The round trip of tag lists.
use Prim.Native.Nat.{ℕ, zero, suc, pred, ◌+◌, ◌-◌, ◌*◌, ◌/◌, ◌^◌, ◌≤◌, ◌<◌}
use mathlib.Core.List.{List, [], ◌∷◌, ◌++◌, append_assoc, append-nil}
use mathlib.Core.Path.{◌≡◌, refl, ap, ap₂, sym, ◌∙◌, subst}
use mathlib.Core.Bool.{Bool, true, false}
use lib.ListN.{length, length-append, take, drop, take-append-drop, length-drop}
use lib.Seq.{take-append_seam, drop-append_seam, length-take-le, drop-drop}
use lib.Dec.{ltb, leb, eqb}
use borrow.Author.Tests.{ltb-true, leb-true, eqb-true, lt-ltb, le-ltb, le-leb}
use native.Mathlib.Omega.{arith}
use Rattle.format.specs.Tests.{pick}
use Rattle.format.specs.Bits.{AllBytes, Order}
use Rattle.format.specs.Reading.{Ending, At, Fault, Reading, shows}
use Rattle.format.specs.Formats.{the}
use Rattle.format.specs.Bodies.{Body, to_end, read_body}
use Rattle.format.specs.FileAndTags.{Class, opaque, end, container, known, is_end, is_container, is_read, long_on_short, state_of, packed, Tag, Outcome, whole, fault, Walk, chain, Head, head, no_head, raw_head, passes, read_head, Owner, inside, TagInside, leaf, has_list, opened, within, at_end, after_tag, tag_then, one_tag, walk_list}
use Rattle.format.specs.TableOfNumbers.{numbers}
use Rattle.format.specs.Possible.{Possible, this, cannot}
use Rattle.format.specs.WritingBodies.{write_body}
use Rattle.format.specs.WritingFiles.{Made, made, claims, fits_state, spell_head, fits_head, unpacked_as, body_of, joined, fill, out_tag, headed, out_one, unwalk_list}
use Rattle.format.proofs.BodyLaws.{body_shown, front_there, front_back, body_there, body_back, ReadIf}
use Rattle.format.proofs.ByteLaws.{bytes_append, bytes_take, bytes_drop}
use Rattle.format.proofs.EngineLaws.{numbers_append}
use Rattle.format.proofs.HeadLaws.{Lengths, head_back, claim_back, HeadIf, head_there, spell_two, spell_bytes}
use Rattle.format.proofs.StateLaws.{state_fits, state_claims}
use Rattle.format.proofs.PackLaws.{unpacked_there, PackedIf, unpacked_back}
use Rattle.format.proofs.ListLaws.{list_nil, list_one, unlist_nil, unlist_one}
use Rattle.format.proofs.WalkLaws.{Fits, head_fits}
use Rattle.format.proofs.Absurd.{clash}

-- the values are cut off and put back
cut_back : (n : ℕ) (vs ys : List ℕ) → length vs ≡ n → (take n (vs ++ ys) ≡ vs) × (drop n (vs ++ ys) ≡ ys) × (leb n (length (vs ++ ys)) ≡ true)
cut_back n vs ys e =
    (rw (← e) (take-append_seam vs ys), rw (← e) (drop-append_seam vs ys), le-leb n (length (vs ++ ys)) (rw length-append (omega arith)))

-- the numbers of a tag with the state s, but for its code
abbrev pub in_numbers : ℕ → TagInside → List ℕ
in_numbers s i = s ∷ length i.values ∷ (i.values ++ numbers i.walk.tags)

abbrev pub WholeIf : Outcome → Type 0 → Type 0
WholeIf whole A = A
WholeIf (fault e n) A = Unit {0}

-- the numbers xs are written as the bytes b, whatever follows them
abbrev pub Again : (List ℕ → Possible Made) → List ℕ → List ℕ → Type 0
Again W xs b = (ys : List ℕ) → W (xs ++ ys) ≡ this (made xs b ys)

module _ (o : Order) where
  -- values, and the numbers of the list inside
  again_fill : (W : List ℕ → Possible Made) (left : ℕ) (cl : Class) (s : ℕ) (vs cs body : List ℕ) → fits_state cl s ≡ true
      → ((ys : List ℕ) → fill o W left cl s (length vs) vs (cs ++ ys) ≡ this (made (s ∷ length vs ∷ (vs ++ cs)) body ys)) → Again (out_tag o W left cl) (s ∷ length vs ∷ (vs ++ cs)) body
  again_fill W left cl s vs cs body k f ys =
      let c : (take (length vs) (vs ++ (cs ++ ys)) ≡ vs) × (drop (length vs) (vs ++ (cs ++ ys)) ≡ cs ++ ys) × (leb (length vs) (length (vs ++ (cs ++ ys))) ≡ true) = cut_back (length vs) vs (cs ++ ys) refl in
      rw (append_assoc vs cs ys, c.2, c.0, c.1, k) (f ys)

-- ---- what is read is written again
module _ (o : Order) (class : ℕ → Class) where
  abbrev ListThere : ℕ → Type 0
  ListThere n = (left : ℕ) (c : Owner) (a : ℕ) (r : List ℕ) → length r ≤ n → AllBytes r
      → WholeIf (walk_list o class left c a r).ended (Again (unwalk_list o class left) (numbers (walk_list o class left c a r).tags) r)

  module _ (n : ℕ) (lists : ListThere n) where
    -- a tag that is written as its body alone
    leaf_there : (left : ℕ) (cl : Class) (y : Body) (st a : ℕ) (body : List ℕ) → fits_state cl st ≡ true → AllBytes body
        → ((ys : List ℕ) → fill o (unwalk_list o class (pred left)) left cl st (length (read_body o y body).shown) (read_body o y body).shown ys
        ≡ body_of (st ∷ length (read_body o y body).shown ∷ (read_body o y body).shown) (write_body o y (read_body o y body).shown) ys)
        → WholeIf (leaf a (read_body o y body)).walk.ended (Again (out_tag o (unwalk_list o class (pred left)) left cl) (in_numbers st (leaf a (read_body o y body))) body)
    leaf_there left cl y st a body k h fills = go (read_body o y body).ended refl (body_there o y body h)
      where
        go : (z : Ending) → (read_body o y body).ended ≡ z → ReadIf o y body (read_body o y body).shown (read_body o y body).ended
            → WholeIf (leaf a (read_body o y body)).walk.ended (Again (out_tag o (unwalk_list o class (pred left)) left cl) (in_numbers st (leaf a (read_body o y body))) body)
        go (Fault e) eq u = rw eq tt
        go (At q) eq u =
            let v : write_body o y (read_body o y body).shown ≡ this body = rw eq at u in
            rw eq (again_fill o (unwalk_list o class (pred left)) left cl st (read_body o y body).shown [] body k (λ ys. fills ys ∙ rw (v, append-nil)))

    tag_there : (left : ℕ) (cl : Class) (st a s : ℕ) (body : List ℕ) → fits_state cl st ≡ true → length body ≤ n → AllBytes body
        → pick (is_end cl) (ltb 0 (length body)) false ≡ false → pick (is_container cl) (eqb left 0) false ≡ false
        → WholeIf (within o (walk_list o class (pred left)) cl a s body).walk.ended
        (Again (out_tag o (unwalk_list o class (pred left)) left cl) (in_numbers st (within o (walk_list o class (pred left)) cl a s body)) body)
    tag_there left opaque st a s body k l h he hc =
        again_fill o (unwalk_list o class (pred left)) left opaque st (packed body) [] body k (λ ys. rw (unpacked_there body h, append-nil))
    tag_there left end st a s [] k l h he hc = again_fill o (unwalk_list o class (pred left)) left end st [] [] [] k (λ ys. refl)
    tag_there left end st a s (x ∷ body) k l h he hc =
        absurd (let t : ltb 0 (suc (length body)) ≡ true = lt-ltb 0 (suc (length body)) (omega arith) in clash cc)
    tag_there left (known y) st a s body k l h he hc = leaf_there left (known y) y st a body k h (λ ys. refl)
    tag_there left (container y) st a s body k l h he hc = test (has_list y (to_end o body y).shown) refl
      where
        R : Owner → ℕ → List ℕ → Walk
        R = walk_list o class (pred left)

        W : List ℕ → Possible Made
        W = unwalk_list o class (pred left)

        xs : List ℕ
        xs = (to_end o body y).shown

        goal : TagInside → Type 0
        goal i = WholeIf i.walk.ended (Again (out_tag o W left (container y)) (in_numbers st i) body)

        deep : (p : ℕ) → (to_end o body y).ended ≡ At p → has_list y xs ≡ true → (w : Walk) → WholeIf w.ended (Again W (numbers w.tags) (drop (p / 8) body)) → goal (record { values = xs; walk = w })
        deep p eq t w = at w.ended
          where
            at : (z : Outcome) → WholeIf z (Again W (numbers w.tags) (drop (p / 8) body)) → WholeIf z (Again (out_tag o W left (container y)) (st ∷ length xs ∷ (xs ++ numbers w.tags)) body)
            at (fault e n) i = tt
            at whole i = again_fill o W left (container y) st xs (numbers w.tags) body k (λ ys. rw (hc, t, front_there o y body p h eq, i ys, take-append-drop (p / 8) body))

        go : (z : Ending) → (to_end o body y).ended ≡ z → has_list y xs ≡ true → goal (opened R a s body xs (to_end o body y).ended)
        go (Fault e) eq t = rw eq tt
        go (At p) eq t = rw eq (deep p eq t (R (inside a) (s + p / 8) (drop (p / 8) body))
            (lists (pred left) (inside a) (s + p / 8) (drop (p / 8) body) (rw length-drop (omega arith)) (bytes_drop (p / 8) body h)))

        test : (c : Bool) → has_list y xs ≡ c → goal (pick c (opened R a s body xs (to_end o body y).ended) (leaf a (read_body o y body)))
        test true t = go (to_end o body y).ended refl t
        test false t = leaf_there left (container y) y st a body k h (λ ys. rw (hc, body_shown o y body, t))

    -- one tag, and what follows it
    one_there : (left : ℕ) (c : Owner) (a : ℕ) (r : List ℕ) → length r ≤ suc n → AllBytes r → (g : Head) → Fits class left r g → HeadIf r g
        → WholeIf (one_tag o class (walk_list o class) left c a r g).ended (Again (unwalk_list o class left) (numbers (one_tag o class (walk_list o class) left c a r g).tags) r)
    one_there left c a r l b (no_head e) h u = tt
    one_there left c a r l b (head code len size) h u = content i.walk.ended (tag_there left (class code) st a (a + size) body (state_fits (class code) claim) (omega (arith, h.0, h.1, body_length_lem))
        (bytes_take len (drop size r) (bytes_drop size r b)) (rw body_length_lem h.2) h.3)
      where
        R : ℕ → Owner → ℕ → List ℕ → Walk
        R = walk_list o class

        U : ℕ → List ℕ → Possible Made
        U = unwalk_list o class

        claim : Bool
        claim = long_on_short size len

        st : ℕ
        st = state_of (class code) size len

        body : List ℕ
        body = take len (drop size r)

        over : List ℕ
        over = drop (size + len) r

        i : TagInside
        i = within o (R (pred left)) (class code) a (a + size) body

        body_length_lem : length body ≡ len
        body_length_lem = length-take-le len (drop size r) (rw length-drop (omega (arith, h.1)))

        room : spell_head claim code len ++ (body ++ over) ≡ r
        room = rw (← drop-drop len size r, take-append-drop len (drop size r)) (sym u.room)

        fits : (k : ℕ) → k ≡ len → fits_head claim code k ≡ true
        fits k e = rw (lt-ltb code 1024 u.coded, e) (lt-ltb len (pick claim 63 (2 ^ 32)) u.lengths)

        split : (w : Walk) → numbers (record { depth = 8 - left; code = code; place = a; header_size = size; body_length = len; state = st; values = i.values } ∷ (i.walk.tags ++ w.tags)) ≡ code ∷ (in_numbers st i ++ numbers w.tags)
        split w = ap (λ (l : List ℕ). code ∷ st ∷ length i.values ∷ l)
            (ap (λ (l : List ℕ). i.values ++ l) (numbers_append i.walk.tags w.tags) ∙ sym (append_assoc i.values (numbers i.walk.tags) (numbers w.tags)))

        last : (zs : List ℕ) → is_end (class code) ≡ true → over ≡ [] → Again (out_tag o (U (pred left)) left (class code)) (st ∷ zs) body → Again (U left) (code ∷ st ∷ (zs ++ [])) r
        last zs e q f ys =
            let v : spell_head claim code len ++ body ≡ r = rw (q, append-nil) at room in
            unlist_one o class left code (st ∷ ((zs ++ []) ++ ys)) ∙ subst (λ (k : List ℕ). out_one o class U left (code ∷ st ∷ (k ++ ys)) ≡ this (made (code ∷ st ∷ k) r ys)) (sym (append-nil zs))
            (rw (e, f ys, state_claims (class code) claim, fits (length body) body_length_lem, body_length_lem, v))

        more : (zs cs : List ℕ) → is_end (class code) ≡ false → Again (U left) cs over → Again (out_tag o (U (pred left)) left (class code)) (st ∷ zs) body → Again (U left) (code ∷ st ∷ (zs ++ cs)) r
        more zs cs e k f ys = unlist_one o class left code (st ∷ ((zs ++ cs) ++ ys))
            ∙ rw (append_assoc zs cs ys, e, f (cs ++ ys), state_claims (class code) claim, fits (length body) body_length_lem, body_length_lem, k ys, append_assoc (spell_head claim code len) body over, room)

        after : (e : Bool) → is_end (class code) ≡ e → Again (out_tag o (U (pred left)) left (class code)) (in_numbers st i) body
            → WholeIf (after_tag e c (a + size + len) over (R left c)).ended (Again (U left) (code ∷ (in_numbers st i ++ numbers (after_tag e c (a + size + len) over (R left c)).tags)) r)
        after true e f = at over refl
          where
            at : (q : List ℕ) → over ≡ q → WholeIf (at_end c (a + size + len) q).ended (Again (U left) (code ∷ (in_numbers st i ++ numbers (at_end c (a + size + len) q).tags)) r)
            at [] q = last (length i.values ∷ (i.values ++ numbers i.walk.tags)) e q f
            at (x ∷ q) p = tt
        after false e f = at (R left c (a + size + len) over).ended (lists left c (a + size + len) over (rw length-drop (omega (arith, h.0, h.1))) (bytes_drop (size + len) r b))
          where
            cs : List ℕ
            cs = numbers (R left c (a + size + len) over).tags

            at : (z : Outcome) → WholeIf z (Again (U left) cs over) → WholeIf z (Again (U left) (code ∷ (in_numbers st i ++ cs)) r)
            at (fault e n) k = tt
            at whole k = more (length i.values ∷ (i.values ++ numbers i.walk.tags)) cs e k f

        content : (z : Outcome) → WholeIf z (Again (out_tag o (U (pred left)) left (class code)) (in_numbers st i) body)
            → WholeIf (chain (record { depth = 8 - left; code = code; place = a; header_size = size; body_length = len; state = st; values = i.values } ∷ i.walk.tags) z (after_tag (is_end (class code)) c (a + size + len) over (R left c))).ended
            (Again (U left) (numbers (chain (record { depth = 8 - left; code = code; place = a; header_size = size; body_length = len; state = st; values = i.values } ∷ i.walk.tags) z (after_tag (is_end (class code)) c (a + size + len) over (R left c))).tags) r)
        content (fault e y) f = tt
        content whole f = subst (λ (xs : List ℕ). WholeIf (after_tag (is_end (class code)) c (a + size + len) over (R left c)).ended (Again (U left) xs r))
            (sym (split (after_tag (is_end (class code)) c (a + size + len) over (R left c)))) (after (is_end (class code)) refl f)

  -- a header that passed is spelt as one that stands there
  passed_there : (left : ℕ) (r : List ℕ) → AllBytes r → HeadIf r (read_head class left r)
  passed_there left r b = go (raw_head r) (head_there r b)
    where
      go : (g : Head) → HeadIf r g → HeadIf r (passes class left r g)
      go (no_head e) h = tt
      go (head code len size) h = at (ltb (length (drop size r)) len) (pick (is_end (class code)) (ltb 0 len) false) (pick (is_container (class code)) (eqb left 0) false)
        where
          at : (c d e : Bool) → HeadIf r (pick c (no_head 9) (pick d (no_head 10) (pick e (no_head 12) (head code len size))))
          at true d e = tt
          at false true e = tt
          at false false true = tt
          at false false false = h

  pub list_there : (n : ℕ) → ListThere n
  list_there zero left c a [] l b = rw (list_nil o class left c a) tt
  list_there zero left c a (x ∷ r) l b = absurd (omega arith)
  list_there (suc n) left c a [] l b = rw (list_nil o class left c a) tt
  list_there (suc n) left c a (x ∷ r) l b =
      subst (λ (w : Walk). WholeIf w.ended (Again (unwalk_list o class left) (numbers w.tags) (x ∷ r))) (sym (list_one o class left c a (x ∷ r) (omega arith)))
      (one_there n (list_there n) left c a (x ∷ r) l b (read_head class left (x ∷ r)) (head_fits class left (x ∷ r)) (passed_there left (x ∷ r) b))

-- ---- what is written is read again
abbrev pub Spelt : List ℕ → Walk → Type 0
Spelt xs w = (w.ended ≡ whole) × (numbers w.tags ≡ xs)

module _ (o : Order) (class : ℕ → Class) where
  abbrev pub ListIf : ℕ → List ℕ → Possible Made → Type 0
  ListIf left ns (this (made xs r ys)) = (ns ≡ xs ++ ys) × AllBytes r × ((c : Owner) (a : ℕ) → Spelt xs (walk_list o class left c a r))
  ListIf left ns cannot = Unit {0}

  abbrev TagIf : ℕ → Class → List ℕ → Possible Made → Type 0
  TagIf left cl ns (this (made xs body ys)) =
      (ns ≡ xs ++ ys) × AllBytes body × (pick (is_end cl) (ltb 0 (length body)) false ≡ false) × (pick (is_container cl) (eqb left 0) false ≡ false)
      × ((a s : ℕ) → ((within o (walk_list o class (pred left)) cl a s body).walk.ended ≡ whole) × (in_numbers (the ns) (within o (walk_list o class (pred left)) cl a s body) ≡ xs))
      × (fits_state cl (the ns) ≡ true)
  TagIf left cl ns cannot = Unit {0}

  -- a tag that is written as its body alone
  leaf_back : (left : ℕ) (cl : Class) (y : Body) (s k : ℕ) (vs ys : List ℕ) → fits_state cl s ≡ true → length vs ≡ k
      → ((body : List ℕ) → pick (is_end cl) (ltb 0 (length body)) false ≡ false) → pick (is_container cl) (eqb left 0) false ≡ false
      → ((a s' : ℕ) (body : List ℕ) → (read_body o y body).shown ≡ vs → within o (walk_list o class (pred left)) cl a s' body ≡ leaf a (read_body o y body))
      → TagIf left cl (s ∷ k ∷ (vs ++ ys)) (body_of (s ∷ k ∷ vs) (write_body o y vs) ys)
  leaf_back left cl y s k vs ys e l he hc flat = go (write_body o y vs) refl
    where
      go : (d : Possible (List ℕ)) → write_body o y vs ≡ d → TagIf left cl (s ∷ k ∷ (vs ++ ys)) (body_of (s ∷ k ∷ vs) (write_body o y vs) ys)
      go cannot e' = rw e' tt
      go (this b) e' =
          let u : AllBytes b × (read_body o y b ≡ shows vs (8 * length b)) = body_back o y b vs e' in
          rw e' (refl, u.0, he b, hc, λ a s'. rw (flat a s' b (ap (λ (r : Reading). r.shown) u.1), u.1) (refl, rw (l, append-nil)), e)

  fill_back : (left : ℕ) (cl : Class) (s k : ℕ) (vs ys : List ℕ) → fits_state cl s ≡ true → length vs ≡ k → ListIf (pred left) ys (unwalk_list o class (pred left) ys)
      → TagIf left cl (s ∷ k ∷ (vs ++ ys)) (fill o (unwalk_list o class (pred left)) left cl s k vs ys)
  fill_back left opaque s k vs ys e l i = go (unpacked_as vs) refl (unpacked_back vs)
    where
      go : (d : Possible (List ℕ)) → unpacked_as vs ≡ d → PackedIf vs d → TagIf left opaque (s ∷ k ∷ (vs ++ ys)) (fill o (unwalk_list o class (pred left)) left opaque s k vs ys)
      go cannot e' h = rw e' tt
      go (this b) e' h = rw e' (refl, h.0, refl, refl, λ a s'. (refl, ap (λ (z : List ℕ). s ∷ length z ∷ (z ++ [])) h.1 ∙ rw (l, append-nil)), e)
  fill_back left end s k vs ys e l i = go (eqb k 0) refl vs l
    where
      go : (d : Bool) → eqb k 0 ≡ d → (vs : List ℕ) → length vs ≡ k → TagIf left end (s ∷ k ∷ (vs ++ ys)) (fill o (unwalk_list o class (pred left)) left end s k vs ys)
      go false e' vs l = rw e' tt
      go true e' [] l = rw e' (refl, tt, refl, refl, λ a s'. (refl, rw (eqb-true k 0 e')), e)
      go true e' (x ∷ vs) l = absurd (omega (arith, eqb-true k 0 e'))
  fill_back left (known y) s k vs ys e l i = leaf_back left (known y) y s k vs ys e l (λ body. refl) refl (λ a s' body q. refl)
  fill_back left (container y) s k vs ys e l i = go (eqb left 0) refl (has_list y vs) refl (write_body o y vs) refl (unwalk_list o class (pred left) ys) refl
    where
      R : Owner → ℕ → List ℕ → Walk
      R = walk_list o class (pred left)

      W : List ℕ → Possible Made
      W = unwalk_list o class (pred left)

      join : (b cs body ys' : List ℕ) → eqb left 0 ≡ false → has_list y vs ≡ true → AllBytes b × ((rest : List ℕ) → to_end o (b ++ rest) y ≡ shows vs (8 * length b))
          → (ys ≡ cs ++ ys') × AllBytes body × ((c : Owner) (a : ℕ) → Spelt cs (R c a body))
          → TagIf left (container y) (s ∷ k ∷ (vs ++ ys)) (this (made (s ∷ k ∷ (vs ++ cs)) (b ++ body) ys'))
      join b cs body ys' h t u i =
          let d : drop (length b) (b ++ body) ≡ body = drop-append_seam b body in
          let z : 8 * length b / 8 ≡ length b = omega arith in (
            rw (i.0, append_assoc vs cs ys'),
            bytes_append b body u.0 i.1,
            refl,
            h,
            λ a s'. rw (u.1 body, t, z, d, ← l) ((i.2 (inside a) (s' + length b)).0, ap (λ (q : List ℕ). s ∷ length vs ∷ (vs ++ q)) (i.2 (inside a) (s' + length b)).1),
            e,
          )

      go : (c : Bool) → eqb left 0 ≡ c → (t : Bool) → has_list y vs ≡ t → (q : Possible (List ℕ)) → write_body o y vs ≡ q → (m : Possible Made) → W ys ≡ m
          → TagIf left (container y) (s ∷ k ∷ (vs ++ ys)) (fill o W left (container y) s k vs ys)
      go true h t e' q f m g = rw h tt
      go false h false e' q f m g = rw (h, e') (leaf_back left (container y) y s k vs ys e l (λ body. refl) h (λ a s' body q. rw (sym (body_shown o y body) ∙ q, e')))
      go false h true e' cannot f m g = rw (h, e', f) tt
      go false h true e' (this b) f cannot g = rw (h, e', f, g) tt
      go false h true e' (this b) f (this (made cs body ys')) g = rw (h, e', f, g) (join b cs body ys' h e' (front_back o y b vs f) (rw g at i))

  tag_back : (left : ℕ) (cl : Class) (ns : List ℕ) → ((ys : List ℕ) → length ys ≤ length ns → ListIf (pred left) ys (unwalk_list o class (pred left) ys))
      → TagIf left cl ns (out_tag o (unwalk_list o class (pred left)) left cl ns)
  tag_back left cl [] i = tt
  tag_back left cl (s ∷ []) i = tt
  tag_back left cl (s ∷ k ∷ ns) i = go (leb k (length ns)) refl (fits_state cl s) refl
    where
      W : List ℕ → Possible Made
      W = unwalk_list o class (pred left)

      go : (c : Bool) → leb k (length ns) ≡ c → (d : Bool) → fits_state cl s ≡ d
          → TagIf left cl (s ∷ k ∷ ns) (pick (leb k (length ns)) (pick d (fill o W left cl s k (take k ns) (drop k ns)) cannot) cannot)
      go false e d f = rw e tt
      go true e false f = rw e tt
      go true e true f = rw e (rw (take-append-drop k ns) at
          (fill_back left cl s k (take k ns) (drop k ns) f (length-take-le k ns (leb-true k (length ns) e)) (i (drop k ns) (rw length-drop (omega arith)))))

  -- a tag that was put together is read as it was
  one_read : (left : ℕ) (c : Owner) (a code s : ℕ) (body rest : List ℕ) → code < 1024 → Lengths (claims s) (length body) → fits_state (class code) s ≡ true
      → pick (is_end (class code)) (ltb 0 (length body)) false ≡ false → pick (is_container (class code)) (eqb left 0) false ≡ false
      → walk_list o class left c a (spell_head (claims s) code (length body) ++ (body ++ rest))
      ≡ tag_then (8 - left) code a (length (spell_head (claims s) code (length body))) (length body) s
      (within o (walk_list o class (pred left)) (class code) a (a + length (spell_head (claims s) code (length body))) body)
      (after_tag (is_end (class code)) c (a + length (spell_head (claims s) code (length body)) + length body) rest (walk_list o class left c))
  one_read left c a code s body rest h l k he hc =
      let S : List ℕ = spell_head (claims s) code (length body) in
      let d : drop (length S) (S ++ (body ++ rest)) ≡ body ++ rest = drop-append_seam S (body ++ rest) in
      let e : drop (length S + length body) (S ++ (body ++ rest)) ≡ rest = sym (drop-drop (length body) (length S) (S ++ (body ++ rest))) ∙ ap (drop (length body)) d ∙ drop-append_seam body rest in
      list_one o class left c a (S ++ (body ++ rest)) (rw length-append (omega (arith, spell_two (claims s) code (length body))))
      ∙ rw (head_back (claims s) code (length body) (body ++ rest) h l, d, le-ltb (length (body ++ rest)) (length body) (rw length-append (omega arith)), he, hc)
      (rw (d, e, take-append_seam body rest) refl)
      ∙ ap (λ (z : ℕ). tag_then (8 - left) code a (length S) (length body) z (within o (walk_list o class (pred left)) (class code) a (a + length S) body)
      (after_tag (is_end (class code)) c (a + length S + length body) rest (walk_list o class left c)))
      (ap (λ (z : Bool). is_read (class code) + pick z 2 0) (claim_back (claims s) code (length body) l) ∙ sym (eqb-true s (is_read (class code) + pick (claims s) 2 0) k))

  -- the numbers of a tag, and of what follows it
  spelt_then : (d code a size len s : ℕ) (i : TagInside) (w : Walk) (zs cs : List ℕ) → i.walk.ended ≡ whole → in_numbers s i ≡ zs → Spelt cs w → Spelt (code ∷ (zs ++ cs)) (tag_then d code a size len s i w)
  spelt_then d code a size len s i w zs cs e q u = subst (λ (z : Outcome). Spelt (code ∷ (zs ++ cs)) (chain (t ∷ i.walk.tags) z w)) (sym e) (u.0, split ∙ ap₂ (λ (x y : List ℕ). code ∷ (x ++ y)) q u.1)
    where
      t : Tag
      t = record { depth = d; code = code; place = a; header_size = size; body_length = len; state = s; values = i.values }

      split : numbers (t ∷ (i.walk.tags ++ w.tags)) ≡ code ∷ (in_numbers s i ++ numbers w.tags)
      split = ap (λ (l : List ℕ). code ∷ s ∷ length i.values ∷ l)
          (ap (λ (l : List ℕ). i.values ++ l) (numbers_append i.walk.tags w.tags) ∙ sym (append_assoc i.values (numbers i.walk.tags) (numbers w.tags)))

  one_back : (left code : ℕ) (ns : List ℕ) → ((left : ℕ) (ys : List ℕ) → length ys ≤ length ns → ListIf left ys (unwalk_list o class left ys))
      → ListIf left (code ∷ ns) (out_one o class (unwalk_list o class) left (code ∷ ns))
  one_back left code ns lists = go (out_tag o (U (pred left)) left (class code) ns) (tag_back left (class code) ns (λ ys l. lists (pred left) ys l))
    where
      U : ℕ → List ℕ → Possible Made
      U = unwalk_list o class

      claim : Bool
      claim = claims (the ns)

      S : List ℕ → List ℕ
      S body = spell_head claim code (length body)

      last : (zs body ys : List ℕ) → code < 1024 → Lengths claim (length body) → is_end (class code) ≡ true → TagIf left (class code) ns (this (made zs body ys))
          → ListIf left (code ∷ ns) (this (made (code ∷ zs) (S body ++ body) ys))
      last zs body ys h l e u = (
        ap (λ (k : List ℕ). code ∷ k) u.0,
        bytes_append (S body) body (spell_bytes claim code (length body) h l) u.1,
        λ c a. subst (λ (k : List ℕ). Spelt (code ∷ k) (walk_list o class left c a (S body ++ body))) (append-nil zs)
            (subst (λ (k : List ℕ). Spelt (code ∷ (zs ++ [])) (walk_list o class left c a (S body ++ k))) (append-nil body)
            (subst (Spelt (code ∷ (zs ++ []))) (sym (one_read left c a code (the ns) body [] h l u.5 u.2 u.3))
            (spelt_then (8 - left) code a (length (S body)) (length body) (the ns) _ _ zs [] (u.4 a (a + length (S body))).0 (u.4 a (a + length (S body))).1 (rw e (refl, refl))))),
      )

      more : (zs body ys : List ℕ) → code < 1024 → Lengths claim (length body) → is_end (class code) ≡ false → TagIf left (class code) ns (this (made zs body ys))
          → (x : Possible Made) → ListIf left ys x → ListIf left (code ∷ ns) (joined (code ∷ zs) (S body ++ body) x)
      more zs body ys h l e u cannot v = tt
      more zs body ys h l e u (this (made cs rest ys')) v = (
        rw (u.0, v.0, append_assoc),
        bytes_append (S body ++ body) rest (bytes_append (S body) body (spell_bytes claim code (length body) h l) u.1) v.1,
        λ c a. subst (λ (k : List ℕ). Spelt (code ∷ (zs ++ cs)) (walk_list o class left c a k)) (sym (append_assoc (S body) body rest))
            (subst (Spelt (code ∷ (zs ++ cs))) (sym (one_read left c a code (the ns) body rest h l u.5 u.2 u.3))
            (spelt_then (8 - left) code a (length (S body)) (length body) (the ns) _ _ zs cs (u.4 a (a + length (S body))).0 (u.4 a (a + length (S body))).1
            (rw e (v.2 c (a + length (S body) + length body))))),
      )

      fit : (zs body ys : List ℕ) → TagIf left (class code) ns (this (made zs body ys)) → length ys ≤ length ns → (c : Bool) → ltb code 1024 ≡ c → (d : Bool) → ltb (length body) (pick claim 63 (2 ^ 32)) ≡ d
          → (e : Bool) → is_end (class code) ≡ e → ListIf left (code ∷ ns) (headed claim code e (this (made zs body ys)) (U left))
      fit zs body ys u s false f d g true e = rw f tt
      fit zs body ys u s false f d g false e = rw f tt
      fit zs body ys u s true f false g true e = rw (f, g) tt
      fit zs body ys u s true f false g false e = rw (f, g) tt
      fit zs body ys u s true f true g true e = rw (f, g) (last zs body ys (ltb-true code 1024 f) (ltb-true (length body) (pick claim 63 (2 ^ 32)) g) e u)
      fit zs body ys u s true f true g false e = rw (f, g) (more zs body ys (ltb-true code 1024 f) (ltb-true (length body) (pick claim 63 (2 ^ 32)) g) e u (U left ys) (lists left ys s))

      go : (x : Possible Made) → TagIf left (class code) ns x → ListIf left (code ∷ ns) (headed claim code (is_end (class code)) x (U left))
      go cannot u = tt
      go (this (made zs body ys)) u = fit zs body ys u (omega (arith, length-append zs ys, ap length u.0)) (ltb code 1024) refl (ltb (length body) (pick claim 63 (2 ^ 32))) refl (is_end (class code)) refl

  pub list_back : (n left : ℕ) (ns : List ℕ) → length ns ≤ n → ListIf left ns (unwalk_list o class left ns)
  list_back zero left [] l = rw (unlist_nil o class left) tt
  list_back zero left (code ∷ ns) l = absurd (omega arith)
  list_back (suc n) left [] l = rw (unlist_nil o class left) tt
  list_back (suc n) left (code ∷ ns) l =
      subst (ListIf left (code ∷ ns)) (sym (unlist_one o class left code ns)) (one_back left code ns (λ left ys m. list_back n left ys (omega arith)))
