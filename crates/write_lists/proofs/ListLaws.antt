-- Tag lists, a tag at a time: one turn of the list's loop, over plain variables.
use Prim.Native.Nat.{ℕ, zero, suc, pred, ◌+◌, ◌-◌, ◌≤◌, ◌<◌}
use mathlib.Core.Bool.{Bool, true, false}
use mathlib.Core.List.{List, [], ◌∷◌, ◌++◌}
use mathlib.Core.Path.{◌≡◌, refl, ap, ap₂, sym, ◌∙◌}
use native.Mathlib.Omega.{arith}
use lib.Dec.{leb, eqb}
use borrow.Author.Tests.{leb-true, le-ltb, eqb-true, eq-eqb, ne_eqb}
use lib.ListN.{length, get_or, take, drop, drop_of_length-le}
use lib.Seq.{get_or-drop, drop-cons, length-take-le}
use Rattle.format.specs.Tests.{pick, ◌and◌}
use Rattle.format.specs.Bits.{Order}
use Rattle.format.specs.Bodies.{fixed}
use Rattle.format.specs.FileAndTags as paper
use Rattle.format.specs.Formats.{the}
use Rattle.format.specs.FileAndTags.{container, is_end, is_read, has_list}
use Rattle.format.specs.Possible.{Possible, this, cannot}
use Rattle.format.specs.WritingBodies.{write_body}
use Rattle.format.specs.WritingFiles.{Made, made, unpacked_as, claims, fits_state, spell_head, fits_head, body_of, fronted, fill, out_tag, headed, unwalk_list}
use Rattle.format.proofs.ListLaws.{unlist_nil, unlist_one}
use Rattle.format.proofs.ListTrip.{ListIf, list_back}
use Rattle.format.proofs.Absurd.{clash}
use Rattle.classes.specs.declared.Class.{Class}
use Rattle.classes.specs.declared.Class.TheVariants.{Opaque, End, Container, Fixed, Attributes}
use Rattle.classes.specs.Classes.{bare, ends, contains}
use Rattle.classes.proofs.ClassLaws.{spelt, Right, taken_by}
use Rattle.tags.specs.Lent.{class_in, classes_in, Tabled}
use Rattle.tags.proofs.LentLaws.{items_of, class_level, with_named}
use Rattle.attributes.specs.Rows.{attributes_of}
use Rattle.fixed.specs.Fixed.{fixed_of}
use Rattle.bodies.specs.Leaf.{leaf_body}
use Rattle.sink.specs.Lain.{longest}
use Rattle.write_heads.specs.Heads.{kept_bytes}
use Rattle.write_lists.specs.Stood.{Stood, stood, over}
use Rattle.write_lists.specs.Tags.{hidden, values_in, list_in, too_deep, begun, list_of, shut}
use Rattle.write_lists.proofs.StoodLaws.{Parts, stood_index, and_then, parts_then, again, over_then}
use Rattle.write_lists.proofs.TagLaws.{shut_fell, shut_place, parts_shut, parts_begun}

-- ---- the class of a code, by its name

abbrev holder : ℕ → paper.Class
holder code = container (leaf_body code)

listed : Right items_of leaf_body leaf_body
unfolding leaf_body fixed_of attributes_of
listed = refl

abbrev class_by : Class → ℕ → paper.Class
class_by class code = spelt items_of leaf_body leaf_body class code

-- ---- a tag of the definitions, as this crate writes it

-- the code before the numbers of what stands in a tag
abbrev coded : ℕ → Possible Made → Possible Made
coded code (this (made xs b ys)) = this (made (code ∷ xs) b ys)
coded code cannot = cannot

headed_last : (claim : Bool) (code : ℕ) (m : Possible Made) (W : List ℕ → Possible Made) → headed claim code true m W ≡ shut claim code (coded code m)
headed_last claim code cannot W = refl
headed_last claim code (this (made xs b ys)) W = refl

headed_then : (claim : Bool) (code : ℕ) (m : Possible Made) (W : List ℕ → Possible Made) → headed claim code false m W ≡ and_then (shut claim code (coded code m)) W
headed_then claim code cannot W = refl
headed_then claim code (this (made xs b ys)) W = go (fits_head claim code (length b))
  where
    go : (c : Bool) → pick c (and_then (this (made (code ∷ xs) (spell_head claim code (length b) ++ b) ys)) W) cannot
        ≡ and_then (pick c (this (made (code ∷ xs) (spell_head claim code (length b) ++ b) ys)) cannot) W
    go true = refl
    go false = refl

-- no file has a code above 1023
headed_high : (claim : Bool) (code : ℕ) (e : Bool) (m : Possible Made) (W : List ℕ → Possible Made) → 1023 < code → headed claim code e m W ≡ cannot
headed_high claim code e cannot W h = refl
headed_high claim code true (this (made xs b ys)) W h = rw (le-ltb code 1024 h)
headed_high claim code false (this (made xs b ys)) W h = rw (le-ltb code 1024 h)

-- and of a tag with its list, written by W
abbrev with_list : Bool → (List ℕ → Possible Made) → Possible Made → Possible Made
with_list true W m = and_then m W
with_list false W m = m

no_list : (c : Bool) (W : List ℕ → Possible Made) → with_list c W cannot ≡ cannot
no_list true W = refl
no_list false W = refl

-- a container has a depth for its list
abbrev pub Deep : Class → ℕ → Type 0
Deep class left = contains class ≡ true → left ≡ 0 → ⊥

module _ (o : Order) (code left s n : ℕ) (vs ys : List ℕ) (W : List ℕ → Possible Made) (counted : length vs ≡ n) where
  leaf_body_lem : (z : Possible (List ℕ)) → coded code (body_of (s ∷ n ∷ vs) z ys) ≡ body_of (code ∷ s ∷ n ∷ vs) z ys
  leaf_body_lem (this b) = refl
  leaf_body_lem cannot = refl

  fill_is : (class : Class) → Deep class left
      → coded code (fill o W left (class_by class code) s n vs ys) ≡ with_list (list_in class code vs) W (body_of (code ∷ s ∷ n ∷ vs) (values_in o class code vs) ys)
  fill_is Opaque h = leaf_body_lem (unpacked_as vs)
  fill_is End h = rw counted (go (eqb n 0))
    where
      go : (y : Bool) → coded code (pick y (this (made (s ∷ n ∷ vs) [] ys)) cannot) ≡ body_of (code ∷ s ∷ n ∷ vs) (pick y (this []) cannot) ys
      go true = refl
      go false = refl
  fill_is Container h = rw (ne_eqb left 0 (h refl)) (own (has_list (leaf_body code) vs))
    where
      go : (z : Possible (List ℕ)) (m : Possible Made) → W ys ≡ m → coded code (fronted (s ∷ n ∷ vs) z (W ys)) ≡ and_then (body_of (code ∷ s ∷ n ∷ vs) z ys) W
      go (this b) (this (made xs' b' ys')) e = rw e
      go (this b) cannot e = rw e
      go cannot m e = refl

      own : (c : Bool) → coded code (pick c (fronted (s ∷ n ∷ vs) (write_body o (leaf_body code) vs) (W ys)) (body_of (s ∷ n ∷ vs) (write_body o (leaf_body code) vs) ys))
          ≡ with_list c W (body_of (code ∷ s ∷ n ∷ vs) (write_body o (leaf_body code) vs) ys)
      own true = go (write_body o (leaf_body code) vs) (W ys) refl
      own false = leaf_body_lem (write_body o (leaf_body code) vs)
  fill_is Fixed h = leaf_body_lem (write_body o (fixed (fixed_of code)) vs)
  fill_is Attributes h = leaf_body_lem (write_body o (leaf_body code) vs)

-- whether a tag of this class is read, by its name
read_by : (class : Class) (code : ℕ) → is_read (class_by class code) ≡ is_read (bare class)
read_by Opaque code = refl
read_by End code = refl
read_by Container code = refl
read_by Fixed code = refl
read_by Attributes code = refl

module _ (o : Order) (code left : ℕ) (W : List ℕ → Possible Made) where
  tag_is : (claim : Bool) (class : Class) (ns : List ℕ) → Deep class left → claim ≡ claims (the ns)
      → coded code (out_tag o W left (class_by class code) ns) ≡ with_list (list_of class (code ∷ ns)) W (begun o claim class (code ∷ ns))
  tag_is claim class [] h e = refl
  tag_is claim class (s ∷ []) h e = refl
  tag_is claim class (s ∷ n ∷ ns) h e = rw (read_by class code, e) (go (leb n (length ns)) refl (eqb s (is_read (bare class) + pick (claims s) 2 0)))
    where
      go : (c : Bool) → leb n (length ns) ≡ c → (f : Bool) → coded code (pick c (pick f (fill o W left (class_by class code) s n (take n ns) (drop n ns)) cannot) cannot)
          ≡ with_list (list_in class code (take n ns)) W (pick c (body_of (code ∷ s ∷ n ∷ take n ns) (pick f (values_in o class code (take n ns)) cannot) (drop n ns)) cannot)
      go true q true = fill_is o code left s n (take n ns) (drop n ns) W (length-take-le n ns (leb-true n (length ns) q)) class h
      go true q false = sym (no_list (list_in class code (take n ns)) W)
      go false q f = sym (no_list (list_in class code (take n ns)) W)

  tag_deep : (ns : List ℕ) → left ≡ 0 → out_tag o W left (holder code) ns ≡ cannot
  tag_deep [] h = refl
  tag_deep (s ∷ []) h = refl
  tag_deep (s ∷ n ∷ ns) h = rw (eq-eqb left 0 h) (go (leb n (length ns)) (fits_state (holder code) s))
    where
      go : (c f : Bool) → pick {A = Possible Made} c (pick f cannot cannot) cannot ≡ cannot
      go true true = refl
      go true false = refl
      go false f = refl

-- ---- the list from index k on, put from place a on
module _ (o : Order) (classes : ℕ → paper.Class) where
  abbrev pub list : ℕ → List ℕ → Possible Made
  list left ns = unwalk_list o classes left ns

  abbrev pub rest : List ℕ → ℕ → List ℕ → ℕ → ℕ → Possible Stood
  rest t left out a k = over out a k (list left (drop k t))

  -- what stands in a tag: its own values, and its list
  abbrev pub inner : Bool → Class → ℕ → List ℕ → Possible Made
  inner claim class left ns = with_list (list_of class ns) (list (left - 1)) (begun o claim class ns)

  pub parts_list : (left : ℕ) (ns : List ℕ) → Parts ns (list left ns)
  parts_list left ns = go (list left ns) (list_back o classes (length ns) left ns (omega arith))
    where
      go : (m : Possible Made) → ListIf o classes left ns m → Parts ns m
      go (this (made xs b ys)) h = h.0
      go cannot h = tt

  pub parts_inner : (claim : Bool) (class : Class) (left : ℕ) (ns : List ℕ) → Parts ns (inner claim class left ns)
  parts_inner claim class left ns = go (list_of class ns)
    where
      go : (c : Bool) → Parts ns (with_list c (list (left - 1)) (begun o claim class ns))
      go true = parts_then ns (begun o claim class ns) (list (left - 1)) (parts_begun o claim class ns) (λ ys. parts_list (left - 1) ys)
      go false = parts_begun o claim class ns

  -- the numbers are used up, and End did not come
  pub rest_none : (t out : List ℕ) (left a k : ℕ) → length t ≤ k → cannot ≡ rest t left out a k
  unfolding over
  rest_none t out left a k h = sym (ap (λ (ns : List ℕ). over out a k (list left ns)) (drop_of_length-le t h) ∙ ap (over out a k) (unlist_nil o classes left))

  -- what stands in the tag at index k, by its code
  within : List ℕ → ℕ → ℕ → ℕ → Possible Made
  within t left k code = out_tag o (list (pred left)) left (classes code) (drop (suc k) t)

  list_one : (t : List ℕ) (left k code : ℕ) → k < length t → code ≡ get_or t k 0
      → list left (drop k t) ≡ headed (claims (the (drop (suc k) t))) code (is_end (classes code)) (within t left k code) (list left)
  unfolding within
  list_one t left k code h is =
      ap (list left) (drop-cons t k 0 h ∙ ap (λ (x : ℕ). x ∷ drop (suc k) t) (sym is)) ∙ unlist_one o classes left code (drop (suc k) t)

  pub turn_high : (t out : List ℕ) (left a k : ℕ) → k < length t → 1023 < get_or t k 0 → cannot ≡ rest t left out a k
  unfolding over
  turn_high t out left a k h q =
      sym (ap (over out a k)
      (list_one t left k (get_or t k 0) h refl
      ∙ headed_high (claims (the (drop (suc k) t))) (get_or t k 0) (is_end (classes (get_or t k 0))) (within t left k (get_or t k 0)) (list left) q))

-- ---- one turn: the tag at index k, with its code, the name of its class and its claim
pub record Tag (cs : List Class) (t : List ℕ) (k code : ℕ) (class : Class) (claim : Bool) : Type 0 where
  pub there : k < length t
  pub is : code ≡ get_or t k 0
  pub low : code < 1024
  pub tabled : Tabled cs
  pub classed : class ≡ class_in cs code
  pub claimed : claim ≡ claims (get_or t (k + 1) 0)

module _ (o : Order) {cs : List Class} {t : List ℕ} {k code : ℕ} {class : Class} {claim : Bool} (g : Tag cs t k code class claim) (out : List ℕ) (left a : ℕ) where
  cons : drop k t ≡ code ∷ drop (suc k) t
  cons = drop-cons t k 0 g.there ∙ ap (λ (x : ℕ). x ∷ drop (suc k) t) (sym g.is)

  class_is : classes_in cs code ≡ class_by class code
  class_is =
      let m = g.tabled in
      class_level cs m.scope m.level m.classed code
      ∙ taken_by items_of leaf_body leaf_body listed m.scope m.level code
      ∙ ap (λ (c : Class). class_by c code) (sym (m.classed.each code) ∙ sym g.classed)

  claim_is : claim ≡ claims (the (drop (suc k) t))
  claim_is =
      let n : k + 1 ≡ suc k + 0 = omega arith in
      g.claimed ∙ ap (λ (x : ℕ). claims (get_or t x 0)) n ∙ ap claims (sym (get_or-drop (suc k) t 0 0))

  one : list o (classes_in cs) left (drop k t) ≡ headed claim code (ends class) (within o (classes_in cs) t left k code) (list o (classes_in cs) left)
  one =
      let e : is_end (classes_in cs code) ≡ ends class = (with_named (class_in cs code) code).0 ∙ ap ends (sym g.classed) in
      list_one o (classes_in cs) t left k code g.there g.is ∙ ap₂ (λ (c b : Bool). headed c code b (within o (classes_in cs) t left k code) (list o (classes_in cs) left)) (sym claim_is) e

  last : ends class ≡ true → list o (classes_in cs) left (drop k t) ≡ shut claim code (coded code (within o (classes_in cs) t left k code))
  last e = one ∙ rw e (headed_last claim code (within o (classes_in cs) t left k code) (list o (classes_in cs) left))

  more : ends class ≡ false → list o (classes_in cs) left (drop k t) ≡ and_then (shut claim code (coded code (within o (classes_in cs) t left k code))) (list o (classes_in cs) left)
  more e = one ∙ rw e (headed_then claim code (within o (classes_in cs) t left k code) (list o (classes_in cs) left))

  -- the bytes kept for its header
  abbrev from : ℕ
  from = a + kept_bytes claim

  abbrev values : Possible Made
  values = begun o claim class (drop k t)

  abbrev whole : Possible Made
  whole = inner o (classes_in cs) claim class left (drop k t)

  -- ---- what was put of it: its own values; then, from there, its list, if it has one; last its header
  pub values_alone : list_of class (drop k t) ≡ false → {x : Possible Stood} → x ≡ over out from k values → x ≡ over out from k whole
  values_alone h put = put ∙ rw h

  pub values_list : list_of class (drop k t) ≡ true → {y x : Possible Stood} → y ≡ over out from k values → x ≡ again (list o (classes_in cs) (left - 1)) t y → x ≡ over out from k whole
  values_list h put e =
      e ∙ ap (again (list o (classes_in cs) (left - 1)) t) put ∙ sym (rw h (over_then t out from k values (list o (classes_in cs) (left - 1)) (parts_begun o claim class (drop k t))))

  -- ---- an opaque one was put whole
  opaque_is : (c : Class) → hidden c ≡ true → c ≡ Opaque
  opaque_is Opaque e = refl
  opaque_is End e = cc
  opaque_is Container e = cc
  opaque_is Fixed e = cc
  opaque_is Attributes e = cc

  pub opaque_put : hidden class ≡ true → {x : Possible Stood} → ((o' : Order) → x ≡ over out a k (shut claim code (begun o' claim Opaque (drop k t)))) → x ≡ over out a k (shut claim code whole)
  opaque_put h e =
      e o ∙ ap (λ (m : Possible Made). over out a k (shut claim code m)) (sym (opaque_alone (drop k t))) ∙ ap (λ (c : Class). over out a k (shut claim code (inner o (classes_in cs) claim c left (drop k t)))) (sym (opaque_is class h))
    where
      opaque_alone : (ns : List ℕ) → with_list (list_of Opaque ns) (list o (classes_in cs) (left - 1)) (begun o claim Opaque ns) ≡ begun o claim Opaque ns
      opaque_alone [] = refl
      opaque_alone (x ∷ []) = refl
      opaque_alone (x ∷ s ∷ []) = refl
      opaque_alone (x ∷ s ∷ n ∷ ns) = refl

  pub opaque_deep : hidden class ≡ true → Deep class left
  opaque_deep h c z = let e : class ≡ Opaque = opaque_is class h in let f : true ≡ false = sym c ∙ ap contains e in clash cc

  pub opaque_more : hidden class ≡ true → ends class ≡ false
  opaque_more h = ap ends (opaque_is class h)

  -- its place and its index
  pub tag_index : (u : List ℕ) (p j : ℕ) → this (stood u p j) ≡ over out a k (shut claim code whole) → (j ≤ length t) × (a + 2 ≤ p) × (p ≤ longest)
  tag_index u p j e =
      let h : k < length t = g.there in
      let x = stood_index t out a k u p j (shut claim code whole) (omega arith) (parts_shut (drop k t) claim code whole (parts_inner o (classes_in cs) claim class left (drop k t))) e in
      let y = shut_place out u a k claim code p j whole e in
      (x.1, y.0, y.1)

  -- ---- and what follows it
  module _ (deep : Deep class left) where
    whole_is : coded code (within o (classes_in cs) t left k code) ≡ whole
    unfolding within
    whole_is =
        let d : pred left ≡ left - 1 = below left in
        rw (class_is, d) (tag_is o code left (list o (classes_in cs) (left - 1)) claim class (drop (suc k) t) deep claim_is)
        ∙ ap (λ (ns : List ℕ). inner o (classes_in cs) claim class left ns) (sym cons)
      where
        below : (n : ℕ) → pred n ≡ n - 1
        below zero = refl
        below (suc n) = omega arith

    pub turn_last : ends class ≡ true → {x : Possible Stood} → x ≡ over out a k (shut claim code whole) → x ≡ rest o (classes_in cs) t left out a k
    turn_last e put = put ∙ sym (ap (over out a k) (last e ∙ ap (shut claim code) whole_is))

    pub turn_more : ends class ≡ false → {x : Possible Stood} → x ≡ over out a k (shut claim code whole) → rest o (classes_in cs) t left out a k ≡ again (list o (classes_in cs) left) t x
    turn_more e put =
        ap (over out a k) (more e ∙ ap (λ (m : Possible Made). and_then (shut claim code m) (list o (classes_in cs) left)) whole_is)
        ∙ over_then t out a k (shut claim code whole) (list o (classes_in cs) left) (parts_shut (drop k t) claim code whole (parts_inner o (classes_in cs) claim class left (drop k t)))
        ∙ ap (again (list o (classes_in cs) left) t) (sym put)

    pub turn_fell : cannot ≡ over out a k (shut claim code whole) → cannot ≡ rest o (classes_in cs) t left out a k
    turn_fell put = go (ends class) refl
      where
        go : (c : Bool) → ends class ≡ c → cannot ≡ rest o (classes_in cs) t left out a k
        go true e = turn_last e put
        go false e = sym (turn_more e put)

  -- a container without a depth for its list
  pub turn_deep : contains class ≡ true → left ≡ 0 → cannot ≡ rest o (classes_in cs) t left out a k
  unfolding over within
  turn_deep holds z =
      let is : class ≡ Container = container_is class holds in
      let e : within o (classes_in cs) t left k code ≡ cannot = rw (class_is, is) (tag_deep o code left (list o (classes_in cs) (pred left)) (drop (suc k) t) z) in
      sym (ap (over out a k) (more (ap ends is) ∙ ap (λ (m : Possible Made). and_then (shut claim code (coded code m)) (list o (classes_in cs) left)) e))
    where
      container_is : (c : Class) → contains c ≡ true → c ≡ Container
      container_is Opaque e = cc
      container_is End e = cc
      container_is Container e = refl
      container_is Fixed e = cc
      container_is Attributes e = cc

  -- as the code asks
  pub turn_too_deep : {c : Bool} → c ≡ too_deep class left → c ≡ true → cannot ≡ rest o (classes_in cs) t left out a k
  turn_too_deep e h = go (contains class) refl (eqb left 0) refl (sym e ∙ h)
    where
      go : (c : Bool) → contains class ≡ c → (z : Bool) → eqb left 0 ≡ z → c and z ≡ true → cannot ≡ rest o (classes_in cs) t left out a k
      go true p true q d = turn_deep p (eqb-true left 0 q)
      go true p false q d = clash cc
      go false p z q d = clash cc

  pub not_too_deep : {c : Bool} → c ≡ too_deep class left → c ≡ false → Deep class left
  not_too_deep e h p z =
      let d : too_deep class left ≡ true = rw (p, eq-eqb left 0 z) in
      let f : true ≡ false = sym d ∙ sym e ∙ h in
      clash cc

  -- its own values could not be put
  pub values_fell : Deep class left → cannot ≡ over out from k values → cannot ≡ rest o (classes_in cs) t left out a k
  values_fell deep put = turn_fell deep (shut_fell out a k claim code whole (go (list_of class (drop k t)) refl))
    where
      go : (c : Bool) → list_of class (drop k t) ≡ c → cannot ≡ over out from k whole
      go false h = values_alone h put
      go true h = values_list h put refl

-- a list has a depth
lists_in : (class : Class) (code : ℕ) (vs : List ℕ) → list_in class code vs ≡ true → contains class ≡ true
lists_in Opaque code vs e = clash cc
lists_in End code vs e = clash cc
lists_in Container code vs e = refl
lists_in Fixed code vs e = clash cc
lists_in Attributes code vs e = clash cc

pub list_deep : (class : Class) (ns : List ℕ) (left : ℕ) → Deep class left → list_of class ns ≡ true → left ≡ 0 → ⊥
list_deep class [] left deep e = clash cc
list_deep class (code ∷ []) left deep e = clash cc
list_deep class (code ∷ s ∷ []) left deep e = clash cc
list_deep class (code ∷ s ∷ n ∷ ns) left deep e = deep (lists_in class code (take n ns) e)
