-- Fields, widths and runs of fields, written.
use Rattle.std.proofs.Common.{◌≡◌, ℕ, zero, suc, pred, ◌+◌, ◌-◌, ◌*◌, ◌/◌, ◌%◌, ◌^◌, ◌<◌, ◌≤◌, Bool, true, false, not, eqb, ltb, leb, List, [], ◌∷◌, ◌++◌, length, get_or, take, drop, sym, refl, ap, ◌∙◌, subst, add-zero, mod-lt, mod-eq_of_lt, suc-mul, mul_comm, mul-pos, pow-suc, add-one, arith, min, length-append, length-drop, length-take, drop-cons, drop_of_length-le, take_all, pow_pos, leb-false, leb-true, ltb-false, ltb-true, le-ltb, lt-ltb, eq-eqb, ne_eqb, eqb-true}
use Rattle.std.proofs.lemmas.List.{take_rest}
use lib.Pow.{pow-lt, high_ones, low as lo}
use borrow.Author.Tests.{not-true, not-false}
use Rattle.format.specs.Tests.{pick}
use Rattle.format.specs.Bits.{Order}
use Rattle.format.specs.Formats.{item, Item, times, the}
use Rattle.format.specs.Items.{sign_extend}
use Rattle.format.specs.Possible.{Possible, this, cannot}
use Rattle.format.specs.WritingItems.{dig, glue, single, write_item, spell_ub, undo, unextend}
use Rattle.format.specs.WritingFormats.{unrun}
use Rattle.table.specs.Fields.{allows, field_of, signed, announces, announced}
use Rattle.table.specs.declared.fields.Field.{Field}
use Rattle.table.specs.declared.fields.Field.TheVariants.{Verb, Interpolation, SpatialFlag, Plain, ByteValue, Coordinate}
use Rattle.table.proofs.FieldLaws.{weight_is}
use Rattle.format.proofs.BitLaws.{length_dig}
use Rattle.format.proofs.Absurd.{clash}
use Rattle.sink.specs.Laying.{State, mk, at, lay, Holds, Split}
use Rattle.sink.specs.declared.Sink.{Sink}
use Rattle.sink.proofs.LayingLaws.{mk_eq, lay_append, lay_none, lay_some_past, flow_on, flow_few}
use Rattle.spelling.specs.Writing.{Seen, ends, ran, limit}
use Rattle.spelling.specs.Fields.{unsigned_in, signed_in, is_field, bare, all_fields, dig_all}
use Rattle.spelling.proofs.RunLaws.{times_end_lem, times_one, times_bad, times_few, one_bits, laid_in}
use Rattle.spelling.proofs.NumberLaws.{passing_single}

pub rest_small : (k x m : ℕ) → m ≡ 2 ^ k → x % m < 2 ^ k
rest_small k x m e = rw e (mod-lt x (pow_pos k))

-- ---- UB[w]
ub_is : (o : Order) (w v : ℕ) → spell_ub o w v ≡ pick (unsigned_in w v) (this (dig o w (v % 2 ^ w))) cannot
ub_is o w v = go (ltb v (2 ^ w)) refl
  where
    go : (c : Bool) → ltb v (2 ^ w) ≡ c → pick c (this (dig o w v)) cannot ≡ pick c (this (dig o w (v % 2 ^ w))) cannot
    go true e = ap (λ (d : ℕ). this (dig o w d)) (sym (mod-eq_of_lt (ltb-true v (2 ^ w) e)))
    go false e = refl

-- ---- SB[w]

-- 2 ^ 64 is a multiple of 2 ^ w, so a negative number leaves its field
wraps : (w d v : ℕ) → w ≤ 32 → d + (2 ^ 64 - 2 ^ w) ≡ v → d < 2 ^ w → v % 2 ^ w ≡ d
wraps w d v few e l =
    let c : 64 - w + w ≡ 64 = omega arith in
    let ones : 2 ^ 64 - 2 ^ w ≡ (2 ^ (64 - w) - 1) * 2 ^ w = subst (λ (n : ℕ). 2 ^ n - 2 ^ w ≡ (2 ^ (64 - w) - 1) * 2 ^ w) c (high_ones (64 - w) w) in
    let q : v ≡ (2 ^ (64 - w) - 1) * 2 ^ w + d = omega arith in
    rw q (lo (2 ^ (64 - w) - 1) w l)

extend_rest : (w d : ℕ) → w ≤ 32 → d < 2 ^ w → sign_extend w d % 2 ^ w ≡ d
extend_rest w d few l = go (ltb (d * 2) (2 ^ w))
  where
    go : (c : Bool) → pick c d (d + (2 ^ 64 - 2 ^ w)) % 2 ^ w ≡ d
    go true = mod-eq_of_lt l
    go false = wraps w d (d + (2 ^ 64 - 2 ^ w)) few refl l

sb_is : (o : Order) (w v : ℕ) → w ≤ 32 → undo (sign_extend w) (unextend w) (spell_ub o w) v ≡ pick (signed_in w v) (this (dig o w (v % 2 ^ w))) cannot
sb_is o w v few = go (unextend w v) (eqb (sign_extend w (unextend w v)) v) refl (ltb (unextend w v) (2 ^ w)) refl
  where
    go : (d : ℕ) (a : Bool) → eqb (sign_extend w d) v ≡ a → (b : Bool) → ltb d (2 ^ w) ≡ b
        → pick a (pick b (this (dig o w d)) cannot) cannot ≡ pick (pick a b false) (this (dig o w (v % 2 ^ w))) cannot
    go d true e true f =
        let z : d ≡ v % 2 ^ w = sym (extend_rest w d few (ltb-true d (2 ^ w) f)) ∙ ap (λ (x : ℕ). x % 2 ^ w) (eqb-true (sign_extend w d) v e) in
        ap (λ (x : ℕ). this (dig o w x)) z
    go d true e false f = refl
    go d false e b f = refl

-- m is 2 ^ w and h half of it; u is v + h, wrapped
module _ (w v m h u : ℕ) (low : 1 ≤ w) (few : w ≤ 32) (is : m ≡ 2 ^ w) (half : h ≡ m / 2) (small : v < 2 ^ 64) (sum : u ≡ (v + h) % 2 ^ 64) where
  m_small : m < 2 ^ 33
  m_small = let k : w < 33 = omega arith in rw is (pow-lt k)

  even : h * 2 ≡ m
  even =
      let e : w ≡ suc (w - 1) = omega arith in
      let p : 2 ^ w ≡ 2 ^ (w - 1) * 2 = ap (λ (n : ℕ). 2 ^ n) e ∙ pow-suc 2 (w - 1) in
      omega arith

  signed_in_lem : u < m → is_field Coordinate w v ≡ true
  unfolding is_field
  signed_in_lem l = go (ltb v h) refl
    where
      go : (c : Bool) → ltb v h ≡ c → signed_in w v ≡ true
      go true q =
          let k : v < h = ltb-true v h q in
          let a : ltb (v * 2) (2 ^ w) ≡ true = lt-ltb (v * 2) (2 ^ w) (omega (arith, even)) in
          let b : ltb v (2 ^ w) ≡ true = lt-ltb v (2 ^ w) (omega (arith, even)) in
          rw (a, a, eq-eqb v v refl, b)
      go false q =
          let k : h ≤ v = ltb-false v h q in
          let d : ℕ = v - (2 ^ 64 - 2 ^ w) in
          let e : d + (2 ^ 64 - 2 ^ w) ≡ v = omega (arith, m_small, even) in
          let a : ltb (v * 2) (2 ^ w) ≡ false = le-ltb (v * 2) (2 ^ w) (omega (arith, even)) in
          let b : ltb (d * 2) (2 ^ w) ≡ false = le-ltb (d * 2) (2 ^ w) (omega (arith, m_small, even)) in
          let f : ltb d (2 ^ w) ≡ true = lt-ltb d (2 ^ w) (omega (arith, m_small, even)) in
          rw (a, b, eq-eqb _ _ e, f)

  signed_out : m ≤ u → is_field Coordinate w v ≡ false
  unfolding is_field
  signed_out l = go (ltb ((v - (2 ^ 64 - 2 ^ w)) * 2) (2 ^ w)) refl
    where
      a : ltb (v * 2) (2 ^ w) ≡ false
      a = le-ltb (v * 2) (2 ^ w) (omega (arith, m_small, even))

      go : (c : Bool) → ltb ((v - (2 ^ 64 - 2 ^ w)) * 2) (2 ^ w) ≡ c → signed_in w v ≡ false
      go true q = rw (a, q, ne_eqb (v - (2 ^ 64 - 2 ^ w)) v (λ z. omega (arith, m_small, even, pow_pos w)))
      go false q =
          rw (
            a,
            q,
            ne_eqb (v - (2 ^ 64 - 2 ^ w) + (2 ^ 64 - 2 ^ w)) v (λ z. omega (arith, m_small, even, ltb-false ((v - (2 ^ 64 - 2 ^ w)) * 2) (2 ^ w) q)),
          )

-- of a bare kind; m is 2 ^ w, and h how many of m numbers are negative
module _ (f : Field) (w v m h u : ℕ) (free : bare f ≡ true) (low : 1 ≤ w) (few : w ≤ 32) (is : m ≡ 2 ^ w) (half : h ≡ pick (signed f) (m / 2) 0) (small : v < 2 ^ 64) (sum : u ≡ (v + h) % 2 ^ 64) where
  same : signed f ≡ false → u ≡ v
  same e =
      let z : h ≡ 0 = half ∙ rw e in
      let y : (v + h) % 2 ^ 64 ≡ v % 2 ^ 64 = ap (λ (x : ℕ). x % 2 ^ 64) (ap (λ (x : ℕ). v + x) z ∙ add-zero v) in
      sum ∙ y ∙ mod-eq_of_lt small

  pub bare_in : u < m → is_field f w v ≡ true
  unfolding is_field
  bare_in l = go f free half refl
    where
      go : (g : Field) → bare g ≡ true → h ≡ pick (signed g) (m / 2) 0 → g ≡ f → is_field g w v ≡ true
      go Verb b e q = clash cc
      go Interpolation b e q = clash cc
      go SpatialFlag b e q = clash cc
      go Plain b e q = lt-ltb v (2 ^ w) (let z : u ≡ v = same (ap signed (sym q)) in omega arith)
      go ByteValue b e q = clash cc
      go Coordinate b e q = signed_in_lem w v m h u low few is e small sum l

  pub bare_out : m ≤ u → is_field f w v ≡ false
  unfolding is_field
  bare_out l = go f free half refl
    where
      go : (g : Field) → bare g ≡ true → h ≡ pick (signed g) (m / 2) 0 → g ≡ f → is_field g w v ≡ false
      go Verb b e q = clash cc
      go Interpolation b e q = clash cc
      go SpatialFlag b e q = clash cc
      go Plain b e q = rw (le-ltb v (2 ^ w) (let z : u ≡ v = same (ap signed (sym q)) in omega arith))
      go ByteValue b e q = clash cc
      go Coordinate b e q = signed_out w v m h u low few is e small sum l

-- ---- one field by its kind
abbrev field_spelling : Order → Field → ℕ → ℕ → Possible (List Bool)
field_spelling o Verb w v = spell_ub o w v
field_spelling o Interpolation w v = spell_ub o w v
field_spelling o SpatialFlag w v = spell_ub o w v
field_spelling o Plain w v = spell_ub o w v
field_spelling o ByteValue w v = spell_ub o w v
field_spelling o Coordinate w v = undo (sign_extend w) (unextend w) (spell_ub o w) v

unfoldable pub field_bits : Order → Field → ℕ → ℕ → ℕ → Possible (List Bool)
field_bits o f w p v = pick (allows f v) (field_spelling o f w v) cannot

pub field_is : (o : Order) (f : Field) (w : ℕ) (ns : List ℕ) (p : ℕ) → unrun o (field_of f w) ns p ≡ single (field_bits o f w p) ns
unfolding unrun write_item field_bits
field_is o Verb w ns p = refl
field_is o Interpolation w ns p = passing_single (λ ns. ltb 0 (the ns)) (spell_ub o w) ns
field_is o SpatialFlag w ns p = refl
field_is o Plain w ns p = refl
field_is o ByteValue w ns p = passing_single (λ ns. leb (the ns) 255) (spell_ub o w) ns
field_is o Coordinate w ns p = refl

spelling_is : (o : Order) (f : Field) (w v : ℕ) → (signed f ≡ true → w ≤ 32) → field_spelling o f w v ≡ pick (pick (signed f) (signed_in w v) (unsigned_in w v)) (this (dig o w (v % 2 ^ w))) cannot
spelling_is o Verb w v few = ub_is o w v
spelling_is o Interpolation w v few = ub_is o w v
spelling_is o SpatialFlag w v few = ub_is o w v
spelling_is o Plain w v few = ub_is o w v
spelling_is o ByteValue w v few = ub_is o w v
spelling_is o Coordinate w v few = sb_is o w v (few refl)

field_bits_lem : (o : Order) (f : Field) (w p v : ℕ) {c : Bool} → (signed f ≡ true → w ≤ 32) → is_field f w v ≡ c → field_bits o f w p v ≡ pick c (this (dig o w (v % 2 ^ w))) cannot
unfolding field_bits is_field
field_bits_lem o f w p v {c} few e = go (allows f v) (field_spelling o f w v) (pick (signed f) (signed_in w v) (unsigned_in w v)) (spelling_is o f w v few) ∙ ap (λ (x : Bool). pick x (this (dig o w (v % 2 ^ w))) cannot) e
  where
    go : (a : Bool) (x : Possible (List Bool)) (b : Bool) → x ≡ pick b (this (dig o w (v % 2 ^ w))) cannot → pick a x cannot ≡ pick (pick a b false) (this (dig o w (v % 2 ^ w))) cannot
    go true x b e = e
    go false x b e = refl

-- m is 2 ^ w, and c whether the number is allowed
module _ (f : Field) (w v m : ℕ) (un : signed f ≡ false) (is : m ≡ 2 ^ w) where
  pub unsigned_large : m ≤ v → is_field f w v ≡ false
  unfolding is_field
  unsigned_large h = rw (un, le-ltb v (2 ^ w) (omega arith)) (go (allows f v))
    where
      go : (c : Bool) → pick c false false ≡ false
      go true = refl
      go false = refl

  pub unsigned_out : {c : Bool} → c ≡ allows f v → not c ≡ true → is_field f w v ≡ false
  unfolding is_field
  unsigned_out {c} e h = rw (sym e ∙ not-true c h)

  pub unsigned_in_lem : {c : Bool} → c ≡ allows f v → not c ≡ false → v < m → is_field f w v ≡ true
  unfolding is_field
  unsigned_in_lem {c} e h l = rw (un, sym e ∙ not-false c h, lt-ltb v (2 ^ w) (omega arith))

pub field_large : (o : Order) (f : Field) (w p v m : ℕ) → signed f ≡ false → m ≡ 2 ^ w → m ≤ v → field_bits o f w p v ≡ cannot
field_large o f w p v m un is h = field_bits_lem o f w p v (λ z. clash cc) (unsigned_large f w v m un is h)

-- ---- of numbers those behind the first i
behind_more : (vs : List ℕ) (i : ℕ) → i < length vs → drop i vs ≡ get_or vs i 0 ∷ drop (i + 1) vs
behind_more vs i h = rw (drop-cons vs i 0 h, add-one)

behind_all : (vs : List ℕ) (i : ℕ) → length vs ≤ i → drop i vs ≡ []
behind_all vs i h = drop_of_length-le vs {i = i} h

-- those from index k on; behind the last one none is left
module _ (vs : List ℕ) (k m : ℕ) (e : m ≡ min k (length vs)) where
  pub left_are : take (length vs - m) (drop m vs) ≡ drop k vs
  left_are = take_rest vs m ∙ go (leb k (length vs)) refl
    where
      go : (c : Bool) → leb k (length vs) ≡ c → drop m vs ≡ drop k vs
      go true q = let z : m ≡ k = omega (arith, e, leb-true k (length vs) q) in rw z
      go false q = behind_all vs m (omega (arith, e, leb-false k (length vs) q)) ∙ sym (behind_all vs k (omega (arith, leb-false k (length vs) q)))

  pub left_count : length (take (length vs - m) (drop m vs)) ≡ length vs - k
  left_count = ap length left_are ∙ length-drop k vs

-- ---- numbers are judged: of the first i each is a field
pub record Judging (f : Field) (w : ℕ) (vs : List ℕ) (i : ℕ) : Type 0 where
  pub rest : all_fields f w vs ≡ all_fields f w (drop i vs)

pub judging_start : (f : Field) (w : ℕ) (vs : List ℕ) → Judging f w vs 0
judging_start f w vs = record { rest = refl }

module _ {f : Field} {w : ℕ} {vs : List ℕ} {i : ℕ} (g : Judging f w vs i) where
  module _ (more : i < length vs) where
    judging_one : {c : Bool} → is_field f w (get_or vs i 0) ≡ c → all_fields f w vs ≡ pick c (all_fields f w (drop (i + 1) vs)) false
    unfolding all_fields
    judging_one e = g.rest ∙ ap (all_fields f w) (behind_more vs i more) ∙ rw e

    pub judging_no : is_field f w (get_or vs i 0) ≡ false → all_fields f w vs ≡ false
    judging_no e = judging_one e

    pub judging_next : is_field f w (get_or vs i 0) ≡ true → Judging f w vs (i + 1)
    judging_next e = record { rest = judging_one e }

  pub judging_over : length vs ≤ i → all_fields f w vs ≡ true
  unfolding all_fields
  judging_over h = g.rest ∙ ap (all_fields f w) (behind_all vs i h)

-- ---- what numbers announce
announced_few : (f : Field) (vs : List ℕ) → announced f vs ≤ 6 * length vs
announced_few f [] = omega arith
announced_few f (v ∷ vs) = omega (arith, weight_is f v refl refl, announced_few f vs)

pub counted_few : (f : Field) (vs : List ℕ) (i c : ℕ) → c ≡ announced f (take i vs) → c ≤ 6 * i
counted_few f vs i c e = omega (arith, announced_few f (take i vs), length-take i vs)

announced_one : (f : Field) (xs : List ℕ) (i v : ℕ) → i < length xs → v ≡ get_or xs i 0 → announced f (take (suc i) xs) ≡ announced f (take i xs) + announces f v
announced_one f [] i v h e = absurd (omega arith)
announced_one f (x ∷ xs) zero v h e = rw e (omega arith)
announced_one f (x ∷ xs) (suc i) v h e =
    let q : announced f (take (suc i) xs) ≡ announced f (take i xs) + announces f v = announced_one f xs i v (omega arith) e in
    rw q (omega arith)

pub counted_next : (f : Field) (vs : List ℕ) (i : ℕ) {c m : ℕ} → c ≡ announced f (take i vs) → i < length vs → m ≡ announces f (get_or vs i 0) → c + m ≡ announced f (take (i + 1) vs)
counted_next f vs i a l e = rw (add-one i, announced_one f vs i (get_or vs i 0) l refl, e, a)

pub counted_all : (f : Field) (vs : List ℕ) (i : ℕ) {c : ℕ} → c ≡ announced f (take i vs) → length vs ≤ i → c ≡ announced f vs
counted_all f vs i e h = e ∙ ap (announced f) (take_all i vs h)

-- bare fields announce none
module _ (f : Field) (free : bare f ≡ true) where
  no_more : (v : ℕ) → 0 ≡ announces f v
  no_more v = go f free
    where
      go : (g : Field) → bare g ≡ true → 0 ≡ announces g v
      go Verb b = clash cc
      go Interpolation b = clash cc
      go SpatialFlag b = clash cc
      go Plain b = refl
      go ByteValue b = refl
      go Coordinate b = refl

  pub none_announced : (vs : List ℕ) → 0 ≡ announced f vs
  none_announced [] = refl
  none_announced (v ∷ vs) = rw (← no_more v, ← none_announced vs) refl

-- what is not bare is not signed
pub not_bare : (f : Field) → bare f ≡ false → signed f ≡ false
not_bare Verb b = refl
not_bare Interpolation b = refl
not_bare SpatialFlag b = refl
not_bare Plain b = refl
not_bare ByteValue b = refl
not_bare Coordinate b = clash cc

-- ---- n fields are put: of the first i the bits are laid or wait, `held` of them from a whole byte on, and no place was judged
abbrev pub waits : Order → List ℕ → ℕ → ℕ → ℕ → State
waits o u byte held waiting = lay o (mk u (8 * byte) 0) (dig o held waiting)

pub record Gathering (o : Order) (w : ℕ) (vs : List ℕ) (st : State) (u : List ℕ) (byte held waiting i : ℕ) : Type 0 where
  pub small : waiting < 2 ^ held
  pub low : 8 * byte + held ≤ limit + 32 * i
  pub rest : lay o st (dig_all o w vs) ≡ lay o (waits o u byte held waiting) (dig_all o w (drop i vs))

pub gathering_start : (o : Order) (w : ℕ) (vs u : List ℕ) (p a : ℕ) → Holds p a → p ≤ limit → Gathering o w vs (waits o u (p / 8) (p % 8) a) u (p / 8) (p % 8) a 0
gathering_start o w vs u p a holds low = record {
  small = holds;
  low = omega arith;
  rest = refl;
}

module _ {o : Order} {w : ℕ} {vs : List ℕ} {st : State} {u : List ℕ} {byte held x i : ℕ} (g : Gathering o w vs st u byte held x i) where
  -- a field more waits; m is 2 ^ w
  pub gathering_next : {m y : ℕ} → i < length vs → w ≤ 32 → m ≡ 2 ^ w → y ≡ glue o held w x (get_or vs i 0 % m) → y < 2 ^ (held + w) → Gathering o w vs st u byte (held + w) y (i + 1)
  unfolding dig_all
  gathering_next {m} {y} more few is glued below = record {
    small = below;
    low = omega (arith, g.low);
    rest =
        g.rest
        ∙ ap (λ (xs : List ℕ). lay o (waits o u byte held x) (dig_all o w xs)) (behind_more vs i more)
        ∙ ap (λ (z : ℕ). lay o (waits o u byte held x) (dig o w (get_or vs i 0 % z) ++ dig_all o w (drop (i + 1) vs))) (sym is)
        ∙ lay_append o (waits o u byte held x) (dig o w field) (dig_all o w (drop (i + 1) vs))
        ∙ ap (λ (z : State). lay o z (dig_all o w (drop (i + 1) vs))) (sym (flow_on o (mk u (8 * byte) 0) held w y x field apart refl));
  }
    where
      field : ℕ
      field = get_or vs i 0 % m

      apart : Split o held w y x field
      apart = record { glued = glued; first = g.small; last = rest_small w (get_or vs i 0) m is }

  -- the first 32 bits are put as a field
  pub gathering_put : {a b : ℕ} {u' : List ℕ} → 32 ≤ held → Split o 32 (held - 32) x a b → mk u' (8 * byte + 32) 0 ≡ lay o (mk u (8 * byte) 0) (dig o 32 a)
      → Gathering o w vs st u' (byte + 4) (held - 32) b i
  gathering_put {a} {b} {u'} full apart d = record {
    small = apart.last;
    low = omega (arith, g.low);
    rest = g.rest ∙ ap (λ (z : State). lay o z (dig_all o w (drop i vs))) put;
  }
    where
      put : waits o u byte held x ≡ waits o u' (byte + 4) (held - 32) b
      put =
          let c : held ≡ 32 + (held - 32) = omega arith in
          ap (λ (j : ℕ). lay o (mk u (8 * byte) 0) (dig o j x)) c
          ∙ flow_on o (mk u (8 * byte) 0) 32 (held - 32) x a b apart (sym d ∙ mk_eq refl (omega arith) refl)

  pub gathering_over : length vs ≤ i → waits o u byte held x ≡ lay o st (dig_all o w vs)
  unfolding dig_all
  gathering_over h = sym (g.rest ∙ ap (λ (xs : List ℕ). lay o (waits o u byte held x) (dig_all o w xs)) (behind_all vs i h) ∙ lay_none o (waits o u byte held x))

-- all of them: from a place p of the output that was there to where the bits that waited at the end were put
pub gathered : (o : Order) (w : ℕ) (vs out : List ℕ) (p a : ℕ) {u : List ℕ} {byte held x i q : ℕ} {z : State} → Gathering o w vs (waits o out (p / 8) (p % 8) a) u byte held x i → length vs ≤ i → p / 8 < length out → Holds p a
    → q ≡ 8 * byte → z ≡ lay o (mk u q 0) (dig o held x) → z ≡ lay o (mk out p a) (dig_all o w vs)
gathered o w vs out p a {u} {byte} {held} {x} g over there holds e d =
    d ∙ ap (λ (j : ℕ). lay o (mk u j 0) (dig o held x)) e ∙ gathering_over g over
    ∙ ap (λ (st : State). lay o st (dig_all o w vs)) (ap (λ (j : ℕ). lay o (mk out j 0) (dig o (p % 8) a)) (mul_comm 8 (p / 8)) ∙ flow_few o out (p / 8) (p % 8) a there (omega arith) holds (omega arith))

pub put_none : (o : Order) (w : ℕ) (vs out : List ℕ) (s : Sink) → length vs ≡ 0 → at out s ≡ lay o (at out s) (dig_all o w vs)
unfolding dig_all
put_none o w [] out s e = sym (lay_none o (at out s))
put_none o w (v ∷ vs) out s e = absurd (omega arith)

length_dig_all : (o : Order) (w : ℕ) (vs : List ℕ) → length (dig_all o w vs) ≡ length vs * w
unfolding dig_all
length_dig_all o w [] = omega arith
length_dig_all o w (v ∷ vs) = rw (length-append, length_dig o, length_dig_all o w vs) (omega (arith, suc-mul (length vs) w))

-- past the end of the output
pub put_past : (o : Order) (w : ℕ) (vs out : List ℕ) (s : Sink) {q : ℕ} → length out ≤ s.place.0 / 8 → (length vs ≡ 0 → ⊥) → 1 ≤ w → q ≡ s.place.0 + length vs * w
    → mk out q 0 ≡ lay o (at out s) (dig_all o w vs)
put_past o w vs out s r some low e =
    let b : length (dig_all o w vs) ≡ length vs * w = length_dig_all o w vs in
    let z : 0 < length vs * w = mul-pos (omega (arith, some)) (omega arith) in
    sym (lay_some_past o out s.place.0 s.part (dig_all o w vs) r (omega arith) ∙ mk_eq refl (ap (λ (m : ℕ). s.place.0 + m) b ∙ sym e) refl)

-- ---- a run of fields: it is written where all of its numbers are fields
pub fields_few : (o : Order) (f : Field) (w : ℕ) (t : List ℕ) (st : State) (k n : ℕ) → length t - k < n → cannot ≡ ran o t st k (times n (field_of f w))
fields_few o f w t st k n h = sym (times_few o (field_of f w) (field_bits o f w) (field_is o f w) t st k n h)

fields_run : (o : Order) (f : Field) (w : ℕ) (t : List ℕ) → w ≤ 32 → (n k : ℕ) (st : State) → n ≤ length t - k
    → ran o t st k (times n (field_of f w)) ≡ pick (all_fields f w (take n (drop k t))) (ends (lay o st (dig_all o w (take n (drop k t)))) (k + n)) cannot
unfolding all_fields dig_all
fields_run o f w t few zero k st l = times_end_lem o t st k (field_of f w) 0 refl ∙ rw (lay_none o, add-zero)
fields_run o f w t few (suc n) k st l = go (is_field f w (get_or t k 0)) refl (fields_run o f w t few n (k + 1) (lay o st (dig o w (get_or t k 0 % 2 ^ w))) (omega arith))
  where
    one : take (suc n) (drop k t) ≡ get_or t k 0 ∷ take n (drop (k + 1) t)
    one = rw (drop-cons t k 0 (omega arith), add-one k)

    go : (c : Bool) → is_field f w (get_or t k 0) ≡ c
        → ran o t (lay o st (dig o w (get_or t k 0 % 2 ^ w))) (k + 1) (times n (field_of f w))
        ≡ pick (all_fields f w (take n (drop (k + 1) t))) (ends (lay o (lay o st (dig o w (get_or t k 0 % 2 ^ w))) (dig_all o w (take n (drop (k + 1) t)))) (k + 1 + n)) cannot
        → ran o t st k (times (suc n) (field_of f w)) ≡ pick (all_fields f w (take (suc n) (drop k t))) (ends (lay o st (dig_all o w (take (suc n) (drop k t)))) (k + suc n)) cannot
    go true e more =
        let a : k + 1 + n ≡ k + suc n = omega arith in
        let b : suc n - 1 ≡ n = omega arith in
        times_one o (field_of f w) (field_bits o f w) (field_is o f w) t st k (suc n) (dig o w (get_or t k 0 % 2 ^ w)) (omega arith) (omega arith) (field_bits_lem o f w st.place (get_or t k 0) (λ z. few) e)
        ∙ ap (λ (m : ℕ). ran o t (lay o st (dig o w (get_or t k 0 % 2 ^ w))) (k + 1) (times m (field_of f w))) b
        ∙ more
        ∙ rw (one, e, a, lay_append o)
    go false e more =
        times_bad o (field_of f w) (field_bits o f w) (field_is o f w) t st k (suc n) (omega arith) (omega arith) (field_bits_lem o f w st.place (get_or t k 0) (λ z. few) e) ∙ rw (one, e)

-- vs are the n numbers from index k on
module _ (o : Order) (f : Field) (w : ℕ) (t : List ℕ) (st : State) (k n : ℕ) (few : w ≤ 32) (inside : n ≤ length t - k) {vs : List ℕ} (is : vs ≡ take n (drop k t)) where
  pub fields_no : all_fields f w vs ≡ false → cannot ≡ ran o t st k (times n (field_of f w))
  fields_no h = let e : all_fields f w (take n (drop k t)) ≡ false = rw is at h in sym (fields_run o f w t few n k st inside ∙ rw e)

  -- all were put, and st' is where the last one ends
  pub fields_done : {st' : State} {x : Possible Seen} → all_fields f w vs ≡ true → st' ≡ lay o st (dig_all o w vs) → x ≡ ends st' (k + n) → x ≡ ran o t st k (times n (field_of f w))
  fields_done h d e =
      let a : all_fields f w (take n (drop k t)) ≡ true = rw is at h in
      e ∙ ap (λ (z : State). ends z (k + n)) (d ∙ ap (λ (xs : List ℕ). lay o st (dig_all o w xs)) is) ∙ sym (fields_run o f w t few n k st inside ∙ rw a)

-- ---- a number that is spelt one less, in n bits
abbrev pub less_one : Order → ℕ → ℕ → ℕ → Possible (List Bool)
less_one o n p v = undo suc pred (spell_ub o n) v

pub less_zero : (o : Order) (n p v : ℕ) → v ≡ 0 → less_one o n p v ≡ cannot
less_zero o n p v e = rw e

pub less_large : (o : Order) (n p v : ℕ) {m : ℕ} → m ≡ 2 ^ n → (v ≡ 0 → ⊥) → m ≤ v - 1 → less_one o n p v ≡ cannot
less_large o n p zero e z h = absurd (z refl)
less_large o n p (suc v) e z h = rw (eq-eqb (suc v) (suc v) refl, le-ltb v (2 ^ n) (omega arith))

pub less_in : (o : Order) (n p v : ℕ) {m : ℕ} → m ≡ 2 ^ n → (v ≡ 0 → ⊥) → v - 1 < m → less_one o n p v ≡ this (dig o n (v - 1))
less_in o n p zero e z h = absurd (z refl)
less_in o n p (suc v) e z h = let d : suc v - 1 ≡ v = omega arith in rw (eq-eqb (suc v) (suc v) refl, lt-ltb v (2 ^ n) (omega arith), d)

-- by items that are written so
module _ (o : Order) (n : ℕ) (i : Item) (is : (ns : List ℕ) (p : ℕ) → write_item o i ns p ≡ single (undo suc pred (spell_ub o n)) ns) where
  pub less_is : (ns : List ℕ) (p : ℕ) → unrun o (item i) ns p ≡ single (less_one o n p) ns
  unfolding unrun
  less_is ns p = is ns p

pub width_is : (o : Order) (ns : List ℕ) (p : ℕ) → write_item o Item.width ns p ≡ single (undo suc pred (spell_ub o 5)) ns
unfolding write_item
width_is o ns p = refl

pub dash_length_is : (o : Order) (ns : List ℕ) (p : ℕ) → write_item o Item.dash_length ns p ≡ single (undo suc pred (spell_ub o 3)) ns
unfolding write_item
dash_length_is o ns p = refl

-- it was put, and st' is where it ends; m is 2 ^ n
pub less_done : (o : Order) (n : ℕ) (i : Item) (is : (ns : List ℕ) (p : ℕ) → write_item o i ns p ≡ single (undo suc pred (spell_ub o n)) ns) (t : List ℕ) (st : State) (k : ℕ) {v m : ℕ} {st' : State}
    → k < length t → v ≡ get_or t k 0 → m ≡ 2 ^ n → (v ≡ 0 → ⊥) → v - 1 < m → st' ≡ lay o st (dig o n (v - 1)) → ran o t st k (item i) ≡ ends st' (k + 1)
less_done o n i is t st k {v} {m} {st'} there same e z h d =
    one_bits o (item i) (less_one o n) (less_is o n i is) t st k there
    (laid_in o st (less_one o n st.place (get_or t k 0)) (less_in o n st.place (get_or t k 0) e (λ q. z (same ∙ q)) (omega (arith, same, h))) (d ∙ ap (λ (x : ℕ). lay o st (dig o n (x - 1))) same))
