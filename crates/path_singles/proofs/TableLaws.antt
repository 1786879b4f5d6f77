-- The tags of a file's two tables, one after the other.
use Prim.Native.Nat.{ℕ, zero, suc, ◌+◌, ◌-◌, ◌*◌, ◌/◌, ◌%◌, ◌≤◌, ◌<◌, min}
use mathlib.Core.Bool.{Bool, true, false}
use mathlib.Core.List.{List, [], ◌∷◌, ◌++◌, map, append_assoc}
use mathlib.Core.Path.{◌≡◌, refl, ap, ap₂, sym, ◌∙◌}
use native.Mathlib.Omega.{arith}
use Rattle.std.proofs.Common.{Option, Some, None}
use Rattle.std.specs.Bool.{then_some}
use Rattle.std.specs.Option.{option_or}
use Rattle.std.specs.Simd.{first_chunks}
use lib.ListN.{length, get_or, take, drop, length-append, length-take, length-drop, take-append-drop}
use lib.Seq.{slice, get_or-drop, get_or-take, drop-drop, take-add, take_at, drop_at, take-nil, drop-append_seam, take-append_seam}
use borrow.Author.Tests.{eq-eqb, ne_eqb}
use Rattle.format.specs.Tests.{pick}
use Rattle.format.specs.Bits.{high}
use Rattle.format.specs.FileAndTags.{Tag, Walk, Outcome, whole, fault}
use Rattle.format.specs.TableOfNumbers.{numbers, table, tag_table}
use Rattle.format.specs.Reasons.{gives, result, Answer, accepted, refused, walk_file, read_file, read_tags}
use Rattle.format.proofs.StartLaws.{good_start, whole_start}
use Rattle.format.proofs.RoomLaws.{table_room}
use Rattle.format.proofs.Absurd.{clash}
use Rattle.attributes.specs.Rows.{attributes_of}
use Rattle.path_singles.specs.Coordinates.{Singled, block}
use Rattle.path_singles.specs.Converting.{left, body_at}
use Rattle.path_singles.specs.Tables.{values_by, singled_tag, with_singles, in_singles, judged, TablesOf}
use Rattle.path_singles.proofs.PathLaws.{take_up_to, drop_min}

-- ---- a part of a list
slice_is : (v : List ℕ) (i j : ℕ) → i ≤ j → take (j - i) (drop i v) ≡ slice i j v
slice_is v zero j h = let e : j - 0 ≡ j = omega arith in rw e
slice_is v (suc i) zero h = absurd (omega arith)
slice_is [] (suc i) (suc j) h = take-nil (suc j - suc i)
slice_is (x ∷ v) (suc i) (suc j) h = let e : suc j - suc i ≡ j - i = omega arith in rw e (slice_is v i j (omega arith))

slice_at : (t vs ns : List ℕ) (i : ℕ) → drop i t ≡ vs ++ ns → slice i (i + length vs) t ≡ vs
slice_at t vs ns i e =
    let n : i + length vs - i ≡ length vs = omega arith in
    sym (slice_is t i (i + length vs) (omega arith)) ∙ ap₂ take n e ∙ take-append_seam vs ns

parts_long : (n : ℕ) (v : List ℕ) → length (take n v) + length (drop n v) ≡ length v
parts_long n v = sym (length-append (take n v) (drop n v)) ∙ ap length (take-append-drop n v)

-- ---- a tag: an opaque one stays
pub tag_opaque : (vs : List ℕ) (s c : ℕ) (b : List ℕ) → s % 2 ≡ 0 → left vs false ≡ values_by s c b vs
unfolding values_by
tag_opaque vs s c b e = rw (eq-eqb (s % 2) 0 e)

-- another has the attributes of its code
tag_block : (s c : ℕ) (b vs : List ℕ) → (s % 2 ≡ 0 → ⊥) → block high b (attributes_of c) (attributes_of c) 0 vs ≡ values_by s c b vs
unfolding values_by
tag_block s c b vs h = rw (ne_eqb (s % 2) 0 h)

-- its body, by places that are never past the end
body_is : (f : List ℕ) (p n i j : ℕ) → i ≡ min (0 + p) (length f) → j ≡ min (i + n) (length f) → take (j - i) (drop i f) ≡ body_at f p n
body_is f p n i j e d =
    let h : i ≤ length f = omega arith in
    let z : 0 + p ≡ p = omega arith in
    ap (λ (k : ℕ). take (k - i) (drop i f)) d ∙ take_up_to i n f h
    ∙ ap (take n) (ap (λ (k : ℕ). drop k f) e ∙ drop_min (0 + p) f ∙ ap (λ (k : ℕ). drop k f) z)

-- what is left of a tag that is read, by its body
pub tag_read : (f vs : List ℕ) (s c p n y z : ℕ) {x : Singled} → (s % 2 ≡ 0 → ⊥) → y ≡ min (0 + p) (length f) → z ≡ min (y + n) (length f)
    → x ≡ block high (take (z - y) (drop y f)) (attributes_of c) (attributes_of c) 0 vs → x ≡ values_by s c (body_at f p n) vs
tag_read f vs s c p n y z h a b d = d ∙ ap (λ (b : List ℕ). block high b (attributes_of c) (attributes_of c) 0 vs) (body_is f p n y z a b) ∙ tag_block s c (body_at f p n) vs h

-- the numbers v, of which those from index i up to j become s
unfoldable pub between : List ℕ → ℕ → ℕ → Singled → Singled
between v i j s = left (take i v ++ (s.shown ++ drop j v)) s.beyond

-- values that are lent as a part of the table
lent_part : (v : List ℕ) {i j : ℕ} {u x : List ℕ} {r : Bool} (s : List ℕ → Singled) → i ≤ j → u ≡ take i v ++ (x ++ drop (j - i) (drop i v)) → left x r ≡ s (take (j - i) (drop i v))
    → left u r ≡ between v i j (s (slice i j v))
unfolding between
lent_part v {i} {j} {u} {x} {r} s l e d =
    let k : i + (j - i) ≡ j = omega arith in
    let o : drop (j - i) (drop i v) ≡ drop j v = drop-drop (j - i) i v ∙ ap (λ (m : ℕ). drop m v) k in
    ap (λ (q : List ℕ). left q r) (e ∙ ap (λ (m : List ℕ). take i v ++ (x ++ m)) o)
    ∙ ap (λ (q : Singled). left (take i v ++ (q.shown ++ drop j v)) q.beyond) (d ∙ ap s (slice_is v i j l))

part_long : (v u x : List ℕ) (i n : ℕ) → u ≡ take i v ++ (x ++ drop n (drop i v)) → length x ≡ length (take n (drop i v)) → length u ≡ length v
part_long v u x i n e l =
    omega (arith, ap length e, length-append (take i v) (x ++ drop n (drop i v)), length-append x (drop n (drop i v)), l, parts_long n (drop i v), parts_long i v)

-- a row of five, and a number of it
row_is : (g : List ℕ) (k i : ℕ) → i < k → get_or (first_chunks 5 k g) i [] ≡ take 5 (drop (5 * i) g)
row_is g zero i h = absurd (omega arith)
row_is g (suc k) zero h = refl
row_is g (suc k) (suc i) h =
    let e : 5 + 5 * i ≡ 5 * suc i = omega arith in
    row_is (drop 5 g) k i (omega arith) ∙ ap (take 5) (drop-drop (5 * i) 5 g ∙ ap (λ (m : ℕ). drop m g) e)

row_number : (g : List ℕ) {k i : ℕ} (n : ℕ) → i < k → n < 5 → get_or (get_or (first_chunks 5 k g) i []) n 0 ≡ get_or g (5 * i + n) 0
row_number g {k} {i} n h l = ap (λ (l : List ℕ). get_or l n 0) (row_is g k i h) ∙ get_or-take 5 (drop (5 * i) g) n 0 l ∙ get_or-drop (5 * i) g n 0

-- ---- the two tables of a file
gives_one : (ns : List ℕ) (z : Outcome) {t : List ℕ} → result ns z ≡ gives t → (ns ≡ t) × (z ≡ whole)
gives_one ns whole e = (cc, refl)
gives_one ns (fault e n) d = clash cc

-- the numbers from index k on
at_drop : (t : List ℕ) {x : List ℕ} (k i : ℕ) → drop k t ≡ x → get_or t (k + i) 0 ≡ get_or x i 0
at_drop t k i e = sym (get_or-drop k t i 0) ∙ ap (λ (l : List ℕ). get_or l i 0) e

drop_more : (t : List ℕ) {x : List ℕ} (k i : ℕ) → drop k t ≡ x → drop (k + i) t ≡ drop i x
drop_more t k i e = sym (drop-drop i k t) ∙ ap (drop i) e

-- the place of the first tag with a coordinate beyond refuses the file, whatever the rest would answer
abbrev pub carried : Option ℕ → Answer → Answer
carried (Some p) x = refused 29 p
carried None x = x

carry : (a : Option ℕ) (b : Bool) (p : ℕ) (y : Answer) → carried (option_or a (then_some b p)) y ≡ carried a (pick b (refused 29 p) y)
carry (Some q) b p y = refl
carry None true p y = refl
carry None false p y = refl

module _ (f g T : List ℕ) (J : Answer) (size : ℕ) where
  -- the loop: the tags that are left, the table that they make of it, and the answer
  pub record Walking (t : List ℕ) (k tag : ℕ) (a : Option ℕ) : Type 0 where
    pub rest : List Tag
    pub short : length f ≤ 16777216
    pub few : size ≤ 8 * 16777216
    pub long : length t ≡ size
    pub numbers_left : drop k t ≡ numbers rest
    pub tags_left : drop (5 * tag) g ≡ tag_table rest
    pub same : take k t ++ numbers (map (with_singles f) rest) ≡ T
    pub first : carried a (judged f rest) ≡ J

  -- the tag here
  pub record Here (t : List ℕ) (k m : ℕ) (a : Option ℕ) : Type 0 where
    pub x : Tag
    pub more : List Tag
    pub state : get_or t (k + 1) 0 ≡ x.state
    pub count : get_or t (k + 2) 0 ≡ length x.values
    pub ends : k + 3 + length x.values ≤ length t
    pub row : m + 5 ≤ length g
    pub code : get_or g (m + 1) 0 ≡ x.code
    pub place : get_or g (m + 2) 0 ≡ x.place
    pub header : get_or g (m + 3) 0 ≡ x.header_size
    pub bytes : get_or g (m + 4) 0 ≡ x.body_length
    pub values : slice (k + 3) (k + 3 + length x.values) t ≡ x.values
    pub behind : drop (k + 3 + length x.values) t ≡ numbers more
    pub rows : drop (m + 5) g ≡ tag_table more
    pub front : take (k + 3) t ≡ take k t ++ (x.code ∷ x.state ∷ length x.values ∷ [])
    pub same : take k t ++ numbers (map (with_singles f) (x ∷ more)) ≡ T
    pub first : carried a (judged f (x ∷ more)) ≡ J

  pub here : {t : List ℕ} {k tag : ℕ} {a : Option ℕ} → Walking t k tag a → tag < length g / 5 → Here t k (5 * tag) a
  here {t} {k} {tag} {a} W h = go W.rest W.numbers_left W.tags_left W.same W.first
    where
      go : (ts : List Tag) → drop k t ≡ numbers ts → drop (5 * tag) g ≡ tag_table ts → take k t ++ numbers (map (with_singles f) ts) ≡ T → carried a (judged f ts) ≡ J → Here t k (5 * tag) a
      go [] e d s c = absurd (omega (arith, ap length d, length-drop (5 * tag) g))
      go (x ∷ more) e d s c =
          let v : drop (k + 3) t ≡ x.values ++ numbers more = drop_more t k 3 e in
          record {
            x = x;
            more = more;
            state = at_drop t k 1 e;
            count = at_drop t k 2 e;
            ends = omega (arith, ap length e, length-drop k t, length-append x.values (numbers more));
            row = omega (arith, ap length d, length-drop (5 * tag) g);
            code = at_drop g (5 * tag) 1 d;
            place = at_drop g (5 * tag) 2 d;
            header = at_drop g (5 * tag) 3 d;
            bytes = at_drop g (5 * tag) 4 d;
            values = slice_at t x.values (numbers more) (k + 3) v;
            behind = drop_more t (k + 3) (length x.values) v ∙ drop-append_seam x.values (numbers more);
            rows = drop_more g (5 * tag) 5 d;
            front = take-add k 3 t ∙ ap (λ (w : List ℕ). take k t ++ take 3 w) e;
            same = s;
            first = c;
          }

  -- the numbers of the tag here are in the table, and its row in the tag table
  pub room : {t : List ℕ} {k tag : ℕ} {a : Option ℕ} → Walking t k tag a → tag < length g / 5 → (k + 3 + get_or t (k + 2) 0 ≤ length t) × (length t ≤ 8 * 16777216)
  room W h = let H : Here _ _ _ _ = here W h in (omega (arith, H.ends, H.count), omega (arith, W.long, W.few))

  -- the tag here was converted: its values, as they are lent, became v
  pub next : {t u v : List ℕ} {k tag : ℕ} {a c : Option ℕ} (G : List (List ℕ)) (e q : ℕ) {r : Bool} → G ≡ first_chunks 5 (length g / 5) g → Walking t k tag a → tag < length g / 5 → e ≡ k + 3 + get_or t (k + 2) 0 → length v ≡ length (take (e - (k + 3)) (drop (k + 3) t))
      → u ≡ take (k + 3) t ++ (v ++ drop (e - (k + 3)) (drop (k + 3) t))
      → left v r ≡ values_by (get_or t (k + 1) 0) (get_or (get_or G tag []) 1 0) (body_at f (get_or (get_or G tag []) 2 0 + get_or (get_or G tag []) 3 0) (get_or (get_or G tag []) 4 0)) (take (e - (k + 3)) (drop (k + 3) t))
      → q ≡ get_or (get_or G tag []) 2 0 → c ≡ option_or a (then_some r q) → Walking u e (tag + 1) c
  unfolding between
  next {t} {u} {v} {k} {tag} {a} {c} G e q {r} rows W h x n lies d y z =
      let R : List ℕ = get_or G tag [] in
      let told_row : R ≡ get_or (first_chunks 5 (length g / 5) g) tag [] = ap (λ (G : List (List ℕ)). get_or G tag []) rows in
      let H : Here t k (5 * tag) a = here W h in
      let vals : List ℕ = H.x.values in
      let S : Singled = singled_tag f H.x in
      let N : List ℕ = numbers (map (with_singles f) H.more) in
      let V : List ℕ = take (e - (k + 3)) (drop (k + 3) t) in
      let b : e ≡ k + 3 + length vals = omega (arith, H.count) in
      let vs : slice (k + 3) e t ≡ vals = ap (λ (j : ℕ). slice (k + 3) j t) b ∙ H.values in
      let code : get_or R 1 0 ≡ H.x.code = ap (λ (l : List ℕ). get_or l 1 0) told_row ∙ row_number g 1 h (omega arith) ∙ H.code in
      let place : get_or R 2 0 ≡ H.x.place = ap (λ (l : List ℕ). get_or l 2 0) told_row ∙ row_number g 2 h (omega arith) ∙ H.place in
      let header : get_or R 3 0 ≡ H.x.header_size = ap (λ (l : List ℕ). get_or l 3 0) told_row ∙ row_number g 3 h (omega arith) ∙ H.header in
      let bytes : get_or R 4 0 ≡ H.x.body_length = ap (λ (l : List ℕ). get_or l 4 0) told_row ∙ row_number g 4 h (omega arith) ∙ H.bytes in
      let long : length u ≡ length t = part_long t u v (k + 3) (e - (k + 3)) lies n in
      let told : left v r ≡ values_by H.x.state H.x.code (body_at f (H.x.place + H.x.header_size) H.x.body_length) V =
      d ∙ ap₂ (λ (s o : ℕ). values_by s o (body_at f (get_or R 2 0 + get_or R 3 0) (get_or R 4 0)) V) H.state code
      ∙ ap₂ (λ (i j : ℕ). values_by H.x.state H.x.code (body_at f (i + get_or R 3 0) j) V) place bytes ∙ ap (λ (i : ℕ). values_by H.x.state H.x.code (body_at f (H.x.place + i) H.x.body_length) V) header in
      let w : left u r ≡ left (take (k + 3) t ++ (S.shown ++ drop e t)) S.beyond =
      lent_part t (values_by H.x.state H.x.code (body_at f (H.x.place + H.x.header_size) H.x.body_length)) (omega arith) lies told
      ∙ ap (λ (l : List ℕ). between t (k + 3) e (values_by H.x.state H.x.code (body_at f (H.x.place + H.x.header_size) H.x.body_length) l)) vs in
      let p : u ≡ (take (k + 3) t ++ S.shown) ++ drop e t = ap (λ (s : Singled). s.shown) w ∙ sym (append_assoc (take (k + 3) t) S.shown (drop e t)) in
      let l : length (take (k + 3) t) ≡ min (k + 3) (length t) = length-take (k + 3) t in
      let o : length S.shown ≡ length vals = omega (arith, ap length p, length-append (take (k + 3) t ++ S.shown) (drop e t), length-append (take (k + 3) t) S.shown, length-drop e t, H.ends) in
      let i : length (take (k + 3) t ++ S.shown) ≡ e = omega (arith, length-append (take (k + 3) t) S.shown, H.ends) in
      record {
        rest = H.more;
        short = W.short;
        few = W.few;
        long = long ∙ W.long;
        numbers_left = ap (drop e) p ∙ drop_at (take (k + 3) t ++ S.shown) (drop e t) e i ∙ ap (λ (j : ℕ). drop j t) b ∙ H.behind;
        tags_left = let m : 5 * (tag + 1) ≡ 5 * tag + 5 = omega arith in rw m H.rows;
        same = ap (λ (v : List ℕ). take e v ++ N) p ∙ ap (λ (v : List ℕ). v ++ N) (take_at (take (k + 3) t ++ S.shown) (drop e t) e i)
            ∙ append_assoc (take (k + 3) t) S.shown N ∙ ap (λ (v : List ℕ). v ++ (S.shown ++ N)) H.front
            ∙ append_assoc (take k t) (H.x.code ∷ H.x.state ∷ length vals ∷ []) (S.shown ++ N)
            ∙ ap (λ (j : ℕ). take k t ++ (H.x.code ∷ H.x.state ∷ j ∷ (S.shown ++ N))) (sym o) ∙ H.same;
        first = ap (λ (s : Option ℕ). carried s (judged f H.more)) z ∙ carry a r q (judged f H.more)
            ∙ ap₂ (λ (v : Bool) (j : ℕ). carried a (pick v (refused 29 j) (judged f H.more))) (ap (λ (s : Singled). s.beyond) w) (y ∙ place) ∙ H.first;
      }

  pub walked : {t : List ℕ} {k tag : ℕ} {a : Option ℕ} → Walking t k tag a → length g / 5 ≤ tag → (t ≡ T) × (carried a (accepted 0) ≡ J)
  walked {t} {k} {tag} {a} W h = go W.rest W.numbers_left W.tags_left W.same W.first
    where
      go : (ts : List Tag) → drop k t ≡ numbers ts → drop (5 * tag) g ≡ tag_table ts → take k t ++ numbers (map (with_singles f) ts) ≡ T → carried a (judged f ts) ≡ J
          → (t ≡ T) × (carried a (accepted 0) ≡ J)
      go [] e d s c = (sym (take-append-drop k t) ∙ ap (λ (v : List ℕ). take k t ++ v) e ∙ s, c)
      go (x ∷ more) e d s c = absurd (omega (arith, ap length d, length-drop (5 * tag) g))

pub begins : (f t g : List ℕ) → TablesOf f t g → Walking f g (table f (in_singles f (walk_file 0 1023 f))) (judged f (walk_file 0 1023 f).tags) (length t) t 1 0 None
unfolding read_file read_tags
begins f t g h =
    let w : Walk = walk_file 0 1023 f in
    let e : table f w ≡ t = (gives_one (table f w) w.ended h.0).0 in
    let d : tag_table w.tags ≡ g = (gives_one (tag_table w.tags) w.ended h.1).0 in
    let s : length f ≤ 16777216 = (good_start 0 1023 f (whole_start 0 1023 f (gives_one (table f w) w.ended h.0).1)).limit in
    record {
      rest = w.tags;
      short = s;
      few = omega (arith, table_room 0 1023 f t h.0);
      long = refl;
      numbers_left = ap (drop 1) (sym e);
      tags_left = sym d;
      same = ap (λ (v : List ℕ). take 1 v ++ numbers (map (with_singles f) w.tags)) (sym e);
      first = refl;
    }
