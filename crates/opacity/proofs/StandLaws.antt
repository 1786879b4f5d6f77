-- Keyframed opacity in a body: where its count, its interpolations, its times and its values stand, and which of the body's numbers they are.
use Prim.Native.Nat.{ℕ, suc, ◌+◌, ◌*◌, ◌^◌, ◌≤◌, ◌<◌}
use mathlib.Core.List.{List, [], ◌∷◌, ◌++◌, append_assoc}
use mathlib.Core.Bool.{Bool, true, false}
use mathlib.Core.Path.{◌≡◌, refl, ap, sym, ◌∙◌}
use native.Mathlib.Numerals.{add-one}
use native.Mathlib.Omega.{arith}
use lib.ListN.{length, get_or, get_or-append}
use lib.Seq.{get_or-append-add}
use lib.Dec.{ltb, leb}
use borrow.Author.Tests.{leb-true, ne_eqb}
use Rattle.format.specs.Tests.{pick, ◌and◌}
use Rattle.format.specs.Bits.{Order, ub}
use Rattle.format.specs.Reading.{At, Reading, shows}
use Rattle.format.specs.Formats.{Item, Format, nothing, item, only, ◌▹◌, ◌▸◌, times, the}
use Rattle.format.specs.Items.{run, count, time, scaled}
use Rattle.format.specs.Bodies.{content, how_many, aligned, spatial, has_spatial}
use Rattle.format.proofs.Absurd.{clash}
use Rattle.format.proofs.WalkLaws.{run_le}
use Rattle.opacity.specs.Opacity.{Keyframes, from_opacity, keyframes_of}
use Rattle.opacity.specs.Inner.{place_in, is_at, IsAt, opacity_row, Finds, Framed, mask_frames, whole, width_at, PartsAt, Stands}
use Rattle.opacity.proofs.ReadLaws.{ended_at, Parts, parts, known_then, align_at, align_then, width_one, count_one, Fields, fields, times_many}

-- ---- the content's format: what follows the values is left open
abbrev is_kind : List ℕ → Bool
is_kind ns = ltb 0 (the ns)

abbrev is_byte : List ℕ → Bool
is_byte ns = leb (the ns) 255

abbrev is_count : List ℕ → Bool
is_count ns = leb 1 (the ns) and leb (the ns) 4096

abbrev bytes_of : ℕ → Format
bytes_of n = item Item.width ▹ λ w. times n (only is_byte 16 (item (Item.UB (the w))))

abbrev after_times : Format → ℕ → Format
after_times E n = aligned ▸ bytes_of n ▸ E

abbrev after_kinds : Format → ℕ → Format
after_kinds E n = times (suc n) time ▸ after_times E (suc n)

abbrev after_count : (ℕ → List ℕ → Format) → ℕ → Format
after_count E n = (aligned ▸ times n (only is_kind 16 (item (Item.UB 2)))) ▹ λ kinds. after_kinds (E n kinds) n

abbrev frames_by : (ℕ → List ℕ → Format) → Format
frames_by E = count 1 4096 ▹ λ n. after_count E (the n)

-- the easing of n frames, and what a flag number of 7 would add
abbrev eased : ℕ → ℕ → List ℕ → Format
eased φ n kinds = aligned ▸ scaled (how_many 2 kinds * 4 * 1) ▸ pick (has_spatial φ) (spatial n) nothing

frames_content : (φ : ℕ) → 1 < φ → content opacity_row φ ≡ frames_by (eased φ)
frames_content φ h = rw (ne_eqb φ 0 (λ e. omega arith), ne_eqb φ 1 (λ e. omega arith))

-- ---- numbers behind others in a list
past : (xs ys : List ℕ) (i j : ℕ) → j ≡ length xs + i → get_or (xs ++ ys) j 0 ≡ get_or ys i 0
past xs ys i j e = rw e (get_or-append-add xs ys i 0)

both : (s t : Bool) → s and t ≡ true → (s ≡ true) × (t ≡ true)
both true t h = (refl, h)
both false t h = clash cc

-- ---- a width, and m values of it
pub record Values (o : Order) (b : List ℕ) (m p q : ℕ) (xs : List ℕ) : Type 0 where
  pub vs : List ℕ
  pub all : xs ≡ suc (ub o b p 5) ∷ vs
  pub each : Fields o b is_byte (suc (ub o b p 5)) m (p + 5) q vs

values_in_lem : (o : Order) (b : List ℕ) (m p q : ℕ) (xs : List ℕ) → run o b (bytes_of m) p ≡ shows xs q → Values o b m p q xs
values_in_lem o b m p q xs h =
    let g : List ℕ → Format = λ w. times m (only is_byte 16 (item (Item.UB (the w)))) in
    let A : Parts o b (item Item.width) g p q = parts o b (item Item.width) g p q (ap (λ (r : Reading). r.ended) h) in
    let W : run o b (item Item.width) p ≡ shows (suc (ub o b p 5) ∷ []) (p + 5) = width_one o b p (ap (λ (r : Reading). r.ended) A.first) in
    let R : run o b (bytes_of m) p ≡ record { shown = (suc (ub o b p 5) ∷ []) ++ (run o b (g (suc (ub o b p 5) ∷ [])) (p + 5)).shown; ended = (run o b (g (suc (ub o b p 5) ∷ [])) (p + 5)).ended } =
    known_then o b (item Item.width) g p W in
    record {
      vs = (run o b (g (suc (ub o b p 5) ∷ [])) (p + 5)).shown;
      all = ap (λ (r : Reading). r.shown) (sym h ∙ R);
      each = fields o b is_byte 16 (suc (ub o b p 5)) m (p + 5) q (ap (λ (r : Reading). r.ended) (sym R ∙ h));
    }

-- the skip before what was read stays in the body
skip_in : (o : Order) (b : List ℕ) (g : List ℕ → Format) (m : ℕ) {q : ℕ} → m ≤ 8 * length b → (run o b (aligned ▹ g) m).ended ≡ At q → whole m ≤ 8 * length b
skip_in o b g m {q} h e =
    let a : Parts o b aligned g m q = parts o b aligned g m q e in
    (run_le o b aligned m (whole m) h (ap (λ (r : Reading). r.ended) (align_at o b m (ap (λ (r : Reading). r.ended) a.first)))).1

-- ---- the parts of a content that was read
module _ (o : Order) (b : List ℕ) (E : ℕ → List ℕ → Format) where
  -- what the numbers of a content are, and where they stand
  pub record Content (p : ℕ) : Type 0 where
    pub n : ℕ
    pub some : 1 ≤ n
    pub most : n ≤ 4096
    pub counted : ℕ
    pub count_read : run o b (count 1 4096) p ≡ shows (n ∷ []) counted
    pub ks : List ℕ
    pub kinds_end : ℕ
    pub kinds : Fields o b is_kind 2 n (whole counted) kinds_end ks
    pub kinds_in : kinds_end ≤ 8 * length b
    pub ts : List ℕ
    pub times_end : ℕ
    pub times_read : run o b (times (suc n) time) kinds_end ≡ shows ts times_end
    pub vs : List ℕ
    pub values_end : ℕ
    pub values : Fields o b is_byte (suc (ub o b (whole times_end) 5)) (suc n) (whole times_end + 5) values_end vs
    pub values_in : values_end ≤ 8 * length b
    pub more : List ℕ
    pub shown : (run o b (frames_by E) p).shown ≡ n ∷ (ks ++ (ts ++ (suc (ub o b (whole times_end) 5) ∷ (vs ++ more))))

  module _ (p : ℕ) {q : ℕ} (inside : p ≤ 8 * length b) (reads : (run o b (frames_by E) p).ended ≡ At q) where
    pub content_parts : Content p
    content_parts =
        -- the count
        let A : Parts o b (count 1 4096) (λ n. after_count E (the n)) p q = parts o b (count 1 4096) (λ n. after_count E (the n)) p q reads in
        let C : (v : ℕ) × (run o b (count 1 4096) p ≡ shows (v ∷ []) A.mid) × (is_count (v ∷ []) ≡ true) = count_one o b is_count 17 p (ap (λ (r : Reading). r.ended) A.first) in
        let n : ℕ = C.0 in
        let range : (leb 1 n ≡ true) × (leb n 4096 ≡ true) = both (leb 1 n) (leb n 4096) C.2 in
        let R₁ : run o b (frames_by E) p ≡ record { shown = (n ∷ []) ++ (run o b (after_count E n) A.mid).shown; ended = (run o b (after_count E n) A.mid).ended } =
        known_then o b (count 1 4096) (λ n. after_count E (the n)) p C.1 in
        let in₁ : (p ≤ A.mid) × (A.mid ≤ 8 * length b) = run_le o b (count 1 4096) p A.mid inside (ap (λ (r : Reading). r.ended) A.first) in
        -- the interpolations
        let K : Format = aligned ▸ times n (only is_kind 16 (item (Item.UB 2))) in
        let B : Parts o b K (λ kinds. after_kinds (E n kinds) n) A.mid q = parts o b K (λ kinds. after_kinds (E n kinds) n) A.mid q (ap (λ (r : Reading). r.ended) (sym R₁) ∙ reads) in
        let k : run o b (times n (only is_kind 16 (item (Item.UB 2)))) (whole A.mid) ≡ shows B.xs B.mid =
        sym (align_then o b (λ xs. times n (only is_kind 16 (item (Item.UB 2)))) A.mid (ap (λ (r : Reading). r.ended) B.first)) ∙ B.first in
        let F : Fields o b is_kind 2 n (whole A.mid) B.mid (run o b (times n (only is_kind 16 (item (Item.UB 2)))) (whole A.mid)).shown =
        fields o b is_kind 16 2 n (whole A.mid) B.mid (ap (λ (r : Reading). r.ended) k) in
        let in₂ : (A.mid ≤ B.mid) × (B.mid ≤ 8 * length b) = run_le o b K A.mid B.mid in₁.1 (ap (λ (r : Reading). r.ended) B.first) in
        -- the times
        let D : Parts o b (times (suc n) time) (λ xs. after_times (E n B.xs) (suc n)) B.mid q = parts o b (times (suc n) time) (λ xs. after_times (E n B.xs) (suc n)) B.mid q B.rest in
        let in₃ : (B.mid ≤ D.mid) × (D.mid ≤ 8 * length b) = run_le o b (times (suc n) time) B.mid D.mid in₂.1 (ap (λ (r : Reading). r.ended) D.first) in
        -- the skip, the width and the values
        let G : run o b (after_times (E n B.xs) (suc n)) D.mid ≡ run o b (bytes_of (suc n) ▸ E n B.xs) (whole D.mid) = align_then o b (λ xs. bytes_of (suc n) ▸ E n B.xs) D.mid D.rest in
        let in₄ : whole D.mid ≤ 8 * length b = skip_in o b (λ xs. bytes_of (suc n) ▸ E n B.xs) D.mid in₃.1 D.rest in
        let H : Parts o b (bytes_of (suc n)) (λ xs. E n B.xs) (whole D.mid) q = parts o b (bytes_of (suc n)) (λ xs. E n B.xs) (whole D.mid) q (ap (λ (r : Reading). r.ended) (sym G) ∙ D.rest) in
        let Y : Values o b (suc n) (whole D.mid) H.mid H.xs = values_in_lem o b (suc n) (whole D.mid) H.mid H.xs H.first in
        let in₅ : (whole D.mid ≤ H.mid) × (H.mid ≤ 8 * length b) = run_le o b (bytes_of (suc n)) (whole D.mid) H.mid in₄ (ap (λ (r : Reading). r.ended) H.first) in
        record {
          n = n;
          some = leb-true 1 n range.0;
          most = leb-true n 4096 range.1;
          counted = A.mid;
          count_read = C.1;
          ks = B.xs;
          kinds_end = B.mid;
          kinds = rw k at F;
          kinds_in = in₂.1;
          ts = D.xs;
          times_end = D.mid;
          times_read = D.first;
          vs = Y.vs;
          values_end = H.mid;
          values = Y.each;
          values_in = in₅.1;
          more = (run o b (E n B.xs) H.mid).shown;
          shown =
              ap (λ (r : Reading). r.shown) R₁ ∙ ap (λ (l : List ℕ). n ∷ l) (B.shown ∙ ap (λ (l : List ℕ). B.xs ++ l) (D.shown ∙ ap (λ (l : List ℕ). D.xs ++ l)
              (ap (λ (r : Reading). r.shown) G ∙ H.shown ∙ ap (λ (l : List ℕ). l ++ (run o b (E n B.xs) H.mid).shown) Y.all)));
        }

-- ---- the keyframes of numbers ns that begin with a flag number and such a content
module _ (o : Order) (b : List ℕ) (few : length b < 2 ^ 60) (E : ℕ → List ℕ → Format) (φ p : ℕ) (C : Content o b E p) (after ns : List ℕ)
    (all : ns ≡ (φ ∷ (run o b (frames_by E) p).shown) ++ after) where
  abbrev w : ℕ
  w = suc (ub o b (whole C.times_end) 5)

  -- in turn: flag number and count, interpolations, times, width, values, and more
  abbrev from_values : List ℕ
  from_values = C.vs ++ (C.more ++ after)

  abbrev from_times : List ℕ
  from_times = C.ts ++ (w ∷ from_values)

  row : ns ≡ φ ∷ C.n ∷ (C.ks ++ from_times)
  row = all ∙ ap (λ (l : List ℕ). (φ ∷ l) ++ after) C.shown ∙ simp append_assoc

  n_is : get_or ns 1 0 ≡ C.n
  n_is = ap (λ (l : List ℕ). get_or l 1 0) row

  kind_is : (k : ℕ) → k < C.n → get_or ns (2 + k) 0 ≡ get_or C.ks k 0
  kind_is k h =
      ap (λ (l : List ℕ). get_or l (2 + k) 0) row ∙ past (φ ∷ C.n ∷ []) (C.ks ++ from_times) k (2 + k) (omega arith)
      ∙ get_or-append C.ks from_times 0 k (omega (arith, C.kinds.many))

  many_times : length C.ts ≡ suc C.n
  many_times = times_many o b (suc C.n) C.kinds_end C.times_end C.ts C.times_read

  -- behind the interpolations
  behind_kinds : (i j : ℕ) → j ≡ 2 + C.n + i → get_or ns j 0 ≡ get_or from_times i 0
  behind_kinds i j e = ap (λ (l : List ℕ). get_or l j 0) row ∙ past (φ ∷ C.n ∷ C.ks) from_times i j (omega (arith, C.kinds.many))

  time_is : (k : ℕ) → k ≤ C.n → get_or ns (2 + get_or ns 1 0 + k) 0 ≡ get_or C.ts k 0
  time_is k h = behind_kinds k (2 + get_or ns 1 0 + k) (omega (arith, n_is)) ∙ get_or-append C.ts (w ∷ from_values) 0 k (omega (arith, many_times))

  value_is : (k : ℕ) → k ≤ C.n → get_or ns (2 + get_or ns 1 0 + (get_or ns 1 0 + 1) + 1 + k) 0 ≡ get_or C.vs k 0
  value_is k h =
      behind_kinds (C.n + 1 + 1 + k) (2 + get_or ns 1 0 + (get_or ns 1 0 + 1) + 1 + k) (omega (arith, n_is))
      ∙ past C.ts (w ∷ from_values) (1 + k) (C.n + 1 + 1 + k) (omega (arith, many_times)) ∙ past (w ∷ []) from_values k (1 + k) (omega arith)
      ∙ get_or-append C.vs (C.more ++ after) 0 k (omega (arith, C.values.many))

  width_is : w ≡ width_at o b (whole C.times_end)
  width_is = sym (add-one (ub o b (whole C.times_end) 5))

  pub stand : Stands o b (keyframes_of (get_or ns 1 0) ns) C.n (whole C.counted)
  stand = record {
    times = record {
      few = few;
      place = omega (arith, C.kinds.ends, C.kinds_in);
      ts = C.ts;
      end = C.times_end;
      reads = rw (← C.kinds.ends) C.times_read;
      each = time_is;
    };
    parts = record {
      count = n_is;
      some = C.some;
      most = C.most;
      kinds = record {
        few = few;
        within = omega (arith, C.kinds.ends, C.kinds_in);
        each = λ k h. kind_is k h ∙ C.kinds.each k h;
      };
      values = record {
        few = few;
        within = rw (← width_is) (omega (arith, C.values.ends, C.values_in));
        each = λ k h. value_is k h ∙ C.values.each k (omega arith) ∙ ap (λ (x : ℕ). ub o b (whole C.times_end + 5 + x * k) x) width_is;
        small = λ k h. omega (arith, value_is k h, C.values.each k (omega arith), leb-true (ub o b (whole C.times_end + 5 + w * k) w) 255 (C.values.holds k (omega arith)));
      };
    };
  }

-- ---- for code: the count was read as v, the place after it is m, and the next whole byte k
framed_content : (o : Order) (b : List ℕ) {p : ℕ} (f : Framed o b p) → Content o b (eased f.flag) p
framed_content o b {p} f =
    let g : content opacity_row f.flag ≡ frames_by (eased f.flag) = frames_content f.flag f.more in
    let e : (q : ℕ) × ((run o b (content opacity_row f.flag) p).ended ≡ At q) = ended_at (run o b (content opacity_row f.flag) p).ended f.finds.reads in
    content_parts o b (eased f.flag) p f.finds.place (ap (λ (x : Format). (run o b x p).ended) (sym g) ∙ e.1)

pub count_there : (o : Order) (b : List ℕ) {p : ℕ} → Framed o b p → IsAt (run o b (count 1 4096) p).ended
count_there o b {p} f = ap (λ (r : Reading). is_at r.ended) (framed_content o b f).count_read

pub framed_stands : (o : Order) (b : List ℕ) {p v m k : ℕ} → Framed o b p → v ≡ the (run o b (count 1 4096) p).shown → m ≡ place_in (run o b (count 1 4096) p).ended → k ≡ whole m
    → Stands o b (mask_frames o b) v k
unfolding mask_frames
framed_stands o b {p} {v} {m} {k} f number next byte =
    let F : Finds o b f.flag p = f.finds in
    let g : content opacity_row f.flag ≡ frames_by (eased f.flag) = frames_content f.flag f.more in
    let C : Content o b (eased f.flag) p = framed_content o b f in
    let x : v ≡ C.n = number ∙ ap (λ (r : Reading). the r.shown) C.count_read in
    let y : m ≡ C.counted = next ∙ ap (λ (r : Reading). place_in r.ended) C.count_read in
    rw (byte, x, y) (stand o b F.few (eased f.flag) f.flag p C F.after (from_opacity o b) (F.shown ∙ ap (λ (z : Format). (f.flag ∷ (run o b z p).shown) ++ F.after) g))

-- the count and the place after it are small
pub count_small : (o : Order) (b : List ℕ) {p v m : ℕ} → Framed o b p → v ≡ the (run o b (count 1 4096) p).shown → m ≡ place_in (run o b (count 1 4096) p).ended
    → (v ≤ 4096) × (m < 2 ^ 63)
count_small o b {p} {v} {m} f number next =
    let S : Stands o b (mask_frames o b) v (whole m) = framed_stands o b f number next refl in
    (S.parts.most, omega (arith, S.parts.kinds.within, S.parts.kinds.few))

-- the times ended at m, and the next whole byte is k
module _ (o : Order) (b : List ℕ) (K : Keyframes) {n p m : ℕ} (S : Stands o b K n p) (next : m ≡ place_in (run o b (times (suc n) time) (p + 2 * n)).ended) where
  end_is : m ≡ S.times.end
  end_is = next ∙ ap (λ (r : Reading). place_in r.ended) S.times.reads

  pub end_small : m < 2 ^ 63
  end_small = omega (arith, end_is, S.parts.values.within, S.parts.values.few)

  pub parts_here : {k : ℕ} → k ≡ whole m → PartsAt o b K n p k
  parts_here e = rw (e, end_is) S.parts
