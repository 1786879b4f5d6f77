-- Formats that were read: the parts of a sequence, items that show one number, and fields in a row.
use Prim.Native.Nat.{ℕ, zero, suc, ◌+◌, ◌*◌, ◌<◌}
use mathlib.Core.List.{List, [], ◌∷◌, ◌++◌}
use mathlib.Core.Bool.{Bool, true, false}
use mathlib.Core.Path.{◌≡◌, refl, ap, sym, ◌∙◌}
use native.Mathlib.Nat.{mul-suc, mul-zero}
use native.Mathlib.Omega.{arith}
use lib.ListN.{length, get_or}
use lib.Dec.{eqb}
use Rattle.format.specs.Tests.{pick}
use Rattle.format.specs.Bits.{Order, ub}
use Rattle.format.specs.Reading.{Ending, At, Fault, Reading, shows, stop, follow}
use Rattle.format.specs.Formats.{Item, Format, nothing, item, only, ◌▹◌, ◌▸◌, times}
use Rattle.format.specs.Items.{Num, num, bad, room, read_ub, read_u32, read_u64, read_item, show_num, map_num, judge, run, byte_item, skipped, u32, time}
use Rattle.format.specs.Bodies.{aligned}
use Rattle.format.proofs.Absurd.{clash}
use Rattle.table.proofs.EngineLaws.{none_then}
use Rattle.opacity.specs.Inner.{IsAt, whole}

-- a reading that ended, and where
pub ended_at : (z : Ending) → IsAt z → (q : ℕ) × (z ≡ At q)
ended_at (At q) h = (q, refl)
ended_at (Fault e) h = clash cc

pub at_one : {p q : ℕ} → At p ≡ At q → p ≡ q
at_one e = cc

-- ---- f, and what follows it
pub record Parts (o : Order) (b : List ℕ) (f : Format) (g : List ℕ → Format) (p q : ℕ) : Type 0 where
  pub xs : List ℕ
  pub mid : ℕ
  pub first : run o b f p ≡ shows xs mid
  pub rest : (run o b (g xs) mid).ended ≡ At q
  pub shown : (run o b (f ▹ g) p).shown ≡ xs ++ (run o b (g xs) mid).shown

pub parts : (o : Order) (b : List ℕ) (f : Format) (g : List ℕ → Format) (p q : ℕ) → (run o b (f ▹ g) p).ended ≡ At q → Parts o b f g p q
unfolding run
parts o b f g p q e = go (run o b f p).shown (run o b f p).ended refl e
  where
    go : (xs : List ℕ) (z : Ending) → run o b f p ≡ record { shown = xs; ended = z } → (follow xs z (λ ys m. run o b (g ys) m)).ended ≡ At q → Parts o b f g p q
    go xs (At m) d h = record { xs = xs; mid = m; first = d; rest = h; shown = rw d }
    go xs (Fault r) d h = clash cc

-- what follows a format that was read
pub known_then : (o : Order) (b : List ℕ) (f : Format) (g : List ℕ → Format) (p : ℕ) {xs : List ℕ} {m : ℕ} → run o b f p ≡ shows xs m
    → run o b (f ▹ g) p ≡ record { shown = xs ++ (run o b (g xs) m).shown; ended = (run o b (g xs) m).ended }
unfolding run
known_then o b f g p e = rw e

-- ---- single items

one_num : (n : Num) (q : ℕ) → (show_num n).ended ≡ At q → (v : ℕ) × (show_num n ≡ shows (v ∷ []) q)
one_num (num v p) q e = (v, λ i. record { shown = v ∷ []; ended = e i })
one_num (bad r) q e = clash cc

-- the skip to a whole byte
pub align_at : (o : Order) (b : List ℕ) (p : ℕ) {q : ℕ} → (run o b aligned p).ended ≡ At q → run o b aligned p ≡ shows [] (whole p)
unfolding run read_item
align_at o b p {q} e = go (eqb (ub o b p (skipped p)) 0) e
  where
    go : (t : Bool) → (pick t (shows [] (whole p)) (stop 15)).ended ≡ At q → pick t (shows [] (whole p)) (stop 15) ≡ shows [] (whole p)
    go true h = refl
    go false h = clash cc

-- after the skip
pub align_then : (o : Order) (b : List ℕ) (g : List ℕ → Format) (p : ℕ) {q : ℕ} → (run o b (aligned ▹ g) p).ended ≡ At q → run o b (aligned ▹ g) p ≡ run o b (g []) (whole p)
align_then o b g p {q} e =
    let a : Parts o b aligned g p q = parts o b aligned g p q e in
    none_then o b aligned g p (whole p) (align_at o b p (ap (λ (r : Reading). r.ended) a.first))

-- an item on a whole byte whose number is read by N
byte_one : (o : Order) (b : List ℕ) (i : Item) (N : ℕ → Num) → ((m : ℕ) → run o b (item i) m ≡ show_num (N m)) → (p : ℕ) {q : ℕ} → (run o b (byte_item i) p).ended ≡ At q
    → (v : ℕ) × (run o b (byte_item i) p ≡ shows (v ∷ []) q)
byte_one o b i N is p {q} e =
    let d : run o b (byte_item i) p ≡ show_num (N (whole p)) = align_then o b (λ xs. item i) p e ∙ is (whole p) in
    let w : (v : ℕ) × (show_num (N (whole p)) ≡ shows (v ∷ []) q) = one_num (N (whole p)) q (ap (λ (r : Reading). r.ended) (sym d) ∙ e) in
    (w.0, d ∙ w.1)

u32_one : (o : Order) (b : List ℕ) (p : ℕ) {q : ℕ} → (run o b u32 p).ended ≡ At q → (v : ℕ) × (run o b u32 p ≡ shows (v ∷ []) q)
unfolding run read_item
u32_one o b p e = byte_one o b Item.U32 (read_u32 o b) (λ m. refl) p e

pub time_one : (o : Order) (b : List ℕ) (p : ℕ) {q : ℕ} → (run o b time p).ended ≡ At q → (v : ℕ) × (run o b time p ≡ shows (v ∷ []) q)
unfolding run read_item
time_one o b p e = byte_one o b Item.U64 (read_u64 o b) (λ m. refl) p e

pub ub_one : (o : Order) (b : List ℕ) (w p : ℕ) {q : ℕ} → (run o b (byte_item (Item.UB w)) p).ended ≡ At q → (v : ℕ) × (run o b (byte_item (Item.UB w)) p ≡ shows (v ∷ []) q)
unfolding run read_item
ub_one o b w p e = byte_one o b (Item.UB w) (λ m. read_ub o b m w) (λ m. refl) p e

pub width_one : (o : Order) (b : List ℕ) (p : ℕ) {q : ℕ} → (run o b (item Item.width) p).ended ≡ At q → run o b (item Item.width) p ≡ shows (suc (ub o b p 5) ∷ []) (p + 5)
unfolding run read_item
width_one o b p {q} e = go (room b p 5) e
  where
    go : (t : Bool) → (show_num (map_num suc (pick t (num (ub o b p 5) (p + 5)) (bad 13)))).ended ≡ At q
        → show_num (map_num suc (pick t (num (ub o b p 5) (p + 5)) (bad 13))) ≡ shows (suc (ub o b p 5) ∷ []) (p + 5)
    go true h = refl
    go false h = clash cc

-- numbers that passed their test
pub record Passed (o : Order) (b : List ℕ) (t : List ℕ → Bool) (e : ℕ) (f : Format) (p q : ℕ) : Type 0 where
  pub same : run o b (only t e f) p ≡ run o b f p
  pub ends : (run o b f p).ended ≡ At q
  pub holds : t (run o b f p).shown ≡ true

pub passed : (o : Order) (b : List ℕ) (t : List ℕ → Bool) (e : ℕ) (f : Format) (p q : ℕ) → (run o b (only t e f) p).ended ≡ At q → Passed o b t e f p q
unfolding run
passed o b t e f p q h = go (run o b f p).shown (run o b f p).ended (t (run o b f p).shown) refl refl h
  where
    go : (xs : List ℕ) (z : Ending) (s : Bool) → run o b f p ≡ record { shown = xs; ended = z } → t xs ≡ s → (judge t e xs z).ended ≡ At q → Passed o b t e f p q
    go xs (At m) true d c h = record { same = rw (d, c); ends = ap (λ (r : Reading). r.ended) d ∙ rw c at h; holds = rw d c }
    go xs (At m) false d c h = let z : Fault e ≡ At q = rw c at h in clash cc
    go xs (Fault r) s d c h = clash cc

-- a count in its range
pub count_one : (o : Order) (b : List ℕ) (t : List ℕ → Bool) (e : ℕ) (p : ℕ) {q : ℕ} → (run o b (only t e u32) p).ended ≡ At q
    → (v : ℕ) × (run o b (only t e u32) p ≡ shows (v ∷ []) q) × (t (v ∷ []) ≡ true)
count_one o b t e p {q} h =
    let a : Passed o b t e u32 p q = passed o b t e u32 p q h in
    let w : (v : ℕ) × (run o b u32 p ≡ shows (v ∷ []) q) = u32_one o b p a.ends in
    (w.0, a.same ∙ w.1, ap (λ (r : Reading). t r.shown) (sym w.1) ∙ a.holds)

-- ---- fields in a row

field_one : (o : Order) (b : List ℕ) (w p : ℕ) {q : ℕ} → (run o b (item (Item.UB w)) p).ended ≡ At q → run o b (item (Item.UB w)) p ≡ shows (ub o b p w ∷ []) (p + w)
unfolding run read_item
field_one o b w p {q} e = go (room b p w) e
  where
    go : (t : Bool) → (show_num (pick t (num (ub o b p w) (p + w)) (bad 13))).ended ≡ At q → show_num (pick t (num (ub o b p w) (p + w)) (bad 13)) ≡ shows (ub o b p w ∷ []) (p + w)
    go true h = refl
    go false h = clash cc

-- m fields of w bits from p on, each of which passed the test t
pub record Fields (o : Order) (b : List ℕ) (t : List ℕ → Bool) (w m p q : ℕ) (xs : List ℕ) : Type 0 where
  pub many : length xs ≡ m
  pub ends : q ≡ p + w * m
  pub each : (k : ℕ) → k < m → get_or xs k 0 ≡ ub o b (p + w * k) w
  pub holds : (k : ℕ) → k < m → t (ub o b (p + w * k) w ∷ []) ≡ true

no_fields : (o : Order) (b : List ℕ) (t : List ℕ → Bool) (w p q : ℕ) → (run o b nothing p).ended ≡ At q → Fields o b t w zero p q (run o b nothing p).shown
unfolding run
no_fields o b t w p q h =
    let d : p ≡ q = at_one h in
    record { many = refl; ends = rw (mul-zero w) (omega arith); each = λ k l. absurd (omega arith); holds = λ k l. absurd (omega arith) }

pub fields : (o : Order) (b : List ℕ) (t : List ℕ → Bool) (e w m p q : ℕ) → (run o b (times m (only t e (item (Item.UB w)))) p).ended ≡ At q
    → Fields o b t w m p q (run o b (times m (only t e (item (Item.UB w)))) p).shown
unfolding times
fields o b t e w zero p q h = no_fields o b t w p q h
fields o b t e w (suc m) p q h =
    let f : Format = only t e (item (Item.UB w)) in
    let a : Parts o b f (λ xs. times m f) p q = parts o b f (λ xs. times m f) p q h in
    let c : Passed o b t e (item (Item.UB w)) p a.mid = passed o b t e (item (Item.UB w)) p a.mid (ap (λ (r : Reading). r.ended) a.first) in
    let d : run o b (item (Item.UB w)) p ≡ shows (ub o b p w ∷ []) (p + w) = field_one o b w p c.ends in
    let g : shows a.xs a.mid ≡ shows (ub o b p w ∷ []) (p + w) = sym a.first ∙ c.same ∙ d in
    let n : a.mid ≡ p + w = at_one (ap (λ (r : Reading). r.ended) g) in
    let u : (run o b (f ▸ times m f) p).shown ≡ ub o b p w ∷ (run o b (times m f) a.mid).shown = a.shown ∙ ap (λ (r : Reading). r.shown ++ (run o b (times m f) a.mid).shown) g in
    more n u (ap (λ (r : Reading). t r.shown) (sym d) ∙ c.holds) (fields o b t e w m a.mid q a.rest)
  where
    on : (mid k : ℕ) → mid ≡ p + w → mid + w * k ≡ p + w * suc k
    on mid k n = omega (arith, mul-suc w k)

    start : p + w * 0 ≡ p
    start = omega (arith, mul-zero w)

    more : {mid : ℕ} {xs ys : List ℕ} → mid ≡ p + w → xs ≡ ub o b p w ∷ ys → t (ub o b p w ∷ []) ≡ true → Fields o b t w m mid q ys → Fields o b t w (suc m) p q xs
    more {mid} {xs} {ys} n u c r = record {
      many = ap length u ∙ ap suc r.many;
      ends = r.ends ∙ on mid m n;
      each = λ k l. here k l;
      holds = λ k l. there k l;
    }
      where
        here : (k : ℕ) → k < suc m → get_or xs k 0 ≡ ub o b (p + w * k) w
        here zero l = ap (λ (l : List ℕ). get_or l 0 0) u ∙ rw start
        here (suc k) l = ap (λ (l : List ℕ). get_or l (suc k) 0) u ∙ r.each k (omega arith) ∙ ap (λ (m : ℕ). ub o b m w) (on mid k n)

        there : (k : ℕ) → k < suc m → t (ub o b (p + w * k) w ∷ []) ≡ true
        there zero l = rw start c
        there (suc k) l = ap (λ (m : ℕ). t (ub o b m w ∷ [])) (sym (on mid k n)) ∙ r.holds k (omega arith)

-- ---- times in a row: the first, and the others
pub record Timed (o : Order) (b : List ℕ) (m p q : ℕ) (ts : List ℕ) : Type 0 where
  pub v : ℕ
  pub mid : ℕ
  pub later : List ℕ
  pub one : run o b time p ≡ shows (v ∷ []) mid
  pub rest : run o b (times m time) mid ≡ shows later q
  pub all : ts ≡ v ∷ later

pub timed : (o : Order) (b : List ℕ) (m p q : ℕ) (ts : List ℕ) → run o b (times (suc m) time) p ≡ shows ts q → Timed o b m p q ts
unfolding times
timed o b m p q ts h =
    let a : Parts o b time (λ xs. times m time) p q = parts o b time (λ xs. times m time) p q (ap (λ (r : Reading). r.ended) h) in
    let w : (v : ℕ) × (run o b time p ≡ shows (v ∷ []) a.mid) = time_one o b p (ap (λ (r : Reading). r.ended) a.first) in
    let g : shows a.xs a.mid ≡ shows (w.0 ∷ []) a.mid = sym a.first ∙ w.1 in
    let s : ts ≡ a.xs ++ (run o b (times m time) a.mid).shown = ap (λ (r : Reading). r.shown) (sym h) ∙ a.shown in
    record {
      v = w.0;
      mid = a.mid;
      later = (run o b (times m time) a.mid).shown;
      one = w.1;
      rest = λ i. record { shown = (run o b (times m time) a.mid).shown; ended = a.rest i };
      all = s ∙ ap (λ (r : Reading). r.shown ++ (run o b (times m time) a.mid).shown) g;
    }

no_times : (o : Order) (b : List ℕ) (p q : ℕ) (ts : List ℕ) → run o b (times zero time) p ≡ shows ts q → length ts ≡ 0
unfolding run times
no_times o b p q ts e = ap (λ (r : Reading). length r.shown) (sym e)

pub times_many : (o : Order) (b : List ℕ) (m p q : ℕ) (ts : List ℕ) → run o b (times m time) p ≡ shows ts q → length ts ≡ m
times_many o b zero p q ts h = no_times o b p q ts h
times_many o b (suc m) p q ts h =
    let a : Timed o b m p q ts = timed o b m p q ts h in
    ap length a.all ∙ ap suc (times_many o b m a.mid q a.later a.rest)
