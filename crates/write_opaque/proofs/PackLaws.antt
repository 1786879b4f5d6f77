-- Packed numbers laid over an output, number by number; and when they are a body.
use Prim.Native.Nat.{ℕ, zero, suc, ◌+◌, ◌-◌, ◌*◌, ◌/◌, ◌%◌, ◌^◌, ◌≤◌, ◌<◌, min}
use mathlib.Core.Bool.{Bool, true, false, not}
use mathlib.Core.List.{List, [], ◌∷◌, ◌++◌, append-nil, append_assoc}
use mathlib.Core.Path.{◌≡◌, refl, ap, ap₂, sym, ◌∙◌}
use native.Mathlib.Nat.{div-one}
use native.Mathlib.Omega.{arith}
use lib.Dec.{ltb, eqb}
use borrow.Author.Tests.{le-leb, lt-leb, lt-ltb, eq-eqb, ne_eqb, ltb-true, ltb-false, eqb-false}
use lib.ListN.{length, get_or, set, take, drop, length-take, take-append-drop}
use lib.Seq.{sets, length-sets, get_or-drop, take-suc, take_all, length-take-le}
use mir.Syntax.{w64}
use mir.Val.{Fits}
use Rattle.format.specs.Tests.{pick}
use Rattle.format.specs.Possible.{Possible, this, cannot}
use Rattle.format.specs.TableOfNumbers.{eight_of, spread, unpacked}
use Rattle.format.specs.WritingFiles.{unpacked_as}
use Rattle.format.proofs.PackLaws.{PackedIf, unpacked_back, length_spread, unpacked_count, unpacked_filling, unpacked_this}
use Rattle.format.proofs.Absurd.{clash}
use Rattle.sink.specs.Lain.{longest, lain, lies}
use Rattle.table.proofs.EngineLaws.{sets_append}
use Rattle.bits.proofs.StoreLaws.{sets_out}
use Rattle.write_opaque.specs.Filling.{filled}

pub positive : (n : ℕ) → (n ≡ 0 → ⊥) → 0 < n
positive zero h = absurd (h refl)
positive (suc n) h = omega arith

-- ---- eight bytes, one after the other
pub eight_stored : (l : List ℕ) (i w : ℕ) {a b c d e f g h : List ℕ} → a ≡ set l i (w % 256) → b ≡ set a (i + 1) (w / 256 % 256) → c ≡ set b (i + 2) (w / 65536 % 256) → d ≡ set c (i + 3) (w / 16777216 % 256)
    → e ≡ set d (i + 4) (w / 4294967296 % 256) → f ≡ set e (i + 5) (w / 1099511627776 % 256) → g ≡ set f (i + 6) (w / 281474976710656 % 256) → h ≡ set g (i + 7) (w / 72057594037927936 % 256) → h ≡ sets l i (eight_of w)
eight_stored l i w p q r s t u v z =
    let i1 : i + 1 ≡ suc i = omega arith in
    let i2 : i + 2 ≡ suc (suc i) = omega arith in
    let i3 : i + 3 ≡ suc (suc (suc i)) = omega arith in
    let i4 : i + 4 ≡ suc (suc (suc (suc i))) = omega arith in
    let i5 : i + 5 ≡ suc (suc (suc (suc (suc i)))) = omega arith in
    let i6 : i + 6 ≡ suc (suc (suc (suc (suc (suc i))))) = omega arith in
    let i7 : i + 7 ≡ suc (suc (suc (suc (suc (suc (suc i)))))) = omega arith in
    z ∙ rw (v, u, t, s, r, q, p, i1, i2, i3, i4, i5, i6, i7)

-- ---- numbers, one after the other
spread_append : (vs ws : List ℕ) → spread (vs ++ ws) ≡ spread vs ++ spread ws
unfolding spread
spread_append [] ws = refl
spread_append (v ∷ vs) ws = ap (λ (r : List ℕ). eight_of v ++ r) (spread_append vs ws) ∙ sym (append_assoc (eight_of v) (spread vs) (spread ws))

spread_one : (w : ℕ) → spread (w ∷ []) ≡ eight_of w
unfolding spread
spread_one w = append-nil (eight_of w)

pub spread_none : (ws : List ℕ) (k : ℕ) (l : List ℕ) → l ≡ sets l k (spread (take 0 ws))
unfolding spread
spread_none ws k l = refl

module _ (l : List ℕ) (k : ℕ) (ws : List ℕ) where
  -- the i-th, behind those before it
  pub spread_next : {u v : List ℕ} {i j w : ℕ} → i < length ws → w ≡ get_or ws i 0 → j ≡ k + 8 * i → u ≡ sets l k (spread (take i ws)) → v ≡ sets u j (eight_of w) → v ≡ sets l k (spread (take (i + 1) ws))
  spread_next {u} {v} {i} {j} {w} h e q s t =
      let one : i + 1 ≡ suc i = omega arith in
      let n : length (spread (take i ws)) ≡ 8 * i = length_spread (take i ws) ∙ ap (λ (m : ℕ). 8 * m) (length-take-le i ws (omega arith)) in
      let more : spread (take (suc i) ws) ≡ spread (take i ws) ++ eight_of w =
      ap spread (take-suc ws i 0 h) ∙ spread_append (take i ws) (get_or ws i 0 ∷ []) ∙ ap (λ (r : List ℕ). spread (take i ws) ++ r) (spread_one (get_or ws i 0) ∙ ap eight_of (sym e)) in
      t ∙ ap₂ (λ (x : List ℕ) (y : ℕ). sets x y (eight_of w)) s (q ∙ ap (λ (m : ℕ). k + m) (sym n)) ∙ sym (ap (λ (m : ℕ). sets l k (spread (take m ws))) one ∙ ap (sets l k) more ∙ sets_append l k (spread (take i ws)) (eight_of w))

  pub spread_all : (i m : ℕ) {u : List ℕ} → u ≡ sets l k (spread (take i ws)) → i ≡ m → u ≡ sets l k (spread (take m ws))
  spread_all i m e q = e ∙ ap (λ (j : ℕ). sets l k (spread (take j ws))) q

  pub spread_length : (m : ℕ) {u : List ℕ} → u ≡ sets l k (spread (take m ws)) → length u ≡ length l
  spread_length m e = ap length e ∙ length-sets l k (spread (take m ws))

-- ---- the first bytes of a number, one after the other
digit_at : (w i : ℕ) → i < 8 → get_or (eight_of w) i 0 ≡ w / 2 ^ (8 * i) % 256
digit_at w zero h = ap (λ (x : ℕ). x % 256) (sym (div-one w))
digit_at w (suc zero) h = refl
digit_at w (suc (suc zero)) h = refl
digit_at w (suc (suc (suc zero))) h = refl
digit_at w (suc (suc (suc (suc zero)))) h = refl
digit_at w (suc (suc (suc (suc (suc zero))))) h = refl
digit_at w (suc (suc (suc (suc (suc (suc zero)))))) h = refl
digit_at w (suc (suc (suc (suc (suc (suc (suc zero))))))) h = refl
digit_at w (suc (suc (suc (suc (suc (suc (suc (suc i)))))))) h = absurd (omega arith)

module _ (l : List ℕ) (k w : ℕ) where
  pub few_next : {u v : List ℕ} {i x : ℕ} → i < 8 → x ≡ w / 2 ^ (8 * i) % 256 → u ≡ sets l k (take i (eight_of w)) → v ≡ set u (k + i) x → v ≡ sets l k (take (i + 1) (eight_of w))
  few_next {u} {v} {i} {x} h e s t =
      let one : i + 1 ≡ suc i = omega arith in
      let n : length (take i (eight_of w)) ≡ i = length-take-le i (eight_of w) (omega arith) in
      t ∙ ap₂ (λ (y : List ℕ) (j : ℕ). set y j x) s (ap (λ (j : ℕ). k + j) (sym n)) ∙ ap (λ (y : ℕ). sets (sets l k (take i (eight_of w))) (k + length (take i (eight_of w))) (y ∷ [])) (e ∙ sym (digit_at w i h))
      ∙ sym (ap (λ (m : ℕ). sets l k (take m (eight_of w))) one ∙ ap (sets l k) (take-suc (eight_of w) i 0 h) ∙ sets_append l k (take i (eight_of w)) (get_or (eight_of w) i 0 ∷ []))

  pub few_all : (i m : ℕ) {u : List ℕ} → u ≡ sets l k (take i (eight_of w)) → i ≡ m → u ≡ sets l k (take m (eight_of w))
  few_all i m e q = e ∙ ap (λ (j : ℕ). sets l k (take j (eight_of w))) q

  pub few_length : (m : ℕ) {u : List ℕ} → u ≡ sets l k (take m (eight_of w)) → length u ≡ length l
  few_length m e = ap length e ∙ length-sets l k (take m (eight_of w))

-- ---- the first bytes of all of them
take_front : (n : ℕ) (xs ys : List ℕ) → n ≤ length xs → take n (xs ++ ys) ≡ take n xs
take_front zero xs ys h = refl
take_front (suc n) [] ys h = absurd (omega arith)
take_front (suc n) (x ∷ xs) ys h = ap (λ (r : List ℕ). x ∷ r) (take_front n xs ys (omega arith))

take_spread : (k m : ℕ) (ws : List ℕ) → k < length ws → m ≤ 8 → take (8 * k + m) (spread ws) ≡ spread (take k ws) ++ take m (eight_of (get_or ws k 0))
unfolding spread
take_spread k m [] h l = absurd (omega arith)
take_spread zero m (w ∷ ws) h l = let z : 8 * 0 + m ≡ m = omega arith in ap (λ (j : ℕ). take j (eight_of w ++ spread ws)) z ∙ take_front m (eight_of w) (spread ws) (omega arith)
take_spread (suc k) m (w ∷ ws) h l =
    let n : 8 * suc k + m ≡ suc (suc (suc (suc (suc (suc (suc (suc (8 * k + m)))))))) = omega arith in
    ap (λ (j : ℕ). take j (eight_of w ++ spread ws)) n ∙ ap (λ (r : List ℕ). eight_of w ++ r) (take_spread k m ws (omega arith) l)
    ∙ sym (append_assoc (eight_of w) (spread (take k ws)) (take m (eight_of (get_or ws k 0))))

take_whole : (k : ℕ) (ws : List ℕ) → k ≤ length ws → take (8 * k) (spread ws) ≡ spread (take k ws)
unfolding spread
take_whole zero ws h = refl
take_whole (suc k) [] h = absurd (omega arith)
take_whole (suc k) (w ∷ ws) h =
    let n : 8 * suc k ≡ suc (suc (suc (suc (suc (suc (suc (suc (8 * k)))))))) = omega arith in
    ap (λ (j : ℕ). take j (eight_of w ++ spread ws)) n ∙ ap (λ (r : List ℕ). eight_of w ++ r) (take_whole k ws (omega arith))

take_take : (m n : ℕ) (l : List ℕ) → m ≤ n → take m (take n l) ≡ take m l
take_take zero n l h = refl
take_take (suc m) zero l h = absurd (omega arith)
take_take (suc m) (suc n) [] h = refl
take_take (suc m) (suc n) (x ∷ l) h = ap (λ (r : List ℕ). x ∷ r) (take_take m n l (omega arith))

-- what there is no room for is dropped
sets_room : (out vs : List ℕ) (b m : ℕ) → m ≡ min (length vs) (length out - b) → sets out b vs ≡ sets out b (take m vs)
sets_room out vs b m e = go (ltb m (length vs)) refl
  where
    go : (c : Bool) → ltb m (length vs) ≡ c → sets out b vs ≡ sets out b (take m vs)
    go true q =
        let h : m < length vs = ltb-true m (length vs) q in
        ap (sets out b) (sym (take-append-drop m vs)) ∙ sets_append out b (take m vs) (drop m vs)
        ∙ sets_out (sets out b (take m vs)) (b + length (take m vs)) (drop m vs) (rw (length-sets, length-take) (omega arith))
    go false q = ap (sets out b) (sym (take_all m vs (ltb-false m (length vs) q)))

-- ---- the filling
pub filled_none : (n : ℕ) (ws : List ℕ) → n % 8 ≡ 0 → true ≡ filled n ws
filled_none n ws e = rw (eq-eqb (n % 8) 0 e)

pub filled_some : (n : ℕ) (vs : List ℕ) {w q : ℕ} → (n % 8 ≡ 0 → ⊥) → w ≡ get_or vs (1 + n / 8) 0 → q ≡ 2 ^ (8 * (n % 8)) → ltb w q ≡ filled n (drop 1 vs)
filled_some n vs h e f = rw (ne_eqb (n % 8) 0 h, e, f, get_or-drop 1 vs (n / 8) 0)

filled_true : (n : ℕ) (ws : List ℕ) → filled n ws ≡ true → (k m : ℕ) → n ≡ 8 * k + m → 0 < m → m < 8 → get_or ws k 0 < 2 ^ (8 * m)
filled_true n ws e k m q p l =
    let a : n % 8 ≡ m = omega arith in
    let c : n / 8 ≡ k = omega arith in
    ltb-true (get_or ws k 0) (2 ^ (8 * m)) (rw (a, c, ne_eqb m 0 (λ z. omega arith)) at e)

filled_false : (n : ℕ) (ws : List ℕ) → filled n ws ≡ false → (n % 8 ≡ 0 → ⊥) × (get_or ws (n / 8) 0 < 2 ^ (8 * (n % 8)) → ⊥)
filled_false n ws e = go (eqb (n % 8) 0) refl e
  where
    go : (c : Bool) → eqb (n % 8) 0 ≡ c → pick c true (ltb (get_or ws (n / 8) 0) (2 ^ (8 * (n % 8)))) ≡ false → (n % 8 ≡ 0 → ⊥) × (get_or ws (n / 8) 0 < 2 ^ (8 * (n % 8)) → ⊥)
    go true q h = clash cc
    go false q h = (eqb-false (n % 8) 0 q, λ l. clash (cc (lt-ltb (get_or ws (n / 8) 0) (2 ^ (8 * (n % 8))) l)))

told : (r : Bool) → not r ≡ true → r ≡ false
told true e = clash cc
told false e = refl

untold : (r : Bool) → not r ≡ false → r ≡ true
untold true e = refl
untold false e = clash cc

-- ---- the answers: vs are the numbers of a tag, the first of them the body's length
first_rest : (vs : List ℕ) → 0 < length vs → vs ≡ get_or vs 0 0 ∷ drop 1 vs
first_rest [] h = absurd (omega arith)
first_rest (n ∷ ws) h = refl

module _ (out : List ℕ) (a : ℕ) (vs : List ℕ) where
  pub no_numbers : length vs ≡ 0 → cannot ≡ lies out a (unpacked_as vs)
  unfolding lies unpacked_as
  no_numbers e = go vs e
    where
      go : (l : List ℕ) → length l ≡ 0 → cannot ≡ lies out a (unpacked_as l)
      go [] e = refl
      go (x ∷ l) e = absurd (omega arith)

  module _ (n : ℕ) (some : (length vs ≡ 0 → ⊥)) (first : n ≡ get_or vs 0 0) where
    abbrev ws : List ℕ
    ws = drop 1 vs

    split : vs ≡ n ∷ ws
    split = first_rest vs (positive (length vs) some) ∙ ap (λ (x : ℕ). x ∷ drop 1 vs) (sym first)

    pub too_long_lem : a ≤ longest → longest - a < n → cannot ≡ lies out a (unpacked_as vs)
    unfolding lies
    too_long_lem h l = go (unpacked_as vs) (unpacked_back vs)
      where
        go : (x : Possible (List ℕ)) → PackedIf vs x → cannot ≡ lies out a x
        go cannot u = refl
        go (this b) u = let e : length b ≡ n = ap (λ (r : List ℕ). get_or r 0 0) u.1 ∙ sym first in rw (lt-leb (a + length b) longest (omega arith))

    pub wrong_count : (length vs ≡ 1 + (n + 7) / 8 → ⊥) → cannot ≡ lies out a (unpacked_as vs)
    unfolding lies
    wrong_count h = rw (split, unpacked_count n ws (λ e. h (omega (arith, ap length split))))

    module _ (count : length vs ≡ 1 + (n + 7) / 8) where
      many : length ws ≡ (n + 7) / 8
      many = omega (arith, ap length split)

      pub wrong_filling : {r : Bool} → r ≡ filled n ws → not r ≡ true → cannot ≡ lies out a (unpacked_as vs)
      unfolding lies
      wrong_filling e q =
          let u : (n % 8 ≡ 0 → ⊥) × (get_or ws (n / 8) 0 < 2 ^ (8 * (n % 8)) → ⊥) = filled_false n ws (sym e ∙ told _ q) in
          rw (split, unpacked_filling n ws (n / 8) (n % 8) (many ∙ omega (arith, positive (n % 8) u.0)) (omega arith) (positive (n % 8) u.0) (omega arith) u.1)

      module _ (fits : (i : ℕ) → Fits w64 (get_or vs i 0)) {r : Bool} (fill : r ≡ filled n ws) (yes : not r ≡ false) (h : a ≤ longest) (l : n ≤ longest - a) (m : ℕ) (room : m ≡ min n (length out - a)) where
        is : (unpacked_as (n ∷ ws) ≡ this (unpacked (n ∷ ws))) × (length (unpacked (n ∷ ws)) ≡ n)
        is = unpacked_this n ws many (λ i. rw (get_or-drop 1 vs i 0) (omega (arith, fits (1 + i)))) (filled_true n ws (sym fill ∙ untold _ yes))

        laid : {u : List ℕ} → u ≡ sets out a (take m (spread ws)) → this (lain u (a + n)) ≡ lies out a (unpacked_as vs)
        unfolding lies
        laid {u} e =
            let b : List ℕ = unpacked (n ∷ ws) in
            let s : u ≡ sets out a b = e ∙ ap (sets out a) (sym (take_take m n (spread ws) (omega arith))) ∙ sym (sets_room out b a m (room ∙ ap (λ (x : ℕ). min x (length out - a)) (sym is.1))) in
            rw (split, is.0, is.1, le-leb (a + n) longest (omega arith), s)

        pub all_whole : {u : List ℕ} → m % 8 ≡ 0 → u ≡ sets out a (spread (take (m / 8) ws)) → this (lain u (a + n)) ≡ lies out a (unpacked_as vs)
        all_whole z e =
            let q : 8 * (m / 8) ≡ m = omega arith in
            laid (e ∙ ap (sets out a) (sym (take_whole (m / 8) ws (omega (arith, many))) ∙ ap (λ (x : ℕ). take x (spread ws)) q))

        pub some_left : {u v : List ℕ} {w k : ℕ} → (m % 8 ≡ 0 → ⊥) → u ≡ sets out a (spread (take (m / 8) ws)) → w ≡ get_or vs (1 + m / 8) 0 → k ≡ a + 8 * (m / 8) → v ≡ sets u k (take (m % 8) (eight_of w))
            → this (lain v (a + n)) ≡ lies out a (unpacked_as vs)
        some_left {u} {v} {w} {k} z e f g t =
            let p : 0 < m % 8 = positive (m % 8) z in
            let q : 8 * (m / 8) + m % 8 ≡ m = omega arith in
            let d : length (spread (take (m / 8) ws)) ≡ 8 * (m / 8) = length_spread (take (m / 8) ws) ∙ ap (λ (x : ℕ). 8 * x) (length-take-le (m / 8) ws (omega (arith, many))) in
            laid (t ∙ rw (e, f ∙ sym (get_or-drop 1 vs (m / 8) 0), g) (ap (λ (x : ℕ). sets (sets out a (spread (take (m / 8) ws))) (a + x) (take (m % 8) (eight_of (get_or ws (m / 8) 0)))) (sym d))
            ∙ sym (sets_append out a (spread (take (m / 8) ws)) (take (m % 8) (eight_of (get_or ws (m / 8) 0))))
            ∙ ap (sets out a) (sym (take_spread (m / 8) (m % 8) ws (omega (arith, many)) (omega arith)) ∙ ap (λ (x : ℕ). take x (spread ws)) q))
