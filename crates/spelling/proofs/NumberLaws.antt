-- The spellings of one number as the code has them, and the items of one number.
use Rattle.std.proofs.Common.{◌≡◌, ℕ, zero, suc, ◌+◌, ◌-◌, ◌*◌, ◌/◌, ◌%◌, ◌^◌, ◌<◌, ◌≤◌, Bool, true, false, eqb, ltb, leb, List, [], ◌∷◌, length, get_or, set, sym, refl, ap, ◌∙◌, subst, mul_assoc, pow-suc, arith, le-ltb, lt-ltb, eq-eqb, ne_eqb, le-leb, leb-true}
use Rattle.std.specs.Prelude.{Err}
use native.Mathlib.Nat.{pow-zero}
use lib.Seq.{set_out}
use borrow.Author.Tests.{lt-leb}
use Rattle.format.specs.Tests.{pick, ◌and◌, ◌or◌}
use Rattle.format.specs.Bits.{Order}
use Rattle.format.specs.Formats.{the}
use Rattle.format.specs.Items.{skipped}
use Rattle.format.specs.Possible.{Possible, this, cannot}
use Rattle.format.specs.WritingItems.{dig, before, put, single, write_item, spell_ub, spell_var, spell_i32, spell_le}
use Rattle.format.specs.WritingFormats.{passing, adjoin, unrun}
use Rattle.items.specs.Kinds.{format_of, range_fault}
use Rattle.items.specs.declared.Item.{Item}
use Rattle.items.specs.declared.Item.TheVariants.{U32, I32, Time, Float, Uint16, Byte, Enum, BlendMode, Count}
use Rattle.format.proofs.Absurd.{clash}
use Rattle.sink.specs.Laying.{State, mk, lay, Skipped}
use Rattle.sink.proofs.LayingLaws.{lay_byte, lay_none}
use Rattle.sink.specs.declared.Impossible.{Impossible}
use Rattle.spelling.specs.Writing.{bits_over, here, ran}
use Rattle.spelling.specs.Spellings.{spelling_of, spelled_to, four_bytes}
use Rattle.spelling.proofs.RunLaws.{laid_before, laid_in, laid_no, one_done, OneDone}

-- ---- a byte
pub byte_in : (o : Order) (out : List ℕ) (i p v : ℕ) {u : List ℕ} → p ≡ 8 * i → v ≤ 255 → u ≡ set out i v → this (mk u (p + 8) 0) ≡ bits_over o (mk out p 0) (spell_ub o 8 v)
byte_in o out i p v e h d = laid_in o (mk out p 0) (spell_ub o 8 v) (rw (lt-ltb v (2 ^ 8) (omega arith))) (sym (lay_byte o out i v (omega arith) e d))

pub byte_no : (o : Order) (st : State) (v : ℕ) → 255 < v → cannot ≡ bits_over o st (spell_ub o 8 v)
byte_no o st v h = laid_no o st (spell_ub o 8 v) (rw (le-ltb v (2 ^ 8) (omega arith)))

-- one byte, and what follows it
pub byte_then : (o : Order) (out : List ℕ) (i p v : ℕ) {u : List ℕ} (b : Possible (List Bool)) → v < 256 → p ≡ 8 * i → u ≡ set out i v → bits_over o (mk out p 0) (before (dig o 8 v) b) ≡ bits_over o (mk u (p + 8) 0) b
byte_then o out i p v b h e d = laid_before o (mk out p 0) (dig o 8 v) b ∙ ap (λ (st : State). bits_over o st b) (lay_byte o out i v h e d)

-- ---- seven bits a byte: a number below (c + 1) * 128 ^ k has a spelling
var_spelt : (o : Order) (c k v : ℕ) → v < (c + 1) * 128 ^ k → spell_var o c v k ≡ cannot → ⊥
unfolding spell_var
var_spelt o c zero v h e = let m : this (dig o 8 v) ≡ cannot = rw (le-leb v c (omega (arith, rw pow-zero at h))) at e in clash cc
var_spelt o c (suc k) v h e = go (ltb v 128) e (var_spelt o c k (v / 128) less)
  where
    less : v / 128 < (c + 1) * 128 ^ k
    less = let m : v < (c + 1) * 128 ^ k * 128 = subst (λ (x : ℕ). v < x) (ap (λ (x : ℕ). (c + 1) * x) (pow-suc 128 k) ∙ sym (mul_assoc (c + 1) (128 ^ k) 128)) h in omega arith

    step : (x : Possible (List Bool)) → before (dig o 8 (128 + v % 128)) x ≡ cannot → x ≡ cannot
    step (this bs) q = clash cc
    step cannot q = refl

    go : (b : Bool) → pick b (this (dig o 8 v)) (before (dig o 8 (128 + v % 128)) (spell_var o c (v / 128) k)) ≡ cannot → (spell_var o c (v / 128) k ≡ cannot → ⊥) → ⊥
    go true q less-so = clash cc
    go false q less-so = less-so (step (spell_var o c (v / 128) k) q)

-- so has every time
pub time_put : (o : Order) (st : State) (u : List ℕ) (v : ℕ) {e : Impossible} → v < 2 ^ 64 → spelled_to u (Err e) ≡ bits_over o st (spell_var o 1 v 9) → ⊥
time_put o st u v h e = go (spell_var o 1 v 9) refl
  where
    go : (x : Possible (List Bool)) → spell_var o 1 v 9 ≡ x → ⊥
    go (this bs) q = let m : cannot ≡ this (lay o st bs) = e ∙ ap (bits_over o st) q in clash cc
    go cannot q = var_spelt o 1 9 v (omega arith) q

-- ---- a Float
pub float_in : (o : Order) (out : List ℕ) (i p v : ℕ) {u₀ u₁ u₂ u₃ : List ℕ} → p ≡ 8 * i → v ≤ 4294967295
    → u₀ ≡ set out i (v % 256) → u₁ ≡ set u₀ (i + 1) (v / 256 % 256) → u₂ ≡ set u₁ (i + 2) (v / 65536 % 256) → u₃ ≡ set u₂ (i + 3) (v / 16777216)
    → this (mk u₃ (p + 32) 0) ≡ bits_over o (mk out p 0) (spell_le o v 4)
unfolding spell_le
float_in o out i p v {u₀} {u₁} {u₂} {u₃} e h e₀ e₁ e₂ e₃ =
    let q₂ : v / 256 / 256 ≡ v / 65536 = omega arith in
    let q₃ : v / 65536 / 256 ≡ v / 16777216 = omega arith in
    let q₄ : v / 16777216 / 256 ≡ 0 = omega arith in
    let l₃ : v / 16777216 % 256 ≡ v / 16777216 = omega arith in
    let l : p + 8 + 8 + 8 + 8 ≡ p + 32 = omega arith in
    let b₃ : Possible (List Bool) = before (dig o 8 (v / 16777216)) (this []) in
    let b₂ : Possible (List Bool) = before (dig o 8 (v / 65536 % 256)) b₃ in
    let b₁ : Possible (List Bool) = before (dig o 8 (v / 256 % 256)) b₂ in
    sym
    (rw (q₂, q₃, q₄, l₃)
    (byte_then o out i p (v % 256) b₁ (omega arith) e e₀
    ∙ byte_then o u₀ (i + 1) (p + 8) (v / 256 % 256) b₂ (omega arith) (omega arith) e₁
    ∙ byte_then o u₁ (i + 2) (p + 8 + 8) (v / 65536 % 256) b₃ (omega arith) (omega arith) e₂
    ∙ byte_then o u₂ (i + 3) (p + 8 + 8 + 8) (v / 16777216) (this []) (omega arith) (omega arith) e₃
    ∙ ap (λ (x : ℕ). bits_over o (mk u₃ x 0) (this [])) l
    ∙ ap this (lay_none o (mk u₃ (p + 32) 0))))

-- past the end none of them is stored
pub float_out : (u : List ℕ) (i v : ℕ) → length u ≤ i → u ≡ four_bytes u i v
float_out u i v h =
    let e₀ : set u i (v % 256) ≡ u = set_out u i (v % 256) h in
    let e₁ : set u (i + 1) (v / 256 % 256) ≡ u = set_out u (i + 1) (v / 256 % 256) (omega arith) in
    let e₂ : set u (i + 2) (v / 65536 % 256) ≡ u = set_out u (i + 2) (v / 65536 % 256) (omega arith) in
    let e₃ : set u (i + 3) (v / 16777216) ≡ u = set_out u (i + 3) (v / 16777216) (omega arith) in
    sym (ap (λ (x : List ℕ). set (set (set x (i + 1) (v / 256 % 256)) (i + 2) (v / 65536 % 256)) (i + 3) (v / 16777216)) e₀
    ∙ ap (λ (x : List ℕ). set (set x (i + 2) (v / 65536 % 256)) (i + 3) (v / 16777216)) e₁
    ∙ ap (λ (x : List ℕ). set x (i + 3) (v / 16777216)) e₂
    ∙ e₃)

pub float_no : (o : Order) (st : State) (v : ℕ) → 4294967295 < v → cannot ≡ bits_over o st (spell_le o v 4)
unfolding spell_le
float_no o st v h =
    let n : eqb (v / 256 / 256 / 256 / 256) 0 ≡ false = ne_eqb (v / 256 / 256 / 256 / 256) 0 (λ e. omega arith) in
    rw n

-- ---- two bytes
pub uint16_in : (o : Order) (out : List ℕ) (i p v : ℕ) {u₀ u₁ : List ℕ} → p ≡ 8 * i → v ≤ 65535 → u₀ ≡ set out i (v % 256) → u₁ ≡ set u₀ (i + 1) (v / 256) → this (mk u₁ (p + 16) 0) ≡ bits_over o (mk out p 0) (spell_le o v 2)
unfolding spell_le
uint16_in o out i p v {u₀} {u₁} e h e₀ e₁ =
    let q₂ : v / 256 / 256 ≡ 0 = omega arith in
    let l₁ : v / 256 % 256 ≡ v / 256 = omega arith in
    let l : p + 8 + 8 ≡ p + 16 = omega arith in
    sym
    (rw (q₂, l₁)
    (byte_then o out i p (v % 256) (before (dig o 8 (v / 256)) (this [])) (omega arith) e e₀
    ∙ byte_then o u₀ (i + 1) (p + 8) (v / 256) (this []) (omega arith) (omega arith) e₁
    ∙ ap (λ (x : ℕ). bits_over o (mk u₁ x 0) (this [])) l
    ∙ ap this (lay_none o (mk u₁ (p + 16) 0))))

pub uint16_no : (o : Order) (st : State) (v : ℕ) → 65535 < v → cannot ≡ bits_over o st (spell_le o v 2)
unfolding spell_le
uint16_no o st v h =
    let n : eqb (v / 256 / 256) 0 ≡ false = ne_eqb (v / 256 / 256) 0 (λ e. omega arith) in
    rw n

-- ---- seven bits a byte
module _ (o : Order) (out : List ℕ) (i p top v : ℕ) (e : p ≡ 8 * i) where
  pub var_more : (k : ℕ) {u : List ℕ} → (k ≡ 0 → ⊥) → 128 ≤ v → u ≡ set out i (128 + v % 128)
      → bits_over o (mk out p 0) (spell_var o top v k) ≡ bits_over o (mk u (p + 8) 0) (spell_var o top (v / 128) (k - 1))
  unfolding spell_var
  var_more zero h l d = absurd (h refl)
  var_more (suc k) h l d =
      let q : suc k - 1 ≡ k = omega arith in
      rw (le-ltb v 128 l, q) (byte_then o out i p (128 + v % 128) (spell_var o top (v / 128) k) (omega arith) e d)

  pub var_over : (k : ℕ) → k ≡ 0 → top < v → cannot ≡ bits_over o (mk out p 0) (spell_var o top v k)
  unfolding spell_var
  var_over k h l = rw (h, lt-leb v top l)

  pub var_end : (k : ℕ) {u : List ℕ} → v < 128 → (k ≡ 0 → v ≤ top) → u ≡ set out i v → this (mk u (p + 8) 0) ≡ bits_over o (mk out p 0) (spell_var o top v k)
  unfolding spell_var
  var_end zero l h d = rw (le-leb v top (h refl)) (ap this (sym (lay_byte o out i v (omega arith) e d)))
  var_end (suc k) l h d = rw (lt-ltb v 128 l) (ap this (sym (lay_byte o out i v (omega arith) e d)))

pub var_start : (o : Order) (out : List ℕ) (a top v k : ℕ) → bits_over o (mk out (8 * a) 0) (spell_var o top v k) ≡ bits_over o (mk out (8 * (a + 0)) 0) (spell_var o top v (k - 0))
var_start o out a top v k = let e : a + 0 ≡ a = omega arith in let d : k - 0 ≡ k = omega arith in rw (e, d)

pub var_last : (o : Order) (out : List ℕ) (a top v k i : ℕ) → i ≡ k → bits_over o (mk out (8 * (a + k)) 0) (spell_var o top v 0) ≡ bits_over o (mk out (8 * (a + i)) 0) (spell_var o top v (k - i))
var_last o out a top v k i e = let d : k - k ≡ 0 = omega arith in rw (e, d)

-- ---- I32
var_none : (o : Order) (d : ℕ) → 4294967296 ≤ d → spell_var o 15 d 4 ≡ cannot
unfolding spell_var
var_none o d h =
    rw (
      le-ltb d 128 (omega arith),
      le-ltb (d / 128) 128 (omega arith),
      le-ltb (d / 128 / 128) 128 (omega arith),
      le-ltb (d / 128 / 128 / 128) 128 (omega arith),
      lt-leb (d / 128 / 128 / 128 / 128) 15 (omega arith),
    )

pub i32_plus : (o : Order) (v : ℕ) → v < 9223372036854775808 → spell_i32 o v ≡ spell_var o 15 (v * 2) 4
i32_plus o v h =
    let a : ltb v (2 ^ 63) ≡ true = lt-ltb v (2 ^ 63) (omega arith) in
    let b : eqb (v * 2 % 2) 0 ≡ true = eq-eqb (v * 2 % 2) 0 (omega arith) in
    let c : eqb (v * 2 / 2) v ≡ true = eq-eqb (v * 2 / 2) v (omega arith) in
    rw (a, b, c, ne_eqb (v * 2) 1 (λ e. omega arith))

minus : (o : Order) (v : ℕ) → v < 18446744073709551616 → 9223372036854775808 ≤ v → spell_i32 o v ≡ spell_var o 15 ((2 ^ 64 - v) * 2 + 1) 4
minus o v l h =
    let a : ltb v (2 ^ 63) ≡ false = le-ltb v (2 ^ 63) (omega arith) in
    let b : eqb (((2 ^ 64 - v) * 2 + 1) % 2) 0 ≡ false = ne_eqb (((2 ^ 64 - v) * 2 + 1) % 2) 0 (λ e. omega arith) in
    let c : eqb (2 ^ 64 - ((2 ^ 64 - v) * 2 + 1) / 2) v ≡ true = eq-eqb (2 ^ 64 - ((2 ^ 64 - v) * 2 + 1) / 2) v (omega arith) in
    rw (a, b, c, ne_eqb ((2 ^ 64 - v) * 2 + 1) 1 (λ e. omega arith))

-- m is the magnitude of a negative number
pub i32_minus : (o : Order) (v m : ℕ) → v < 18446744073709551616 → 9223372036854775808 ≤ v → 2 ^ 64 - v ≡ m → spell_i32 o v ≡ spell_var o 15 (m * 2 + 1) 4
i32_minus o v m l h e = minus o v l h ∙ ap (λ (x : ℕ). spell_var o 15 (x * 2 + 1) 4) e

pub i32_none : (o : Order) (v m : ℕ) → v < 18446744073709551616 → 9223372036854775808 ≤ v → 2 ^ 64 - v ≡ m → 2147483647 < m → spell_i32 o v ≡ cannot
i32_none o v m l h e g = i32_minus o v m l h e ∙ var_none o (m * 2 + 1) (omega arith)

-- ---- an item: the skip, its spelling, its range
unfoldable pub bits_of : Order → Item → ℕ → ℕ → Possible (List Bool)
bits_of o kind p v = pick (eqb (range_fault kind v) 0) (before (dig o (skipped p) 0) (spelling_of o kind v)) cannot

pub single_eq : (f g : ℕ → Possible (List Bool)) → ((v : ℕ) → f v ≡ g v) → (ns : List ℕ) → single f ns ≡ single g ns
single_eq f g h [] = refl
single_eq f g h (v ∷ ns) = ap (λ (b : Possible (List Bool)). put (v ∷ []) b ns) (h v)

adjoin_single : (bs : List Bool) (f : ℕ → Possible (List Bool)) (ns : List ℕ) → adjoin [] bs (single f ns) ≡ single (λ v. before bs (f v)) ns
adjoin_single bs f [] = refl
adjoin_single bs f (v ∷ ns) = go (f v)
  where
    go : (b : Possible (List Bool)) → adjoin [] bs (put (v ∷ []) b ns) ≡ put (v ∷ []) (before bs b) ns
    go (this xs) = refl
    go cannot = refl

pub passing_single : (c : List ℕ → Bool) (f : ℕ → Possible (List Bool)) (ns : List ℕ) → passing c (single f ns) ≡ single (λ v. pick (c (v ∷ [])) (f v) cannot) ns
passing_single c f [] = refl
passing_single c f (v ∷ ns) = go (f v) (c (v ∷ [])) refl
  where
    go : (b : Possible (List Bool)) (d : Bool) → c (v ∷ []) ≡ d → passing c (put (v ∷ []) b ns) ≡ put (v ∷ []) (pick (c (v ∷ [])) b cannot) ns
    go (this bs) true e = rw e
    go (this bs) false e = rw e
    go cannot true e = rw e
    go cannot false e = rw e

tested : (c : Bool) (e : ℕ) (b : Possible (List Bool)) → (e ≡ 0 → ⊥) → pick c b cannot ≡ pick (eqb (pick c 0 e) 0) b cannot
tested true e b h = refl
tested false e b h = rw (ne_eqb e 0 h)

-- with a test: its fault is e
range_is : (o : Order) (c : List ℕ → Bool) (e p : ℕ) (f : ℕ → Possible (List Bool)) (ns : List ℕ) → (e ≡ 0 → ⊥)
    → passing c (adjoin [] (dig o (skipped p) 0) (single f ns)) ≡ single (λ v. pick (eqb (pick (c (v ∷ [])) 0 e) 0) (before (dig o (skipped p) 0) (f v)) cannot) ns
range_is o c e p f ns h =
    ap (passing c) (adjoin_single (dig o (skipped p) 0) f ns)
    ∙ passing_single c (λ v. before (dig o (skipped p) 0) (f v)) ns
    ∙ single_eq _ _ (λ v. tested (c (v ∷ [])) e (before (dig o (skipped p) 0) (f v)) h) ns

pub item_is : (o : Order) (kind : Item) (ns : List ℕ) (p : ℕ) → unrun o (format_of kind) ns p ≡ single (bits_of o kind p) ns
unfolding unrun write_item bits_of range_fault
item_is o U32 ns p = adjoin_single (dig o (skipped p) 0) (spelling_of o U32) ns
item_is o I32 ns p = adjoin_single (dig o (skipped p) 0) (spelling_of o I32) ns
item_is o Time ns p = adjoin_single (dig o (skipped p) 0) (spelling_of o Time) ns
item_is o Float ns p = adjoin_single (dig o (skipped p) 0) (spelling_of o Float) ns
item_is o Uint16 ns p = adjoin_single (dig o (skipped p) 0) (spelling_of o Uint16) ns
item_is o Byte ns p = adjoin_single (dig o (skipped p) 0) (spelling_of o Byte) ns
item_is o (Enum top) ns p = range_is o (λ ns. leb (the ns) top) 16 p (spell_ub o 8) ns (λ e. omega arith)
item_is o BlendMode ns p = range_is o (λ ns. leb (the ns) 16 or (leb 21 (the ns) and leb (the ns) 26)) 16 p (spell_ub o 8) ns (λ e. omega arith)
item_is o (Count lo) ns p = range_is o (λ ns. leb lo (the ns) and leb (the ns) 4096) 17 p (λ v. spell_var o 15 v 4) ns (λ e. omega arith)

pub item_out : (o : Order) (kind : Item) (p v : ℕ) {r : ℕ} → r ≡ range_fault kind v → (r ≡ 0 → ⊥) → bits_of o kind p v ≡ cannot
unfolding bits_of
item_out o kind p v e h = rw (ne_eqb (range_fault kind v) 0 (λ z. h (e ∙ z)))

pub item_in : (o : Order) (kind : Item) (st : State) (v : ℕ) {r byte bit : ℕ} {u : List ℕ} {x : Possible State} → r ≡ range_fault kind v → (r ≡ 0) → Skipped o st u byte bit
    → x ≡ bits_over o (mk u bit 0) (spelling_of o kind v) → x ≡ bits_over o st (bits_of o kind st.place v)
unfolding bits_of
item_in o kind st v e h skip d =
    d ∙ ap (λ (s : State). bits_over o s (spelling_of o kind v)) skip.laid ∙ sym (laid_before o st (dig o (skipped st.place) 0) (spelling_of o kind v))
    ∙ (let z : eqb (range_fault kind v) 0 ≡ true = eq-eqb (range_fault kind v) 0 (sym e ∙ h) in rw z)

-- ---- a count that was written is in its range
pub count_done : (o : Order) (lo : ℕ) (t : List ℕ) (st st' : State) (k j : ℕ) → ran o t st k (format_of (Count lo)) ≡ this (here st' j)
    → (j ≡ k + 1) × (k < length t) × (lo ≤ get_or t k 0) × (get_or t k 0 ≤ 4096)
unfolding bits_of range_fault
count_done o lo t st st' k j e = (d.next, d.inside, (go (leb lo (get_or t k 0)) refl (leb (get_or t k 0) 4096) refl).0, (go (leb lo (get_or t k 0)) refl (leb (get_or t k 0) 4096) refl).1)
  where
    d : OneDone o (format_of (Count lo)) (bits_of o (Count lo)) (item_is o (Count lo)) t st k j
    d = one_done o (format_of (Count lo)) (bits_of o (Count lo)) (item_is o (Count lo)) t st k st' j e

    go : (a : Bool) → leb lo (get_or t k 0) ≡ a → (b : Bool) → leb (get_or t k 0) 4096 ≡ b → (lo ≤ get_or t k 0) × (get_or t k 0 ≤ 4096)
    go false p b q = absurd (d.spells (rw p))
    go true p false q = absurd (d.spells (rw (p, q)))
    go true p true q = (leb-true lo (get_or t k 0) p, leb-true (get_or t k 0) 4096 q)
