-- What a call on a reader did: in a sequence, in a loop, and from what the code has of one item.
use Rattle.std.proofs.Common.{◌≡◌, ℕ, zero, suc, ◌+◌, ◌-◌, ◌*◌, ◌^◌, ◌<◌, ◌≤◌, List, [], ◌∷◌, length, refl, sym, ap, ap₂, ◌∙◌, subst, arith, Result, Ok, Err}
use Rattle.std.specs.Prelude.{IfOk}
use Rattle.bits.specs.declared.BitPlace.{BitPlace}
use Rattle.format.specs.Bits.{Order, ub}
use Rattle.format.specs.Reading.{At, Reading, shows, stop}
use Rattle.format.specs.Formats.{Item, Format, nothing, item, ◌▹◌, ◌▸◌, times}
use Rattle.format.specs.Items.{run, read_item, read_align, read_text, show_text, string, u32, byte}
use Rattle.format.proofs.SizeLaws.{Fair, fair_byte, fair_only}
use Rattle.reasons.specs.declared.Reason.{Reason}
use Rattle.reasons.specs.Numbers.{number_of}
use Rattle.bits.specs.Places.{order_of}
use Rattle.bits.specs.declared.Number.{Number}
use Rattle.bits.specs.declared.Order.{Order as Code}
use Rattle.items.specs.Kinds.{format_of}
use Rattle.items.proofs.ItemLaws.{item_aligned, item_unclean}
use Rattle.items.specs.declared.Item.{Item as Kind}
use Rattle.items.specs.declared.Item.TheVariants.{U32, I32, Time, Float, Uint16, Byte, Enum, BlendMode, Count}
use Rattle.table.specs.State.{shown_over}
use Rattle.table.specs.Fields.{Fits}
use Rattle.table.specs.Readers.{state_of, Same, Room, Reads, Kept, Shown}
use Rattle.table.specs.declared.reader.Reader.{Reader}
use Rattle.table.proofs.EngineLaws.{state, after_none, one_stored, one_stopped, never_then, then_done, then_stop, times_alike, fits_after}

-- what the definitions read from a reader's place
abbrev pub reading : Reader → Format → Reading
reading r f = run (order_of r.order) r.body.now f r.place.0

pub same_refl : (a : Reader) → Same a a
same_refl a = record { order = refl; body = refl; lent = refl }

pub same_then : {a b c : Reader} → Same a b → Same b c → Same a c
same_then h k = record { order = k.order ∙ h.order; body = k.body ∙ h.body; lent = k.lent ∙ h.lent }

-- of a refusal nothing is said
pub room_err : {A : Type 0} (b : Reader) {r : Result A Reason} {e : Reason} → r ≡ Err e → IfOk r (λ x. Room b)
room_err b d = subst (λ (z : Result _ Reason). IfOk z (λ x. Room b)) (sym d) tt

-- ---- one after the other: f was read, and what follows it from there; or f was refused, and so is the whole
module _ {A B : Type 0} {a b : Reader} {r : Result A Reason} {s : Result B Reason} {f : Format} (g : List ℕ → Format) (h : Reads a b r f) where
  pub reads_then : {c : Reader} {x : A} → r ≡ Ok x → Reads b c s (g (reading a f).shown) → Reads a c s (f ▹ g)
  reads_then e k = record {
    same = same_then h.same k.same;
    left = then_done (order_of a.order) a.body.now a.table.now a.index f g a.place.0 (ap (state_of b) (sym e) ∙ h.left)
        (k.left ∙ ap₂ (λ (o : Code) (z : List ℕ). shown_over b.table.now b.index (run (order_of o) z (g (reading a f).shown) b.place.0)) h.same.order h.same.body);
    room = k.room;
  }

  pub reads_stop : {e : Reason} → r ≡ Err e → s ≡ Err e → Reads a b s (f ▹ g)
  reads_stop e d = record {
    same = h.same;
    left = ap (state_of b) d ∙ then_stop (order_of a.order) a.body.now a.table.now a.index f g a.place.0 (ap (state_of b) (sym e) ∙ h.left);
    room = room_err b d;
  }

-- what is read alike
pub reads_as : {A : Type 0} {a b : Reader} {r : Result A Reason} {f g : Format} → reading a f ≡ reading a g → Reads a b r f → Reads a b r g
reads_as {a = a} e h = record { same = h.same; left = h.left ∙ ap (shown_over a.table.now a.index) e; room = h.room }

-- another answer that ends alike: both are refused alike, or neither is
pub reads_ok : {A B : Type 0} {a b : Reader} {r : Result A Reason} {x : A} {y : B} {f : Format} → r ≡ Ok x → Reads a b r f → Reads a b (Ok y) f
reads_ok {b = b} e h = record { same = h.same; left = sym (ap (state_of b) e) ∙ h.left; room = subst (λ (z : Result _ Reason). IfOk z (λ x. Room b)) e h.room }

pub reads_err : {A B : Type 0} {a b : Reader} {r : Result A Reason} {s : Result B Reason} {e : Reason} {f : Format} → r ≡ Err e → s ≡ Err e → Reads a b r f → Reads a b s f
reads_err {b = b} e d h = record { same = h.same; left = ap (state_of b) d ∙ sym (ap (state_of b) e) ∙ h.left; room = room_err b d }

-- ---- one step, from what the code has of it: a number was shown; nothing was, and the place is the next; it was refused
module _ {A : Type 0} {a b : Reader} {f : Format} where
  pub reads_one : {n : Number} {x : A} → Room a → a.place.0 < n.next.0 → Shown a b n → reading a f ≡ shows (n.value ∷ []) n.next.0 → Reads a b (Ok x) f
  reads_one {n} z l h e = record {
    room = let q : b.place.0 ≡ n.next.0 = ap (λ (q : BitPlace). q.0) h.place in omega (arith, z, l, q, h.index);
    same = h.same;
    left = ap₂ (λ (j q : ℕ). state b.table.now j (At q)) h.index (ap (λ (q : BitPlace). q.0) h.place) ∙ one_stored a.table.now a.index e h.table;
  }

  pub reads_none : {x : A} → Room a → a.place.0 ≤ b.place.0 → Same a b → b.table.now ≡ a.table.now → b.index ≡ a.index → reading a f ≡ shows [] b.place.0 → Reads a b (Ok x) f
  reads_none z l h t i e = record {
    room = omega (arith, z, l, i);
    same = h;
    left = ap₂ (λ (u : List ℕ) (j : ℕ). state u j (At b.place.0)) t i ∙ sym (ap (shown_over a.table.now a.index) e ∙ after_none a.table.now a.index b.place.0);
  }

pub reads_never : {A : Type 0} {a : Reader} {r : Result A Reason} {e : Reason} {f : Format} → r ≡ Err e → reading a f ≡ stop (number_of e) → Reads a a r f
reads_never {a = a} d h = record { same = same_refl a; left = ap (state_of a) d ∙ one_stopped a.table.now a.index h; room = room_err a d }

pub shown_room : {a b : Reader} {n : Number} → Room a → a.place.0 < n.next.0 → Shown a b n → Room b
shown_room {a} {b} {n} z l h = let q : b.place.0 ≡ n.next.0 = ap (λ (q : BitPlace). q.0) h.place in omega (arith, z, l, q, h.index)

-- f showed one number, and what follows goes by it: told by the code, or stored by it; or f was refused
module _ {B : Type 0} {a b c : Reader} {s : Result B Reason} {f : Format} (g : List ℕ → Format) where
  pub reads_item : {r : Result ℕ Reason} {v : ℕ} → Reads a b r f → r ≡ Ok v → (reading a f).shown ≡ v ∷ [] → Reads b c s (g (v ∷ [])) → Reads a c s (f ▹ g)
  reads_item h e z k = reads_then g h e (subst (λ (ns : List ℕ). Reads b c s (g ns)) (sym z) k)

  pub reads_first : {n : Number} → Room a → a.place.0 < n.next.0 → Shown a b n → reading a f ≡ shows (n.value ∷ []) n.next.0 → Reads b c s (g (n.value ∷ [])) → Reads a c s (f ▹ g)
  reads_first {n} z l h e k =
      let one : Reads {A = ℕ} a b (Ok n.value) f = reads_one z l h e in
      reads_item one refl (ap (λ (r : Reading). r.shown) e) k

-- the answer of the code for something that does not stand in the bytes: nothing is done
pub reads_never_then : {A : Type 0} {a : Reader} {r : Result A Reason} {e : Reason} {f : Format} (g : List ℕ → Format) → r ≡ Err e → reading a f ≡ stop (number_of e) → Reads a a r (f ▹ g)
reads_never_then {a = a} {e = e} {f} g d h = reads_never d (never_then (order_of a.order) a.body.now f g a.place.0 (number_of e) h)

-- ---- the skip to a whole byte reads as the definitions have it
pub align_is : (o : Order) (b : List ℕ) (p : ℕ) → run o b (item Item.align) p ≡ read_align o b p
unfolding run read_item
align_is o b p = refl

-- ---- an item takes a bit at least
pub fair_kind : (o : Order) (kind : Kind) → Fair o 0 (format_of kind)
fair_kind o U32 = fair_byte o Item.U32 tt
fair_kind o I32 = fair_byte o Item.I32 tt
fair_kind o Time = fair_byte o Item.U64 tt
fair_kind o Float = fair_byte o (Item.Le 4) (omega arith)
fair_kind o Uint16 = fair_byte o (Item.Le 2) (omega arith)
fair_kind o Byte = fair_byte o (Item.UB 8) (omega arith)
fair_kind o (Enum top) = fair_only o 0 _ 16 byte (fair_byte o (Item.UB 8) (omega arith))
fair_kind o BlendMode = fair_only o 0 _ 16 byte (fair_byte o (Item.UB 8) (omega arith))
fair_kind o (Count lo) = fair_only o 0 _ 17 u32 (fair_byte o Item.U32 tt)

-- so a number stands behind its place, and in the bytes
pub one_behind : (o : Order) (b : List ℕ) (f : Format) {p v q : ℕ} → Fair o 0 f → (p ≤ 8 * length b) × (length b < 2 ^ 60) → run o b f p ≡ shows (v ∷ []) q → (p < q) × (q ≤ 8 * length b)
one_behind o b f {p} {v} {q} fair h e =
    let k : Fits b q (2 ^ 62 + p + 1) = fits_after o b [] f {p = p} {k = 2 ^ 62 + p} fair (h, omega arith) (one_stored [] (2 ^ 62 + p) e refl) in
    (omega (arith, k.1), k.0.0)

-- ---- a loop that reads a format part by part: the whole from the start is what is left from here
pub record OnWay (a b : Reader) (whole rest : Format) : Type 0 where
  pub same : Same a b
  pub left : shown_over a.table.now a.index (reading a whole) ≡ shown_over b.table.now b.index (reading b rest)
  pub room : Room b

pub on_start : {a : Reader} {f g : Format} → Room a → f ≡ g → OnWay a a f g
on_start {a} z e = record { same = same_refl a; room = z; left = ap (λ (z : Format). shown_over a.table.now a.index (reading a z)) e }

module _ {a b : Reader} {whole rest : Format} (w : OnWay a b whole rest) where
  -- the part f comes next, and was read; or it was refused
  module _ {A : Type 0} {c : Reader} {r : Result A Reason} {f more : Format} (split : rest ≡ f ▸ more) (h : Reads b c r f) where
    to_split : shown_over a.table.now a.index (reading a whole) ≡ shown_over b.table.now b.index (reading b (f ▸ more))
    to_split = w.left ∙ ap (λ (z : Format). shown_over b.table.now b.index (reading b z)) split

    pub on_next : {x : A} → r ≡ Ok x → OnWay a c whole more
    on_next e =
        record {
          same = same_then w.same h.same;
          room = subst (λ (z : Result A Reason). IfOk z (λ x. Room c)) e h.room;
          left = to_split ∙ sym (then_done (order_of b.order) b.body.now b.table.now b.index f (λ xs. more) b.place.0 (ap (state_of c) (sym e) ∙ h.left) (ap₂ (λ (o : Code) (z : List ℕ). shown_over c.table.now c.index (run (order_of o) z more c.place.0)) h.same.order h.same.body));
        }

    pub on_stop : {B : Type 0} {s : Result B Reason} {e : Reason} → r ≡ Err e → s ≡ Err e → Reads a c s whole
    on_stop e d = let k = reads_stop (λ xs. more) h e d in record { same = same_then w.same k.same; left = k.left ∙ sym to_split; room = k.room }

  pub on_done : {A : Type 0} {x : A} → rest ≡ nothing → Reads a b (Ok x) whole
  unfolding run
  on_done e = record { same = w.same; room = w.room; left = sym (w.left ∙ ap (λ (z : Format). shown_over b.table.now b.index (reading b z)) e ∙ after_none b.table.now b.index b.place.0) }

-- the same where f is one item, from what the code has of it: its number was shown; it was refused
module _ {a b : Reader} {whole rest f more : Format} (w : OnWay a b whole rest) (split : rest ≡ f ▸ more) where
  pub on_one : {c : Reader} {n : Number} → b.place.0 < n.next.0 → Shown b c n → reading b f ≡ shows (n.value ∷ []) n.next.0 → OnWay a c whole more
  on_one {c} {n} l h e = let k : Reads {A = Unit {0}} b c (Ok (tt {0})) f = reads_one w.room l h e in on_next w split k {x = tt {0}} refl

  pub on_never : {B : Type 0} {s : Result B Reason} {e : Reason} → reading b f ≡ stop (number_of e) → s ≡ Err e → Reads a b s whole
  on_never {e = e} h d = let k : Reads {A = Unit {0}} b b (Err e) f = reads_never refl h in on_stop w split k refl d

-- n times a format: one and the rest, or nothing
pub times_more : (n : ℕ) (f : Format) → 0 < n → times n f ≡ f ▸ times (n - 1) f
unfolding times
times_more zero f h = absurd (omega arith)
times_more (suc n) f h = let m : suc n - 1 ≡ n = omega arith in rw m

pub times_zero : (n : ℕ) (f : Format) → n ≡ 0 → times n f ≡ nothing
unfolding times
times_zero n f e = rw e

-- the same of what is left after i of them
pub times_turn : (n i : ℕ) (f : Format) → i < n → times (n - i) f ≡ f ▸ times (n - (i + 1)) f
times_turn n i f h = let m : n - i - 1 ≡ n - (i + 1) = omega arith in times_more (n - i) f (omega arith) ∙ ap (λ (k : ℕ). f ▸ times k f) m

pub times_over : (n i : ℕ) (f : Format) → n ≤ i → times (n - i) f ≡ nothing
times_over n i f h = times_zero (n - i) f (omega arith)

-- ---- n items of a kind, one at least: read as from the whole byte that they are aligned to, or not at all
module _ (o : Order) (b : List ℕ) (p : ℕ) (kind : Kind) (n : ℕ) (some : 0 < n) where
  pub items_whole : (i : ℕ) {q : ℕ} → read_align o b p ≡ shows [] q → q ≡ 8 * i → run o b (times n (format_of kind)) p ≡ run o b (times n (format_of kind)) q
  items_whole i {q} skip at = times_alike o b n (format_of kind) p q some (item_aligned o b i p q kind skip at)

  pub items_never : {e : ℕ} → read_align o b p ≡ stop e → run o b (times n (format_of kind)) p ≡ stop e
  items_never {e} skip = ap (λ (z : Format). run o b z p) (times_more n (format_of kind) some) ∙ never_then o b (format_of kind) (λ xs. times (n - 1) (format_of kind)) p e (item_unclean o b p kind skip)

-- ---- a String: the skip, and the text behind it
module _ (o : Order) (b : List ℕ) (p : ℕ) where
  pub string_is : {q : ℕ} → read_align o b p ≡ shows [] q → run o b string p ≡ show_text (read_text o b q (length b))
  unfolding run read_item
  string_is e = rw e

  pub string_never : {e : ℕ} → read_align o b p ≡ stop e → run o b string p ≡ stop e
  unfolding run read_item
  string_never e = rw e

-- ---- where only the table is another, the same bytes stand at the same places
pub kept_refl : (a : Reader) → Kept a a
kept_refl a = record { same = same_refl a; place = refl; index = refl }

pub kept_then : {a b c : Reader} → Kept a b → Kept b c → Kept a c
kept_then h k = record { same = same_then h.same k.same; place = k.place ∙ h.place; index = k.index ∙ h.index }

module _ {a b : Reader} (k : Kept a b) where
  pub kept_place : b.place.0 ≡ a.place.0
  kept_place = ap (λ (p : BitPlace). p.0) k.place

  pub kept_length : length b.body.now ≡ length a.body.now
  kept_length = ap length k.same.body

  pub kept_bits : (n w : ℕ) → ub (order_of b.order) b.body.now (b.place.0 + n) w ≡ ub (order_of a.order) a.body.now (a.place.0 + n) w
  kept_bits n w = rw (k.same.order, k.same.body, k.place)
