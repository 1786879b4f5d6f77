-- How methods of a writer follow one another. Nothing here speaks of one format.
use Rattle.std.proofs.Common.{◌≡◌, ℕ, ◌+◌, ◌-◌, ◌<◌, ◌≤◌, List, sym, refl, ap, ◌∙◌, ap₂, arith}
use Rattle.std.specs.Prelude.{Result, Ok, Err, IsErr}
use Rattle.format.specs.Formats.{Format, nothing, ◌▹◌, ◌▸◌, times, the}
use Rattle.format.specs.Bits as paper
use Rattle.format.specs.Items.{run}
use Rattle.format.specs.Possible.{Possible, cannot}
use Rattle.bits.specs.Places.{order_of}
use Rattle.bits.specs.declared.Order.{Order}
use Rattle.sink.specs.declared.Impossible.{Impossible}
use Rattle.spelling.specs.declared.writer.Writer.{Writer}
use Rattle.spelling.specs.Writing.{Seen, ran}
use Rattle.spelling.specs.Writer.{state, seen_of, Onward, Writes, used}
use Rattle.spelling.proofs.AlikeLaws.{ran_alike}
use Rattle.spelling.proofs.RunLaws.{resume, ran_then, ran_nothing, times_more, times_over}

-- where the code answers that no file has the values
pub err_seen : {T : Type 0} (b : Writer) (q : Result T Impossible) {x : Possible Seen} → IsErr q → cannot ≡ x → seen_of b q ≡ x
err_seen b (Ok y) h e = cc
err_seen b (Err z) h e = e

pub missing : {T : Type 0} (q : Result T Impossible) → IsErr q → q ≡ Err (record {})
missing (Ok y) h = cc
missing (Err z) h = refl

pub onward_none : (a : Writer) → Onward a a
onward_none a = record { order = refl; values = refl; lent = refl; size = refl }

pub onward_then : {a b c : Writer} → Onward a b → Onward b c → Onward a c
onward_then p q = record {
  order = q.order ∙ p.order;
  values = q.values ∙ p.values;
  lent = q.lent ∙ p.lent;
  size = q.size ∙ p.size;
}

-- ---- a format f is written from the writer a on: of it g is to come, from the writer b on
pub record Going (a b : Writer) (f g : Format) : Type 0 where
  pub onward : Onward a b
  pub rest : ran (order_of a.order) a.values.now (state a) a.index f ≡ ran (order_of b.order) b.values.now (state b) b.index g

pub going_none : (a : Writer) (f : Format) → Going a a f f
going_none a f = record { onward = onward_none a; rest = refl }

-- the same writer sees the same
pub same_run : {a b : Writer} → Onward a b → (g : Format) → ran (order_of b.order) b.values.now (state b) b.index g ≡ ran (order_of a.order) a.values.now (state b) b.index g
same_run {a} {b} p g = ap₂ (λ (o : Order) (t : List ℕ). ran (order_of o) t (state b) b.index g) p.order p.values

pub going_over : {T : Type 0} {a b : Writer} {f g : Format} (x : T) → Going a b f g → g ≡ nothing → Writes a b (Ok x) f
going_over {T} {a} {b} x p e = record {
  onward = p.onward;
  told = sym (p.rest ∙ ap (ran (order_of b.order) b.values.now (state b) b.index) e ∙ ran_nothing (order_of b.order) b.values.now (state b) b.index b.fine.1);
}

pub going_last : {T : Type 0} {a b c : Writer} {r : Result T Impossible} {f g : Format} → Going a b f g → Writes b c r g → Writes a c r f
going_last p w = record { onward = onward_then p.onward w.onward; told = w.told ∙ sym p.rest }

module _ {T : Type 0} {a b : Writer} {r : Result T Impossible} {f : Format} (w : Writes a b r f) where
  writes_resume : (g : List ℕ → Format) → ran (order_of a.order) a.values.now (state a) a.index (f ▹ g) ≡ resume (order_of a.order) a.values.now a.index g (seen_of b r)
  writes_resume g = ran_then (order_of a.order) a.values.now (state a) a.index f g ∙ ap (resume (order_of a.order) a.values.now a.index g) (sym w.told)

  -- what follows it
  pub writes_on : (g : List ℕ → Format) {x : T} → r ≡ Ok x → Going a b (f ▹ g) (g (used a b))
  writes_on g e = record {
    onward = w.onward;
    rest = writes_resume g ∙ ap (λ (q : Result T Impossible). resume (order_of a.order) a.values.now a.index g (seen_of b q)) e ∙ sym (same_run w.onward (g (used a b)));
  }

  -- THE law: one format and then another
  pub writes_then : {U : Type 0} {c : Writer} {q : Result U Impossible} (g : List ℕ → Format) {x : T} → r ≡ Ok x → Writes b c q (g (used a b)) → Writes a c q (f ▹ g)
  writes_then g e v = going_last (writes_on g e) v

  -- and the whole is gone with the first
  pub writes_failed : {U : Type 0} {q : Result U Impossible} {x : Impossible} (g : List ℕ → Format) → r ≡ Err x → IsErr q → Writes a b q (f ▹ g)
  writes_failed {q = q} g e h = record {
    onward = w.onward;
    told = err_seen b q h (sym (writes_resume g ∙ ap (λ (q : Result T Impossible). resume (order_of a.order) a.values.now a.index g (seen_of b q)) e));
  }

  -- the same with another answer
  pub writes_ok : {U : Type 0} {x : T} {y : U} → r ≡ Ok x → Writes a b (Ok y) f
  writes_ok e = record { onward = w.onward; told = ap (seen_of b) (sym e) ∙ w.told }

  pub writes_err : {U : Type 0} {q : Result U Impossible} {x : Impossible} → r ≡ Err x → IsErr q → Writes a b q f
  writes_err {q = q} e h = record { onward = w.onward; told = err_seen b q h (ap (seen_of b) (sym e) ∙ w.told) }

  -- by the one number that it used up
  pub number_then : {U : Type 0} {c : Writer} {q : Result U Impossible} (g : ℕ → Format) {n : ℕ} {x : T} → r ≡ Ok x → n ≡ the (used a b) → Writes b c q (g n) → Writes a c q (f ▹ λ ns. g (the ns))
  number_then g e is v = writes_then (λ ns. g (the ns)) e (let z = v in rw is at z)

-- the same format by another name; and one that is read alike
pub writes_is : {T : Type 0} {a b : Writer} {r : Result T Impossible} {f g : Format} → f ≡ g → Writes a b r f → Writes a b r g
writes_is {a = a} e w = record { onward = w.onward; told = w.told ∙ ap (ran (order_of a.order) a.values.now (state a) a.index) e }

pub writes_alike : {T : Type 0} {a b : Writer} {r : Result T Impossible} (f g : Format) → ((o : paper.Order) (b : List ℕ) (p : ℕ) → run o b f p ≡ run o b g p) → Writes a b r f → Writes a b r g
writes_alike {a = a} f g alike w = record { onward = w.onward; told = w.told ∙ ran_alike (order_of a.order) a.values.now (state a) a.index f g (alike (order_of a.order)) }

-- nothing is written
pub writes_nothing : {T : Type 0} (a : Writer) (x : T) → Writes a a (Ok x) nothing
writes_nothing a x = going_over x (going_none a nothing) refl

-- ---- a loop that writes the format f part by part
module _ {T : Type 0} {a b c : Writer} {r : Result T Impossible} {f g part rest : Format} (p : Going a b f g) (is : g ≡ part ▸ rest) (w : Writes b c r part) where
  going_is : Going a b f (part ▸ rest)
  going_is = record { onward = p.onward; rest = p.rest ∙ ap (ran (order_of b.order) b.values.now (state b) b.index) is }

  pub going_next : {x : T} → r ≡ Ok x → Going a c f rest
  going_next e = let n : Going b c (part ▸ rest) rest = writes_on w (λ xs. rest) e in record { onward = onward_then p.onward n.onward; rest = going_is.rest ∙ n.rest }

  pub going_failed : {U : Type 0} {q : Result U Impossible} {x : Impossible} → r ≡ Err x → IsErr q → Writes a c q f
  going_failed e h = going_last going_is (writes_failed w (λ xs. rest) e h)

-- ---- n parts in turn, of which i are written
module _ (f : Format) (n : ℕ) where
  pub turns_none : (a : Writer) → Going a a (times n f) (times (n - 0) f)
  turns_none a = let e : n ≡ n - 0 = omega arith in record { onward = onward_none a; rest = ap (λ (m : ℕ). ran (order_of a.order) a.values.now (state a) a.index (times m f)) e }

  module _ (i : ℕ) {a b : Writer} (p : Going a b (times n f) (times (n - i) f)) where
    pub turns_all : {T : Type 0} (x : T) → n ≤ i → Writes a b (Ok x) (times n f)
    turns_all x h = going_over x p (times_over f (n - i) (omega arith))

    module _ {T : Type 0} {c : Writer} {r : Result T Impossible} (more : i < n) (w : Writes b c r f) where
      part_is : times (n - i) f ≡ f ▸ times (n - (i + 1)) f
      part_is = let e : n - i - 1 ≡ n - (i + 1) = omega arith in times_more f (n - i) (omega arith) ∙ ap (λ (m : ℕ). f ▸ times m f) e

      pub turns_next : {x : T} → r ≡ Ok x → Going a c (times n f) (times (n - (i + 1)) f)
      turns_next e = going_next p part_is w e

      pub turns_failed : {U : Type 0} {q : Result U Impossible} {x : Impossible} → r ≡ Err x → IsErr q → Writes a c q (times n f)
      turns_failed e h = going_failed p part_is w e h
