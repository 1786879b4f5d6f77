-- A format's reading laid over a table, part by part: what an engine's proof cites.
use Prim.Native.Nat.{ℕ, zero, suc, ◌+◌, ◌-◌, ◌*◌, ◌≤◌, ◌<◌}
use mathlib.Core.List.{List, [], ◌∷◌, ◌++◌, append-nil, append_assoc}
use mathlib.Core.Path.{◌≡◌, refl, ap, sym, ◌∙◌}
use lib.ListN.{length, length-append, set}
use lib.Seq.{sets}
use native.Mathlib.Nat.{add-zero, add-suc, suc-add, add_assoc}
use native.Mathlib.Omega.{arith}
use Rattle.format.specs.Bits.{Order}
use Rattle.format.specs.Reading.{Ending, At, Fault, Reading, shows, stop, follow}
use Rattle.format.specs.Formats.{Format, nothing, ◌▹◌, ◌▸◌, times}
use Rattle.format.specs.Items.{run}
use Rattle.format.proofs.SizeLaws.{Fair, FairEnd}
use Rattle.format.proofs.WalkLaws.{run_le}
use Rattle.table.specs.State.{State, shown_over}
use Rattle.table.specs.Fields.{Fits}

-- the state, field by field
abbrev pub state : List ℕ → ℕ → Ending → State
state t k z = record { table = t; count = k; ended = z }

pub state_eq : {t u : List ℕ} {j k : ℕ} {y z : Ending} → t ≡ u → j ≡ k → y ≡ z → state t j y ≡ state u k z
state_eq p q r = λ i. record { table = p i; count = q i; ended = r i }

pub sets_append : (t : List ℕ) (k : ℕ) (xs ys : List ℕ) → sets t k (xs ++ ys) ≡ sets (sets t k xs) (k + length xs) ys
sets_append t k [] ys = rw (add-zero k)
sets_append t k (x ∷ xs) ys = sets_append (set t k x) (suc k) xs ys ∙ rw (suc-add k (length xs), add-suc k (length xs))

-- ---- single readings

pub after_none : (t : List ℕ) (k p : ℕ) → shown_over t k (shows [] p) ≡ state t k (At p)
unfolding shown_over
after_none t k p = state_eq refl (add-zero k) refl

pub after_one : (t : List ℕ) (k v p : ℕ) → shown_over t k (shows (v ∷ []) p) ≡ state (set t k v) (k + 1) (At p)
unfolding shown_over
after_one t k v p = refl

pub after_stop : (t : List ℕ) (k e : ℕ) → shown_over t k (stop e) ≡ state t k (Fault e)
unfolding shown_over
after_stop t k e = state_eq refl (add-zero k) refl

-- the same for code that stored a number, or stopped
pub one_stored : (t : List ℕ) (k : ℕ) {v q : ℕ} {u : List ℕ} {r : Reading} → r ≡ shows (v ∷ []) q → u ≡ set t k v → state u (k + 1) (At q) ≡ shown_over t k r
one_stored t k {v} {q} e d = rw (e, d) (sym (after_one t k v q))

pub one_stopped : (t : List ℕ) (k : ℕ) {e : ℕ} {r : Reading} → r ≡ stop e → state t k (Fault e) ≡ shown_over t k r
one_stopped t k {e} h = rw h (sym (after_stop t k e))

-- ---- one reading and then another

-- what is still to come after a state
abbrev pub resume : List ℕ → ℕ → Ending → (ℕ → Reading) → State
resume u j (At q) g = shown_over u j (g q)
resume u j (Fault e) g = state u j (Fault e)

-- THE law: f and then g, laid over a table, is g laid over what f left
pub after_follow : (t : List ℕ) (k : ℕ) (xs : List ℕ) (z : Ending) (g : List ℕ → ℕ → Reading)
    → shown_over t k (follow xs z g) ≡ resume (sets t k xs) (k + length xs) z (g xs)
unfolding shown_over
after_follow t k xs (At p) g = state_eq (sets_append t k xs (g xs p).shown) (rw (length-append, add_assoc)) refl
after_follow t k xs (Fault e) g = refl

-- a reading that showed nothing, or stopped, before another
pub none_then : (o : Order) (b : List ℕ) (f : Format) (g : List ℕ → Format) (p q : ℕ) → run o b f p ≡ shows [] q → run o b (f ▹ g) p ≡ run o b (g []) q
unfolding run
none_then o b f g p q e = rw e

pub never_then : (o : Order) (b : List ℕ) (f : Format) (g : List ℕ → Format) (p e : ℕ) → run o b f p ≡ stop e → run o b (f ▹ g) p ≡ stop e
unfolding run
never_then o b f g p e h = rw h

module _ (o : Order) (b : List ℕ) (t : List ℕ) (k : ℕ) where
  pub after_then : (f : Format) (g : List ℕ → Format) (p : ℕ) → shown_over t k (run o b (f ▹ g) p)
      ≡ resume (sets t k (run o b f p).shown) (k + length (run o b f p).shown) (run o b f p).ended (λ q. run o b (g (run o b f p).shown) q)
  unfolding run
  after_then f g p = after_follow t k (run o b f p).shown (run o b f p).ended (λ xs q. run o b (g xs) q)

  -- for code: f left u, j and q, and x is what g leaves from there
  pub then_done : {u : List ℕ} {j q : ℕ} {x : State} (f : Format) (g : List ℕ → Format) (p : ℕ)
      → state u j (At q) ≡ shown_over t k (run o b f p) → x ≡ shown_over u j (run o b (g (run o b f p).shown) q) → x ≡ shown_over t k (run o b (f ▹ g) p)
  unfolding shown_over
  then_done f g p e d = d ∙ ap (λ (s : State). resume s.table s.count s.ended (λ q. run o b (g (run o b f p).shown) q)) e ∙ sym (after_then f g p)

  pub then_stop : {u : List ℕ} {j e : ℕ} (f : Format) (g : List ℕ → Format) (p : ℕ)
      → state u j (Fault e) ≡ shown_over t k (run o b f p) → state u j (Fault e) ≡ shown_over t k (run o b (f ▹ g) p)
  unfolding shown_over
  then_stop f g p e = ap (λ (s : State). resume s.table s.count s.ended (λ q. run o b (g (run o b f p).shown) q)) e ∙ sym (after_then f g p)

  -- the same where f is read whole: it showed one number, which is stored; it showed none; it stopped
  pub then_one : {u : List ℕ} {v q : ℕ} {x : State} (f : Format) (g : List ℕ → Format) (p : ℕ)
      → run o b f p ≡ shows (v ∷ []) q → u ≡ set t k v → x ≡ shown_over u (k + 1) (run o b (g (v ∷ [])) q) → x ≡ shown_over t k (run o b (f ▹ g) p)
  unfolding shown_over
  then_one {u} {v} {q} {x} f g p e d h = then_done {u = u} {j = k + 1} {q = q} f g p (rw (d, e)) (rw e h)

  pub then_none : {q : ℕ} {x : State} (f : Format) (g : List ℕ → Format) (p : ℕ)
      → run o b f p ≡ shows [] q → x ≡ shown_over t k (run o b (g []) q) → x ≡ shown_over t k (run o b (f ▹ g) p)
  then_none {q} {x} f g p e h = then_done f g p (sym (after_none t k q) ∙ ap (shown_over t k) (sym e)) (rw e h)

  pub then_never : {e : ℕ} (f : Format) (g : List ℕ → Format) (p : ℕ) → run o b f p ≡ stop e → state t k (Fault e) ≡ shown_over t k (run o b (f ▹ g) p)
  then_never {e} f g p h = then_stop f g p (sym (after_stop t k e) ∙ ap (shown_over t k) (sym h))

  -- ---- times: one and the rest, after a reading that left u, j and q
  pub times_next : {u : List ℕ} {j q : ℕ} (n : ℕ) (f : Format) (p : ℕ) → 0 < n
      → state u j (At q) ≡ shown_over t k (run o b f p) → shown_over t k (run o b (times n f) p) ≡ shown_over u j (run o b (times (n - 1) f) q)
  unfolding times
  times_next zero f p h e = absurd (omega arith)
  times_next (suc n) f p h e = let m : suc n - 1 ≡ n = omega arith in rw m (sym (then_done f (λ xs. times n f) p e refl))

  pub times_stop : {u : List ℕ} {j e : ℕ} (n : ℕ) (f : Format) (p : ℕ) → 0 < n
      → state u j (Fault e) ≡ shown_over t k (run o b f p) → shown_over t k (run o b (times n f) p) ≡ state u j (Fault e)
  unfolding times
  times_stop zero f p h e = absurd (omega arith)
  times_stop (suc n) f p h e = sym (then_stop f (λ xs. times n f) p e)

  -- none of them
  pub times_none : (n : ℕ) (f : Format) (p : ℕ) → n ≡ 0 → state t k (At p) ≡ shown_over t k (run o b (times n f) p)
  unfolding times run
  times_none n f p e = rw e (sym (after_none t k p))

-- n times a format is read alike from where one is
pub times_alike : (o : Order) (b : List ℕ) (n : ℕ) (f : Format) (p q : ℕ) → 0 < n → run o b f p ≡ run o b f q → run o b (times n f) p ≡ run o b (times n f) q
unfolding times run
times_alike o b zero f p q h e = absurd (omega arith)
times_alike o b (suc n) f p q h e = rw e

-- ---- a format that takes a bit at least for every number keeps the index in bounds
pub fits_after : (o : Order) (b t : List ℕ) (f : Format) {u : List ℕ} {p k j q : ℕ} → Fair o 0 f → Fits b p k → state u j (At q) ≡ shown_over t k (run o b f p) → Fits b q j
unfolding shown_over
fits_after o b t f {u} {p} {k} {j} {q} fair h e =
    let z : (run o b f p).ended ≡ At q = ap (λ (s : State). s.ended) (sym e) in
    let l : (p ≤ q) × (q ≤ 8 * length b) = run_le o b f p q h.0.0 z in
    let n : FairEnd 0 (8 * length b) p (length (run o b f p).shown) (At q) = rw z at (fair b p h.0.0) in
    let c : j ≡ k + length (run o b f p).shown = ap (λ (s : State). s.count) e in
    ((l.1, h.0.1), omega (arith, n, c, h.1))

-- ---- formats that are read alike
abbrev pub Alike : Format → Format → Type 0
Alike f g = (o : Order) (b : List ℕ) (p : ℕ) → run o b f p ≡ run o b g p

pub alike_nothing : (f : Format) → Alike (f ▸ nothing) f
unfolding run
alike_nothing f o b p = go (run o b f p)
  where
    go : (r : Reading) → follow r.shown r.ended (λ xs q. shows [] q) ≡ r
    go r = by r.shown r.ended
      where
        by : (xs : List ℕ) (z : Ending) → follow xs z (λ xs q. shows [] q) ≡ record { shown = xs; ended = z }
        by xs (At q) = rw append-nil
        by xs (Fault e) = refl

pub alike_assoc : (f g h : Format) → Alike ((f ▸ g) ▸ h) (f ▸ g ▸ h)
unfolding run
alike_assoc f g h o b p = by (run o b f p).shown (run o b f p).ended
  where
    rest : (xs ys : List ℕ) (z : Ending) → follow (xs ++ ys) z (λ xs q. run o b h q)
        ≡ record { shown = xs ++ (follow ys z (λ xs q. run o b h q)).shown; ended = (follow ys z (λ xs q. run o b h q)).ended }
    rest xs ys (At q) = rw append_assoc
    rest xs ys (Fault e) = refl

    by : (xs : List ℕ) (z : Ending)
        → follow (follow xs z (λ xs q. run o b g q)).shown (follow xs z (λ xs q. run o b g q)).ended (λ xs q. run o b h q)
        ≡ follow xs z (λ xs q. follow (run o b g q).shown (run o b g q).ended (λ xs q. run o b h q))
    by xs (At q) = rest xs (run o b g q).shown (run o b g q).ended
    by xs (Fault e) = refl

-- what follows may be replaced by what is read alike
pub alike_after : (f g h : Format) → Alike g h → Alike (f ▸ g) (f ▸ h)
unfolding run
alike_after f g h e o b p = go (run o b f p).shown (run o b f p).ended
  where
    go : (xs : List ℕ) (z : Ending) → follow xs z (λ xs q. run o b g q) ≡ follow xs z (λ xs q. run o b h q)
    go xs (At q) = rw (e o b q)
    go xs (Fault n) = refl
