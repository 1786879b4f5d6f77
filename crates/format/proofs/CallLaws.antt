-- What the answer of `read` and of `tags` says: m is the memory that was lent, x what the call left, and R what the file gives.
use Prim.Native.Nat.{ℕ, ◌≤◌, ◌<◌}
use mathlib.Core.List.{List, ◌++◌}
use mathlib.Core.Path.{◌≡◌, refl, ap, sym, ◌∙◌}
use mathlib.Core.Bool.{Bool, true, false}
use native.Mathlib.Omega.{arith}
use lib.ListN.{length, take, drop}
use lib.Seq.{take_at, drop_at}
use lib.Dec.{leb}
use borrow.Author.Tests.{leb-true, leb-false}
use Rattle.format.specs.Tests.{pick}
use Rattle.format.specs.Reasons.{Result, gives, refuses, accepted, refused, Left, accepts, refuses_with, into}
use Rattle.format.proofs.Absurd.{clash}

-- accepted with n: the first n numbers are what the file gives, the memory past them is what it was, and there was room for them
pub record Filled (m m' : List ℕ) (R : Result) (n : ℕ) : Type 0 where
  pub shows : R ≡ gives (take n m')
  pub count : length (take n m') ≡ n
  pub rest : drop n m' ≡ drop n m
  pub room : n ≤ length m

-- refused with e and n: the file is, or it gives n numbers and there was no room for them; and the memory is what it was
pub data Why (m : List ℕ) (e n : ℕ) : Result → Type 0 where
  faulty : Why m e n (refuses e n)
  full : {ns : List ℕ} → e ≡ 19 → n ≡ length ns → length m < length ns → Why m e n (gives ns)

pub record Kept (m m' : List ℕ) (R : Result) (e n : ℕ) : Type 0 where
  pub keeps : m' ≡ m
  pub why : Why m e n R

module _ (m : List ℕ) where
  pub filled : (R : Result) {x : Left} {n : ℕ} → x ≡ into m R → x.answer ≡ accepted n → Filled m x.lent R n
  filled (refuses e k) p a = clash cc
  filled (gives ns) {x} {n} p a = go (leb (length ns) (length m)) refl p
    where
      go : (c : Bool) → leb (length ns) (length m) ≡ c → x ≡ pick c (accepts m ns) (refuses_with m 19 (length ns)) → Filled m x.lent (gives ns) n
      go false e p = clash cc
      go true e p =
          let k : length ns ≡ n = cc in
          let l : x.lent ≡ ns ++ drop (length ns) m = ap (λ (x : Left). x.lent) p in
          let t : take n x.lent ≡ ns = ap (take n) l ∙ take_at ns (drop (length ns) m) n k in
          record {
            shows = ap gives (sym t);
            count = ap length t ∙ k;
            rest = ap (drop n) l ∙ drop_at ns (drop (length ns) m) n k ∙ ap (λ (i : ℕ). drop i m) k;
            room = omega (arith, leb-true (length ns) (length m) e);
          }

  pub kept : (R : Result) {x : Left} {e n : ℕ} → x ≡ into m R → x.answer ≡ refused e n → Kept m x.lent R e n
  kept (refuses e' n') {x} {e} {n} p a =
      let s : e' ≡ e = cc in
      let t : n' ≡ n = cc in
      record { keeps = ap (λ (x : Left). x.lent) p; why = rw (s, t) faulty }
  kept (gives ns) {x} {e} {n} p a = go (leb (length ns) (length m)) refl p
    where
      go : (c : Bool) → leb (length ns) (length m) ≡ c → x ≡ pick c (accepts m ns) (refuses_with m 19 (length ns)) → Kept m x.lent (gives ns) e n
      go true c p = clash cc
      go false c p =
          let s : e ≡ 19 = cc in
          let t : n ≡ length ns = cc in
          record { keeps = ap (λ (x : Left). x.lent) p; why = full s t (leb-false (length ns) (length m) c) }
