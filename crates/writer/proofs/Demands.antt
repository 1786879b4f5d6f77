-- What follows from the promise of `write`, and from it and the promise of `read` together, whatever the code of the two is.
-- `write` at a level and in an order, with the table t and the lent output out, leaves `leaves out' s`, of which it promises `Writes order level t out`.
-- `read` at a level and in an order, with the file f and the lent table m, leaves `leaves m' r`, of which it promises that it is `into m (read_file order level f)`.
use Prim.Native.Nat.{ℕ, ◌≤◌, ◌<◌}
use mathlib.Core.List.{List, ◌++◌}
use mathlib.Core.Path.{◌≡◌, refl, ap, sym, ◌∙◌, subst}
use native.Mathlib.Omega.{arith}
use lib.ListN.{length, take, drop}
use lib.Seq.{take_at}
use Rattle.format.specs.Reasons.{read_file, Left, accepted, refused, into, IsFile, FileOf, Writes, too_high, neither, impossible, too_short, written}
use Rattle.format.proofs.Promises.{writes_one}
use Rattle.format.proofs.CallLaws.{filled}
use Rattle.format.proofs.Absurd.{clash}
use Rattle.reasons.specs.declared.Reason.{Reason}
use Rattle.reasons.specs.declared.Reason.TheVariants.{TableTooShort, NoFileHasThisTable, OutputTooShort, OrderUnknown}
use Rattle.reasons.specs.Numbers.{number_of}
use Rattle.answers.specs.declared.Answer.{Answer}
use Rattle.answers.specs.declared.Answer.TheVariants.{Accepted, Refused}
use Rattle.answers.specs.Answers.{answer_of, leaves}
use Rattle.answers.proofs.AnswerLaws.{leaves_one, Shows, shows}

module _ (order level : ℕ) (t out : List ℕ) where
  -- ---- no second answer, and no second output, fits the promise of `write`
  pub write_one : (out₁ out₂ : List ℕ) (a b : Answer) → Writes order level t out (leaves out₁ a) → Writes order level t out (leaves out₂ b) → (out₁ ≡ out₂) × (a ≡ b)
  write_one out₁ out₂ a b p q = leaves_one out₁ out₂ a b (writes_one order level t out (leaves out₁ a) (leaves out₂ b) p q)

  -- ---- demand 1: a refusal writes nothing
  pub write_refusal_keeps : {out' : List ℕ} (e : Reason) {n : ℕ} → Writes order level t out (leaves out' (Refused e n)) → out' ≡ out
  write_refusal_keeps {out'} e {n} p = go (leaves out' (Refused e n)) p refl
    where
      go : (x : Left) → Writes order level t out x → x.answer ≡ refused (number_of e) n → x.lent ≡ out
      go x (too_high h) a = refl
      go x (neither l k) a = refl
      go x (impossible l k h) a = refl
      go x (too_short f u h) a = refl
      go x (written f u h) a = clash cc

  -- ---- an order that is neither is refused by 24, whatever else is wrong but the level
  pub neither_refused : {out' : List ℕ} (s : Answer) → level ≤ 1023 → 1 < order → Writes order level t out (leaves out' s) → (s ≡ Refused OrderUnknown 0) × (out' ≡ out)
  neither_refused {out'} s l k p = let e = write_one out' out s (Refused OrderUnknown 0) p (neither l k) in (e.1, e.0)

  -- ---- 20 comes where no file has the table in this order and at this level, and only there
  pub impossible_only : {out' : List ℕ} {n : ℕ} → Writes order level t out (leaves out' (Refused NoFileHasThisTable n)) → (f : List ℕ) → FileOf order level t f → ⊥
  impossible_only {out'} {n} p = go (leaves out' (Refused NoFileHasThisTable n)) p refl
    where
      go : (x : Left) → Writes order level t out x → x.answer ≡ refused 20 n → (f : List ℕ) → FileOf order level t f → ⊥
      go x (too_high h) a f v = let z : ◌≡◌ {A = ℕ} 1 20 = cc in omega (arith, z)
      go x (neither l k) a f v = let z : ◌≡◌ {A = ℕ} 24 20 = cc in omega (arith, z)
      go x (impossible l k h) a f v = h f v
      go x (too_short g u h) a f v = let z : ◌≡◌ {A = ℕ} 21 20 = cc in omega (arith, z)
      go x (written g u h) a f v = clash cc

  pub no_file_impossible : {out' : List ℕ} (s : Answer) → level ≤ 1023 → order ≤ 1 → ((f : List ℕ) → FileOf order level t f → ⊥) → Writes order level t out (leaves out' s) → (s ≡ Refused NoFileHasThisTable 0) × (out' ≡ out)
  no_file_impossible {out'} s l k h p = let e = write_one out' out s (Refused NoFileHasThisTable 0) p (impossible l k h) in (e.1, e.0)

  -- ---- where a file has the table, it is written if there is room for it, else 21 says how many bytes it has
  pub file_written : {out' : List ℕ} (s : Answer) (f : List ℕ) → FileOf order level t f → Writes order level t out (leaves out' s) → length f ≤ length out → (s ≡ Accepted (length f)) × (out' ≡ f ++ drop (length f) out)
  file_written {out'} s f u p h = let e = write_one out' (f ++ drop (length f) out) s (Accepted (length f)) p (written f u h) in (e.1, e.0)

  pub file_too_long : {out' : List ℕ} (s : Answer) (f : List ℕ) → FileOf order level t f → Writes order level t out (leaves out' s) → length out < length f → (s ≡ Refused OutputTooShort (length f)) × (out' ≡ out)
  file_too_long {out'} s f u p h = let e = write_one out' out s (Refused OutputTooShort (length f)) p (too_short f u h) in (e.1, e.0)

  -- an acceptance: the first n bytes are a file of the table
  pub write_file_lem : (x : Left) (n : ℕ) → Writes order level t out x → x.answer ≡ accepted n → FileOf order level t (take n x.lent)
  write_file_lem x n (too_high h) e = clash cc
  write_file_lem x n (neither l k) e = clash cc
  write_file_lem x n (impossible l k h) e = clash cc
  write_file_lem x n (too_short f u h) e = clash cc
  write_file_lem x n (written f u h) e = let z : length f ≡ n = cc in subst (FileOf order level t) (sym (take_at f (drop (length f) out) n z)) u

-- ---- demand 2: `write` after `read` gives the same bytes
module _ (order level : ℕ) (f m m' : List ℕ) (r : Answer) (n : ℕ) (file : IsFile f) (read : leaves m' r ≡ into m (read_file order level f)) (taken : r ≡ Accepted n)
    (out out' : List ℕ) (s : Answer) (write : Writes order level (take n m') out (leaves out' s)) where
  table_is : FileOf order level (take n m') f
  table_is = record { bytes = file; reads = (filled m (read_file order level f) read (ap answer_of taken)).shows }

  pub write_after_read : length f ≤ length out → (s ≡ Accepted (length f)) × (out' ≡ f ++ drop (length f) out)
  write_after_read h = file_written order level (take n m') out s f table_is write h

  -- and without room for them says how many there are
  pub short_after_read : length out < length f → (s ≡ Refused OutputTooShort (length f)) × (out' ≡ out)
  short_after_read h = file_too_long order level (take n m') out s f table_is write h

-- ---- demand 2: `read` after `write` gives the same numbers
module _ (order level : ℕ) (t out out' : List ℕ) (s : Answer) (n : ℕ) (write : Writes order level t out (leaves out' s)) (taken : s ≡ Accepted n)
    (m m' : List ℕ) (r : Answer) (read : leaves m' r ≡ into m (read_file order level (take n out'))) where
  shows_table : Shows t m m' r
  shows_table = shows t m r (read ∙ ap (into m) (write_file_lem order level t out (leaves out' s) n write (ap answer_of taken)).reads)

  pub read_after_write : length t ≤ length m → (r ≡ Accepted (length t)) × (m' ≡ t ++ drop (length t) m)
  read_after_write h = shows_table.room h

  -- and without room for them says how many there are
  pub full_after_write : length m < length t → (r ≡ Refused TableTooShort (length t)) × (m' ≡ m)
  full_after_write h = shows_table.full h
