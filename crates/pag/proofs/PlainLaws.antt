-- Answers as plain structs: nothing is lost.
use Prim.Native.Nat.{ℕ, ◌≤◌}
use mathlib.Core.List.{List}
use mathlib.Core.Path.{◌≡◌, refl, ap, sym, subst, ◌∙◌}
use native.Mathlib.Omega.{arith}
use Rattle.format.specs.Reasons as paper
use Rattle.format.specs.Reasons.{Writes, read_file, read_tags, into}
use Rattle.format.proofs.Promises.{writes_one}
use Rattle.format.proofs.ReasonLaws.{read_reason, tags_reason, answer_reason, reason_pos}
use Rattle.format.proofs.Absurd.{clash}
use Rattle.answers.specs.declared.Answer.{Answer}
use Rattle.pag.specs.declared.PagAnswer.{PagAnswer}
use Rattle.pag.specs.Plain.{plain, plain_of, leaves_plain, WritesPlain}

-- no second answer fits
pub plain_one : (x : paper.Left) {m m' : List ℕ} {r r' : PagAnswer} → leaves_plain m r x → leaves_plain m' r' x → (r ≡ r') × (m ≡ m')
plain_one x p q = (p.0 ∙ sym q.0, p.1 ∙ sym q.1)

pub writes_plain_one : (order level : ℕ) (t m : List ℕ) {m' m'' : List ℕ} {r s : PagAnswer} → WritesPlain order level t m m' r → WritesPlain order level t m m'' s → (r ≡ s) × (m' ≡ m'')
writes_plain_one order level t m {m'' = m''} {s = s} p q =
    plain_one p.0 p.2 (subst (λ (x : paper.Left). leaves_plain m'' s x) (writes_one order level t m q.0 p.0 q.1 p.1) q.2)

-- ---- reason 0 means accepted, with the count in the number: no refusal has it

pub accepted_by : (a : paper.Answer) → ((e n : ℕ) → a ≡ paper.refused e n → 1 ≤ e) → (plain_of a).reason ≡ 0 → a ≡ paper.accepted (plain_of a).number
accepted_by (paper.accepted n) h z = refl
accepted_by (paper.refused e n) h z = absurd (omega (arith, h e n refl))

pub read_accepted : (order level : ℕ) (f t : List ℕ) {m : List ℕ} {r : PagAnswer} → leaves_plain m r (into t (read_file order level f)) → r.reason ≡ 0
    → (into t (read_file order level f)).answer ≡ paper.accepted r.number
read_accepted order level f t p z =
    accepted_by (into t (read_file order level f)).answer (λ e n q. reason_pos (answer_reason t (read_file order level f) (λ e n q. read_reason order level f q) q)) (ap (λ (x : PagAnswer). x.reason) (sym p.0) ∙ z)
    ∙ ap (λ (x : PagAnswer). paper.accepted x.number) (sym p.0)

pub tags_accepted : (order level : ℕ) (f t : List ℕ) {m : List ℕ} {r : PagAnswer} → leaves_plain m r (into t (read_tags order level f)) → r.reason ≡ 0
    → (into t (read_tags order level f)).answer ≡ paper.accepted r.number
tags_accepted order level f t p z =
    accepted_by (into t (read_tags order level f)).answer (λ e n q. reason_pos (answer_reason t (read_tags order level f) (λ e n q. tags_reason order level f q) q)) (ap (λ (x : PagAnswer). x.reason) (sym p.0) ∙ z)
    ∙ ap (λ (x : PagAnswer). paper.accepted x.number) (sym p.0)

writes_named : (order level : ℕ) (t m : List ℕ) (x : paper.Left) → Writes order level t m x → (e n : ℕ) → x.answer ≡ paper.refused e n → 1 ≤ e
writes_named order level t m x (paper.too_high h) e n q = let z : 1 ≡ e = cc in omega (arith, z)
writes_named order level t m x (paper.neither h i) e n q = let z : 24 ≡ e = cc in omega (arith, z)
writes_named order level t m x (paper.impossible h i j) e n q = let z : 20 ≡ e = cc in omega (arith, z)
writes_named order level t m x (paper.too_short f h i) e n q = let z : 21 ≡ e = cc in omega (arith, z)
writes_named order level t m x (paper.written f h i) e n q = clash cc

pub write_accepted : (order level : ℕ) (t m : List ℕ) {m' : List ℕ} {r : PagAnswer} (p : WritesPlain order level t m m' r) → r.reason ≡ 0 → p.0.answer ≡ paper.accepted r.number
write_accepted order level t m p z =
    accepted_by p.0.answer (writes_named order level t m p.0 p.1) (ap (λ (x : PagAnswer). x.reason) (sym p.2.0) ∙ z) ∙ ap (λ (x : PagAnswer). paper.accepted x.number) (sym p.2.0)
