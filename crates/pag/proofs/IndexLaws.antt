-- The answers of the three calls on an index, as plain structs: nothing is lost, and reason 0 means accepted.
use Prim.Native.Nat.{ℕ, ◌≤◌}
use mathlib.Core.List.{List}
use mathlib.Core.Path.{◌≡◌, refl, ap, sym, ◌∙◌}
use mathlib.Core.Bool.{Bool, true, false}
use native.Mathlib.Omega.{arith}
use lib.ListN.{length}
use lib.Dec.{ltb, leb}
use Rattle.format.specs.Tests.{pick}
use Rattle.format.specs.Reasons as paper
use Rattle.format.specs.Reasons.{Result, gives, refuses, read_tags}
use Rattle.format.proofs.ReasonLaws.{tags_reason, reason_pos}
use mathlib.Core.Logic.{inl}
use Rattle.format.proofs.Absurd.{clash}
use Rattle.answers.specs.declared.Answer.{Answer}
use Rattle.tag_index.specs.Index.{how_many, where_is, index, Built, fills, fills_neither, building, is_index, count_answer, place_answer}
use Rattle.pag.specs.declared.PagAnswer.{PagAnswer}
use Rattle.pag.specs.Plain.{plain, plain_of}
use Rattle.pag.specs.PlainIndex.{leaves_both}
use Rattle.pag.proofs.PlainLaws.{accepted_by}

-- no second answer fits
pub both_one : (b : Built) {m m' x x' : List ℕ} {r r' : PagAnswer} → leaves_both m x r b → leaves_both m' x' r' b → (r ≡ r') × (m ≡ m') × (x ≡ x')
both_one b p q = (p.0 ∙ sym q.0, p.1 ∙ sym q.1, p.2 ∙ sym q.2)

-- ---- reason 0 means accepted, with the count in the number
pub plain_accepted : (y : paper.Answer) {r : PagAnswer} → ((e n : ℕ) → y ≡ paper.refused e n → 1 ≤ e) → r ≡ plain_of y → r.reason ≡ 0 → y ≡ paper.accepted r.number
plain_accepted y h p z = accepted_by y h (ap (λ (x : PagAnswer). x.reason) (sym p) ∙ z) ∙ ap (λ (x : PagAnswer). paper.accepted x.number) (sym p)

pub index_accepted : (order level : ℕ) (f m x : List ℕ) {m' x' : List ℕ} {r : PagAnswer} → leaves_both m' x' r (building m x (read_tags order level f)) → r.reason ≡ 0
    → (building m x (read_tags order level f)).answer ≡ paper.accepted r.number
index_accepted order level f m x p z = plain_accepted (building m x (read_tags order level f)).answer (go (read_tags order level f) refl) p.0 z
  where
    room : (g : List ℕ) (a b : Bool) (e n : ℕ) → (pick a (pick b (fills m x g) (fills_neither m x 23 0)) (fills_neither m x 19 (length g))).answer ≡ paper.refused e n → 1 ≤ e
    room g true true e n q = clash cc
    room g true false e n q = let z : 23 ≡ e = cc in omega (arith, z)
    room g false b e n q = let z : 19 ≡ e = cc in omega (arith, z)

    go : (S : Result) → read_tags order level f ≡ S → (e n : ℕ) → (building m x S).answer ≡ paper.refused e n → 1 ≤ e
    go (gives g) s e n q = room g (leb (length g) (length m)) (leb (length (index g)) (length x)) e n q
    go (refuses d k) s e n q = let z : d ≡ e = cc in omega (arith, z, reason_pos (inl (tags_reason order level f s)))

pub count_accepted : (g x : List ℕ) (c : ℕ) {r : PagAnswer} → r ≡ plain_of (count_answer g x c) → r.reason ≡ 0 → count_answer g x c ≡ paper.accepted r.number
count_accepted g x c p z = plain_accepted (count_answer g x c) (go (is_index g x)) p z
  where
    go : (b : Bool) (e n : ℕ) → pick b (paper.accepted (how_many g c)) (paper.refused 30 0) ≡ paper.refused e n → 1 ≤ e
    go true e n q = clash cc
    go false e n q = let z : 30 ≡ e = cc in omega (arith, z)

pub place_accepted : (g x : List ℕ) (c k : ℕ) {r : PagAnswer} → r ≡ plain_of (place_answer g x c k) → r.reason ≡ 0 → place_answer g x c k ≡ paper.accepted r.number
place_accepted g x c k p z = plain_accepted (place_answer g x c k) (go (is_index g x) (ltb k (how_many g c))) p z
  where
    go : (a b : Bool) (e n : ℕ) → pick a (pick b (paper.accepted (where_is g c k)) (paper.refused 22 0)) (paper.refused 30 0) ≡ paper.refused e n → 1 ≤ e
    go true true e n q = clash cc
    go true false e n q = let z : 22 ≡ e = cc in omega (arith, z)
    go false b e n q = let z : 30 ≡ e = cc in omega (arith, z)
