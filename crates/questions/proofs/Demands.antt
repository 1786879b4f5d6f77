-- What is demanded of the index (C-14), from the promises of `index`, `count` and `place` alone.
use Prim.Native.Nat.{ℕ, ◌-◌, ◌*◌, ◌/◌, ◌≤◌, ◌<◌}
use mathlib.Core.List.{List, ◌++◌}
use mathlib.Core.Path.{◌≡◌, refl, ap, sym, ◌∙◌}
use mathlib.Core.Bool.{Bool, true, false}
use native.Mathlib.Omega.{arith}
use lib.ListN.{length, take, drop}
use lib.Seq.{take_at}
use lib.Dec.{ltb, leb}
use borrow.Author.Tests.{lt-ltb, le-ltb, ltb-true}
use Rattle.format.specs.Tests.{pick}
use Rattle.format.specs.Reasons as paper
use Rattle.format.specs.Reasons.{Result, gives, refuses, accepted, refused, read_tags, into, IsFile}
use Rattle.format.proofs.Absurd.{clash}
use Rattle.answers.specs.Answers.{answer_of}
use Rattle.answers.specs.declared.Answer.{Answer}
use Rattle.answers.specs.declared.Answer.TheVariants.{Accepted}
use Rattle.answers.proofs.AnswerLaws.{answer_one}
use Rattle.tag_index.specs.Index.{how_many, where_is, index, Built, builds, fills, fills_neither, building, is_index, count_answer, place_answer}
use Rattle.tag_index.proofs.IndexLaws.{length_index}
use Rattle.tag_index.proofs.FileLaws.{Sound, sound}
use Rattle.questions.proofs.JudgeLaws.{true_is}

-- ---- no second answer, and no second memory, fits
pub built_one : (b : Built) (m m' x x' : List ℕ) (r s : Answer) → builds m x r ≡ b → builds m' x' s ≡ b → (m ≡ m') × (x ≡ x') × (r ≡ s)
built_one b m m' x x' r s p q =
    let e : builds m x r ≡ builds m' x' s = p ∙ sym q in
    (ap (λ (b : Built). b.tags) e, ap (λ (b : Built). b.index) e, answer_one r s (ap (λ (b : Built). b.answer) e))

pub asked_one : (a : paper.Answer) (r s : Answer) → answer_of r ≡ a → answer_of s ≡ a → r ≡ s
asked_one a r s p q = answer_one r s (p ∙ sym q)

-- ---- "whatever is lent to a question, an answer that is no refusal is the plain walk's"
module _ (g x : List ℕ) (c : ℕ) where
  pub count_agrees : (n : ℕ) → answer_of (Accepted n) ≡ count_answer g x c → n ≡ how_many g c
  count_agrees n p = go (is_index g x) p
    where
      go : (b : Bool) → accepted n ≡ pick b (accepted (how_many g c)) (refused 30 0) → n ≡ how_many g c
      go true p = cc
      go false p = cc

  pub place_agrees : (k n : ℕ) → answer_of (Accepted n) ≡ place_answer g x c k → (k < how_many g c) × (n ≡ where_is g c k)
  place_agrees k n p = go (is_index g x) (ltb k (how_many g c)) refl p
    where
      go : (b d : Bool) → ltb k (how_many g c) ≡ d → accepted n ≡ pick b (pick d (accepted (where_is g c k)) (refused 22 0)) (refused 30 0) → (k < how_many g c) × (n ≡ where_is g c k)
      go true true l p = (ltb-true k (how_many g c) l, cc)
      go true false l p = clash cc
      go false d l p = clash cc

-- ---- "after an accepted `index`": it was lent m and x, answered with the count n, and left m' and x'
module _ (order level : ℕ) (f m x m' x' : List ℕ) (n : ℕ) (bytes : IsFile f) (p : builds m' x' (Accepted n) ≡ building m x (read_tags order level f)) where
  -- how many numbers of the tag table it filled
  abbrev pub filled_tags : ℕ
  filled_tags = 5 * ((n - 1024) / 2)

  pub record After : Type 0 where
    pub table : List ℕ
    pub given : read_tags order level f ≡ gives table
    pub tags_are : take filled_tags m' ≡ table
    pub index_is : take n x' ≡ index table
    pub judged : is_index (take filled_tags m') (take n x') ≡ true

  pub after : After
  after = go (read_tags order level f) refl p
    where
      made : (g : List ℕ) → read_tags order level f ≡ gives g → n ≡ length (index g) → m' ≡ g ++ drop (length g) m → x' ≡ index g ++ drop (length (index g)) x → After
      made g q a b d =
          let u : Sound g = sound order level f bytes g q in
          let s : filled_tags ≡ length g = omega (arith, a, length_index g, u.all, u.fives) in
          let t : take filled_tags m' ≡ g = ap (take filled_tags) b ∙ take_at g (drop (length g) m) filled_tags (sym s) in
          let v : take n x' ≡ index g = ap (take n) d ∙ take_at (index g) (drop (length (index g)) x) n (sym a) in
          record { table = g; given = q; tags_are = t; index_is = v; judged = rw (t, v) (true_is g (index g) (record { fives = u.fives; all = u.all; index_is = refl })) }

      room : (g : List ℕ) → read_tags order level f ≡ gives g → (a b : Bool) → builds m' x' (Accepted n) ≡ pick a (pick b (fills m x g) (fills_neither m x 23 0)) (fills_neither m x 19 (length g)) → After
      room g q true true p = made g q (count (ap (λ (b : Built). b.answer) p)) (ap (λ (b : Built). b.tags) p) (ap (λ (b : Built). b.index) p)
        where
          count : accepted n ≡ accepted (length (index g)) → n ≡ length (index g)
          count e = cc
      room g q true false p = let e : accepted n ≡ refused 23 0 = ap (λ (b : Built). b.answer) p in clash cc
      room g q false b p = let e : accepted n ≡ refused 19 (length g) = ap (λ (b : Built). b.answer) p in clash cc

      go : (S : Result) → read_tags order level f ≡ S → builds m' x' (Accepted n) ≡ building m x S → After
      go (gives g) q p = room g q (leb (length g) (length m)) (leb (length (index g)) (length x)) p
      go (refuses e k) q p = let z : accepted n ≡ refused e k = ap (λ (b : Built). b.answer) p in clash cc

  -- both questions, lent what was filled, answer what the plain walk answers, for every code and k
  pub count_after : (c : ℕ) → count_answer (take filled_tags m') (take n x') c ≡ accepted (how_many after.table c)
  count_after c = rw (after.judged, after.tags_are)

  pub place_after : (c k : ℕ) → k < how_many after.table c → place_answer (take filled_tags m') (take n x') c k ≡ accepted (where_is after.table c k)
  place_after c k h = rw (after.judged, after.tags_are, lt-ltb k (how_many after.table c) h)

  pub none_after : (c k : ℕ) → how_many after.table c ≤ k → place_answer (take filled_tags m') (take n x') c k ≡ refused 22 0
  none_after c k h = rw (after.judged, after.tags_are, le-ltb k (how_many after.table c) h)
