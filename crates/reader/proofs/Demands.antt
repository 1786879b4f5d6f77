-- The demands, of the two public calls. A call is known by its promise alone: m is the memory lent to it, m' what that holds afterwards, r its answer.
use Prim.Native.Nat.{ℕ, ◌≤◌}
use mathlib.Core.List.{List, ◌∷◌}
use mathlib.Core.Path.{◌≡◌, refl, ap, sym, ◌∙◌}
use lib.ListN.{take}
use Rattle.format.specs.FileAndTags.{compression, Tag, Outcome, whole, fault, Walk}
use Rattle.format.specs.TableOfNumbers.{numbers, tag_table}
use Rattle.format.specs.Reasons.{walk_file, refused, Left, Result, gives, refuses, result, read_file, read_tags, into}
use Rattle.format.specs.Levels.{Levels, Refuses, InHidden, alike, apart, hide}
use Rattle.format.proofs.LevelLaws.{levels}
use Rattle.format.proofs.ReasonLaws.{IsReason, read_reason, tags_reason, not_19}
use Rattle.format.proofs.CallLaws.{Filled, filled, Why, faulty, full, kept}
use Rattle.format.proofs.Absurd.{clash}
use Rattle.reasons.specs.declared.Reason.{Reason}
use Rattle.reasons.specs.Numbers.{number_of}
use Rattle.answers.specs.Answers.{answer_of, leaves}
use Rattle.answers.specs.declared.Answer.{Answer}
use Rattle.answers.specs.declared.Answer.TheVariants.{Accepted, Refused}
use Rattle.answers.proofs.AnswerLaws.{leaves_one, Shows, shows}

-- ---- the two calls, and their promises
pub data Call : Type 0 where
  read tags : Call

-- what a file gives to each
abbrev pub reading : Call → ℕ → ℕ → List ℕ → Result
reading read order level f = read_file order level f
reading tags order level f = read_tags order level f

abbrev pub Promise : Call → ℕ → ℕ → List ℕ → List ℕ → List ℕ → Answer → Type 0
Promise x order level f m m' r = leaves m' r ≡ into m (reading x order level f)

module _ (x : Call) (order level : ℕ) (f m m' : List ℕ) where
  -- ---- no second answer, and no second memory, fits
  pub call_one : (m'' : List ℕ) (r s : Answer) → Promise x order level f m m' r → Promise x order level f m m'' s → (m' ≡ m'') × (r ≡ s)
  call_one m'' r s p q = leaves_one m' m'' r s (p ∙ sym q)

  -- ---- demand 1: a refusal writes nothing
  pub refusal_keeps : (e : Reason) {n : ℕ} → Promise x order level f m m' (Refused e n) → m' ≡ m
  refusal_keeps e p = (kept m (reading x order level f) p refl).keeps

  -- ---- demand 2: an acceptance gives exactly the numbers that are defined, and the memory past them stays
  pub acceptance_fills : {n : ℕ} → Promise x order level f m m' (Accepted n) → Filled m m' (reading x order level f) n
  acceptance_fills p = filled m (reading x order level f) p refl

-- ---- demand 3: a lower level shows the same as a higher one, except that each outermost tag above it stands opaque; their refusals agree, but for
-- places at or inside such tags. (19 is no refusal of the file: it is about the room, of which each call has its own.)

-- a call that was made at a level and in an order of the file f, either of the two: the memory lent to it before and after, its answer, and its promise
pub record Called (order level : ℕ) (f : List ℕ) : Type 0 where
  pub call : Call
  pub before : List ℕ
  pub after : List ℕ
  pub answer : Answer
  pub promise : Promise call order level f before after answer

-- it read the file: it accepted, or had no room
abbrev pub WasRead : Answer → Type 0
WasRead (Accepted n) = Unit {0}
WasRead (Refused e n) = number_of e ≡ 19

-- it refused the file, with this reason and number
pub record WasRefused (e n : ℕ) (r : Answer) : Type 0 where
  pub refused : answer_of r ≡ refused e n
  pub not_room : e ≡ 19 → ⊥

-- what it shows of tags: `read` the table of numbers, `tags` the tag table
abbrev pub shown : Call → List ℕ → List Tag → List ℕ
shown read f ts = compression f ∷ numbers ts
shown tags f ts = tag_table ts

-- ts are the tags that the file has at its level; and if it accepted, what stands in front is what it shows of them
pub record TagsOf {order level : ℕ} {f : List ℕ} (C : Called order level f) (ts : List Tag) : Type 0 where
  pub walked : ts ≡ (walk_file order level f).tags
  pub in_front : (n : ℕ) → C.answer ≡ Accepted n → take n C.after ≡ shown C.call f ts

-- ---- from its answer to the walk and back
module _ {order level : ℕ} {f : List ℕ} (C : Called order level f) where
  abbrev w : Walk
  w = walk_file order level f

  abbrev R : Result
  R = reading C.call order level f

  reading_is : R ≡ result (shown C.call f w.tags) w.ended
  unfolding read_file read_tags
  reading_is = go C.call
    where
      go : (x : Call) → reading x order level f ≡ result (shown x f w.tags) w.ended
      go read = refl
      go tags = refl

  reason_is : {e n : ℕ} → R ≡ refuses e n → IsReason e
  reason_is {e} {n} = go C.call
    where
      go : (x : Call) → reading x order level f ≡ refuses e n → IsReason e
      go read q = read_reason order level f q
      go tags q = tags_reason order level f q

  gives_whole : {ns : List ℕ} → R ≡ gives ns → (w.ended ≡ whole) × (ns ≡ shown C.call f w.tags)
  gives_whole {ns} q = go w.ended (sym reading_is ∙ q)
    where
      go : (z : Outcome) → result (shown C.call f w.tags) z ≡ gives ns → (z ≡ whole) × (ns ≡ shown C.call f w.tags)
      go whole q = (refl, cc)
      go (fault e n) q = clash cc

  pub was_read : WasRead C.answer → w.ended ≡ whole
  was_read h = go C.answer h C.promise
    where
      why : {e n : ℕ} → e ≡ 19 → (S : Result) → R ≡ S → Why C.before e n S → w.ended ≡ whole
      why h S q faulty = absurd (not_19 (reason_is q) h)
      why h S q (full a b c) = (gives_whole q).0

      go : (r : Answer) → WasRead r → Promise C.call order level f C.before C.after r → w.ended ≡ whole
      go (Accepted n) h p = (gives_whole (filled C.before R p refl).shows).0
      go (Refused e n) h p = why h R refl (kept C.before R p refl).why

  pub was_refused : {e n : ℕ} → WasRefused e n C.answer → w.ended ≡ fault e n
  was_refused {e} {n} h = why R refl (kept C.before R C.promise h.refused).why
    where
      out : (z : Outcome) → result (shown C.call f w.tags) z ≡ refuses e n → z ≡ fault e n
      out whole q = clash cc
      out (fault e' n') q = cc

      why : (S : Result) → R ≡ S → Why C.before e n S → w.ended ≡ fault e n
      why S q faulty = out w.ended (sym reading_is ∙ q)
      why S q (full a b c) = absurd (h.not_room a)

  refuses_so : {e n : ℕ} → w.ended ≡ fault e n → WasRefused e n C.answer
  refuses_so {e} {n} q =
      let d : R ≡ refuses e n = reading_is ∙ ap (result (shown C.call f w.tags)) q in
      record { refused = ap (λ (l : Left). l.answer) (C.promise ∙ ap (into C.before) d); not_room = not_19 (reason_is d) }

  tags_of : TagsOf C w.tags
  tags_of = record { walked = refl; in_front = λ n e. (gives_whole (filled C.before R C.promise (ap answer_of e)).shows).1 }

-- ---- two calls of one file, L at the lower level and H at the higher, each with its own room

-- (a) there are tags, those of the higher call, and the lower shows the same tags with each outermost one above its level opaque and what is inside
-- it left out: in front of its memory if there is room, else 19 with how many numbers there are
pub record SameButHidden {order lo hi : ℕ} {f : List ℕ} (L : Called order lo f) (H : Called order hi f) : Type 0 where
  pub ts : List Tag
  pub higher : TagsOf H ts
  pub lower : Shows (shown L.call f (hide lo f ts)) L.before L.after L.answer

-- (b) where the lower refuses the file with e and n, the higher refuses it: with the same reason and number, or with a number at or inside a tag above
-- the lower level, one of those that the lower passed
pub data Agrees {order hi : ℕ} {f : List ℕ} (lo e n : ℕ) (H : Called order hi f) : Type 0 where
  same : WasRefused e n H.answer → Agrees lo e n H
  hidden : {e' n' : ℕ} → WasRefused e' n' H.answer → InHidden lo n' (walk_file order lo f).tags → Agrees lo e n H

-- (c) there are tags, those of the lower call, and place n is at or inside one above its level
pub record InHiddenOf {order lo : ℕ} {f : List ℕ} (L : Called order lo f) (n : ℕ) : Type 0 where
  pub ts : List Tag
  pub lower : TagsOf L ts
  pub inside : InHidden lo n ts

module _ (order lo hi : ℕ) (f : List ℕ) (below : lo ≤ hi) (known : hi ≤ 1023) (L : Called order lo f) (H : Called order hi f) where
  law : Levels order lo hi f
  law = levels order lo hi f below known

  -- where the higher reads the file, the lower does, and shows the same but for what is hidden
  pub lower_accepts : WasRead H.answer → SameButHidden L H
  lower_accepts h = record {
    ts = (walk_file order hi f).tags;
    higher = tags_of H;
    lower = shows (shown L.call f (hide lo f (walk_file order hi f).tags)) L.before L.answer
        (L.promise ∙ ap (into L.before) (reading_is L ∙ ap (λ (w : Walk). result (shown L.call f w.tags) w.ended) (law.accepted (was_read H h))));
  }

  -- where the lower refuses the file, the higher does
  pub lower_refuses : {e n : ℕ} → WasRefused e n L.answer → Agrees lo e n H
  lower_refuses {e} {n} h = go (walk_file order hi f).ended (law.refused e n (was_refused L h)) refl
    where
      go : (z : Outcome) → Refuses lo (walk_file order lo f).tags e n z → (walk_file order hi f).ended ≡ z → Agrees lo e n H
      go z alike u = same (refuses_so H u)
      go z (apart i) u = hidden (refuses_so H u) i

  -- where only the higher refuses the file, it does so at or inside a tag that the lower shows opaque
  pub higher_alone : {e n : ℕ} → WasRead L.answer → WasRefused e n H.answer → InHiddenOf L n
  higher_alone {e} {n} a h = record { ts = (walk_file order lo f).tags; lower = tags_of L; inside = law.only e n (was_read L a) (was_refused H h) }
