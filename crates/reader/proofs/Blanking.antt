-- Opaque bytes reach nothing else (C-20), of the two public calls, each known by its promise alone.
use Prim.Native.Nat.{ℕ}
use mathlib.Core.List.{List}
use mathlib.Core.Path.{◌≡◌, refl, ap, sym, ◌∙◌}
use lib.ListN.{take, drop}
use Rattle.format.specs.FileAndTags.{Tag}
use Rattle.format.specs.Reasons.{walk_file, Result, read_file, Left, into}
use Rattle.format.specs.Blanking.{Blanked, SameBut, SameResult}
use Rattle.format.proofs.BlankLaws.{same_tags, same_read, same_answer, same_given}
use Rattle.format.proofs.CallLaws.{filled, kept}
use Rattle.reasons.specs.declared.Reason.{Reason}
use Rattle.answers.specs.Answers.{answer_of}
use Rattle.answers.specs.declared.Answer.{Answer}
use Rattle.answers.specs.declared.Answer.TheVariants.{Accepted, Refused}
use Rattle.answers.proofs.AnswerLaws.{answer_one, leaves_one}
use Rattle.reader.proofs.Demands.{read, tags, Promise}

-- what two calls of `read` leave: the memory left and left', and the answers r and r'; ts are the tags that the reading of the first file passed
pub record SameCall (ts : List Tag) (left left' : List ℕ) (r r' : Answer) : Type 0 where
  -- both are accepted or both are refused, with the same reason and number
  pub answer : r' ≡ r
  -- their tables differ only in the values of those tags
  pub tables : {n : ℕ} → r ≡ Accepted n → SameBut ts (take n left) (take n left')
  -- the memory past them does not differ, and none of it after a refusal
  pub past : {n : ℕ} → r ≡ Accepted n → drop n left' ≡ drop n left
  pub refused : {e : Reason} {n : ℕ} → r ≡ Refused e n → left' ≡ left

-- ---- Take a file, a level and a room, and change bytes only inside the bodies of opaque tags that the reading passed before it ended: f is the file, g
-- the changed one, m the room.
module _ (order level : ℕ) (f g : List ℕ) (blanked : Blanked order level f g) (m left left' : List ℕ) (r r' : Answer) where
  pub read_blanked : Promise read order level f m left r → Promise read order level g m left' r' → SameCall (walk_file order level f).tags left left' r r'
  read_blanked p q = record {
    answer = one;
    tables = λ e. same_given F G both (filled m F p (ap answer_of e)).shows (filled m G q (ap answer_of (one ∙ e))).shows;
    past = λ e. (filled m G q (ap answer_of (one ∙ e))).rest ∙ sym (filled m F p (ap answer_of e)).rest;
    refused = λ e. (kept m G q (ap answer_of (one ∙ e))).keeps ∙ sym (kept m F p (ap answer_of e)).keeps;
  }
    where
      F : Result
      F = read_file order level f

      G : Result
      G = read_file order level g

      both : SameResult (walk_file order level f).tags F G
      both = same_read order level f g blanked

      one : r' ≡ r
      one = answer_one r' r (ap (λ (x : Left). x.answer) q ∙ same_answer m m F G refl both ∙ sym (ap (λ (x : Left). x.answer) p))

  -- the tag tables are equal, and the answers
  pub tags_blanked : Promise tags order level f m left r → Promise tags order level g m left' r' → (left' ≡ left) × (r' ≡ r)
  tags_blanked p q = leaves_one left' left r' r (q ∙ ap (into m) (same_tags order level f g blanked) ∙ sym p)
