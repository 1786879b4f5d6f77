-- What the two calls leave are a file's tables; what is left of these in lent memory; and the listing of the table with singles is the listing with singles.
use Prim.Native.Nat.{ℕ, ◌-◌, ◌≤◌, ◌<◌}
use mathlib.Core.Bool.{Bool, true, false}
use mathlib.Core.List.{List, [], ◌∷◌, ◌++◌, map}
use mathlib.Core.Path.{◌≡◌, refl, ap, sym, ◌∙◌}
use native.Mathlib.Omega.{arith}
use lib.ListN.{length, take, drop}
use lib.Dec.{leb}
use borrow.Author.Tests.{le-ltb, lt-ltb}
use Rattle.format.specs.Tests.{pick}
use Rattle.format.specs.FileAndTags.{Tag, Walk, Outcome, whole, fault}
use Rattle.format.specs.TableOfNumbers.{table, tag_table}
use Rattle.format.specs.Reasons.{gives, result, walk_file, read_file, read_tags, Left, accepts, refuses_with, into, IsFile, Answer, accepted, refused}
use Rattle.format.proofs.PlainLaws.{Shown, shown_file}
use Rattle.format.proofs.StartLaws.{good_start, whole_start}
use Rattle.format.proofs.CallLaws.{filled}
use Rattle.format.proofs.Absurd.{clash}
use Rattle.reasons.specs.declared.Reason.{Reason}
use Rattle.reasons.specs.Numbers.{number_of}
use Rattle.answers.specs.Answers.{answer_of, leaves}
use Rattle.answers.specs.declared.Answer as answers
use Rattle.answers.specs.declared.Answer.TheVariants.{Accepted, Refused}
use Rattle.listing.specs.Listing.{listing, refusal}
use Rattle.listing.specs.Steps.{table_listing}
use Rattle.listing.proofs.Listed.{listed}
use Rattle.path_singles.specs.Tables.{values_by, with_singles, in_singles, judged, TablesOf}
use Rattle.path_singles.proofs.LengthLaws.{table_long}
use Rattle.printing.specs.Singles.{listed_or, printed_in_singles, read_singles, singles_by, singles_left}

-- ---- the parts that are lent on are the two tables
part_is : (l : List ℕ) (k : ℕ) → take (k - 0) (drop 0 l) ≡ take k l
part_is l k = let e : k - 0 ≡ k = omega arith in rw e

pub tables_of : (f m g : List ℕ) {l h : List ℕ} {r s : answers.Answer} {k j : ℕ} → leaves l r ≡ into m (read_file 0 1023 f) → r ≡ Accepted k → leaves h s ≡ into g (read_tags 0 1023 f) → s ≡ Accepted j
    → TablesOf f (take (k - 0) (drop 0 l)) (take (j - 0) (drop 0 h))
tables_of f m g {l} {h} {k = k} {j = j} a b c d =
    ((filled m (read_file 0 1023 f) a (ap answer_of b)).shows ∙ ap gives (sym (part_is l k)), (filled g (read_tags 0 1023 f) c (ap answer_of d)).shows ∙ ap gives (sym (part_is h j)))

-- ---- what is left in the memory m: the table T in place of P, which is as long. Where there was no room for P there is none for T
module _ (m P T : List ℕ) (same : length T ≡ length P) where
  kept_too : (z : Outcome) {x : Left} {e n : ℕ} → x ≡ into m (result P z) → x.answer ≡ refused e n → x.lent ≡ (into m (result T z)).lent
  kept_too (fault e n) p a = ap (λ (x : Left). x.lent) p
  kept_too whole {x} p a = go (leb (length P) (length m)) refl p
    where
      go : (c : Bool) → leb (length P) (length m) ≡ c → x ≡ pick c (accepts m P) (refuses_with m 19 (length P)) → x.lent ≡ (into m (gives T)).lent
      go true c p = clash cc
      go false c p = rw (same, c) (ap (λ (x : Left). x.lent) p)

  laid_too : (z : Outcome) {x : Left} {n : ℕ} → x ≡ into m (result P z) → x.answer ≡ accepted n → T ++ drop n x.lent ≡ (into m (result T z)).lent
  laid_too (fault e k) p a = clash cc
  laid_too whole {x} {n} p a = go (leb (length P) (length m)) refl p
    where
      go : (c : Bool) → leb (length P) (length m) ≡ c → x ≡ pick c (accepts m P) (refuses_with m 19 (length P)) → T ++ drop n x.lent ≡ (into m (gives T)).lent
      go false c p = clash cc
      go true c q =
          let k : n ≡ length P = cc in
          rw (same, c) (ap (λ (w : List ℕ). T ++ w) ((filled m (gives P) p a).rest ∙ ap (λ (i : ℕ). drop i m) k))

module _ (f m g : List ℕ) where
  kept_file : {l : List ℕ} {r : answers.Answer} {e : Reason} {n : ℕ} → leaves l r ≡ into m (read_file 0 1023 f) → r ≡ Refused e n → l ≡ (into m (read_singles f)).lent
  unfolding read_file
  kept_file a d = let W : Walk = walk_file 0 1023 f in kept_too m (table f W) (table f (in_singles f W)) (table_long f W) W.ended a (ap answer_of d)

  laid_file : {l : List ℕ} {r : answers.Answer} {k : ℕ} → leaves l r ≡ into m (read_file 0 1023 f) → r ≡ Accepted k → table f (in_singles f (walk_file 0 1023 f)) ++ drop k l ≡ (into m (read_singles f)).lent
  unfolding read_file
  laid_file a d = let W : Walk = walk_file 0 1023 f in laid_too m (table f W) (table f (in_singles f W)) (table_long f W) W.ended a (ap answer_of d)

  by_tags : {h : List ℕ} (s : answers.Answer) (y : Answer) → leaves h s ≡ into g (read_tags 0 1023 f) → answer_of s ≡ y → (into m (singles_by f y)).lent ≡ singles_left f m g
  by_tags s y b e = ap (λ (y : Answer). (into m (singles_by f y)).lent) (sym e ∙ ap (λ (x : Left). x.answer) b)

  -- `read` refuses
  pub left_refused : {l : List ℕ} {r : answers.Answer} {e : Reason} {n : ℕ} → leaves l r ≡ into m (read_file 0 1023 f) → r ≡ Refused e n → l ≡ singles_left f m g
  left_refused {l} a d = go (into g (read_tags 0 1023 f)).answer
    where
      go : (y : Answer) → l ≡ (into m (singles_by f y)).lent
      go (accepted k) = kept_file a d
      go (refused e n) = ap (λ (x : Left). x.lent) a

  -- `tags` does: what `read` left stays
  pub left_steps : {l h : List ℕ} {s : answers.Answer} {e : Reason} {n : ℕ} → l ≡ (into m (read_file 0 1023 f)).lent → leaves h s ≡ into g (read_tags 0 1023 f) → s ≡ Refused e n → l ≡ singles_left f m g
  left_steps {s = s} {e} {n} a b d = a ∙ by_tags s (refused (number_of e) n) b (ap answer_of d)

  -- none does: the part that was lent on, x, is the table with singles then
  pub left_singles : {l h x u : List ℕ} {r s : answers.Answer} {k j : ℕ} → leaves l r ≡ into m (read_file 0 1023 f) → r ≡ Accepted k → leaves h s ≡ into g (read_tags 0 1023 f) → s ≡ Accepted j
      → x ≡ table f (in_singles f (walk_file 0 1023 f)) → u ≡ x ++ drop k l → u ≡ singles_left f m g
  left_singles {l} {s = s} {k} {j} a c b d e p =
      p ∙ ap (λ (w : List ℕ). w ++ drop k l) e ∙ laid_file a c ∙ by_tags s (accepted j) b (ap answer_of d)

-- ---- the tags with singles: opaque ones are as they were, and the tag table is the same
shown_singles : (f : List ℕ) (ts : List Tag) → Shown f ts → Shown f (map (with_singles f) ts)
unfolding values_by
shown_singles f [] u = tt
shown_singles f (t ∷ ts) u = (λ o. rw o (u.0 o), shown_singles f ts u.1)

rows_same : (f : List ℕ) (ts : List Tag) → tag_table (map (with_singles f) ts) ≡ tag_table ts
rows_same f [] = refl
rows_same f (t ∷ ts) = ap (λ (g : List ℕ). t.depth ∷ t.code ∷ t.place ∷ t.header_size ∷ t.body_length ∷ g) (rows_same f ts)

-- THE theorem: the listing of the table that `convert` leaves, with the file's tag table, is what is printed
pub singles_listed : (f : List ℕ) → IsFile f → ((walk_file 0 1023 f).ended ≡ whole)
    → table_listing (length f) (table f (in_singles f (walk_file 0 1023 f))) (tag_table (walk_file 0 1023 f).tags) ≡ listing f (in_singles f (walk_file 0 1023 f))
singles_listed f b w =
    let W : Walk = walk_file 0 1023 f in
    ap (table_listing (length f) (table f (in_singles f W))) (sym (rows_same f W.tags))
    ∙ listed f (in_singles f W) b (shown_singles f W.tags (shown_file f 0 1023)) (good_start 0 1023 f (whole_start 0 1023 f w)).version

-- and, of a file that is not too long and whose table has room, that is all that is printed; or the line of 29
pub singles_printed : (f t : List ℕ) → length f ≤ 32768 → length t ≤ 8192 → read_file 0 1023 f ≡ gives t → listed_or f (judged f (walk_file 0 1023 f).tags) ≡ printed_in_singles f
singles_printed f t h l e = rw (le-ltb 32768 (length f) h, e, le-ltb 8192 (length t) l)

-- 19 before it
pub singles_full : (f t : List ℕ) → length f ≤ 32768 → 8192 < length t → read_file 0 1023 f ≡ gives t → refusal 19 (length t) ≡ printed_in_singles f
singles_full f t h l e = rw (le-ltb 32768 (length f) h, e, lt-ltb 8192 (length t) l)
